-- A `block` from its parts, one after the other.
use Rattle.std.proofs.Common.{◌≡◌, ℕ, ◌+◌, ◌-◌, List, length, drop, map, sym, ap, ◌∙◌}
use Rattle.std.specs.Prelude.{Option}
use Rattle.std.specs.Option.{option_map}
use Rattle.dy_tree.specs.declared.token.Token.{Token}
use Rattle.dy_term.specs.declared.draft.DraftBlock.{DraftBlock, out-DraftBlock}
use Rattle.dy_term.specs.declared.draft.Local.TheVariants.{Named}
use Rattle.dy_term.specs.declared.types.DyType.{DyType}
use Rattle.dy_term.specs.declared.term.Term.{Term, Block}
use Rattle.dy_term.specs.declared.term.BlockRow.{roll-BlockRow}
use Rattle.dy_term.specs.Drafts.{Core, MaybeCore, CoreCatches, block, catches_of, seen_term}
use Rattle.dy_term.specs.Drafts.{seen_option, seen_catch, seen_block}
use Rattle.dy_term.proofs.Made.{block_row}
use Rattle.dy_names.specs.Naming.{Locals}
use Rattle.dy_names.specs.Outside.{Outside}
use Rattle.dy_binding.specs.declared.progress.Progress.{Progress}
use Rattle.dy_binding.specs.Reads.{numbered}
use Rattle.dy_binding.specs.Bound.{bound_some, count, number_of, catches_numbered}
use Rattle.dy_resolution.specs.Terms.{core_term}
use Rattle.dy_scope.specs.Parts.{core_bodies}
use Rattle.dy_scope.proofs.Leaving.{left_some}

module _ (out : Outside) (locals : Locals) (p : Progress) where
  parts_made : (exit : Option Token) (inner : Core) (afterwards cleanup : MaybeCore)
      (catches : CoreCatches) (n first : ℕ) (q1 q2 q6 : Progress) (s1 : Locals)
      (bodies : Term × Option Term × Option Term × List (Option ℕ × DyType × Term))
      → n ≡ p.next → q1 ≡ numbered (count exit) p → first ≡ q1.next
      → q2 ≡ catches_numbered catches q1
      → s1 ≡ bound_some n (option_map Named exit) locals
      → bodies ≡ (core_bodies out inner afterwards cleanup catches first s1 q2).0
      → q6 ≡ (core_bodies out inner afterwards cleanup catches first s1 q2).1
      → (Block (roll-BlockRow (record {
        exit = number_of exit n;
        body = bodies.0;
        afterwards = bodies.1;
        cleanup = bodies.2;
        clauses = bodies.3;
      })) ≡ (core_term out (block exit inner afterwards cleanup catches) locals p).0)
      × (q6 ≡ (core_term out (block exit inner afterwards cleanup catches) locals p).1)
  parts_made exit inner afterwards cleanup catches n first q1 q2 q6 s1 bodies ne qe fe qe2 se1 be
      be' =
      let w1 = se1 ∙ (λ i. bound_some (ne i) (option_map Named exit) locals) in
      let own : q2 ≡ catches_numbered catches (numbered (count exit) p) =
      qe2 ∙ ap (λ (q : Progress). catches_numbered catches q) qe in
      let f : first ≡ p.next + count exit = fe ∙ ap (λ (q : Progress). q.next) qe in
      let b0 = be ∙ (λ i. (core_bodies out inner afterwards cleanup catches (f i) (w1 i)
      (own i)).0) in
      let b1 = be' ∙ (λ i. (core_bodies out inner afterwards cleanup catches (f i) (w1 i)
      (own i)).1) in (
        λ i. Block (roll-BlockRow (record {
          exit = number_of exit (ne i);
          body = (b0 i).0;
          afterwards = (b0 i).1;
          cleanup = (b0 i).2;
          clauses = (b0 i).3;
        })),
        b1,
      )

  pub block_made : (row : DraftBlock) (n first : ℕ) (q1 q2 q6 : Progress) (s1 : Locals)
      (bodies : Term × Option Term × Option Term × List (Option ℕ × DyType × Term))
      → n ≡ p.next → q1 ≡ numbered (count (out-DraftBlock row).exit) p → first ≡ q1.next
      → q2 ≡ catches_numbered (catches_of (map seen_catch (out-DraftBlock row).clauses.items)) q1
      → s1 ≡ bound_some n (option_map Named (out-DraftBlock row).exit) locals
      → bodies ≡ (core_bodies out (seen_term (out-DraftBlock row).body)
      (seen_option (out-DraftBlock row).afterwards) (seen_option (out-DraftBlock row).cleanup)
      (catches_of (map seen_catch (out-DraftBlock row).clauses.items)) first s1 q2).0
      → q6 ≡ (core_bodies out (seen_term (out-DraftBlock row).body)
      (seen_option (out-DraftBlock row).afterwards) (seen_option (out-DraftBlock row).cleanup)
      (catches_of (map seen_catch (out-DraftBlock row).clauses.items)) first s1 q2).1
      → (Block (roll-BlockRow (record {
        exit = number_of (out-DraftBlock row).exit n;
        body = bodies.0;
        afterwards = bodies.1;
        cleanup = bodies.2;
        clauses = bodies.3;
      })) ≡ (core_term out (seen_block row) locals p).0)
      × (q6 ≡ (core_term out (seen_block row) locals p).1)
  block_made row n first q1 q2 q6 s1 bodies ne qe fe qe2 se1 be be' =
      let made = parts_made (out-DraftBlock row).exit (seen_term (out-DraftBlock row).body)
      (seen_option (out-DraftBlock row).afterwards) (seen_option (out-DraftBlock row).cleanup)
      (catches_of (map seen_catch (out-DraftBlock row).clauses.items)) n first q1 q2 q6 s1
      bodies ne qe fe qe2 se1 be be' in
      let whole = ap (λ (x : Core). core_term out x locals p) (sym (block_row row)) in
      (made.0 ∙ ap (λ r. r.0) whole, made.1 ∙ ap (λ r. r.1) whole)

-- the locals are those from before
pub block_left : (m : ℕ) (locals : Locals) → m ≡ length locals → (exit : Option Token) (n : ℕ)
    (s1 s5 s6 : Locals) → s1 ≡ bound_some n (option_map Named exit) locals → s5 ≡ s1
    → s6 ≡ drop (length s5 - m) s5 → s6 ≡ locals
block_left m locals me exit n s1 s5 s6 e1 e5 e6 =
    left_some m locals me (option_map Named exit) n s5 s6 (e5 ∙ e1) e6
