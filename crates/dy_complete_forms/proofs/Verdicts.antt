-- Behind complete forms stands the fault, if there is one; and how they are found.
use Rattle.std.proofs.Common.{◌≡◌, ◌⊎◌, ℕ, zero, suc, ◌<◌, ◌≤◌, true, inl, inr, List, [], take, length, get_or, Option, Some, None, refl, sym, ap, subst, ◌∙◌, arith}
use Rattle.std.specs.Prelude.{slice_get}
use Rattle.std.proofs.lemmas.Bool.{cases_lt}
use Rattle.std.proofs.lemmas.List.{take-take, length-take-le}
use Rattle.std.proofs.lemmas.Option.{slice_get_within, slice_get-get_or}
use Rattle.dy_base.specs.declared.fault.Fault.{Fault}
use Rattle.dy_tree.specs.declared.token.Token.{Token}
use Rattle.dy_tree.specs.declared.words.Words.{Words}
use Rattle.dy_tree.specs.Fragments.{SeenFragment}
use Rattle.dy_fragment.specs.Words.{is_semicolon}
use Rattle.dy_fragment.specs.Steps.{start, group_within}
use Rattle.dy_fragment.specs.Groups.{nothing, Grouped, depth}
use Rattle.dy_fragment.specs.Faults.{Refused}
use Rattle.dy_fragment.proofs.Reading.{reads}
use Rattle.dy_fragment.proofs.Telling.{determined}
use Rattle.dy_fragment.proofs.Verdicts.{unique}
use Rattle.dy_complete_forms.specs.declared.complete.Front.TheVariants.{Faulty}
use Rattle.dy_complete_forms.specs.Forms.{is_end, ends_at, AreForms, AreComplete, StandsBehind, IsFront}
use Rattle.dy_complete_forms.proofs.Behind.{Tells, DeepStands, tells}
use Rattle.dy_complete_forms.proofs.Beginnings.{take_found, groups_before}

none_found : (t : Token) (found : Option Token) → found ≡ None → found ≡ Some t → ⊥
none_found t found none is = absurd cc

end_found : (found : Option Token) → is_end found ≡ true → (t : Token) × (found ≡ Some t) × (is_semicolon t ≡ true)
end_found None e = absurd cc
end_found (Some t) e = (t, refl, e)

module _ (words : Words) (tokens : List Token) where
  -- what is told of tokens stands behind their first forms
  run_behind : (count : ℕ) (forms : List SeenFragment) → AreForms words tokens count forms → Tells 200 words tokens count (group_within 200 words tokens)
  run_behind zero forms are = tells 200 words tokens 0 (length tokens) 0 start [] [] None (omega arith) tt tt
  run_behind (suc n) forms are =
      let (mark, found, is) = end_found (slice_get tokens n) are.ended in
      let (to, c, groups, ends) = are.grouped in
      let fits : depth forms ≤ 200 = are.low in
      let r = reads 200 words tokens 0 start to c forms (groups_before words tokens n mark found is 0 start to c forms groups) (length tokens) [] [] None (omega arith) in
      let none : r.new_deep ≡ None = r.within refl (omega arith) in
      subst (Tells 200 words tokens (suc n)) (sym r.goes)
      (tells 200 words tokens (suc n) r.left to c [] r.new_row r.new_deep (past mark to (slice_get_within tokens n mark found) ends (cases_lt to (suc n))) tt
      (subst (DeepStands 200 words tokens (suc n)) (sym none) tt))
    where
      past : (mark : Token) (to : ℕ) → n < length tokens → slice_get (take (suc n) tokens) to ≡ None → (to < suc n) ⊎ (suc n ≤ to) → suc n ≤ to
      past mark to within ends (inr high) = high
      past mark to within ends (inl low) =
          absurd (none_found (get_or tokens to mark) (slice_get tokens to) (sym (take_found tokens (suc n) to low) ∙ ends) (slice_get-get_or tokens to mark (omega arith)))

  pub fault_behind : (count : ℕ) (forms : List SeenFragment) (fault : Fault) → AreForms words tokens count forms → Refused 200 words tokens fault → StandsBehind tokens count fault
  fault_behind count forms fault are refused = subst (Tells 200 words tokens count) (determined 200 words tokens fault refused) (run_behind count forms are)

  pub complete_one : (one other : List SeenFragment) → AreComplete words tokens one → AreComplete words tokens other → one ≡ other
  complete_one one other a b =
      let up = b.most a.count one a.forms in
      let down = a.most b.count other b.forms in
      let same : b.count ≡ a.count = omega arith in
      unique words (take a.count tokens) one other a.forms.grouped (subst (λ (n : ℕ). Grouped words (take n tokens) other) same b.forms.grouped)

  -- no tokens are complete forms, of no trees
  none : AreForms words tokens 0 []
  none = record { ended = refl; grouped = (0, start, nothing 0 start, refl); low = omega arith }

  -- all complete forms stand in front of a fault
  pub forms_before : (copies : List Token) (fault : Fault) (end : ℕ) → copies ≡ tokens → Refused 200 words copies fault → ends_at tokens end ≡ true
      → ((i : ℕ) (t : Token) → slice_get tokens i ≡ Some t → fault.place ≡ Some t.place → (end < length tokens) × ((other : ℕ) → other ≤ i → ends_at tokens other ≡ true → other ≤ end))
      → IsFront words tokens (Faulty end)
  forms_before copies fault end same told ended last =
      let refused : Refused 200 words tokens fault = subst (λ (ts : List Token). Refused 200 words ts fault) same told in
      let (i, t, low, found, is) = fault_behind 0 [] fault none refused in (
        (last i t found is).0,
        ended,
        λ (other : ℕ) (others : List SeenFragment) (are : AreForms words tokens other others).
            let (j, u, behind, there, also) = fault_behind other others fault are refused in (last j u there also).1 other behind are.ended,
      )

  -- ---- fewer tokens

  ends_cut : (end other : ℕ) → other ≤ end → ends_at (take end tokens) other ≡ ends_at tokens other
  ends_cut end zero low = refl
  ends_cut end (suc n) low = ap is_end (take_found tokens end n (omega arith))

  abbrev pub AllWithin : ℕ → Type 0
  AllWithin end = (other : ℕ) (others : List SeenFragment) → AreForms words tokens other others → other ≤ end

  -- where some first tokens, among which all complete forms stand, are no complete forms
  pub fewer : (end earlier : ℕ) → end ≤ length tokens → AllWithin end → IsFront words (take end tokens) (Faulty earlier)
      → (earlier < end) × (ends_at tokens earlier ≡ true) × AllWithin earlier
  fewer end earlier within all (low, ended, last) =
      let size : length (take end tokens) ≡ end = length-take-le end tokens within in
      let less : earlier < end = omega arith in (
        less,
        sym (ends_cut end earlier (omega arith)) ∙ ended,
        λ (other : ℕ) (others : List SeenFragment) (are : AreForms words tokens other others).
            let up = all other others are in
            last other others (record {
              ended = ends_cut end other up ∙ are.ended;
              grouped = subst (λ (ts : List Token). Grouped words ts others) (sym (take-take other end tokens up)) are.grouped;
              low = are.low;
            }),
      )
