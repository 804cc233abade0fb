-- Clauses with a semicolon behind each, of which the last may lack it.
use Rattle.std.proofs.Common.{◌≡◌, ℕ, Bool, true, false, true≢false, List, [], ◌∷◌, ◌++◌, Option, Some, None, option_map, refl, sym, ap, ◌∙◌}
use Rattle.std.specs.Borrow.{Bor}
use Rattle.dy_tree.specs.declared.fragment.Fragment.{Fragment}
use Rattle.dy_tree.specs.Fragments.{SeenFragment, seen_fragments}
use Rattle.dy_module_forms.specs.Cuts.{is_mark, with_first, seen_slice, parts, parts_behind, ended, is_end, each, read_before}
use Rattle.dy_module_forms.proofs.Parts.{read_part, read_none, read_all}

-- there is a part in any case
has_part : (mark : List ℕ) (fs : List SeenFragment) → (p : List SeenFragment) × (ps : List (List SeenFragment)) × (parts mark fs ≡ p ∷ ps)
has_part mark [] = ([], [], refl)
has_part mark (f ∷ fs) = by_mark (is_mark mark f) refl (has_part mark fs)
  where
    by_mark : (b : Bool) → is_mark mark f ≡ b → (p : List SeenFragment) × (ps : List (List SeenFragment)) × (parts mark fs ≡ p ∷ ps)
        → (p : List SeenFragment) × (ps : List (List SeenFragment)) × (parts mark (f ∷ fs) ≡ p ∷ ps)
    by_mark true is rest = ([], parts mark fs, rw is refl)
    by_mark false is rest = (f ∷ rest.0, rest.1, rw (is, rest.2) refl)

-- behind a mark stands another part, so that the one before it is not the last
ended_more : (mark : List ℕ) (part fs : List SeenFragment) → ended (part ∷ parts mark fs) ≡ part ∷ ended (parts mark fs)
ended_more mark part fs = let h = has_part mark fs in ap (λ l. ended (part ∷ l)) h.2 ∙ ended_two part h.0 h.1 ∙ ap (λ l. part ∷ ended l) (sym h.2)
  where
    ended_two : (a b : List SeenFragment) (rest : List (List SeenFragment)) → ended (a ∷ b ∷ rest) ≡ a ∷ ended (b ∷ rest)
    ended_two [] b rest = refl
    ended_two (x ∷ a) b rest = refl

-- the last part counts where it is not empty
pub ended_step : (mark : List ℕ) (part : List SeenFragment) (o : Option (List SeenFragment)) → is_end part o ≡ false → ended (part ∷ parts_behind mark o) ≡ part ∷ ended (parts_behind mark o)
ended_step mark [] None e = absurd (true≢false e)
ended_step mark (f ∷ part) None e = refl
ended_step mark [] (Some fs) e = ended_more mark [] fs
ended_step mark (f ∷ part) (Some fs) e = ended_more mark (f ∷ part) fs

ended_last : (mark : List ℕ) (part : List SeenFragment) (o : Option (List SeenFragment)) → is_end part o ≡ true → ended (part ∷ parts_behind mark o) ≡ []
ended_last mark [] None e = refl
ended_last mark [] (Some fs) e = absurd (true≢false (sym e))
ended_last mark (f ∷ part) o e = absurd (true≢false (sym e))

module _ {A : Type 0} (read : List SeenFragment → Option A) (mark : List ℕ) (o : Option (Bor (List Fragment))) (before : List A) (total : Option (List A)) where
  abbrev Reads : Type 0
  Reads = read_before before (each read (ended (parts_behind mark (option_map seen_slice o)))) ≡ total

  module _ (slice : Bor (List Fragment)) (part : List SeenFragment) (next : Option (List SeenFragment)) (is : o ≡ Some slice) (cut : parts mark (seen_fragments slice.now) ≡ part ∷ parts_behind mark next) (reads : Reads) where
    at_slice : read_before before (each read (ended (part ∷ parts_behind mark next))) ≡ total
    at_slice = ap (λ ps. read_before before (each read (ended ps))) (sym cut) ∙ ap (λ p. read_before before (each read (ended (parts_behind mark (option_map seen_slice p))))) (sym is) ∙ reads

    pub end_turn : (one : A) (after : List A) → is_end part next ≡ false → Some one ≡ read part → after ≡ before ++ one ∷ [] → read_before after (each read (ended (parts_behind mark next))) ≡ total
    end_turn one after some found more =
        sym (read_part read (ended (part ∷ parts_behind mark next)) (ended (parts_behind mark next)) part before after one (ended_step mark part next some) found more) ∙ at_slice

    pub end_stop : is_end part next ≡ false → None ≡ read part → None ≡ total
    end_stop some none = sym (read_none read (ended (part ∷ parts_behind mark next)) (ended (parts_behind mark next)) part before (ended_step mark part next some) none) ∙ at_slice

    pub end_last : is_end part next ≡ true → Some before ≡ total
    end_last e = sym (read_all before) ∙ ap (λ ps. read_before before (each read ps)) (sym (ended_last mark part next e)) ∙ at_slice

  pub end_none : o ≡ None → Reads → Some before ≡ total
  end_none is reads = sym (read_all before) ∙ ap (λ p. read_before before (each read (ended (parts_behind mark (option_map seen_slice p))))) (sym is) ∙ reads
