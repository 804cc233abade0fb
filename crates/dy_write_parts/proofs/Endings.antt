-- What is written with something behind its parts.
use Rattle.std.proofs.Common.{◌≡◌, ◌==◌, ℕ, length, map, Bool, true, false, not, ◌&&◌, List, [], ◌∷◌, ◌++◌, Option, Some, None, refl, sym, ap, ◌∙◌, append_assoc, arith}
use Rattle.std.specs.Option.{is_some}
use Rattle.std.specs.Global.{Vec}
use Rattle.std.specs.Vec.{vec_len}
use Rattle.std.proofs.lemmas.List.{append-nil}
use Rattle.dy_tree.specs.declared.token.Token.{Token}
use Rattle.dy_tree.specs.Fragments.{SeenFragment, one}
use Rattle.dy_rules.specs.Marks.{comma_mark, rest_mark, next_mark}
use Rattle.dy_rules.specs.Types.{VariableTree, RequiredTree}
use Rattle.dy_rules.specs.TypeWriting.{written_variable, written_bound, written_given, written_required, required_joined, next_joined, rest_joined}
use Rattle.dy_write_parts.specs.Parts.{is_none_of, marked_name, rest_variable}
use Rattle.dy_write_parts.specs.Separated.{separated, joined_last}

abbrev Fragments : Type 0
Fragments = List SeenFragment

empty_or : (last : Fragments) → last ≡ joined_last true last
empty_or [] = refl
empty_or (first ∷ rest) = refl

none_listed : {A B : Type 0} (seen : B → A) (elements : List B) → (length elements == 0) ≡ is_none_of (map seen elements)
none_listed seen [] = refl
none_listed seen (first ∷ rest) = grind arith

none_seen : {A B : Type 0} (seen : B → A) (elements : Vec B) → (vec_len elements == 0) ≡ is_none_of (map seen elements.items)
none_seen seen elements = ap (λ (n : ℕ). n == 0) elements.ok.0 ∙ none_listed seen elements.items

-- Parts with commas between them, and something behind them that `joined` adds.
module _ {A : Type 0} (part : A → Fragments) (last : Fragments) (joined : List A → Fragments) (nothing : joined [] ≡ last) (only : (first : A) → joined (first ∷ []) ≡ part first ++ joined_last false last)
    (more : (first second : A) (rest : List A) → joined (first ∷ second ∷ rest) ≡ part first ++ comma_mark ∷ joined (second ∷ rest)) where
  joined_parts : (parts : List A) → joined parts ≡ separated comma_mark part parts ++ joined_last (is_none_of parts) last
  joined_parts [] = nothing ∙ empty_or last
  joined_parts (first ∷ []) = only first ∙ ap (λ (fs : Fragments). fs ++ joined_last false last) (sym (append-nil (part first)))
  joined_parts (first ∷ second ∷ rest) =
      more first second rest ∙ ap (λ (fs : Fragments). part first ++ comma_mark ∷ fs) (joined_parts (second ∷ rest))
      ∙ sym (append_assoc (part first) (comma_mark ∷ separated comma_mark part (second ∷ rest)) (joined_last false last))

  pub joined_step : {B : Type 0} (seen : B → A) (old middle new : Fragments) (none : Bool) (elements : Vec B) → none ≡ (vec_len elements == 0) → middle ≡ old ++ separated comma_mark part (map seen elements.items) → new ≡ middle ++ joined_last none last
      → new ≡ old ++ joined (map seen elements.items)
  joined_step seen old middle new none elements is e f =
      let parts = map seen elements.items in
      f ∙ ap (λ (fs : Fragments). fs ++ joined_last none last) e ∙ append_assoc old (separated comma_mark part parts) (joined_last none last)
      ∙ ap (λ (b : Bool). old ++ (separated comma_mark part parts ++ joined_last b last)) (is ∙ none_seen seen elements) ∙ ap (λ (fs : Fragments). old ++ fs) (sym (joined_parts parts))

module _ {B : Type 0} (seen : B → VariableTree) (old middle new : Fragments) (none : Bool) (elements : Vec B) (is : none ≡ (vec_len elements == 0)) (variables : middle ≡ old ++ separated comma_mark written_variable (map seen elements.items)) where
  pub bound_step : (rest : Option Token) → new ≡ middle ++ joined_last none (marked_name rest_mark rest) → new ≡ old ++ written_bound (map seen elements.items) rest
  bound_step None last =
      joined_step written_variable [] (λ parts. written_bound parts None) refl (λ first. sym (append-nil (written_variable first))) (λ first second others. refl) seen old middle new none elements is variables last
  bound_step (Some token) last =
      joined_step written_variable (marked_name rest_mark (Some token)) (λ parts. written_bound parts (Some token)) refl (λ first. refl) (λ first second others. refl) seen old middle new none elements is variables last

  pub given_step : (rest : Option VariableTree) → new ≡ middle ++ joined_last none (rest_variable rest) → new ≡ old ++ written_given (map seen elements.items) rest
  given_step None last =
      joined_step written_variable [] (λ parts. written_given parts None) refl (λ first. sym (append-nil (written_variable first))) (λ first second others. refl) seen old middle new none elements is variables last
  given_step (Some variable) last =
      joined_step written_variable (rest_variable (Some variable)) (λ parts. written_given parts (Some variable)) refl (λ first. refl) (λ first second others. refl) seen old middle new none elements is variables last

-- a name behind its mark, and what stands behind the name
module _ (mark : SeenFragment) (joined : Option Token → Fragments → Fragments) (absent : (behind : Fragments) → joined None behind ≡ behind)
    (present : (token : Token) (behind : Fragments) → joined (Some token) behind ≡ mark ∷ one token ∷ joined_last false behind) where
  marked : (none : Bool) (name : Option Token) (behind : Fragments) → joined_last none (joined name behind) ≡ joined_last none (marked_name mark name) ++ joined_last (none && not (is_some name)) behind
  marked true None behind = ap (joined_last true) (absent behind)
  marked false None behind = ap (joined_last false) (absent behind)
  marked true (Some token) behind = ap (joined_last true) (present token behind)
  marked false (Some token) behind = ap (joined_last false) (present token behind)

  marked_step : (before middle after : Fragments) (first second : Bool) (name : Option Token) (behind : Fragments) → middle ≡ before ++ joined_last first (marked_name mark name) → second ≡ (first && not (is_some name)) → after ≡ middle ++ joined_last second behind
      → after ≡ before ++ joined_last first (joined name behind)
  marked_step before middle after first second name behind e is f =
      f ∙ ap (λ (fs : Fragments). fs ++ joined_last second behind) e ∙ append_assoc before (joined_last first (marked_name mark name)) (joined_last second behind)
      ∙ ap (λ (b : Bool). before ++ (joined_last first (marked_name mark name) ++ joined_last b behind)) is ∙ ap (λ (fs : Fragments). before ++ fs) (sym (marked first name behind))

next_present : (token : Token) (behind : Fragments) → next_joined (Some token) behind ≡ next_mark ∷ one token ∷ joined_last false behind
next_present token [] = refl
next_present token (first ∷ rest) = refl

rest_present : (token : Token) (behind : Fragments) → rest_joined (Some token) behind ≡ rest_mark ∷ one token ∷ joined_last false behind
rest_present token [] = refl
rest_present token (first ∷ rest) = refl

only_required : (behind : Fragments) (required : RequiredTree) → required_joined (required ∷ []) behind ≡ written_required required ++ joined_last false behind
only_required [] required = sym (append-nil (written_required required))
only_required (first ∷ rest) required = refl

-- the brackets of a parameter list
pub listed_step : {B : Type 0} (seen : B → RequiredTree) (old parts named all whole : Fragments) (first second third : Bool) (required : Vec B) (next rest : Option Token) (keys : Fragments) → parts ≡ old ++ separated comma_mark written_required (map seen required.items)
    → first ≡ (vec_len required == 0) → named ≡ parts ++ joined_last first (marked_name next_mark next) → second ≡ (first && not (is_some next)) → all ≡ named ++ joined_last second (marked_name rest_mark rest)
    → third ≡ (second && not (is_some rest)) → whole ≡ all ++ joined_last third keys → whole ≡ old ++ required_joined (map seen required.items) (next_joined next (rest_joined rest keys))
listed_step seen old parts named all whole first second third required next rest keys e none f next_none g rest_none h =
    let behind = rest_joined rest keys in
    let last : whole ≡ named ++ joined_last second behind = marked_step rest_mark rest_joined (λ _. refl) rest_present named all whole second third rest keys g rest_none h in
    joined_step written_required (next_joined next behind) (λ list. required_joined list (next_joined next behind)) refl (only_required (next_joined next behind)) (λ _ _ _. refl) seen old parts whole first required none e
    (marked_step next_mark next_joined (λ _. refl) next_present parts named whole first second next behind f next_none last)
