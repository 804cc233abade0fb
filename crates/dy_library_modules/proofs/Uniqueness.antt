-- Texts, and the files that define a library, have one answer.
use Rattle.std.proofs.Common.{◌≡◌, ℕ, ◌+◌, List, [], ◌∷◌, ◌++◌, Option, Some, None, Result, Ok, Err, refl, sym, ap, subst, ◌∙◌, inl, inr}
use Rattle.std.specs.List.{filter}
use Rattle.dy_base.specs.declared.fault.Fault.{Fault}
use Rattle.dy_base.specs.declared.fault.Place.{Place}
use Rattle.dy_tree.specs.declared.words.Words.{Words}
use Rattle.dy_tree.specs.Fragments.{SeenFragment}
use Rattle.dy_lexer.specs.declared.source.Source.{Source}
use Rattle.dy_lexer.proofs.OneReading.{one_source, one_first, source_or_fault}
use Rattle.dy_fragment.specs.Steps.{Grouping, group_of}
use Rattle.dy_fragment.proofs.Verdicts.{given_all, unique}
use Rattle.dy_fragment.proofs.Telling.{determined}
use Rattle.dy_complete_forms.proofs.Verdicts.{complete_one}
use Rattle.dy_module_forms.specs.declared.written.Form.{Form}
use Rattle.dy_module_forms.specs.Forms.{forms_of, IsFault}
use Rattle.dy_library_modules.specs.declared.lexing.Lexed.{Lexed}
use Rattle.dy_library_modules.specs.declared.lexing.Lexed.TheVariants.{Read, Faulty}
use Rattle.dy_library_modules.specs.Texts.{Lexes, AreLexed, sources_of, first_fault, RefusesTexts, GivesSources}
use Rattle.dy_library_modules.specs.Users.{is_user, IsDefining, first_told, IsFaulty, AreJoined, AreUsers}

lexes_one : (file : ℕ) (text : List ℕ) (one other : Lexed) → Lexes file text one → Lexes file text other → one ≡ other
lexes_one file text (Read a) (Read b) e f = ap Read (one_source file text a b e f)
lexes_one file text (Read a) (Faulty g) e f = absurd (source_or_fault file text a g e f)
lexes_one file text (Faulty f) (Read b) e h = absurd (source_or_fault file text b f h e)
lexes_one file text (Faulty f) (Faulty g) e h = ap Faulty (one_first file text f g e h)

pub lexed_one : (number : ℕ) (texts : List (List ℕ)) (one other : List Lexed) → AreLexed number texts one → AreLexed number texts other → one ≡ other
lexed_one number [] [] [] e f = refl
lexed_one number [] [] (b ∷ bs) e f = absurd f
lexed_one number [] (a ∷ as_) other e f = absurd e
lexed_one number (text ∷ texts) [] other e f = absurd e
lexed_one number (text ∷ texts) (a ∷ as_) [] e f = absurd f
lexed_one number (text ∷ texts) (a ∷ as_) (b ∷ bs) e f =
    ap (λ (found : Lexed). found ∷ as_) (lexes_one number text a b e.0 f.0) ∙ ap (λ (lexed : List Lexed). b ∷ lexed) (lexed_one (number + 1) texts as_ bs e.1 f.1)

pub same_some : (told : Option Fault) (f g : Fault) → told ≡ Some f → told ≡ Some g → f ≡ g
same_some told f g e h = cc

pub not_both : (told : Option Fault) (f : Fault) → told ≡ None → told ≡ Some f → ⊥
not_both told f e h = absurd cc

pub one_fault : (texts : List (List ℕ)) (one other : Fault) → RefusesTexts texts one → RefusesTexts texts other → one ≡ other
one_fault texts f g (a, lexed, is) (b, also, too) =
    same_some (first_fault a) f g is (ap (λ (l : List Lexed). first_fault l) (lexed_one 0 texts a b lexed also) ∙ too)

pub one_reading : (texts : List (List ℕ)) (one other : List Source) → GivesSources texts one → GivesSources texts other → one ≡ other
one_reading texts one other (a, lexed, none, is) (b, also, nothing, too) =
    is ∙ ap (λ (l : List Lexed). sources_of l) (lexed_one 0 texts a b lexed also) ∙ sym too

pub apart : (texts : List (List ℕ)) (sources : List Source) (fault : Fault) → GivesSources texts sources → RefusesTexts texts fault → ⊥
apart texts sources fault (a, lexed, none, is) (b, also, told) =
    not_both (first_fault a) fault none (ap (λ (l : List Lexed). first_fault l) (lexed_one 0 texts a b lexed also) ∙ told)

-- tokens have trees or a first fault
grouped_fault : (found : Grouping) (trees : List SeenFragment) (f : Fault) → found ≡ Ok trees → found ≡ Err f → ⊥
grouped_fault found trees f e h = absurd cc

same_fault : (found : Grouping) (f g : Fault) → found ≡ Err f → found ≡ Err g → f ≡ g
same_fault found f g e h = cc

form_fault : (read : Result (List Form) Place) (f g : Fault) → IsFault read f → IsFault read g → f ≡ g
form_fault (Ok forms) f g e h = absurd e
form_fault (Err place) f g e h = e ∙ sym h

forms_or_fault : (read : Result (List Form) Place) (forms : List Form) (f : Fault) → read ≡ Ok forms → IsFault read f → ⊥
forms_or_fault read forms f is e = subst (λ (r : Result (List Form) Place). IsFault r f) is e

module _ (words : Words) where
  defining_one : (file : Source) (trees others : List SeenFragment) → IsDefining words file trees → IsDefining words file others → trees ≡ others
  defining_one file trees others e f = unique words file.tokens trees others e.0 f.0

  defining_or_faulty : (file : Source) (trees : List SeenFragment) (fault : Fault) → IsDefining words file trees → IsFaulty words file fault → ⊥
  defining_or_faulty file trees fault e (inl (later, forms, refused, complete, is)) =
      grouped_fault (group_of words file.tokens) trees later (given_all 200 words file.tokens trees e.0 e.1) (determined 200 words file.tokens later refused)
  defining_or_faulty file trees fault e (inr (others, grouped, low, is)) =
      forms_or_fault (forms_of others) e.2.0 fault (ap (λ (ts : List SeenFragment). forms_of ts) (unique words file.tokens others trees grouped e.0) ∙ e.2.1) is

  faulty_one : (file : Source) (f g : Fault) → IsFaulty words file f → IsFaulty words file g → f ≡ g
  faulty_one file f g (inl (later, forms, first, complete, is)) (inl (other, others, second, also, too)) =
      let same = same_fault (group_of words file.tokens) later other (determined 200 words file.tokens later first) (determined 200 words file.tokens other second) in
      let one = complete_one words file.tokens forms others complete also in
      is ∙ (λ i. first_told (forms_of (one i)) (same i)) ∙ sym too
  faulty_one file f g (inl (later, forms, first, complete, is)) (inr (trees, grouped, low, also)) =
      absurd (grouped_fault (group_of words file.tokens) trees later (given_all 200 words file.tokens trees grouped low) (determined 200 words file.tokens later first))
  faulty_one file f g (inr (trees, grouped, low, is)) (inl (later, forms, first, complete, also)) =
      absurd (grouped_fault (group_of words file.tokens) trees later (given_all 200 words file.tokens trees grouped low) (determined 200 words file.tokens later first))
  faulty_one file f g (inr (trees, grouped, low, is)) (inr (others, grouping, deep, also)) =
      form_fault (forms_of trees) f g is (subst (λ (ts : List SeenFragment). IsFault (forms_of ts) g) (unique words file.tokens others trees grouping grouped) also)

  same_ok : (one other : List SeenFragment) → ◌≡◌ {A = Result (List SeenFragment) Fault} (Ok one) (Ok other) → one ≡ other
  same_ok one other e = cc

  ok_or_err : (one : List SeenFragment) (fault : Fault) → ◌≡◌ {A = Result (List SeenFragment) Fault} (Ok one) (Err fault) → ⊥
  ok_or_err one fault e = absurd cc

  pub joined_one : (files : List Source) (one other : Result (List SeenFragment) Fault) → AreJoined words files one → AreJoined words files other → one ≡ other
  joined_one [] (Ok a) (Ok b) e f = ap (λ (trees : List SeenFragment). Ok trees) (e ∙ sym f)
  joined_one [] (Ok a) (Err g) e f = absurd f
  joined_one [] (Err g) other e f = absurd e
  joined_one (file ∷ files) (Ok a) (Ok b) (trees, others, is, rest, all) (trees2, others2, is2, rest2, all2) =
      ap (λ (found : List SeenFragment). Ok found)
      (all ∙ ap (λ (ts : List SeenFragment). ts ++ others) (defining_one file trees trees2 is is2) ∙ ap (λ (ts : List SeenFragment). trees2 ++ ts) (same_ok others others2 (joined_one files (Ok others) (Ok others2) rest rest2)) ∙ sym all2)
  joined_one (file ∷ files) (Ok a) (Err g) (trees, others, is, rest, all) (inl faulty) = absurd (defining_or_faulty file trees g is faulty)
  joined_one (file ∷ files) (Ok a) (Err g) (trees, others, is, rest, all) (inr (trees2, is2, rest2)) = absurd (ok_or_err others g (joined_one files (Ok others) (Err g) rest rest2))
  joined_one (file ∷ files) (Err g) (Ok b) (inl faulty) (trees, others, is, rest, all) = absurd (defining_or_faulty file trees g is faulty)
  joined_one (file ∷ files) (Err g) (Ok b) (inr (trees2, is2, rest2)) (trees, others, is, rest, all) = absurd (ok_or_err others g (joined_one files (Ok others) (Err g) rest rest2))
  joined_one (file ∷ files) (Err f) (Err g) (inl faulty) (inl also) = ap (λ (fault : Fault). Err fault) (faulty_one file f g faulty also)
  joined_one (file ∷ files) (Err f) (Err g) (inl faulty) (inr (trees, is, rest)) = absurd (defining_or_faulty file trees f is faulty)
  joined_one (file ∷ files) (Err f) (Err g) (inr (trees, is, rest)) (inl faulty) = absurd (defining_or_faulty file trees g is faulty)
  joined_one (file ∷ files) (Err f) (Err g) (inr (trees, is, rest)) (inr (trees2, is2, rest2)) = joined_one files (Err f) (Err g) rest rest2

  pub users_one : (sources : List Source) (one other : Result (List SeenFragment) Fault) → AreUsers words sources one → AreUsers words sources other → one ≡ other
  users_one sources one other e f = joined_one (filter is_user sources) one other e f

  pub users_same : (sources : List Source) (one other : List SeenFragment) → AreUsers words sources (Ok one) → AreUsers words sources (Ok other) → one ≡ other
  users_same sources one other e f = same_ok one other (users_one sources (Ok one) (Ok other) e f)

  pub users_apart : (sources : List Source) (trees : List SeenFragment) (fault : Fault) → AreUsers words sources (Ok trees) → AreUsers words sources (Err fault) → ⊥
  users_apart sources trees fault e f = ok_or_err trees fault (users_one sources (Ok trees) (Err fault) e f)
