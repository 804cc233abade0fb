-- What is told of a file whose groups have a fault.
use Rattle.std.proofs.Common.{◌≡◌, List, Result, Ok, Err, inl}
use Rattle.dy_base.specs.declared.fault.Fault.{Fault}
use Rattle.dy_base.specs.declared.fault.Place.{Place}
use Rattle.dy_base.specs.declared.fault.Refusal.{Refusal}
use Rattle.dy_base.specs.declared.fault.Refusal.TheVariants as refusals
use Rattle.dy_tree.specs.declared.words.Words.{Words}
use Rattle.dy_tree.specs.Fragments.{SeenFragment}
use Rattle.dy_fragment.specs.Faults.{Refused}
use Rattle.dy_complete_forms.specs.Forms.{AreComplete}
use Rattle.dy_lexer.specs.declared.source.Source.{Source}
use Rattle.dy_module_forms.specs.declared.written.Form.{Form}
use Rattle.dy_module_forms.specs.Forms.{forms_of, IsFault, Answers}
use Rattle.dy_library_modules.specs.Users.{first_told, AnswersFile}

form_first : (read : Result (List Form) Place) (later fault : Fault) → IsFault read fault → fault ≡ first_told read later
form_first (Ok forms) later fault is = absurd is
form_first (Err place) later fault is = is

module _ (words : Words) (file : Source) (later : Fault) (refused : Refused 200 words file.tokens later) (trees : List SeenFragment) (complete : AreComplete words file.tokens trees) where
  pub form_told : (refusal : Refusal) → Answers (forms_of trees) (Err refusal) → AnswersFile words file (Err refusal)
  form_told (refusals.Fault fault) is = inl (later, trees, refused, complete, form_first (forms_of trees) later fault is)
  form_told refusals.Memory is = tt
