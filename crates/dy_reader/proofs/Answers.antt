-- What is told of fragments is what a call answers.
use Rattle.std.proofs.Common.{◌≡◌, List, Result, Ok, Err, refl, sym, ap, ◌∙◌}
use Rattle.dy_base.specs.declared.kind.Kind.{Kind}
use Rattle.dy_base.specs.declared.kind.Kind.TheVariants.{Syntax, TooDeep}
use Rattle.dy_base.specs.declared.fault.Refusal.{Refusal}
use Rattle.dy_base.specs.declared.fault.Refusal.TheVariants as refusals
use Rattle.dy_tree.specs.declared.form.Form.{Form}
use Rattle.dy_tree.specs.Fragments.{SeenFragment}
use Rattle.dy_rules.specs.Parsing.{Parsed, accepted, too_deep, no_form, parsed}
use Rattle.dy_rules.specs.SeenForms.{seen_form}
use Rattle.dy_reader.specs.Answers.{fault_of, Accepts, RefusesFor}

abbrev Answer : Type 0
Answer = Result Form Refusal

module _ (fragments : List SeenFragment) where
  abbrev refuses : Kind → Answer
  refuses kind = Err (refusals.Fault (fault_of kind fragments))

  abbrev out_of_memory : Answer
  out_of_memory = Err refusals.Memory

  pub memory_accepts : Accepts fragments out_of_memory
  memory_accepts = record { given = λ tree e. tt; only = λ form e. absurd cc }

  pub memory_refuses : (cause : Parsed) (kind : Kind) → RefusesFor cause kind fragments out_of_memory
  memory_refuses cause kind = record { refused = λ e. tt; only = λ h. absurd h }

  module _ (form : Form) (is : accepted (seen_form form) ≡ parsed fragments) where
    pub form_accepts : Accepts fragments (Ok form)
    form_accepts = record { given = λ tree e. cc; only = λ other e. let same : form ≡ other = cc in sym is ∙ ap (λ (f : Form). accepted (seen_form f)) same }

    pub form_syntax : RefusesFor no_form Syntax fragments (Ok form)
    form_syntax = record { refused = λ e. absurd cc; only = λ h. absurd h }

    pub form_deep : RefusesFor too_deep TooDeep fragments (Ok form)
    form_deep = record { refused = λ e. absurd cc; only = λ h. absurd h }

  module _ (is : too_deep ≡ parsed fragments) where
    pub deep_accepts : Accepts fragments (refuses TooDeep)
    deep_accepts = record { given = λ tree e. absurd cc; only = λ form e. absurd cc }

    pub deep_syntax : RefusesFor no_form Syntax fragments (refuses TooDeep)
    deep_syntax = record { refused = λ e. absurd cc; only = λ (h : TooDeep ≡ Syntax). absurd cc }

    pub deep_deep : RefusesFor too_deep TooDeep fragments (refuses TooDeep)
    deep_deep = record { refused = λ e. refl; only = λ h. sym is }

  module _ (is : no_form ≡ parsed fragments) where
    pub none_accepts : Accepts fragments (refuses Syntax)
    none_accepts = record { given = λ tree e. absurd cc; only = λ form e. absurd cc }

    pub none_syntax : RefusesFor no_form Syntax fragments (refuses Syntax)
    none_syntax = record { refused = λ e. refl; only = λ h. sym is }

    pub none_deep : RefusesFor too_deep TooDeep fragments (refuses Syntax)
    none_deep = record { refused = λ e. absurd cc; only = λ (h : Syntax ≡ TooDeep). absurd cc }
