-- What is told of the fragments of a form.
use Rattle.std.specs.Prelude.{Option, Some, None}
use Rattle.dy_rules.specs.SeenForms.{seen_form}
use Rattle.dy_rules.specs.Parsing.{Parsed, accepted, too_deep, no_form, limited}
use Rattle.dy_read_forms.specs.declared.form_read.FormRead.{FormRead}
use Rattle.dy_reader.specs.declared.parsed.Parsed.{Parsed as Found}
use Rattle.dy_reader.specs.declared.parsed.Parsed.TheVariants as found

abbrev pub seen_parsed : Found → Parsed
seen_parsed (found.Accepted form) = accepted (seen_form form)
seen_parsed found.TooDeep = too_deep
seen_parsed found.NoForm = no_form

-- what is told where this was read
abbrev pub told_of : Option FormRead → Parsed
told_of None = no_form
told_of (Some found) = limited found.is_deep (seen_form found.form)
