-- What is no name is called by its value.
use Rattle.std.proofs.Common.{◌≡◌, refl}
use Rattle.dy_tree.specs.declared.token.Token.{Token}
use Rattle.dy_term.specs.declared.draft.DraftTerm.{DraftTerm, Name, Block'}
use Rattle.dy_term.specs.declared.draft.DraftTerm.TheVariants as terms
use Rattle.dy_term.specs.declared.draft.DraftBlock.{DraftBlock'}
use Rattle.dy_term.specs.Drafts.{seen_term}
use Rattle.dy_names.specs.Naming.{Locals}
use Rattle.dy_names.specs.Outside.{Outside}
use Rattle.dy_binding.specs.declared.names.Head.TheVariants as heads
use Rattle.dy_binding.specs.Names.{head_of}

pub no_head : (out : Outside) (locals : Locals) (term : DraftTerm)
    → ((token : Token) → term ≡ terms.Name token → ⊥)
    → heads.Value ≡ head_of out (seen_term term) locals
no_head out locals (Name token) other = absurd (other token refl)
no_head out locals (Block' p (DraftBlock' exit inner afterwards cleanup shape clauses)) other = refl
no_head out locals _ other = refl
