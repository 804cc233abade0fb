-- No two kinds have one number.
use Rattle.std.proofs.Common.{◌≡◌, List, [], ◌∷◌, Some, slice_get, refl, sym, ap, ◌∙◌}
use Rattle.std.proofs.lemmas.Option.{same_Some}
use Rattle.dy_base.specs.Kinds.{code_of}
use Rattle.dy_base.specs.declared.kind.Kind.{Kind}
use Rattle.dy_base.specs.declared.kind.Kind.TheVariants.{BadByte, OpenComment, OpenString, BadLiteral, WideInteger, BadHeader, Unbalanced, TooDeep, NoRule, TooManyExpansions, BadMacro, UnknownLibrary, UnknownModule, NameClash, NotExported, Cycle, Syntax, Unbound, Redefined, NotAssignable, NotAType, Inconsistent, TwoPrimaries, SlotClash, CyclicClass, NotCongruent, DuplicateMethod, SealedClass, SealedGeneric, SealedDomain, Limit, BadImage, BadCode, Stale, NoFile}

-- each kind at its number, and some kind at 0
abbrev kinds : List Kind
kinds = BadByte ∷ BadByte ∷ OpenComment ∷ OpenString ∷ BadLiteral ∷ WideInteger ∷ BadHeader ∷ Unbalanced ∷ TooDeep ∷ NoRule ∷ TooManyExpansions ∷ BadMacro ∷ UnknownLibrary ∷ UnknownModule ∷ NameClash ∷ NotExported ∷ Cycle ∷ Syntax ∷ Unbound ∷ Redefined ∷ NotAssignable ∷ NotAType ∷ Inconsistent ∷ TwoPrimaries ∷ SlotClash ∷ CyclicClass ∷ NotCongruent ∷ DuplicateMethod ∷ SealedClass ∷ SealedGeneric ∷ SealedDomain ∷ Limit ∷ BadImage ∷ BadCode ∷ Stale ∷ NoFile ∷ []

at_number : (k : Kind) → slice_get kinds (code_of k) ≡ Some k
at_number BadByte = refl
at_number OpenComment = refl
at_number OpenString = refl
at_number BadLiteral = refl
at_number WideInteger = refl
at_number BadHeader = refl
at_number Unbalanced = refl
at_number TooDeep = refl
at_number NoRule = refl
at_number TooManyExpansions = refl
at_number BadMacro = refl
at_number UnknownLibrary = refl
at_number UnknownModule = refl
at_number NameClash = refl
at_number NotExported = refl
at_number Cycle = refl
at_number Syntax = refl
at_number Unbound = refl
at_number Redefined = refl
at_number NotAssignable = refl
at_number NotAType = refl
at_number Inconsistent = refl
at_number TwoPrimaries = refl
at_number SlotClash = refl
at_number CyclicClass = refl
at_number NotCongruent = refl
at_number DuplicateMethod = refl
at_number SealedClass = refl
at_number SealedGeneric = refl
at_number SealedDomain = refl
at_number Limit = refl
at_number BadImage = refl
at_number BadCode = refl
at_number Stale = refl
at_number NoFile = refl

pub same_kind : (a b : Kind) → code_of a ≡ code_of b → a ≡ b
same_kind a b e = same_Some a b (sym (at_number a) ∙ ap (slice_get kinds) e ∙ at_number b)
