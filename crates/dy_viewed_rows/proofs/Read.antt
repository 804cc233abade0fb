-- The code of a library that is read where its modules give the names mentions libraries of its view
-- alone.
use Rattle.std.proofs.Common.{◌≡◌, ◌⊎◌, inl, inr, ℕ, ◌+◌, ◌<◌, refl, sym, subst, arith}
use Rattle.dy_base.specs.declared.ids.BindingId.{BindingId}
use Rattle.dy_term.specs.Types.{CoreType, object, integer, named, single, single_name, union, range}
use Rattle.dy_binding.specs.Types.{type_or}
use Rattle.dy_library_rows.specs.Names.{plain_type}
use Rattle.dy_viewed_rows.specs.Within.{MentionsAreInView, BuiltInMentionNone}
use Rattle.dy_viewed_rows.proofs.Terms.{TypeIn}
use Rattle.dy_viewed_rows.proofs.Rows.{library_in}
use Rattle.dy_viewed_rows.proofs.Owners.{meant_are}

-- a type that no name means, of classes of `dylan` alone
plain_in : (Is : ℕ → Type 0) → Is 0 → (declared : CoreType) → TypeIn Is (type_or (plain_type declared))
plain_in Is first object = (first, tt)
plain_in Is first integer = (first, tt)
plain_in Is first (named name) = tt
plain_in Is first (single value) = tt
plain_in Is first (single_name told name) = tt
plain_in Is first (union told types) = tt
plain_in Is first (range told least greatest) = tt

-- one in front, or the library itself
within : (number library : ℕ) → (library < number) ⊎ (library ≡ number) → library < number + 1
within number library (inl less) = omega (arith, less)
within number library (inr same) = omega (arith, same)

pub mentions_are_in_view : MentionsAreInView
mentions_are_in_view heading given form table forms read used made =
    let Is : ℕ → Type 0 = λ library. library < heading.number + 1 in
    let first : 0 < heading.number + 1 = omega arith in
    library_in Is heading read.out forms (record {
      names = λ token b e. within heading.number b.at.library (meant_are (λ (id : BindingId). id.at.library < heading.number) heading.number given form table forms read used made token b e);
      types = λ locals declared. subst (λ t. TypeIn Is (type_or t)) (sym (read.meant.type locals declared)) (plain_in Is first declared);
    }) first

pub built_in_mention_none : BuiltInMentionNone
built_in_mention_none = (refl, refl)
