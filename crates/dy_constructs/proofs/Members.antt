-- What the first construct that has not come says of all others.
use Rattle.std.proofs.Common.{◌≡◌, Bool, true, false, List, [], ◌∷◌, refl, sym, ap, subst, ◌∙◌}
use Rattle.std.specs.Prelude.{Option, Some, None}
use Rattle.std.specs.Option.{option_or}
use Rattle.dy_construct_parts.specs.declared.construct.Construct.{Construct}
use Rattle.dy_construct_parts.specs.Table.{has_come, absent, first_absent}
use Rattle.dy_constructs.specs.Forms.{IsAmong, here, behind}

come : (x : Construct) → has_come x ≡ true → absent x ≡ None
unfolding absent
come x e = rw e refl

not_come : (x : Construct) → has_come x ≡ false → absent x ≡ Some x
unfolding absent
not_come x e = rw e refl

-- one that has come stands in front
passed : (x : Construct) (others : List Construct) (found : Option Construct) → has_come x ≡ true → first_absent (x ∷ others) ≡ found → first_absent others ≡ found
passed x others found is e = sym (ap (λ (one : Option Construct). option_or one (first_absent others)) (come x is)) ∙ e

-- one that has not come stands in front
stopped : (x : Construct) (others : List Construct) (found : Option Construct) → has_come x ≡ false → first_absent (x ∷ others) ≡ found → Some x ≡ found
stopped x others found is e = sym (ap (λ (one : Option Construct). option_or one (first_absent others)) (not_come x is)) ∙ e

same : (x y : Construct) → Some x ≡ Some y → x ≡ y
same x y e = cc

pub found_among : (constructs : List Construct) (construct : Construct) → first_absent constructs ≡ Some construct → IsAmong construct constructs
found_among [] construct e = absurd cc
found_among (x ∷ others) construct e = go (has_come x) refl (found_among others construct)
  where
    go : (b : Bool) → has_come x ≡ b → (first_absent others ≡ Some construct → IsAmong construct others) → IsAmong construct (x ∷ others)
    go true is more = behind x others (more (passed x others (Some construct) is e))
    go false is more = subst (λ (y : Construct). IsAmong y (x ∷ others)) (same x construct (stopped x others (Some construct) is e)) (here others)

pub found_not_come : (constructs : List Construct) (construct : Construct) → first_absent constructs ≡ Some construct → has_come construct ≡ false
found_not_come [] construct e = absurd cc
found_not_come (x ∷ others) construct e = go (has_come x) refl (found_not_come others construct)
  where
    go : (b : Bool) → has_come x ≡ b → (first_absent others ≡ Some construct → has_come construct ≡ false) → has_come construct ≡ false
    go true is more = more (passed x others (Some construct) is e)
    go false is more = subst (λ (y : Construct). has_come y ≡ false) (same x construct (stopped x others (Some construct) is e)) is

no_some : (x : Construct) → Some x ≡ None → has_come x ≡ true
no_some x e = absurd cc

first_come : (b : Bool) (x : Construct) (others : List Construct) → has_come x ≡ b → first_absent (x ∷ others) ≡ None → has_come x ≡ true
first_come true x others is e = is
first_come false x others is e = no_some x (stopped x others None is e)

pub all_come : {construct : Construct} {constructs : List Construct} → IsAmong construct constructs → first_absent constructs ≡ None → has_come construct ≡ true
all_come {construct} (here others) e = first_come (has_come construct) construct others refl e
all_come (behind other others among) e = all_come among (passed other others None (first_come (has_come other) other others refl e) e)
