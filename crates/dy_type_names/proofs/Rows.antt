-- Which binding a row of a library is.
use Rattle.std.proofs.Common.{◌≡◌, ℕ, Bool, true, false, Option, Some, None, refl, sym, ap, ◌∙◌, eqb-true, eq-eqb, ne_eqb}
use Rattle.std.specs.Prelude.{◌==◌, if◌then◌else◌}
use Rattle.dy_base.specs.declared.ids.BindingId.{BindingId}
use Rattle.dy_base.specs.declared.ids.Ref.{Ref}
use Rattle.dy_base.specs.declared.ids.What.{What}
use Rattle.dy_base.specs.declared.ids.What.TheVariants as whats
use Rattle.dy_type_names.specs.Constants.{row_of, row_owned, is_row}

-- the constant of a row
abbrev pub constant_at : (library row : ℕ) → BindingId
constant_at library row = record { what = whats.Constant; at = record { library = library; row = row } }

chosen : (b : Bool) (row : ℕ) → b ≡ true → (if b then Some row else None) ≡ Some row
chosen true row e = refl
chosen false row e = absurd cc

pub row_of_constant : (library row : ℕ) → row_of library (constant_at library row) ≡ Some row
row_of_constant library row = chosen (library == library) row (eq-eqb library library refl)

chosen_back : (b : Bool) (own row : ℕ) → (if b then Some own else None) ≡ Some row → (b ≡ true) × (own ≡ row)
chosen_back true own row e = (refl, cc)
chosen_back false own row e = absurd cc

constant_by : (library row : ℕ) (w : What) (at : Ref) → row_of library (record { what = w; at = at }) ≡ Some row → record { what = w; at = at } ≡ constant_at library row
constant_by library row whats.Class at e = absurd cc
constant_by library row whats.Generic at e = absurd cc
constant_by library row whats.Variable at e = absurd cc
constant_by library row whats.Function at e = absurd cc
constant_by library row whats.Macro at e = absurd cc
constant_by library row whats.Constant at e =
    let back = chosen_back (at.library == library) at.row row e in
    let l : at.library ≡ library = eqb-true at.library library back.0 in
    λ i. record { what = whats.Constant; at = record { library = l i; row = back.1 i } }

-- a binding that is a row is the constant of that row
pub constant_is : (library row : ℕ) (b : BindingId) → row_of library b ≡ Some row → b ≡ constant_at library row
constant_is library row b e = constant_by library row b.what b.at e

pub owner_is : (library row : ℕ) (owner : Option BindingId) → row_owned library owner ≡ Some row → owner ≡ Some (constant_at library row)
owner_is library row None e = absurd cc
owner_is library row (Some b) e = ap Some (constant_is library row b e)

pub is_row_same : (row other : ℕ) (o : Option ℕ) → o ≡ Some other → row ≡ other → is_row row o ≡ true
is_row_same row other None e s = absurd cc
is_row_same row other (Some n) e s = let k : n ≡ other = cc in eq-eqb row n (s ∙ sym k)

pub is_row_other : (row : ℕ) (o : Option ℕ) → (o ≡ Some row → ⊥) → is_row row o ≡ false
is_row_other row None n = refl
is_row_other row (Some other) n = ne_eqb row other (λ e. n (ap Some (sym e)))

pub is_row_back : (row : ℕ) (o : Option ℕ) → is_row row o ≡ true → o ≡ Some row
is_row_back row None e = absurd cc
is_row_back row (Some other) e = ap Some (sym (eqb-true row other e))
