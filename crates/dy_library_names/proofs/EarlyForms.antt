-- Forms that come early, noted one by one.
use Rattle.std.proofs.Common.{◌≡◌, ◌&&◌, Bool, List, [], ◌∷◌, ◌++◌, Option, Some, None, refl, sym}
use Rattle.std.proofs.Common.{ap, ◌∙◌}
use Rattle.dy_binding.specs.declared.progress.Progress.{Progress}
use Rattle.dy_binding.specs.Reads.{none, told_some}
use Rattle.dy_modules.specs.declared.owner.Owner.{Owner}
use Rattle.dy_modules.specs.declared.owner.Owner.TheVariants.{Outside, Own}
use Rattle.dy_library_rows.specs.Libraries.{Form}
use Rattle.dy_definitions.specs.declared.definitions.Definition.{Definition}
use Rattle.dy_definitions.specs.Names.{is_method}
use Rattle.dy_definitions.specs.Passes.{Tallies, tally_of, no_tallies, with_definition, with_all}
use Rattle.dy_definitions.proofs.Counts.{all_counted}
use Rattle.dy_library_names.specs.Early.{stands_for_type, early_if, type_faults, has_method}
use Rattle.dy_library_names.specs.Early.{adds_again, again_among, early_faults}
use Rattle.dy_library_names.specs.Passes.{told_all, first_of, told_types, counts_method}
use Rattle.dy_library_names.specs.Passes.{adds_to_counted, told_again}
use Rattle.dy_library_names.specs.Told.{or_more}
use Rattle.dy_library_names.proofs.Tells.{told_both, told_first, told_some_more}

types_are : (forms : List Form) (p : Progress) → told_types forms p ≡ told_all (type_faults forms) p
types_are [] p = refl
types_are (form ∷ forms) p =
    let here = early_if (stands_for_type form.1) form.0 in
    types_are forms (told_some here p) ∙ told_some_more here (type_faults forms) p

counted_behind : (ds : List Definition) (d : Definition) (t : Tallies)
    → with_all (ds ++ d ∷ []) t ≡ with_definition d (with_all ds t)
counted_behind [] d t = refl
counted_behind (e ∷ ds) d t = counted_behind ds d (with_definition e t)

has_is : (before : List Definition) (owner : Option Owner)
    → counts_method (tally_of before) owner ≡ has_method before owner
has_is before None = refl
has_is before (Some (Outside id)) = refl
has_is before (Some (Own c a)) = refl

adds_is : (before : List Definition) (d : Definition)
    → adds_to_counted (with_all before no_tallies) d ≡ adds_again before d
adds_is before d = ap (λ (t : Tallies). adds_to_counted t d) (all_counted before)
    ∙ ap (λ (b : Bool). is_method d.role && b) (has_is before d.owner)

again_are : (before rest : List Definition) (p : Progress)
    → told_again (with_all before no_tallies) rest p ≡ told_all (again_among before rest) p
again_are before [] p = refl
again_are before (d ∷ rest) p =
    let earlier = with_all before no_tallies in
    let here = early_if (adds_to_counted earlier d) d.place in
    let more = again_among (before ++ d ∷ []) rest in
    ap (λ (t : Tallies). told_again t rest (told_some here p))
    (sym (counted_behind before d no_tallies))
    ∙ again_are (before ++ d ∷ []) rest (told_some here p)
    ∙ told_some_more here more p
    ∙ ap (λ (b : Bool). told_all (or_more (early_if b d.place) more) p) (adds_is before d)

-- what the code finds is the first of all
pub first_is : (forms : List Form) (ds : List Definition) (types both : Progress)
    → types ≡ told_types forms none → both ≡ told_again no_tallies ds types
    → both.first ≡ first_of (early_faults forms ds)
first_is forms ds types both is more =
    ap (λ (p : Progress). p.first)
    (more ∙ ap (told_again no_tallies ds) (is ∙ types_are forms none)
    ∙ again_are [] ds (told_all (type_faults forms) none)
    ∙ sym (told_both (type_faults forms) (again_among [] ds) none))
    ∙ told_first (early_faults forms ds) none
