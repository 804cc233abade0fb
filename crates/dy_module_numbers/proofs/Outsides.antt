-- The modules of used libraries behind others.
use Rattle.std.proofs.Common.{◌≡◌, ℕ, suc, ◌+◌, List, [], ◌∷◌, ◌++◌, map, length, replicate, append_assoc, append-nil, length-append, refl, sym, ap, ◌∙◌, arith}
use Rattle.std.proofs.lemmas.List.{map-append, length-map, length-replicate}
use Rattle.dy_base.specs.Tables.{NamedList}
use Rattle.dy_base.specs.declared.exports.Exports.{Exports}
use Rattle.dy_modules.specs.declared.clause.ModuleForm.{ModuleForm}
use Rattle.dy_module_numbers.specs.Numbers.{outside_form, given_form, seen_rows, exported_rows, after_seen, after_exported, behind_own, first_exported, nothing_number, numbered_after, library_numbers}

seen_after : (forms : List ModuleForm) (used : List Exports) → after_seen forms used ≡ forms ++ map outside_form (seen_rows used)
seen_after forms [] = sym (append-nil forms)
seen_after forms (library ∷ used) =
    seen_after (forms ++ map outside_form library.seen) used ∙ append_assoc forms (map outside_form library.seen) (map outside_form (seen_rows used))
    ∙ ap (λ l. forms ++ l) (sym (map-append outside_form library.seen (seen_rows used)))

exported_after : (forms : List ModuleForm) (used : List Exports) → after_exported forms used ≡ forms ++ map outside_form (exported_rows used)
exported_after forms [] = sym (append-nil forms)
exported_after forms (library ∷ used) =
    exported_after (forms ++ map outside_form library.modules) used ∙ append_assoc forms (map outside_form library.modules) (map outside_form (exported_rows used))
    ∙ ap (λ l. forms ++ l) (sym (map-append outside_form library.modules (exported_rows used)))

module _ (own : ℕ) (used : List Exports) where
  abbrev empty : List ModuleForm
  empty = replicate own (given_form [])

  abbrev seen : List ModuleForm
  seen = map outside_form (seen_rows used)

  abbrev exported : List ModuleForm
  exported = map outside_form (exported_rows used)

  all_after : after_exported (after_seen empty used) used ≡ (empty ++ seen) ++ exported
  all_after = exported_after (after_seen empty used) used ∙ ap (λ l. l ++ exported) (seen_after empty used)

  pub forms_behind : after_exported (after_seen empty used) used ++ given_form [] ∷ [] ≡ behind_own empty used
  forms_behind = ap (λ l. l ++ given_form [] ∷ []) all_after

  pub seen_count : length (after_seen empty used) ≡ first_exported own used
  seen_count = ap length (seen_after empty used) ∙ length-append empty seen ∙ omega (arith, length-replicate own (given_form []), length-map (seen_rows used) outside_form)

  pub all_count : length (after_exported (after_seen empty used) used) ≡ nothing_number own used
  all_count = ap length all_after ∙ length-append (empty ++ seen) exported
      ∙ omega (arith, length-append empty seen, length-replicate own (given_form []), length-map (seen_rows used) outside_form, length-map (exported_rows used) outside_form)

-- one library more
module _ (old new : List ModuleForm) (library : Exports) (rest : List Exports) (more : new ≡ old ++ map outside_form library.modules) where
  pub turn_forms : after_exported new rest ≡ after_exported old (library ∷ rest)
  turn_forms = ap (λ l. after_exported l rest) more

  pub turn_numbers : (lists : List (NamedList ℕ)) (numbers : NamedList ℕ) → numbers ≡ numbered_after [] (length old) library.modules
      → (lists ++ numbers ∷ []) ++ library_numbers (length new) rest ≡ lists ++ library_numbers (length old) (library ∷ rest)
  turn_numbers lists numbers are =
      let count : length new ≡ length old + length library.modules = ap length more ∙ length-append old (map outside_form library.modules) ∙ ap (λ k. length old + k) (length-map library.modules outside_form) in
      append_assoc lists (numbers ∷ []) (library_numbers (length new) rest) ∙ ap (λ x. lists ++ x ∷ library_numbers (length new) rest) are
      ∙ ap (λ k. lists ++ numbered_after [] (length old) library.modules ∷ library_numbers k rest) count
