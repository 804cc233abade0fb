-- What a machine does without calls, with rows without terms: it looks at no row.
use Rattle.std.proofs.Common.{◌≡◌, cond, List, [], ◌∷◌, length, take, drop, Option, Some, None, refl, ap, ◌∙◌}
use Rattle.dy_term.specs.declared.types.DyType.{DyType}
use Rattle.dy_term.specs.declared.types.Params.{Params}
use Rattle.dy_term.specs.declared.types.Results.{Results}
use Rattle.dy_values.specs.declared.value.Variant.{Variant}
use Rattle.dy_values.specs.declared.store.Store.{Store}
use Rattle.dy_values.specs.declared.error.ErrorRow.{ErrorRow}
use Rattle.dy_values.specs.declared.error.ErrorRow.TheVariants.{WrongType}
use Rattle.dy_values.specs.Errors.{wrong_number}
use Rattle.dy_values.specs.Spending.{first}
use Rattle.dy_steps.specs.Configurations.{Pending, Keeps, Exits, Config, Step, Goes, Performed, Gives, Signals, Lacks, Machine}
use Rattle.dy_steps.specs.Effects.{with_state, gives, performed}
use Rattle.dy_steps.specs.Rows.{end_cleanup}
use Rattle.dy_steps.specs.Arguments.{wrong_behind, wrong, is_count, keyword_error, or_else, arguments_error, unless_wrong, collected, arrange, results_of, check_results, check}
use Rattle.dy_bare_machines.proofs.Rows.{bare_linked}

-- the same machine, with rows without terms
abbrev pub bare : Machine → Machine
bare m = record m { linked = bare_linked m.linked }

module _ (m : Machine) where
  pub performed_same : (p : Performed) (c : Config) (go other : List Variant → Config → Step) → ((values : List Variant) (d : Config) → go values d ≡ other values d) → performed (bare m) p c go ≡ performed m p c other
  performed_same (Gives values state) c go other same = same values (with_state state c)
  performed_same (Signals error state) c go other same = refl
  performed_same Lacks c go other same = refl

  pub unless_wrong_same : (error : Option ErrorRow) (c : Config) (go other : Config → Step) → ((d : Config) → go d ≡ other d) → unless_wrong (bare m) error c go ≡ unless_wrong m error c other
  unless_wrong_same None c go other same = same c
  unless_wrong_same (Some error) c go other same = refl

  -- the types of arguments and results
  wrong_behind_same : (store : Store) (values : List Variant) (rest : Option DyType) → wrong_behind (bare m) store values rest ≡ wrong_behind m store values rest
  wrong_behind_same store [] rest = refl
  wrong_behind_same store (value ∷ values) None = refl
  wrong_behind_same store (value ∷ values) (Some type) = ap (λ e. cond (m.is_instance store value type) e (Some (WrongType value type))) (wrong_behind_same store values (Some type))

  pub wrong_same : (store : Store) (values : List Variant) (types : List DyType) (rest : Option DyType) → wrong (bare m) store values types rest ≡ wrong m store values types rest
  wrong_same store values [] rest = wrong_behind_same store values rest
  wrong_same store [] (type ∷ types) rest = refl
  wrong_same store (value ∷ values) (type ∷ types) rest = ap (λ e. cond (m.is_instance store value type) e (Some (WrongType value type))) (wrong_same store values types rest)

  arguments_same : (store : Store) (params : Params) (values : List Variant) → arguments_error (bare m) store params values ≡ arguments_error m store params values
  arguments_same store params values =
      ap (λ (e : Option ErrorRow). cond (is_count params (length values))
      (or_else (keyword_error store params.keys params.all_keys (drop (length params.required) values)) e) (Some wrong_number))
      (wrong_same store (take (length params.required) values) params.required None)

  pub arrange_same : (params : Params) (c : Config) → arrange (bare m) params c ≡ arrange m params c
  arrange_same params c =
      let go : Config → Step = collected params.rest params c.running.arguments in
      ap (λ e. unless_wrong (bare m) e c go) (arguments_same c.state.store params c.running.arguments)
      ∙ unless_wrong_same (arguments_error m c.state.store params c.running.arguments) c go go (λ d. refl)

  pub check_results_same : (results : Results) (c : Config) → check_results (bare m) results c ≡ check_results m results c
  check_results_same results c =
      let go : Config → Step = gives (results_of results c.register) in
      ap (λ e. unless_wrong (bare m) e c go) (wrong_same c.state.store (results_of results c.register) results.required results.rest)
      ∙ unless_wrong_same (wrong m c.state.store (results_of results c.register) results.required results.rest) c go go (λ d. refl)

  pub check_same : (type : DyType) (c : Config) → check (bare m) type c ≡ check m type c
  check_same type c =
      ap (λ e. unless_wrong (bare m) e c Goes) (wrong_same c.state.store (first c.register ∷ []) (type ∷ []) None)
      ∙ unless_wrong_same (wrong m c.state.store (first c.register ∷ []) (type ∷ []) None) c Goes Goes (λ d. refl)

  -- exits and cleanups
  pub end_cleanup_same : (cleanups : List Pending) (c : Config) → end_cleanup (bare m) cleanups c ≡ end_cleanup m cleanups c
  end_cleanup_same [] c = refl
  end_cleanup_same (Keeps values ∷ cleanups) c = refl
  end_cleanup_same (Exits number values ∷ cleanups) c = refl
