-- Instructions whose items stand in lists, and the lists themselves, where each reference is linked and
-- can be taken back.
use Rattle.std.proofs.Common.{◌≡◌, ℕ, ◌+◌, List, [], ◌∷◌, ◌++◌, length, map, Option, Some, None, unwrap_or, refl, sym, ap, ◌∙◌, subst}
use Rattle.std.specs.Prelude.{flat_map, filter_map}
use Rattle.std.specs.Option.{option_map}
use Rattle.dy_base.specs.declared.ids.BindingId.{BindingId}
use Rattle.dy_base.specs.declared.ids.MethodId.{MethodId}
use Rattle.dy_term.specs.declared.literal.Literal.{Literal}
use Rattle.dy_term.specs.declared.types.Member.{Member}
use Rattle.dy_term.specs.declared.types.Member.TheVariants as members
use Rattle.dy_term.specs.declared.types.DyType.{DyType}
use Rattle.dy_term.specs.declared.types.Params.{Params}
use Rattle.dy_term.specs.declared.types.Results.{Results}
use Rattle.dy_values.specs.Identity.{is_same_binding}
use Rattle.dy_code.specs.declared.opcode.Opcode.TheVariants as op
use Rattle.dy_code.specs.Fetching.{Instruction}
use Rattle.dy_code.specs.Fetching as instr
use Rattle.dy_code.specs.Validity.{Every}
use Rattle.dy_lowered.specs.Items.{constant_of, name_of, bound_of, list_of, type_of, results_of}
use Rattle.dy_lowered.specs.Sameness.{is_same_literal, is_same_bound, is_same_params, is_same_type, is_same_results}
use Rattle.dy_lowered.specs.Tables.{Tables, distinct, tables_of, index_in, one, two, written}
use Rattle.dy_lowered.specs.Terms.{generic_named}
use Rattle.dy_lowered.specs.Linking.{linked_name, linked_method, linked_member, linked_type, linked_params, linked_results, linked_bound}
use Rattle.dy_sameness.proofs.Sameness.{Tells, tells_binding, tells_bound, tells_params, tells_type, tells_results}
use Rattle.dy_linked_rows.specs.Code.{linked_instruction}
use Rattle.dy_linked_rows.proofs.Every.{every_map, chosen_mapped, chosen_same, chosen_stays}
use Rattle.dy_linked_rows.proofs.Lists.{map_twice}
use Rattle.dy_linked_rows.proofs.Items.{Back, every_distinct, distinct_mapped, index_mapped}

-- the items of a linked instruction
module _ (places : ℕ → ℕ) where
  pub constant_linked : (i : Instruction) → constant_of (linked_instruction places i) ≡ constant_of i
  constant_linked (instr.Const literal) = refl
  constant_linked _ = refl

  pub name_linked : (i : Instruction) → name_of (linked_instruction places i) ≡ option_map (linked_name places) (name_of i)
  name_linked (instr.Global named) = refl
  name_linked _ = refl

  pub bound_linked : (i : Instruction) → bound_of (linked_instruction places i) ≡ option_map (linked_bound places) (bound_of i)
  bound_linked (instr.CallDirect sorted ambiguous count) = refl
  bound_linked _ = refl

  pub list_linked : (i : Instruction) → list_of (linked_instruction places i) ≡ option_map (linked_params places) (list_of i)
  list_linked (instr.Args params) = refl
  list_linked _ = refl

  pub type_linked : (i : Instruction) → type_of (linked_instruction places i) ≡ option_map (linked_type places) (type_of i)
  type_linked (instr.Check type) = refl
  type_linked _ = refl

  pub results_linked : (i : Instruction) → results_of (linked_instruction places i) ≡ option_map (linked_results places) (results_of i)
  results_linked (instr.CheckResults results) = refl
  results_linked _ = refl

-- Places there and back again.
module _ (p q : ℕ → ℕ) where
  abbrev r : ℕ → ℕ
  r library = q (p library)

  member_twice : (member : Member) → linked_member q (linked_member p member) ≡ linked_member r member
  member_twice (members.Class class) = refl
  member_twice (members.Single value) = refl
  member_twice (members.SingleClass class) = refl
  member_twice (members.Range least greatest) = refl

  mapped_twice : {A : Type 0} (g f h : A → A) → ((x : A) → g (f x) ≡ h x) → (xs : List A) → map g (map f xs) ≡ map h xs
  mapped_twice g f h each [] = refl
  mapped_twice g f h each (x ∷ xs) = λ j. each x j ∷ mapped_twice g f h each xs j

  held_twice : {A : Type 0} (g f h : A → A) → ((x : A) → g (f x) ≡ h x) → (o : Option A) → option_map g (option_map f o) ≡ option_map h o
  held_twice g f h each None = refl
  held_twice g f h each (Some x) = ap Some (each x)

  type_twice : (type : DyType) → linked_type q (linked_type p type) ≡ linked_type r type
  type_twice type = λ j. record { members = mapped_twice (linked_member q) (linked_member p) (linked_member r) member_twice type.members j }

  types_twice : (types : List DyType) → map (linked_type q) (map (linked_type p) types) ≡ map (linked_type r) types
  types_twice = mapped_twice (linked_type q) (linked_type p) (linked_type r) type_twice

  params_twice : (params : Params) → linked_params q (linked_params p params) ≡ linked_params r params
  params_twice params = λ j. record { required = types_twice params.required j; rest = params.rest; keys = params.keys; all_keys = params.all_keys }

  results_twice : (results : Results) → linked_results q (linked_results p results) ≡ linked_results r results
  results_twice results = λ j. record {
    required = types_twice results.required j;
    rest = held_twice (linked_type q) (linked_type p) (linked_type r) type_twice results.rest j;
  }

  bound_twice : (bound : List MethodId × List MethodId) → linked_bound q (linked_bound p bound) ≡ linked_bound r bound
  bound_twice bound = λ j. (map_twice (linked_method q) (linked_method p) bound.0 j, map_twice (linked_method q) (linked_method p) bound.1 j)

  -- what an instruction names that comes back
  abbrev Stays : Instruction → Type 0
  Stays i = linked_instruction r i ≡ i

  named_back : {Y : Type 0} (h : Instruction → Option Y) (f g u : Y → Y) → ((i : Instruction) → h (linked_instruction r i) ≡ option_map u (h i)) → ((y : Y) → g (f y) ≡ u y) → (i : Instruction) (y : Y) → h i ≡ Some y → Stays i → g (f y) ≡ y
  named_back h f g u one each i y e stays =
      let path : Some (u y) ≡ Some y = sym (one i ∙ ap (option_map u) e) ∙ (ap h stays ∙ e) in
      each y ∙ ap (λ o. unwrap_or o y) path

  all_back : {Y : Type 0} (h : Instruction → Option Y) (f g u : Y → Y) → ((i : Instruction) → h (linked_instruction r i) ≡ option_map u (h i)) → ((y : Y) → g (f y) ≡ u y) → (code : List Instruction) → Every Stays code → Every (λ y. g (f y) ≡ y) (filter_map h code)
  all_back h f g u one each code all =
      every_map (λ y. u y ≡ y) (λ y. g (f y) ≡ y) (λ y e. each y ∙ e) (filter_map h code) (chosen_stays h (linked_instruction r) u one code all)

  module _ (code : List Instruction) (all : Every Stays code) where
    abbrev pub t : Tables
    t = tables_of code

    abbrev pub linked_tables : Tables
    linked_tables = record {
      constants = t.constants;
      names = map (linked_name p) t.names;
      bound = map (linked_bound p) t.bound;
      lists = map (linked_params p) t.lists;
      types = map (linked_type p) t.types;
      results = map (linked_results p) t.results;
    }

    names_back : Every (λ y. linked_name q (linked_name p y) ≡ y) (filter_map name_of code)
    names_back = all_back name_of (linked_name p) (linked_name q) (linked_name r) (name_linked r) (λ y. refl) code all

    bounds_back : Every (λ y. linked_bound q (linked_bound p y) ≡ y) (filter_map bound_of code)
    bounds_back = all_back bound_of (linked_bound p) (linked_bound q) (linked_bound r) (bound_linked r) bound_twice code all

    lists_back : Every (λ y. linked_params q (linked_params p y) ≡ y) (filter_map list_of code)
    lists_back = all_back list_of (linked_params p) (linked_params q) (linked_params r) (list_linked r) params_twice code all

    types_back : Every (λ y. linked_type q (linked_type p y) ≡ y) (filter_map type_of code)
    types_back = all_back type_of (linked_type p) (linked_type q) (linked_type r) (type_linked r) type_twice code all

    all_results_back : Every (λ y. linked_results q (linked_results p y) ≡ y) (filter_map results_of code)
    all_results_back = all_back results_of (linked_results p) (linked_results q) (linked_results r) (results_linked r) results_twice code all

    -- the lists of linked code
    pub tables_linked : tables_of (map (linked_instruction p) code) ≡ linked_tables
    tables_linked =
        let constants = chosen_same constant_of (linked_instruction p) (constant_linked p) code in
        let names = ap (distinct is_same_binding) (chosen_mapped name_of (linked_instruction p) (linked_name p) (name_linked p) code) ∙ distinct_mapped is_same_binding tells_binding (linked_name p) (linked_name q) (filter_map name_of code) names_back in
        let bounds = ap (distinct is_same_bound) (chosen_mapped bound_of (linked_instruction p) (linked_bound p) (bound_linked p) code) ∙ distinct_mapped is_same_bound tells_bound (linked_bound p) (linked_bound q) (filter_map bound_of code) bounds_back in
        let lists = ap (distinct is_same_params) (chosen_mapped list_of (linked_instruction p) (linked_params p) (list_linked p) code) ∙ distinct_mapped is_same_params tells_params (linked_params p) (linked_params q) (filter_map list_of code) lists_back in
        let types = ap (distinct is_same_type) (chosen_mapped type_of (linked_instruction p) (linked_type p) (type_linked p) code) ∙ distinct_mapped is_same_type tells_type (linked_type p) (linked_type q) (filter_map type_of code) types_back in
        let results = ap (distinct is_same_results) (chosen_mapped results_of (linked_instruction p) (linked_results p) (results_linked p) code) ∙ distinct_mapped is_same_results tells_results (linked_results p) (linked_results q) (filter_map results_of code) all_results_back in
        λ j. record {
          constants = distinct is_same_literal (constants j);
          names = names j;
          bound = bounds j;
          lists = lists j;
          types = types j;
          results = results j;
        }

    -- where an item stands
    name_at : (named : BindingId) → linked_name q (linked_name p named) ≡ named → index_in is_same_binding (linked_name p named) (map (linked_name p) t.names) ≡ index_in is_same_binding named t.names
    name_at named back = index_mapped is_same_binding tells_binding (linked_name p) (linked_name q) named t.names back (every_distinct is_same_binding tells_binding (linked_name p) (linked_name q) (filter_map name_of code) names_back)

    bound_at : (bound : List MethodId × List MethodId) → linked_bound q (linked_bound p bound) ≡ bound → index_in is_same_bound (linked_bound p bound) (map (linked_bound p) t.bound) ≡ index_in is_same_bound bound t.bound
    bound_at bound back = index_mapped is_same_bound tells_bound (linked_bound p) (linked_bound q) bound t.bound back (every_distinct is_same_bound tells_bound (linked_bound p) (linked_bound q) (filter_map bound_of code) bounds_back)

    list_at : (params : Params) → linked_params q (linked_params p params) ≡ params → index_in is_same_params (linked_params p params) (map (linked_params p) t.lists) ≡ index_in is_same_params params t.lists
    list_at params back = index_mapped is_same_params tells_params (linked_params p) (linked_params q) params t.lists back (every_distinct is_same_params tells_params (linked_params p) (linked_params q) (filter_map list_of code) lists_back)

    type_at : (type : DyType) → linked_type q (linked_type p type) ≡ type → index_in is_same_type (linked_type p type) (map (linked_type p) t.types) ≡ index_in is_same_type type t.types
    type_at type back = index_mapped is_same_type tells_type (linked_type p) (linked_type q) type t.types back (every_distinct is_same_type tells_type (linked_type p) (linked_type q) (filter_map type_of code) types_back)

    results_at : (results : Results) → linked_results q (linked_results p results) ≡ results → index_in is_same_results (linked_results p results) (map (linked_results p) t.results) ≡ index_in is_same_results results t.results
    results_at results back = index_mapped is_same_results tells_results (linked_results p) (linked_results q) results t.results back (every_distinct is_same_results tells_results (linked_results p) (linked_results q) (filter_map results_of code) all_results_back)

    name_back : (i : Instruction) (named : BindingId) → name_of i ≡ Some named → Stays i → linked_name q (linked_name p named) ≡ named
    name_back = named_back name_of (linked_name p) (linked_name q) (linked_name r) (name_linked r) (λ y. refl)

    bound_back : (i : Instruction) (bound : List MethodId × List MethodId) → bound_of i ≡ Some bound → Stays i → linked_bound q (linked_bound p bound) ≡ bound
    bound_back = named_back bound_of (linked_bound p) (linked_bound q) (linked_bound r) (bound_linked r) bound_twice

    list_back : (i : Instruction) (params : Params) → list_of i ≡ Some params → Stays i → linked_params q (linked_params p params) ≡ params
    list_back = named_back list_of (linked_params p) (linked_params q) (linked_params r) (list_linked r) params_twice

    type_back : (i : Instruction) (type : DyType) → type_of i ≡ Some type → Stays i → linked_type q (linked_type p type) ≡ type
    type_back = named_back type_of (linked_type p) (linked_type q) (linked_type r) (type_linked r) type_twice

    results_back : (i : Instruction) (results : Results) → results_of i ≡ Some results → Stays i → linked_results q (linked_results p results) ≡ results
    results_back = named_back results_of (linked_results p) (linked_results q) (linked_results r) (results_linked r) results_twice

    -- So each instruction is written alike.
    one_written : (i : Instruction) → Stays i → written linked_tables (linked_instruction p i) ≡ written t i
    one_written (instr.Global named) e = ap (one op.Global) (name_at named (name_back (instr.Global named) named refl e))
    one_written (instr.SetGlobal named) e = ap (one op.SetGlobal) (name_at named (name_back (instr.SetGlobal named) named refl e))
    one_written (instr.Search generic count) e =
        ap (λ (n : ℕ). two op.Search n count) (name_at (generic_named generic) (name_back (instr.Search generic count) (generic_named generic) refl e))
    one_written (instr.CallDirect sorted ambiguous count) e =
        ap (λ (n : ℕ). two op.CallDirect n count) (bound_at (sorted, ambiguous) (bound_back (instr.CallDirect sorted ambiguous count) (sorted, ambiguous) refl e))
    one_written (instr.CallKnown named count) e = ap (λ (n : ℕ). two op.CallKnown n count) (name_at named (name_back (instr.CallKnown named count) named refl e))
    one_written (instr.Check type) e = ap (one op.Check) (type_at type (type_back (instr.Check type) type refl e))
    one_written (instr.CheckResults results) e = ap (one op.CheckResults) (results_at results (results_back (instr.CheckResults results) results refl e))
    one_written (instr.Handle condition) e = ap (one op.Handle) (type_at condition (type_back (instr.Handle condition) condition refl e))
    one_written (instr.Catch condition address) e =
        ap (λ (n : ℕ). two op.Catch n address) (type_at condition (type_back (instr.Catch condition address) condition refl e))
    one_written (instr.Args params) e = ap (one op.Args) (list_at params (list_back (instr.Args params) params refl e))
    one_written _ e = refl

    pub all_written : (body : List Instruction) → Every Stays body → map (written linked_tables) (map (linked_instruction p) body) ≡ map (written t) body
    all_written [] every = refl
    all_written (i ∷ body) every = λ j. one_written i every.0 j ∷ all_written body every.1 j
