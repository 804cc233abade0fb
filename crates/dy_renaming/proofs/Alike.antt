-- A draft whose origins are changed has the same term, the same numbers and the same first fault.
use Rattle.std.proofs.Common.{◌≡◌, ℕ, ◌+◌, List, [], ◌∷◌, length, map, Option, Some, None, Result}
use Rattle.std.proofs.Common.{refl, ◌∙◌}
use Rattle.std.specs.Option.{option_map}
use Rattle.dy_base.specs.declared.fault.Fault.{Fault}
use Rattle.dy_base.specs.declared.kind.Kind.TheVariants.{NotAssignable}
use Rattle.dy_tree.specs.declared.token.Token.{Token}
use Rattle.dy_term.specs.declared.types.DyType.{DyType}
use Rattle.dy_term.specs.declared.types.Params.{Params}
use Rattle.dy_term.specs.declared.types.Results.{Results}
use Rattle.dy_term.specs.declared.draft.Local.{Local as Name}
use Rattle.dy_term.specs.declared.draft.Local.TheVariants.{Named, Hidden}
use Rattle.dy_term.specs.declared.term.Term.{Term, Cond, And, Or, Select, Body, Loop, For, Method}
use Rattle.dy_term.specs.declared.term.Term.{Block, Op}
use Rattle.dy_term.specs.declared.term.Item.{Item, Run, Let, LetMethods, Handler}
use Rattle.dy_term.specs.declared.term.ForClause.{Then}
use Rattle.dy_term.specs.declared.term.ForRow.{roll-ForRow}
use Rattle.dy_term.specs.declared.term.BlockRow.{roll-BlockRow}
use Rattle.dy_term.specs.declared.term.Lambda.{Lambda, roll-Lambda}
use Rattle.dy_term.specs.Types.{CoreType}
use Rattle.dy_term.specs.Drafts.{Core, literal, name, hidden, set, no_place, call, values, cond}
use Rattle.dy_term.specs.Drafts.{and, or, select, body, loop, for, method, block, Cores, no_core}
use Rattle.dy_term.specs.Drafts.{core_and, MaybeCore, nothing, just, Choice, otherwise, branch}
use Rattle.dy_term.specs.Drafts.{CoreArms, no_arm, arm_and, CoreItems, no_item, item_and, CoreItem}
use Rattle.dy_term.specs.Drafts.{run, let_values, let_methods, handler, CoreMethods, no_method}
use Rattle.dy_term.specs.Drafts.{method_and, CoreLambda, lambda, CoreClauses, no_clause, clause_and}
use Rattle.dy_term.specs.Drafts.{CoreClause, then_clause, in_clause, from_clause, CoreLimit}
use Rattle.dy_term.specs.Drafts.{no_limit, a_limit, CoreTest, no_test, a_test, CoreCatches}
use Rattle.dy_term.specs.Drafts.{no_catch, catch_and}
use Rattle.dy_names.specs.declared.denotation.Denotation.{Denotation}
use Rattle.dy_names.specs.declared.denotation.Denotation.TheVariants as stands
use Rattle.dy_names.specs.Naming.{Locals, means}
use Rattle.dy_names.specs.Outside.{Outside}
use Rattle.dy_binding.specs.declared.progress.Progress.{Progress}
use Rattle.dy_binding.specs.declared.progress.Apart.{Apart}
use Rattle.dy_binding.specs.Faults.{fault_at}
use Rattle.dy_binding.specs.Reads.{none, numbered, told, told_some}
use Rattle.dy_binding.specs.Bound.{bound, bound_some, standing, params_bound, count, number_of}
use Rattle.dy_binding.specs.Bound.{methods_bound, method_count, clause_count, variables_bound}
use Rattle.dy_binding.specs.Bound.{kept_bound, catches_numbered}
use Rattle.dy_binding.specs.Names.{is_next, named, placed, assigned, hidden_term, head_of, called}
use Rattle.dy_binding.specs.Types.{type_or, told_of, read_type, read_types, read_numbered}
use Rattle.dy_binding.specs.Types.{read_results, key_types, key_list, shape_of}
use Rattle.dy_resolution.specs.Terms.{core_term, core_terms, core_maybe, core_choice, core_arms}
use Rattle.dy_resolution.specs.Terms.{core_items, core_item, core_methods, core_lambda}
use Rattle.dy_resolution.specs.Terms.{core_defaults, core_firsts, core_first, core_limit}
use Rattle.dy_resolution.specs.Terms.{core_clauses, core_clause, core_test, core_catches, fresh}
use Rattle.dy_resolution.specs.Terms.{values_operation}
use Rattle.dy_renaming.specs.Renaming.{token_renamed, local_renamed, type_renamed, variable_renamed}
use Rattle.dy_renaming.specs.Renaming.{typed_renamed, params_renamed, results_renamed, renamed}
use Rattle.dy_renaming.specs.Renaming.{cores_renamed, maybe_renamed, choice_renamed, arms_renamed}
use Rattle.dy_renaming.specs.Renaming.{items_renamed, item_renamed, methods_renamed, lambda_renamed}
use Rattle.dy_renaming.specs.Renaming.{clauses_renamed, clause_renamed, limit_renamed, test_renamed}
use Rattle.dy_renaming.specs.Renaming.{catches_renamed, KeepsApart, HasOwners, HasTypes, TermsAlike}
use Rattle.dy_renaming.specs.Renaming.{LambdasAlike}
use Rattle.dy_renaming.proofs.Steps.{other, bound_alike, some_alike, named_some_alike}
use Rattle.dy_renaming.proofs.Steps.{standing_alike, params_alike, methods_bound_alike}
use Rattle.dy_renaming.proofs.Steps.{method_count_alike, clause_count_alike, variables_alike}
use Rattle.dy_renaming.proofs.Steps.{kept_alike, count_alike, number_alike, catches_numbered_alike}
use Rattle.dy_renaming.proofs.Steps.{found_alike, means_alike, named_alike, placed_alike}
use Rattle.dy_renaming.proofs.Steps.{head_alike, Alike, called_alike, type_alike, types_alike}
use Rattle.dy_renaming.proofs.Steps.{numbered_alike, results_alike, key_other, some_keys_alike}
use Rattle.dy_renaming.proofs.Steps.{required_alike, shape_alike, length_alike, typed_names_alike}

module _ (out : Outside) (rename : ℕ → ℕ) (apart : KeepsApart rename)
    (owners : HasOwners out rename) (types : HasTypes out rename) where
  abbrev around : Locals → Locals
  around = other rename

  -- a `for` whose first expressions were read
  abbrev for_with : (clauses : CoreClauses) (test : CoreTest) (inner : Core) (finally : MaybeCore)
      (f : List Apart × ℕ) (within kept : Locals) (p : Progress) → Term × Progress
  for_with clauses test inner finally f within kept p =
      let c = core_clauses out clauses f.0 p.next within (record p { next = f.1 }) in
      let t = core_test out test within c.1 in
      let b = core_term out inner within t.1 in
      let e = core_maybe out finally kept b.1 in
      (For (roll-ForRow (record { clauses = c.0; test = t.0; body = b.0; finally = e.0 })), e.1)

  -- a block whose exit procedure is in force
  abbrev block_with : (exit : Option ℕ) (first : ℕ) (inner : Core) (afterwards cleanup : MaybeCore)
      (clauses : CoreCatches) (within : Locals) (q : Progress) → Term × Progress
  block_with exit first inner afterwards cleanup clauses within q =
      let b = core_term out inner within q in
      let a = core_maybe out afterwards within b.1 in
      let c = core_maybe out cleanup within a.1 in
      let e = core_catches out clauses first within c.1 in (
        Block (roll-BlockRow (record
            { exit = exit; body = b.0; afterwards = a.0; cleanup = c.0; clauses = e.0 })),
        e.1,
      )

  -- a `let` whose types were read
  abbrev let_with : (number : Option ℕ) (term : Core) (behind around : Locals)
      (t : List (ℕ × DyType) × Progress) → (Item × Locals) × Progress
  let_with number term behind locals t =
      let v = core_term out term locals t.1 in
      ((Let t.0 number v.0, behind), v.1)

  -- a lambda whose types were read
  abbrev lambda_with : (defaults : Cores) (inner : Core) (d : Denotation) (first : ℕ)
      (keys : List (Token × Result DyType Fault)) (start : ℕ) (within : Locals)
      (t : Params × Progress) (r : Results × Progress) → Lambda × Progress
  lambda_with defaults inner d first keys start within t r =
      let k = core_defaults out defaults keys start within t.1 in
      let b = core_term out inner k.0.1 (told_some r.1.first k.1) in (
        roll-Lambda (record {
          params = t.0;
          keywords = k.0.0;
          next = is_next d;
          first = first;
          locals = b.1.next;
          body = b.0;
          results = r.0;
        }),
        b.1,
      )

  for_alike : (clauses : CoreClauses) (test : CoreTest) (inner : Core) (finally : MaybeCore)
      (f : List Apart × ℕ) (within kept : Locals) (p : Progress)
      → Alike rename (core_clauses out (clauses_renamed rename clauses) f.0 p.next)
      (core_clauses out clauses f.0 p.next)
      → Alike rename (core_test out (test_renamed rename test)) (core_test out test)
      → Alike rename (core_term out (renamed rename inner)) (core_term out inner)
      → Alike rename (core_maybe out (maybe_renamed rename finally)) (core_maybe out finally)
      → for_with (clauses_renamed rename clauses) (test_renamed rename test)
      (renamed rename inner) (maybe_renamed rename finally) f (around within) (around kept) p
      ≡ for_with clauses test inner finally f within kept p
  for_alike clauses test inner finally f within kept p clauses_same test_same inner_same
      finally_same =
      let t' = test_renamed rename test in
      let b' = renamed rename inner in
      let e' = maybe_renamed rename finally in
      let q : Progress = record p { next = f.1 } in
      let c = core_clauses out clauses f.0 p.next within q in
      let t = core_test out test within c.1 in
      let b = core_term out inner within t.1 in
      (λ i. let c = clauses_same within q i in
      let t = core_test out t' (around within) c.1 in
      let b = core_term out b' (around within) t.1 in
      let e = core_maybe out e' (around kept) b.1 in
      (For (roll-ForRow (record { clauses = c.0; test = t.0; body = b.0; finally = e.0 })), e.1))
      ∙ (λ i. let t = test_same within c.1 i in
      let b = core_term out b' (around within) t.1 in
      let e = core_maybe out e' (around kept) b.1 in
      (For (roll-ForRow (record { clauses = c.0; test = t.0; body = b.0; finally = e.0 })), e.1))
      ∙ (λ i. let b = inner_same within t.1 i in
      let e = core_maybe out e' (around kept) b.1 in
      (For (roll-ForRow (record { clauses = c.0; test = t.0; body = b.0; finally = e.0 })), e.1))
      ∙ (λ i. let e = finally_same kept b.1 i in
      (For (roll-ForRow (record { clauses = c.0; test = t.0; body = b.0; finally = e.0 })), e.1))

  block_alike : (exit : Option ℕ) (first : ℕ) (inner : Core) (afterwards cleanup : MaybeCore)
      (clauses : CoreCatches) (within : Locals) (q : Progress)
      → Alike rename (core_term out (renamed rename inner)) (core_term out inner)
      → Alike rename (core_maybe out (maybe_renamed rename afterwards)) (core_maybe out afterwards)
      → Alike rename (core_maybe out (maybe_renamed rename cleanup)) (core_maybe out cleanup)
      → Alike rename (core_catches out (catches_renamed rename clauses) first)
      (core_catches out clauses first)
      → block_with exit first (renamed rename inner) (maybe_renamed rename afterwards)
      (maybe_renamed rename cleanup) (catches_renamed rename clauses) (around within) q
      ≡ block_with exit first inner afterwards cleanup clauses within q
  block_alike exit first inner afterwards cleanup clauses within q inner_same
      afterwards_same cleanup_same clauses_same =
      let a' = maybe_renamed rename afterwards in
      let c' = maybe_renamed rename cleanup in
      let e' = catches_renamed rename clauses in
      let b = core_term out inner within q in
      let a = core_maybe out afterwards within b.1 in
      let c = core_maybe out cleanup within a.1 in
      (λ i. let b = inner_same within q i in
      let a = core_maybe out a' (around within) b.1 in
      let c = core_maybe out c' (around within) a.1 in
      let e = core_catches out e' first (around within) c.1 in (
        Block (roll-BlockRow (record
            { exit = exit; body = b.0; afterwards = a.0; cleanup = c.0; clauses = e.0 })),
        e.1,
      ))
      ∙ (λ i. let a = afterwards_same within b.1 i in
      let c = core_maybe out c' (around within) a.1 in
      let e = core_catches out e' first (around within) c.1 in (
        Block (roll-BlockRow (record
            { exit = exit; body = b.0; afterwards = a.0; cleanup = c.0; clauses = e.0 })),
        e.1,
      ))
      ∙ (λ i. let c = cleanup_same within a.1 i in
      let e = core_catches out e' first (around within) c.1 in (
        Block (roll-BlockRow (record
            { exit = exit; body = b.0; afterwards = a.0; cleanup = c.0; clauses = e.0 })),
        e.1,
      ))
      ∙ (λ i. let e = clauses_same within c.1 i in (
        Block (roll-BlockRow (record
            { exit = exit; body = b.0; afterwards = a.0; cleanup = c.0; clauses = e.0 })),
        e.1,
      ))

  lambda_with_alike : (defaults : Cores) (inner : Core) (d : Denotation) (first : ℕ)
      (keys : List (Token × Result DyType Fault)) (start : ℕ) (within : Locals)
      (t : Params × Progress) (r : Results × Progress)
      → ((locals : Locals) (p : Progress)
      → core_defaults out (cores_renamed rename defaults) (map (key_other out rename types) keys)
      start (around locals) p
      ≡ (let r = core_defaults out defaults keys start locals p in ((r.0.0, around r.0.1), r.1)))
      → Alike rename (core_term out (renamed rename inner)) (core_term out inner)
      → lambda_with (cores_renamed rename defaults) (renamed rename inner) d first
      (map (key_other out rename types) keys) start (around within) t r
      ≡ lambda_with defaults inner d first keys start within t r
  lambda_with_alike defaults inner d first keys start within t r defaults_same inner_same =
      let k = core_defaults out defaults keys start within t.1 in
      let q = told_some r.1.first k.1 in
      (λ i. let k = defaults_same within t.1 i in
      let b = core_term out (renamed rename inner) k.0.1 (told_some r.1.first k.1) in (
        roll-Lambda (record {
          params = t.0;
          keywords = k.0.0;
          next = is_next d;
          first = first;
          locals = b.1.next;
          body = b.0;
          results = r.0;
        }),
        b.1,
      ))
      ∙ (λ i. let b = inner_same k.0.1 q i in (
        roll-Lambda (record {
          params = t.0;
          keywords = k.0.0;
          next = is_next d;
          first = first;
          locals = b.1.next;
          body = b.0;
          results = r.0;
        }),
        b.1,
      ))

  mutual
    term_alike : (d : Core)
        → Alike rename (core_term out (renamed rename d)) (core_term out d)
    term_alike (literal value) locals p = refl
    term_alike (name token) locals p =
        (λ i. named (token_renamed rename token)
        (means_alike out rename apart owners locals token i) p)
        ∙ named_alike out rename apart owners token (means out.owner locals token) p
    term_alike (hidden number) locals p =
        λ i. (hidden_term (found_alike out rename apart owners locals (Hidden number) i), p)
    term_alike (set token value) locals p =
        let v' = renamed rename value in
        let m = means out.owner locals token in
        (λ i. let m = means_alike out rename apart owners locals token i in
        let v = core_term out v' (around locals) (placed (token_renamed rename token) m p) in
        (assigned m v.0, v.1))
        ∙ (λ i. let v = core_term out v' (around locals)
        (placed_alike out rename apart owners token m p i) in (assigned m v.0, v.1))
        ∙ (λ i. let v = term_alike value locals (placed token m p) i in (assigned m v.0, v.1))
    term_alike (no_place token place value) locals p =
        let q = told (fault_at NotAssignable token []) p in
        (λ i. let l = term_alike place locals q i in
        let v = core_term out (renamed rename value) (around locals) l.1 in (And l.0 v.0, v.1))
        ∙ (λ i. let l = core_term out place locals q in
        let v = term_alike value locals l.1 i in (And l.0 v.0, v.1))
    term_alike (call function arguments) locals p =
        (λ i. called (head_alike out rename apart owners function locals i)
        (core_term out (renamed rename function))
        (core_terms out (cores_renamed rename arguments)) (around locals) p)
        ∙ called_alike rename (head_of out function locals)
        (core_term out (renamed rename function)) (core_term out function)
        (core_terms out (cores_renamed rename arguments)) (core_terms out arguments)
        (λ ls q. term_alike function ls q) (λ ls q. terms_alike arguments ls q) locals p
    term_alike (values terms) locals p =
        λ i. let t = terms_alike terms locals p i in (Op values_operation t.0, t.1)
    term_alike (cond choice) locals p =
        λ i. let c = choice_alike choice locals p i in (Cond c.0.0 c.0.1, c.1)
    term_alike (and left right) locals p =
        (λ i. let l = term_alike left locals p i in
        let r = core_term out (renamed rename right) (around locals) l.1 in (And l.0 r.0, r.1))
        ∙ (λ i. let l = core_term out left locals p in
        let r = term_alike right locals l.1 i in (And l.0 r.0, r.1))
    term_alike (or left right) locals p =
        (λ i. let l = term_alike left locals p i in
        let r = core_term out (renamed rename right) (around locals) l.1 in (Or l.0 r.0, r.1))
        ∙ (λ i. let l = core_term out left locals p in
        let r = term_alike right locals l.1 i in (Or l.0 r.0, r.1))
    term_alike (select value test arms last) locals p =
        let t' = maybe_renamed rename test in
        let a' = arms_renamed rename arms in
        let l' = maybe_renamed rename last in
        let v = core_term out value locals p in
        let t = core_maybe out test locals v.1 in
        let a = core_arms out arms locals t.1 in
        (λ i. let v = term_alike value locals p i in
        let t = core_maybe out t' (around locals) v.1 in
        let a = core_arms out a' (around locals) t.1 in
        let l = core_maybe out l' (around locals) a.1 in (Select v.0 t.0 a.0 l.0, l.1))
        ∙ (λ i. let t = maybe_alike test locals v.1 i in
        let a = core_arms out a' (around locals) t.1 in
        let l = core_maybe out l' (around locals) a.1 in (Select v.0 t.0 a.0 l.0, l.1))
        ∙ (λ i. let a = arms_alike arms locals t.1 i in
        let l = core_maybe out l' (around locals) a.1 in (Select v.0 t.0 a.0 l.0, l.1))
        ∙ (λ i. let l = maybe_alike last locals a.1 i in (Select v.0 t.0 a.0 l.0, l.1))
    term_alike (body items) locals p = λ i. let x = items_alike items locals p i in (Body x.0, x.1)
    term_alike (loop test inner) locals p =
        (λ i. let t = term_alike test locals p i in
        let b = core_term out (renamed rename inner) (around locals) t.1 in (Loop t.0 b.0, b.1))
        ∙ (λ i. let t = core_term out test locals p in
        let b = term_alike inner locals t.1 i in (Loop t.0 b.0, b.1))
    term_alike (for clauses test inner finally) locals p =
        let cs' = clauses_renamed rename clauses in
        let t' = test_renamed rename test in
        let b' = renamed rename inner in
        let e' = maybe_renamed rename finally in
        let f = core_firsts out clauses locals (p.next + clause_count clauses) in
        (λ i. for_with cs' t' b' e'
        (core_firsts out cs' (around locals) (p.next + clause_count_alike rename clauses i))
        (variables_alike rename clauses p.next locals i)
        (kept_alike rename clauses p.next locals i) p)
        ∙ (λ i. for_with cs' t' b' e'
        (firsts_alike clauses locals (p.next + clause_count clauses) i)
        (around (variables_bound clauses p.next locals))
        (around (kept_bound clauses p.next locals)) p)
        ∙ for_alike clauses test inner finally f (variables_bound clauses p.next locals)
        (kept_bound clauses p.next locals) p
        (λ ls q. clauses_alike clauses f.0 p.next ls q) (λ ls q. test_alike test ls q)
        (λ ls q. term_alike inner ls q) (λ ls q. maybe_alike finally ls q)
    term_alike (method row) locals p =
        λ i. let l = lambda_alike row stands.NoMethod locals p i in (Method l.0, l.1)
    term_alike (block exit inner afterwards cleanup clauses) locals p =
        let b' = renamed rename inner in
        let a' = maybe_renamed rename afterwards in
        let c' = maybe_renamed rename cleanup in
        let e' = catches_renamed rename clauses in
        (λ i. block_with (number_alike (token_renamed rename) exit p.next i)
        (p.next + count_alike (token_renamed rename) exit i) b' a' c' e'
        (named_some_alike rename exit p.next locals i)
        (catches_numbered e' (numbered (count_alike (token_renamed rename) exit i) p)))
        ∙ (λ i. block_with (number_of exit p.next) (p.next + count exit) b' a' c' e'
        (around (bound_some p.next (option_map Named exit) locals))
        (catches_numbered_alike rename clauses (numbered (count exit) p) i))
        ∙ block_alike (number_of exit p.next) (p.next + count exit) inner afterwards cleanup clauses
        (bound_some p.next (option_map Named exit) locals)
        (catches_numbered clauses (numbered (count exit) p))
        (λ ls q. term_alike inner ls q) (λ ls q. maybe_alike afterwards ls q)
        (λ ls q. maybe_alike cleanup ls q)
        (λ ls q. catches_alike clauses (p.next + count exit) ls q)

    terms_alike : (ts : Cores)
        → Alike rename (core_terms out (cores_renamed rename ts)) (core_terms out ts)
    terms_alike no_core locals p = refl
    terms_alike (core_and first rest) locals p =
        (λ i. let f = term_alike first locals p i in
        let r = core_terms out (cores_renamed rename rest) (around locals) f.1 in
        (f.0 ∷ r.0, r.1))
        ∙ (λ i. let f = core_term out first locals p in
        let r = terms_alike rest locals f.1 i in (f.0 ∷ r.0, r.1))

    maybe_alike : (m : MaybeCore)
        → Alike rename (core_maybe out (maybe_renamed rename m)) (core_maybe out m)
    maybe_alike nothing locals p = refl
    maybe_alike (just term) locals p = λ i. let t = term_alike term locals p i in (Some t.0, t.1)

    choice_alike : (c : Choice)
        → Alike rename (core_choice out (choice_renamed rename c)) (core_choice out c)
    choice_alike (otherwise term) locals p =
        λ i. let t = term_alike term locals p i in (([], t.0), t.1)
    choice_alike (branch test term others) locals p =
        let t' = renamed rename term in
        let o' = choice_renamed rename others in
        let s = core_term out test locals p in
        let t = core_term out term locals s.1 in
        (λ i. let s = term_alike test locals p i in
        let t = core_term out t' (around locals) s.1 in
        let r = core_choice out o' (around locals) t.1 in
        (((s.0, t.0) ∷ r.0.0, r.0.1), r.1))
        ∙ (λ i. let t = term_alike term locals s.1 i in
        let r = core_choice out o' (around locals) t.1 in
        (((s.0, t.0) ∷ r.0.0, r.0.1), r.1))
        ∙ (λ i. let r = choice_alike others locals t.1 i in (((s.0, t.0) ∷ r.0.0, r.0.1), r.1))

    arms_alike : (as1 : CoreArms)
        → Alike rename (core_arms out (arms_renamed rename as1)) (core_arms out as1)
    arms_alike no_arm locals p = refl
    arms_alike (arm_and keys inner rest) locals p =
        let b' = renamed rename inner in
        let r' = arms_renamed rename rest in
        let k = core_terms out keys locals p in
        let b = core_term out inner locals k.1 in
        (λ i. let k = terms_alike keys locals p i in
        let b = core_term out b' (around locals) k.1 in
        let r = core_arms out r' (around locals) b.1 in ((k.0, b.0) ∷ r.0, r.1))
        ∙ (λ i. let b = term_alike inner locals k.1 i in
        let r = core_arms out r' (around locals) b.1 in ((k.0, b.0) ∷ r.0, r.1))
        ∙ (λ i. let r = arms_alike rest locals b.1 i in ((k.0, b.0) ∷ r.0, r.1))

    items_alike : (is : CoreItems)
        → Alike rename (core_items out (items_renamed rename is)) (core_items out is)
    items_alike no_item locals p = refl
    items_alike (item_and first rest) locals p =
        (λ i. let f = item_alike first locals p i in
        let r = core_items out (items_renamed rename rest) f.0.1 f.1 in (f.0.0 ∷ r.0, r.1))
        ∙ (λ i. let f = core_item out first locals p in
        let r = items_alike rest f.0.1 f.1 i in (f.0.0 ∷ r.0, r.1))

    item_alike : (x : CoreItem) (locals : Locals) (p : Progress)
        → core_item out (item_renamed rename x) (around locals) p
        ≡ (let r = core_item out x locals p in ((r.0.0, around r.0.1), r.1))
    item_alike (run term) locals p =
        λ i. let t = term_alike term locals p i in ((Run t.0, around locals), t.1)
    item_alike (let_values typed rest term) locals p =
        let v' = renamed rename term in
        let names = map (λ (t : Name × CoreType). t.0) typed in
        let rest' = option_map (local_renamed rename) rest in
        let typed' = map (typed_renamed rename) typed in
        let last = p.next + length typed in
        let q = numbered (count rest) (numbered (length typed) p) in
        let behind = bound_some last rest (bound p.next names locals) in
        let many = length_alike (typed_renamed rename) typed in
        let few = count_alike (local_renamed rename) rest in
        (λ i. let_with (number_of rest' (p.next + many i)) v'
        (bound_some (p.next + many i) rest'
        (bound p.next (typed_names_alike rename typed i) (around locals))) (around locals)
        (read_numbered out typed' p.next (around locals) (numbered (few i) (numbered (many i) p))))
        ∙ (λ i. let_with (number_alike (local_renamed rename) rest last i) v'
        (bound_some last rest' (bound_alike rename names p.next locals i)) (around locals)
        (numbered_alike out rename types typed p.next locals q i))
        ∙ (λ i. let_with (number_of rest last) v'
        (some_alike rename rest last (bound p.next names locals) i) (around locals)
        (read_numbered out typed p.next locals q))
        ∙ (λ i. let t = read_numbered out typed p.next locals q in
        let v = term_alike term locals t.1 i in
        ((Let t.0 (number_of rest last) v.0, around behind), v.1))
    item_alike (let_methods methods) locals p =
        let ms' = methods_renamed rename methods in
        let group = methods_bound methods p.next locals in
        let q = numbered (method_count methods) p in
        (λ i. let group = methods_bound_alike rename methods p.next locals i in
        let m = core_methods out ms' p.next group
        (numbered (method_count_alike rename methods i) p) in
        ((LetMethods m.0, group), m.1))
        ∙ (λ i. let m = methods_alike methods p.next group q i in
        ((LetMethods m.0, around group), m.1))
    item_alike (handler condition function) locals p =
        (λ i. let c = type_alike out rename types condition locals p i in
        let f = core_term out (renamed rename function) (around locals) c.1 in
        ((Handler c.0 f.0, around locals), f.1))
        ∙ (λ i. let c = read_type out condition locals p in
        let f = term_alike function locals c.1 i in ((Handler c.0 f.0, around locals), f.1))

    methods_alike : (ms : CoreMethods) (n : ℕ)
        → Alike rename (core_methods out (methods_renamed rename ms) n) (core_methods out ms n)
    methods_alike no_method n locals p = refl
    methods_alike (method_and token first rest) n locals p =
        (λ i. let f = lambda_alike first stands.NoMethod locals p i in
        let r = core_methods out (methods_renamed rename rest) (n + 1) (around locals) f.1 in
        ((n, f.0) ∷ r.0, r.1))
        ∙ (λ i. let f = core_lambda out first stands.NoMethod locals p in
        let r = methods_alike rest (n + 1) locals f.1 i in ((n, f.0) ∷ r.0, r.1))

    lambda_alike : (l : CoreLambda) (d : Denotation)
        → Alike rename (core_lambda out (lambda_renamed rename l) d) (core_lambda out l d)
    lambda_alike (lambda params defaults inner results) d locals p =
        let params' = params_renamed rename params in
        let ds' = cores_renamed rename defaults in
        let b' = renamed rename inner in
        let many = length_alike (variable_renamed rename) params.required in
        let few = count_alike (token_renamed rename) params.rest in
        let keys = key_types out locals (key_list params.keys) in
        let keys' = map (key_other out rename types) keys in
        let rest = p.next + length params.required in
        let own = numbered (length keys)
        (numbered (count params.rest) (numbered (length params.required) p)) in
        let declared = map (λ (r : Token × CoreType). r.1) params.required in
        let t = read_types out declared locals own in
        let start = rest + count params.rest in
        let within = params_bound params d p.next rest locals in
        let r' = read_results out (results_renamed rename results) (around locals) none in
        (λ i. let keys = some_keys_alike out rename types params.keys locals i in
        let own = numbered (length keys) (numbered (few i) (numbered (many i) p)) in
        let t = read_types out (required_alike rename params.required i) (around locals) own in
        lambda_with ds' b' d p.next keys (p.next + many i + few i)
        (params_bound params' d p.next (p.next + many i) (around locals))
        (shape_of params' t.0, t.1) r')
        ∙ (λ i. let own = numbered (length_alike (key_other out rename types) keys i)
        (numbered (count params.rest) (numbered (length params.required) p)) in
        let t = read_types out (map (type_renamed rename) declared) (around locals) own in
        lambda_with ds' b' d p.next keys' start (params_alike rename params d p.next rest locals i)
        (shape_of params' t.0, t.1) r')
        ∙ (λ i. let t = types_alike out rename types declared locals own i in
        lambda_with ds' b' d p.next keys' start (around within) (shape_of params' t.0, t.1)
        (results_alike out rename types results locals none i))
        ∙ (λ i. lambda_with ds' b' d p.next keys' start (around within)
        (shape_alike rename params t.0 i, t.1) (read_results out results locals none))
        ∙ lambda_with_alike defaults inner d p.next keys start within (shape_of params t.0, t.1)
        (read_results out results locals none)
        (λ ls q. defaults_alike defaults keys start ls q) (λ ls q. term_alike inner ls q)

    defaults_alike : (ds : Cores) (keys : List (Token × Result DyType Fault)) (n : ℕ)
        (locals : Locals) (p : Progress)
        → core_defaults out (cores_renamed rename ds) (map (key_other out rename types) keys) n
        (around locals) p
        ≡ (let r = core_defaults out ds keys n locals p in ((r.0.0, around r.0.1), r.1))
    defaults_alike no_core keys n locals p = refl
    defaults_alike (core_and default rest) [] n locals p = refl
    defaults_alike (core_and default rest) (key ∷ keys) n locals p =
        let q = told_of key.1 p in
        let d = core_term out default locals q in
        (λ i. let d = term_alike default locals q i in
        let r = core_defaults out (cores_renamed rename rest)
        (map (key_other out rename types) keys) (n + 1)
        ((Named (token_renamed rename key.0), stands.Local n) ∷ around locals) d.1 in
        (((type_or key.1, d.0) ∷ r.0.0, r.0.1), r.1))
        ∙ (λ i. let r = defaults_alike rest keys (n + 1)
        ((Named key.0, stands.Local n) ∷ locals) d.1 i in
        (((type_or key.1, d.0) ∷ r.0.0, r.0.1), r.1))

    firsts_alike : (cs : CoreClauses) (locals : Locals) (n : ℕ)
        → core_firsts out (clauses_renamed rename cs) (around locals) n
        ≡ core_firsts out cs locals n
    firsts_alike no_clause locals n = refl
    firsts_alike (clause_and first rest) locals n =
        (λ i. let f = first_alike first locals (fresh n) i in
        let r = core_firsts out (clauses_renamed rename rest) (around locals) f.1.next in (
          record {
            declared = f.0.declared;
            first = f.0.first;
            limit = f.0.limit;
            step = f.0.step;
            fault = f.1.first;
          } ∷ r.0,
          r.1,
        ))
        ∙ (λ i. let f = core_first out first locals (fresh n) in
        let r = firsts_alike rest locals f.1.next i in (
          record {
            declared = f.0.declared;
            first = f.0.first;
            limit = f.0.limit;
            step = f.0.step;
            fault = f.1.first;
          } ∷ r.0,
          r.1,
        ))

    first_alike : (c : CoreClause)
        → Alike rename (core_first out (clause_renamed rename c)) (core_first out c)
    first_alike (then_clause variable declared first next) locals p =
        (λ i. let t = type_alike out rename types declared locals p i in
        let f = core_term out (renamed rename first) (around locals) t.1 in
        (record { declared = t.0; first = f.0; limit = None; step = None; fault = None }, f.1))
        ∙ (λ i. let t = read_type out declared locals p in
        let f = term_alike first locals t.1 i in
        (record { declared = t.0; first = f.0; limit = None; step = None; fault = None }, f.1))
    first_alike (in_clause variable declared collection) locals p =
        (λ i. let t = type_alike out rename types declared locals p i in
        let f = core_term out (renamed rename collection) (around locals) t.1 in
        (record { declared = t.0; first = f.0; limit = None; step = None; fault = None }, f.1))
        ∙ (λ i. let t = read_type out declared locals p in
        let f = term_alike collection locals t.1 i in
        (record { declared = t.0; first = f.0; limit = None; step = None; fault = None }, f.1))
    first_alike (from_clause variable declared start limit step) locals p =
        let s' = renamed rename start in
        let l' = limit_renamed rename limit in
        let e' = maybe_renamed rename step in
        let t = read_type out declared locals p in
        let f = core_term out start locals t.1 in
        let l = core_limit out limit locals f.1 in
        (λ i. let t = type_alike out rename types declared locals p i in
        let f = core_term out s' (around locals) t.1 in
        let l = core_limit out l' (around locals) f.1 in
        let s = core_maybe out e' (around locals) l.1 in
        (record { declared = t.0; first = f.0; limit = l.0; step = s.0; fault = None }, s.1))
        ∙ (λ i. let f = term_alike start locals t.1 i in
        let l = core_limit out l' (around locals) f.1 in
        let s = core_maybe out e' (around locals) l.1 in
        (record { declared = t.0; first = f.0; limit = l.0; step = s.0; fault = None }, s.1))
        ∙ (λ i. let l = limit_alike limit locals f.1 i in
        let s = core_maybe out e' (around locals) l.1 in
        (record { declared = t.0; first = f.0; limit = l.0; step = s.0; fault = None }, s.1))
        ∙ (λ i. let s = maybe_alike step locals l.1 i in
        (record { declared = t.0; first = f.0; limit = l.0; step = s.0; fault = None }, s.1))

    limit_alike : (l : CoreLimit)
        → Alike rename (core_limit out (limit_renamed rename l)) (core_limit out l)
    limit_alike no_limit locals p = refl
    limit_alike (a_limit limit inner) locals p =
        λ i. let t = term_alike inner locals p i in (Some (limit, t.0), t.1)

    clauses_alike : (cs : CoreClauses) (fs : List Apart) (n : ℕ)
        → Alike rename (core_clauses out (clauses_renamed rename cs) fs n)
        (core_clauses out cs fs n)
    clauses_alike no_clause fs n locals p = refl
    clauses_alike (clause_and first rest) [] n locals p = refl
    clauses_alike (clause_and first rest) (f ∷ fs) n locals p =
        (λ i. let c = clause_alike first f n locals p i in
        let r = core_clauses out (clauses_renamed rename rest) fs (n + 1) (around locals) c.1 in
        (c.0 ∷ r.0, r.1))
        ∙ (λ i. let c = core_clause out first f n locals p in
        let r = clauses_alike rest fs (n + 1) locals c.1 i in (c.0 ∷ r.0, r.1))

    clause_alike : (c : CoreClause) (f : Apart) (n : ℕ)
        → Alike rename (core_clause out (clause_renamed rename c) f n) (core_clause out c f n)
    clause_alike (then_clause variable declared first next) f n locals p =
        λ i. let t = term_alike next locals (told_some f.fault p) i in
        (Then n f.declared f.first t.0, t.1)
    clause_alike (in_clause variable declared collection) f n locals p = refl
    clause_alike (from_clause variable declared start limit step) f n locals p = refl

    test_alike : (t : CoreTest)
        → Alike rename (core_test out (test_renamed rename t)) (core_test out t)
    test_alike no_test locals p = refl
    test_alike (a_test ends test) locals p =
        λ i. let t = term_alike test locals p i in (Some (ends, t.0), t.1)

    catches_alike : (cs : CoreCatches) (n : ℕ)
        → Alike rename (core_catches out (catches_renamed rename cs) n) (core_catches out cs n)
    catches_alike no_catch n locals p = refl
    catches_alike (catch_and variable condition inner rest) n locals p =
        let v' = option_map (token_renamed rename) variable in
        let b' = renamed rename inner in
        let r' = catches_renamed rename rest in
        let few = count_alike (token_renamed rename) variable in
        let number = number_alike (token_renamed rename) variable n in
        let within = bound_some n (option_map Named variable) locals in
        let c = read_type out condition locals p in
        let b = core_term out inner within c.1 in
        (λ i. let c = type_alike out rename types condition locals p i in
        let b = core_term out b' (named_some_alike rename variable n locals i) c.1 in
        let r = core_catches out r' (n + few i) (around locals) b.1 in
        ((number i, c.0, b.0) ∷ r.0, r.1))
        ∙ (λ i. let b = term_alike inner within c.1 i in
        let r = core_catches out r' (n + count variable) (around locals) b.1 in
        ((number_of variable n, c.0, b.0) ∷ r.0, r.1))
        ∙ (λ i. let r = catches_alike rest (n + count variable) locals b.1 i in
        ((number_of variable n, c.0, b.0) ∷ r.0, r.1))

  pub read_alike : (d : Core) → Alike rename (core_term out (renamed rename d)) (core_term out d)
  read_alike = term_alike

  pub lambda_read_alike : (l : CoreLambda) (d : Denotation)
      → Alike rename (core_lambda out (lambda_renamed rename l) d) (core_lambda out l d)
  lambda_read_alike = lambda_alike

pub terms_are_alike : (out : Outside) (rename : ℕ → ℕ) → TermsAlike out rename
terms_are_alike out rename apart owners types draft =
    read_alike out rename apart owners types draft [] none

pub lambdas_are_alike : (out : Outside) (rename : ℕ → ℕ) → LambdasAlike out rename
lambdas_are_alike out rename apart owners types draft next d =
    (λ i. core_lambda out (lambda_renamed rename draft) d (standing_alike rename d next [] i) none)
    ∙ lambda_read_alike out rename apart owners types draft d (standing d next []) none
