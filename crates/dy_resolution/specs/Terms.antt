-- Drafts as terms: what each name means, the numbers of locals, and what is wrong (DRM 4 and 7).
-- The locals of a construct take the next numbers, in the order of the text, and then its parts
-- take theirs.
use Rattle.std.specs.Prelude.{ℕ, ◌+◌, Bool, List, [], ◌∷◌, length, map, Option, Some, None, Result}
use Rattle.std.specs.Option.{option_map}
use Rattle.dy_base.specs.declared.fault.Fault.{Fault}
use Rattle.dy_tree.specs.declared.token.Token.{Token}
use Rattle.dy_term.specs.declared.draft.Local.TheVariants.{Named, Hidden}
use Rattle.dy_term.specs.declared.types.DyType.{DyType}
use Rattle.dy_term.specs.declared.term.Term.{Term, Lit, Cond, And, Or, Select, Body, Loop, For}
use Rattle.dy_term.specs.declared.term.Term.{Method, Block, Op}
use Rattle.dy_term.specs.declared.term.Item.{Item, Run, Let, LetMethods, Handler}
use Rattle.dy_term.specs.declared.term.ForClause.{ForClause, Then, In, From}
use Rattle.dy_term.specs.declared.term.ForRow.{roll-ForRow}
use Rattle.dy_term.specs.declared.term.BlockRow.{roll-BlockRow}
use Rattle.dy_term.specs.declared.term.Lambda.{Lambda, roll-Lambda}
use Rattle.dy_term.specs.declared.term.Limit.{Limit}
use Rattle.dy_term.specs.Drafts.{Core, literal, name, hidden, set, no_place, call, values, cond}
use Rattle.dy_term.specs.Drafts.{and, or, select, body, loop, for, method, block, Cores, no_core}
use Rattle.dy_term.specs.Drafts.{core_and, MaybeCore, nothing, just, Choice, otherwise, branch}
use Rattle.dy_term.specs.Drafts.{CoreArms, no_arm, arm_and, CoreItems, no_item, item_and, CoreItem}
use Rattle.dy_term.specs.Drafts.{run, let_values, let_methods, handler, CoreMethods, no_method}
use Rattle.dy_term.specs.Drafts.{method_and, CoreLambda, lambda, CoreClauses, no_clause, clause_and}
use Rattle.dy_term.specs.Drafts.{CoreClause, then_clause, in_clause, from_clause, CoreLimit}
use Rattle.dy_term.specs.Drafts.{no_limit, a_limit, CoreTest, no_test, a_test, CoreCatches}
use Rattle.dy_term.specs.Drafts.{no_catch, catch_and}
use Rattle.dy_base.specs.declared.kind.Kind.TheVariants.{NotAssignable}
use Rattle.dy_names.specs.declared.denotation.Denotation.{Denotation}
use Rattle.dy_names.specs.declared.denotation.Denotation.TheVariants.{Local, NoMethod}
use Rattle.dy_names.specs.Naming.{Locals, innermost, means}
use Rattle.dy_names.specs.Outside.{Outside}
use Rattle.dy_binding.specs.declared.progress.Progress.{Progress}
use Rattle.dy_binding.specs.declared.progress.Apart.{Apart}
use Rattle.dy_binding.specs.Faults.{fault_at}
use Rattle.dy_binding.specs.Reads.{Reads, none, numbered, told, told_some}
use Rattle.dy_binding.specs.Bound.{bound, bound_some, params_bound, count, number_of, methods_bound}
use Rattle.dy_binding.specs.Bound.{method_count, clause_count, variables_bound, kept_bound}
use Rattle.dy_binding.specs.Bound.{catches_numbered}
use Rattle.dy_binding.specs.Names.{is_next, named, placed, assigned, hidden_term, head_of, called}
use Rattle.dy_binding.specs.Types.{type_or, told_of, read_type, read_types, read_numbered}
use Rattle.dy_binding.specs.Types.{read_results, key_types, key_list, shape_of}

-- the number of the built-in function `values`
abbrev pub values_operation : ℕ
values_operation = 61

-- the number that the first expressions of a `for` begin with
abbrev pub fresh : ℕ → Progress
fresh n = record { next = n; first = None }

module _ (out : Outside) where
  abbrev mutual
    pub core_term : Core → Reads Term
    core_term (literal value) locals p = (Lit value, p)
    core_term (name token) locals p = named token (means out.owner locals token) p
    core_term (hidden number) locals p = (hidden_term (innermost locals (Hidden number)), p)
    core_term (set token value) locals p =
        let meaning = means out.owner locals token in
        let v = core_term value locals (placed token meaning p) in
        (assigned meaning v.0, v.1)
    core_term (no_place token place value) locals p =
        let l = core_term place locals (told (fault_at NotAssignable token []) p) in
        let v = core_term value locals l.1 in
        (And l.0 v.0, v.1)
    core_term (call function arguments) locals p =
        called (head_of out function locals) (core_term function) (core_terms arguments) locals p
    core_term (values terms) locals p =
        let t = core_terms terms locals p in
        (Op values_operation t.0, t.1)
    core_term (cond choice) locals p =
        let c = core_choice choice locals p in
        (Cond c.0.0 c.0.1, c.1)
    core_term (and left right) locals p =
        let l = core_term left locals p in
        let r = core_term right locals l.1 in
        (And l.0 r.0, r.1)
    core_term (or left right) locals p =
        let l = core_term left locals p in
        let r = core_term right locals l.1 in
        (Or l.0 r.0, r.1)
    core_term (select value test arms last) locals p =
        let v = core_term value locals p in
        let t = core_maybe test locals v.1 in
        let a = core_arms arms locals t.1 in
        let l = core_maybe last locals a.1 in
        (Select v.0 t.0 a.0 l.0, l.1)
    core_term (body items) locals p =
        let i = core_items items locals p in
        (Body i.0, i.1)
    core_term (loop test inner) locals p =
        let t = core_term test locals p in
        let b = core_term inner locals t.1 in
        (Loop t.0 b.0, b.1)
    -- the first expressions see none of the variables, and the result sees all but the walked ones
    core_term (for clauses test inner finally) locals p =
        let f = core_firsts clauses locals (p.next + clause_count clauses) in
        let within = variables_bound clauses p.next locals in
        let c = core_clauses clauses f.0 p.next within (record p { next = f.1 }) in
        let t = core_test test within c.1 in
        let b = core_term inner within t.1 in
        let e = core_maybe finally (kept_bound clauses p.next locals) b.1 in
        (For (roll-ForRow (record { clauses = c.0; test = t.0; body = b.0; finally = e.0 })), e.1)
    core_term (method row) locals p =
        let l = core_lambda row NoMethod locals p in
        (Method l.0, l.1)
    -- the exit procedure is in force in the body and in all clauses
    core_term (block exit inner afterwards cleanup clauses) locals p =
        let within = bound_some p.next (option_map Named exit) locals in
        let first = p.next + count exit in
        let b = core_term inner within (catches_numbered clauses (numbered (count exit) p)) in
        let a = core_maybe afterwards within b.1 in
        let c = core_maybe cleanup within a.1 in
        let e = core_catches clauses first within c.1 in (
          Block (roll-BlockRow (record {
            exit = number_of exit p.next;
            body = b.0;
            afterwards = a.0;
            cleanup = c.0;
            clauses = e.0;
          })),
          e.1,
        )

    pub core_terms : Cores → Reads (List Term)
    core_terms no_core locals p = ([], p)
    core_terms (core_and first rest) locals p =
        let f = core_term first locals p in
        let r = core_terms rest locals f.1 in
        (f.0 ∷ r.0, r.1)

    pub core_maybe : MaybeCore → Reads (Option Term)
    core_maybe nothing locals p = (None, p)
    core_maybe (just term) locals p =
        let t = core_term term locals p in
        (Some t.0, t.1)

    pub core_choice : Choice → Reads (List (Term × Term) × Term)
    core_choice (otherwise term) locals p =
        let t = core_term term locals p in
        (([], t.0), t.1)
    core_choice (branch test term others) locals p =
        let s = core_term test locals p in
        let t = core_term term locals s.1 in
        let r = core_choice others locals t.1 in
        (((s.0, t.0) ∷ r.0.0, r.0.1), r.1)

    pub core_arms : CoreArms → Reads (List (List Term × Term))
    core_arms no_arm locals p = ([], p)
    core_arms (arm_and keys inner rest) locals p =
        let k = core_terms keys locals p in
        let b = core_term inner locals k.1 in
        let r = core_arms rest locals b.1 in
        ((k.0, b.0) ∷ r.0, r.1)

    pub core_items : CoreItems → Reads (List Item)
    core_items no_item locals p = ([], p)
    core_items (item_and first rest) locals p =
        let f = core_item first locals p in
        let r = core_items rest f.0.1 f.1 in
        (f.0.0 ∷ r.0, r.1)

    -- an item, and the locals in force behind it
    pub core_item : CoreItem → Reads (Item × Locals)
    core_item (run term) locals p =
        let t = core_term term locals p in
        ((Run t.0, locals), t.1)
    core_item (let_values typed rest term) locals p =
        let last = p.next + length typed in
        let t = read_numbered out typed p.next locals
        (numbered (count rest) (numbered (length typed) p)) in
        let v = core_term term locals t.1 in (
          (
            Let t.0 (number_of rest last) v.0,
            bound_some last rest
                (bound p.next (map (λ t. t.0) typed) locals),
          ),
          v.1,
        )
    core_item (let_methods methods) locals p =
        let group = methods_bound methods p.next locals in
        let m = core_methods methods p.next group (numbered (method_count methods) p) in
        ((LetMethods m.0, group), m.1)
    core_item (handler condition function) locals p =
        let c = read_type out condition locals p in
        let f = core_term function locals c.1 in
        ((Handler c.0 f.0, locals), f.1)

    pub core_methods : CoreMethods → ℕ → Reads (List (ℕ × Lambda))
    core_methods no_method n locals p = ([], p)
    core_methods (method_and token first rest) n locals p =
        let f = core_lambda first NoMethod locals p in
        let r = core_methods rest (n + 1) locals f.1 in
        ((n, f.0) ∷ r.0, r.1)

    -- A body with parameters. Types see none of them, and the default of a keyword sees those
    -- before it.
    pub core_lambda : CoreLambda → Denotation → Reads Lambda
    core_lambda (lambda params defaults inner results) denotation locals p =
        let keys = key_types out locals (key_list params.keys) in
        let rest = p.next + length params.required in
        let own = numbered (length keys)
        (numbered (count params.rest) (numbered (length params.required) p)) in
        let t = read_types out (map (λ r. r.1) params.required) locals own in
        let r = read_results out results locals none in
        let k = core_defaults defaults keys (rest + count params.rest)
        (params_bound params denotation p.next rest locals) t.1 in
        let b = core_term inner k.0.1 (told_some r.1.first k.1) in (
          roll-Lambda (record {
            params = shape_of params t.0;
            keywords = k.0.0;
            next = is_next denotation;
            first = p.next;
            locals = b.1.next;
            body = b.0;
            results = r.0;
          }),
          b.1,
        )

    -- keyword parameters with their defaults, and the locals in force behind them
    pub core_defaults : Cores → List (Token × Result DyType Fault) → ℕ
        → Reads (List (DyType × Term) × Locals)
    core_defaults no_core keys n locals p = (([], locals), p)
    core_defaults (core_and default rest) [] n locals p = (([], locals), p)
    core_defaults (core_and default rest) (key ∷ keys) n locals p =
        let d = core_term default locals (told_of key.1 p) in
        let r = core_defaults rest keys (n + 1) ((Named key.0, Local n) ∷ locals) d.1 in
        (((type_or key.1, d.0) ∷ r.0.0, r.0.1), r.1)

    -- the first expressions of clauses, each with its own fault, and the number that comes next
    pub core_firsts : CoreClauses → Locals → ℕ → List Apart × ℕ
    core_firsts no_clause locals n = ([], n)
    core_firsts (clause_and first rest) locals n =
        let f = core_first first locals (fresh n) in
        let r = core_firsts rest locals f.1.next in (
          record {
            declared = f.0.declared;
            first = f.0.first;
            limit = f.0.limit;
            step = f.0.step;
            fault = f.1.first;
          } ∷ r.0,
          r.1,
        )

    pub core_first : CoreClause → Reads Apart
    core_first (then_clause variable declared first next) locals p =
        let t = read_type out declared locals p in
        let f = core_term first locals t.1 in
        (record { declared = t.0; first = f.0; limit = None; step = None; fault = None }, f.1)
    core_first (in_clause variable declared collection) locals p =
        let t = read_type out declared locals p in
        let f = core_term collection locals t.1 in
        (record { declared = t.0; first = f.0; limit = None; step = None; fault = None }, f.1)
    core_first (from_clause variable declared start limit step) locals p =
        let t = read_type out declared locals p in
        let f = core_term start locals t.1 in
        let l = core_limit limit locals f.1 in
        let s = core_maybe step locals l.1 in
        (record { declared = t.0; first = f.0; limit = l.0; step = s.0; fault = None }, s.1)

    pub core_limit : CoreLimit → Reads (Option (Limit × Term))
    core_limit no_limit locals p = (None, p)
    core_limit (a_limit limit inner) locals p =
        let t = core_term inner locals p in
        (Some (limit, t.0), t.1)

    -- clauses whose first expressions were read: the faults of these stand before those of the
    -- others
    pub core_clauses : CoreClauses → List Apart → ℕ → Reads (List ForClause)
    core_clauses no_clause firsts n locals p = ([], p)
    core_clauses (clause_and clause rest) [] n locals p = ([], p)
    core_clauses (clause_and clause rest) (first ∷ firsts) n locals p =
        let c = core_clause clause first n locals p in
        let r = core_clauses rest firsts (n + 1) locals c.1 in
        (c.0 ∷ r.0, r.1)

    pub core_clause : CoreClause → Apart → ℕ → Reads ForClause
    core_clause (then_clause variable declared first next) read n locals p =
        let t = core_term next locals (told_some read.fault p) in
        (Then n read.declared read.first t.0, t.1)
    core_clause (in_clause variable declared collection) read n locals p =
        (In n read.declared read.first, told_some read.fault p)
    core_clause (from_clause variable declared start limit step) read n locals p =
        (From n read.declared read.first read.limit read.step, told_some read.fault p)

    pub core_test : CoreTest → Reads (Option (Bool × Term))
    core_test no_test locals p = (None, p)
    core_test (a_test ends test) locals p =
        let t = core_term test locals p in
        (Some (ends, t.0), t.1)

    -- `exception` clauses, whose variables have the numbers from one on
    pub core_catches : CoreCatches → ℕ → Reads (List (Option ℕ × DyType × Term))
    core_catches no_catch n locals p = ([], p)
    core_catches (catch_and variable condition inner rest) n locals p =
        let c = read_type out condition locals p in
        let b = core_term inner (bound_some n (option_map Named variable) locals) c.1 in
        let r = core_catches rest (n + count variable) locals b.1 in
        ((number_of variable n, c.0, b.0) ∷ r.0, r.1)
