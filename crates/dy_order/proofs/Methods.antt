-- The methods of a program, each once.
use Rattle.std.proofs.Common.{◌≡◌, ℕ, zero, suc, ◌<◌, [], ◌∷◌, length, inl, inr, ap, arith}
use Rattle.dy_base.specs.declared.ids.MethodId.{MethodId}
use Rattle.dy_term.specs.declared.rows.Program.{Program}
use Rattle.dy_classes.specs.Lists.{In, Once}
use Rattle.dy_order.specs.Methods.{methods_in, counted, method_id, methods_upto, methods_below, methods_of}
use Rattle.dy_order.proofs.Lists.{in_either, only_in, append_once}

upto_row : (library count : ℕ) (m : MethodId) → In m (methods_upto library count) → (m.0.library ≡ library) × (m.0.row < count)
upto_row library zero m i = elim i [ ]
upto_row library (suc row) m i =
    elim (in_either (methods_upto library row) (method_id library row ∷ []) m i) [
      | inl j ↦ (let (e, h) = upto_row library row m j in (e, omega (arith, h)))
      | inr j ↦ (let e = only_in m (method_id library row) j in
          let r : m.0.row ≡ row = ap (λ (v : MethodId). v.0.row) e in
          (ap (λ (v : MethodId). v.0.library) e, omega (arith, r)))
    ]

upto_once : (library count : ℕ) → Once (methods_upto library count)
upto_once library zero = tt
upto_once library (suc row) =
    append_once (methods_upto library row) (method_id library row ∷ []) (upto_once library row) (λ i. elim i [ ], tt)
    (λ x i j. (let (e, h) = upto_row library row x i in
    let r : x.0.row ≡ row = ap (λ (v : MethodId). v.0.row) (only_in x (method_id library row) j) in
    omega (arith, h, r)))

module _ (program : Program) where
  below_library : (libraries : ℕ) (m : MethodId) → In m (methods_below program libraries) → m.0.library < libraries
  below_library zero m i = elim i [ ]
  below_library (suc library) m i =
      elim (in_either (methods_below program library) (methods_upto library (counted (length (methods_in program library)))) m i) [
        | inl j ↦ (let h = below_library library m j in omega (arith, h))
        | inr j ↦ (let (e, h) = upto_row library (counted (length (methods_in program library))) m j in omega (arith, e))
      ]

  below_once : (libraries : ℕ) → Once (methods_below program libraries)
  below_once zero = tt
  below_once (suc library) =
      append_once (methods_below program library) (methods_upto library (counted (length (methods_in program library)))) (below_once library) (upto_once library (counted (length (methods_in program library))))
      (λ x i j. (let h = below_library library x i in
      let (e, l) = upto_row library (counted (length (methods_in program library))) x j in
      omega (arith, h, e)))

  pub methods_once : Once (methods_of program)
  methods_once = below_once (counted (length program.libraries))
