-- Chains of uses.
use Rattle.std.proofs.Common.{◌≡◌, ◌⊎◌, inl, inr, ℕ, ◌<◌, List, length, refl, sym, subst}
use Rattle.dy_rings.specs.Rings.{Uses, Leads, straight, further}

-- a chain of no use or more
abbrev pub Comes : List (List ℕ) → ℕ → ℕ → Type 0
Comes uses i j = (i ≡ j) ⊎ Leads uses i j

module _ (uses : List (List ℕ)) where
  pub leads_on : (i j k : ℕ) → Leads uses i j → Leads uses j k → Leads uses i k
  leads_on _ _ k (straight i j u) more = further i j k u more
  leads_on _ _ k (further i m j u rest) more = further i m k u (leads_on m j k rest more)

  pub comes_leads : (i j k : ℕ) → Comes uses i j → Leads uses j k → Leads uses i k
  comes_leads i j k (inl e) more = subst (λ (x : ℕ). Leads uses x k) (sym e) more
  comes_leads i j k (inr way) more = leads_on i j k way more

  pub leads_comes : (i j k : ℕ) → Leads uses i j → Comes uses j k → Leads uses i k
  leads_comes i j k way (inl e) = subst (λ (x : ℕ). Leads uses i x) e way
  leads_comes i j k way (inr more) = leads_on i j k way more

  -- by a use between two chains
  pub by_use : (i u y j : ℕ) → Comes uses i u → Uses uses u y → Comes uses y j → Leads uses i j
  by_use i u y j a used b = leads_comes i y j (comes_leads i u y a (straight u y used)) b

  -- a node that leads to one on a ring, and back, is on it
  pub on_same_ring : (i j : ℕ) → Comes uses i j → Leads uses j j → Comes uses j i → Leads uses i i
  on_same_ring i j a ring b = leads_comes i j i (comes_leads i j j a ring) b

  pub leads_from : (i j : ℕ) → Leads uses i j → i < length uses
  leads_from _ _ (straight i j u) = u.user
  leads_from _ _ (further i m j u rest) = u.user

  -- what a chain begins with
  pub leads_first : (i j : ℕ) → Leads uses i j → (k : ℕ) × Uses uses i k × Comes uses k j
  leads_first _ _ (straight i j u) = (j, u, inl refl)
  leads_first _ _ (further i m j u rest) = (m, u, inr rest)
