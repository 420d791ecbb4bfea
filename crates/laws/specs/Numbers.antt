-- Cases on numbers, and an entry of a list after a store.
use Rattle.std.specs.Prelude.{◌≡◌, ◌⊎◌, List, ℕ, ◌≤◌, ◌<◌, length, get_or, set}
use Rattle.std.proofs.Common.{ap, ◌∙◌, inl, inr, ⊎_elim, arith, get_or-set_same, get_or-set_other}
use Rattle.std.proofs.Math.Decide.{ℕ_discrete, dec_lt}

dec_or : {A : Type 0} → Dec A → A ⊎ (A → ⊥)
dec_or (yes a) = inl a
dec_or (no f) = inr f

-- equal or not
pub eq_or : (i j : ℕ) → (i ≡ j) ⊎ (i ≡ j → ⊥)
eq_or i j = dec_or (ℕ_discrete i j)

-- below or not
pub lt_or : (i j : ℕ) → (i < j) ⊎ (j ≤ i)
lt_or i j = ⊎_elim (λ h. inl h) (λ f. inr (omega (arith, f))) (dec_or (dec_lt i j))

-- entry j after a store at i: what was stored, or what was there
pub set_cases : (l : List ℕ) (i a j d : ℕ) → i < length l → ((j ≡ i) × (get_or (set l i a) j d ≡ a)) ⊎ ((j ≡ i → ⊥) × (get_or (set l i a) j d ≡ get_or l j d))
set_cases l i a j d h =
    ⊎_elim
    (λ e. inl (e, ap (λ (x : ℕ). get_or (set l i a) x d) e ∙ get_or-set_same l i a d h))
    (λ f. inr (f, get_or-set_other l i j a d f))
    (eq_or j i)
