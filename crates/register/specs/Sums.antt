-- Sums over the lines: where one term comes in between, and where only one counts.
use Rattle.std.specs.Prelude.{◌≡◌, refl, ℕ, zero, suc, ◌+◌, ◌≤◌, ◌<◌}
use Rattle.std.proofs.Common.{ap, subst, ⊎_elim, arith, le_refl}
use Rattle.rules.specs.Below.{sum}
use Rattle.laws.specs.Below.{sum-next, sum_cong, sum_change}
use Rattle.laws.specs.Numbers.{lt_or}

pub sum-none : (f : ℕ → ℕ) → sum f 0 ≡ 0
unfolding sum
sum-none f = refl

pub sum-zero : (f : ℕ → ℕ) (k : ℕ) → ((i : ℕ) → i < k → f i ≡ 0) → sum f k ≡ 0
unfolding sum
sum-zero f zero z = refl
sum-zero f (suc k) z = omega (arith, sum-zero f k (λ i h. z i (omega arith)), z k (le_refl (suc k)))

-- only the term at p counts
pub sum_only : (f : ℕ → ℕ) (k p : ℕ) → p < k → ((i : ℕ) → i < k → (i ≡ p → ⊥) → f i ≡ 0) → sum f k ≡ f p
sum_only f k p h z = omega (arith, sum_change f (λ _. 0) k p h (λ i l d. z i l d), sum-zero (λ _. 0) k (λ i l. refl))

-- the terms from m on do not count
pub sum_same : (f : ℕ → ℕ) (m k : ℕ) → m ≤ k → ((i : ℕ) → m ≤ i → i < k → f i ≡ 0) → sum f m ≡ sum f k
unfolding sum
sum_same f m zero h z = let e : m ≡ 0 = omega arith in ap (sum f) e
sum_same f m (suc k) h z =
    ⊎_elim
    (λ g. let e : m ≡ suc k = omega arith in ap (sum f) e)
    (λ g. omega (arith, sum_same f m k g (λ i u w. z i u (omega arith)), z k g (le_refl (suc k))))
    (lt_or k m)

-- a term comes in at p, and those from p on stand one further
pub sum_insert : (f g : ℕ → ℕ) (p d : ℕ) → ((i : ℕ) → i < p → g i ≡ f i) → ((i : ℕ) → p ≤ i → g (i + 1) ≡ f i) → sum g (p + d + 1) ≡ sum f (p + d) + g p
sum_insert f g p zero a b =
    let x : p ≡ p + 0 = omega arith in
    subst (λ (y : ℕ). sum g (y + 1) ≡ sum f y + g p) x (omega (arith, sum-next g p, sum_cong g f p a))
sum_insert f g p (suc d) a b =
    let x : p + d + 1 ≡ p + suc d = omega arith in
    subst (λ (y : ℕ). sum g (y + 1) ≡ sum f y + g p) x (omega (arith, sum_insert f g p d a b, sum-next g (p + d + 1), sum-next f (p + d), b (p + d) (omega arith)))
