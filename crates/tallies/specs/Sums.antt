-- Sums and small tools: what changes where one term changes.
use Rattle.std.specs.Prelude.{◌≡◌, refl, Bool, true, false, List, [], ◌∷◌, ℕ, zero, suc, ◌+◌, ◌≤◌, ◌<◌, get_or, length}
use Rattle.std.proofs.Common.{ap, ap₂, ⊎_elim, zero-le, le_refl, not-suc-le-zero, le_of_suc-le-suc, arith}
use Rattle.rules.specs.Below.{sum}
use Rattle.rules.specs.Tests.{only_if}
use Rattle.laws.specs.Below.{sum_change}
use Rattle.laws.specs.Counts.{sum-most}
use Rattle.laws.specs.Numbers.{eq_or}

pub get_or_any : (l : List ℕ) (i d e : ℕ) → i < length l → get_or l i d ≡ get_or l i e
get_or_any [] i d e h = absurd (not-suc-le-zero h)
get_or_any (x ∷ l) zero d e h = refl
get_or_any (x ∷ l) (suc i) d e h = get_or_any l i d e (le_of_suc-le-suc h)

pub sum_cong : (f g : ℕ → ℕ) (k : ℕ) → ((p : ℕ) → p < k → f p ≡ g p) → sum f k ≡ sum g k
unfolding sum
sum_cong f g zero h = refl
sum_cong f g (suc k) h = ap₂ (λ (x y : ℕ). x + y) (sum_cong f g k (λ p l. h p (omega arith))) (h k (le_refl (suc k)))

-- two sums added, term by term
pub sum_joined : (f g h : ℕ → ℕ) (k : ℕ) → ((p : ℕ) → p < k → f p ≡ g p + h p) → sum f k ≡ sum g k + sum h k
unfolding sum
sum_joined f g h zero e = refl
sum_joined f g h (suc k) e = omega (arith, sum_joined f g h k (λ p l. e p (omega arith)), e k (le_refl (suc k)))

-- all terms 0
pub sum-zero : (f : ℕ → ℕ) (k : ℕ) → ((p : ℕ) → p < k → f p ≡ 0) → sum f k ≡ 0
unfolding sum
sum-zero f zero h = refl
sum-zero f (suc k) h = omega (arith, sum-zero f k (λ p l. h p (omega arith)), h k (le_refl (suc k)))

-- all but one
pub sum_one : (f : ℕ → ℕ) (k p : ℕ) → p < k → ((q : ℕ) → q < k → (q ≡ p → ⊥) → f q ≡ 0) → sum f k ≡ f p
sum_one f k p h z = omega (arith, sum_change f (λ _. 0) k p h (λ q l d. z q l d), sum-zero (λ _. 0) k (λ _ _. refl))

-- at most 1 each, and one of them 0: less than k
pub sum_room : (f : ℕ → ℕ) (k q : ℕ) → q < k → ((p : ℕ) → p < k → f p ≤ 1) → f q ≡ 0 → sum f k < k
unfolding sum
sum_room f zero q l h e = absurd (not-suc-le-zero l)
sum_room f (suc k) q l h e =
    ⊎_elim
    (λ x. omega (arith, ap f x, sum-most f 1 k (λ p l. h p (omega arith))))
    (λ x. omega (arith, sum_room f k q (omega arith) (λ p l. h p (omega arith)) e, h k (le_refl (suc k))))
    (eq_or k q)

pub only_if-true : (c : Bool) (x : ℕ) → c ≡ true → only_if c x ≡ x
only_if-true c x e = ap (λ (b : Bool). only_if b x) e

pub only_if-false : (c : Bool) (x : ℕ) → c ≡ false → only_if c x ≡ 0
only_if-false c x e = ap (λ (b : Bool). only_if b x) e

pub only_if_pos : (c : Bool) (x : ℕ) → 0 < only_if c x → (c ≡ true) × (0 < x)
only_if_pos true x h = (refl, h)
only_if_pos false x h = absurd (not-suc-le-zero h)

pub only_if-most : (c : Bool) (x m : ℕ) → x ≤ m → only_if c x ≤ m
only_if-most true x m h = h
only_if-most false x m h = zero-le
