-- How many of the first n entries are not 0, and how many places are left: what one store does to either.
use Rattle.std.specs.Prelude.{◌≡◌, refl, List, ℕ, zero, suc, ◌≤◌, ◌<◌}
use Rattle.std.proofs.Common.{sym, ◌∙◌, ap, ⊎_elim, arith}
use Rattle.rules.specs.Lists.{◌!◌}
use Rattle.laws.specs.Numbers.{lt_or}
use Rattle.paths.specs.Search.{sign, count, rest}

pub sign_le : (x : ℕ) → sign x ≤ 1
unfolding sign
sign_le zero = omega arith
sign_le (suc x) = omega arith

pub count_le : (l : List ℕ) (n : ℕ) → count l n ≤ n
unfolding count
count_le l zero = omega arith
count_le l (suc n) = omega (arith, count_le l n, sign_le (l ! n))

-- an entry that is 0 leaves room
pub count_lt : (l : List ℕ) (n y : ℕ) → y < n → l ! y ≡ 0 → count l n < n
unfolding count sign
count_lt l zero y h e = omega arith
count_lt l (suc n) y h e =
    ⊎_elim
    (λ lt. omega (arith, count_lt l n y lt e, sign_le (l ! n)))
    (λ ge.
    let q : n ≡ y = omega arith in
    let z : sign (l ! n) ≡ 0 = ap sign (ap (λ (m : ℕ). l ! m) q ∙ e) in
    omega (arith, z, count_le l n))
    (lt_or y n)

-- where both are 0 or both are not, the counts are the same
pub count_same : (l m : List ℕ) (n : ℕ) → ((i : ℕ) → i < n → sign (l ! i) ≡ sign (m ! i)) → count l n ≡ count m n
unfolding count
count_same l m zero h = refl
count_same l m (suc n) h = omega (arith, h n (omega arith), count_same l m n (λ i lt. h i (omega arith)))

sign_zero : sign 0 ≡ 0
unfolding sign
sign_zero = refl

pub count-more : (l m : List ℕ) (n y : ℕ) → y < n → l ! y ≡ 0 → sign (m ! y) ≡ 1 → ((i : ℕ) → i < n → (i ≡ y → ⊥) → m ! i ≡ l ! i) → count m n ≡ suc (count l n)
unfolding count
count-more l m zero y h e s f = absurd (omega arith)
count-more l m (suc n) y h e s f =
    ⊎_elim
    (λ lt. omega (arith, count-more l m n y lt e s (λ i u v. f i (omega arith) v), ap sign (f n (omega arith) (λ q. omega arith))))
    (λ ge.
    let q : y ≡ n = omega arith in
    let z : sign (l ! n) ≡ 0 = ap sign (ap (λ (m : ℕ). l ! m) (sym q) ∙ e) ∙ sign_zero in
    let o : sign (m ! n) ≡ 1 = ap (λ (i : ℕ). sign (m ! i)) (sym q) ∙ s in
    omega (arith, z, o, count_same m l n (λ i u. ap sign (f i (omega arith) (λ q. omega arith)))))
    (lt_or y n)

pub rest_same : (l m : List ℕ) (n : ℕ) → ((i : ℕ) → i < n → m ! i ≡ l ! i) → rest m n ≡ rest l n
unfolding rest
rest_same l m zero h = refl
rest_same l m (suc n) h = omega (arith, h n (omega arith), rest_same l m n (λ i lt. h i (omega arith)))

pub rest_less : (l m : List ℕ) (n y : ℕ) → y < n → l ! y < 4 → m ! y ≡ suc (l ! y) → ((i : ℕ) → i < n → (i ≡ y → ⊥) → m ! i ≡ l ! i) → suc (rest m n) ≡ rest l n
unfolding rest
rest_less l m zero y h e s f = absurd (omega arith)
rest_less l m (suc n) y h e s f =
    ⊎_elim
    (λ lt. omega (arith, rest_less l m n y lt e s (λ i u v. f i (omega arith) v), f n (omega arith) (λ q. omega arith)))
    (λ ge.
    let q : y ≡ n = omega arith in
    let z : l ! n ≡ l ! y = ap (λ (i : ℕ). l ! i) (sym q) in
    let o : m ! n ≡ m ! y = ap (λ (i : ℕ). m ! i) (sym q) in
    omega (arith, z, o, e, s, rest_same l m n (λ i u. f i (omega arith) (λ q. omega arith))))
    (lt_or y n)
