-- Decimal numbers: how long they are, and their digits.
use Rattle.std.specs.Prelude.{◌≡◌, refl, Bool, true, false, ltb, List, [], ◌∷◌, ◌++◌, length}
use Rattle.std.specs.Prelude.{ℕ, zero, suc, ◌+◌, ◌-◌, ◌*◌, ◌/◌, ◌%◌, ◌^◌, ◌≤◌, ◌<◌}
use Rattle.std.proofs.Common.{sym, ap, ◌∙◌, ⊎_elim, arith, add-one, lt-ltb, le-ltb, eq-eqb, ne_eqb, length-append}
use Rattle.std.proofs.Math.Nat.{pow-le-pow_right}
use Rattle.std.proofs.lemmas.Bool.{cases_lt}
use Rattle.std.proofs.lemmas.Fmt.{decimal_from_appends, length-decimal-le}
use Rattle.rules.specs.Tests.{pick}
use Rattle.rules.specs.Limits.{none}
use Rattle.rules.specs.Trace.{decimal_in, decimal, value_or}
use Rattle.answers.specs.Wrote.{digits_of}

in_small : (k v : ℕ) → v < 10 → decimal_in (suc k) v ≡ (48 + v) ∷ []
unfolding decimal_in
in_small k v h = rw (lt-ltb v 10 h)

in_more : (k v : ℕ) → 10 ≤ v → decimal_in (suc k) v ≡ decimal_in k (v / 10) ++ ((48 + v % 10) ∷ [])
unfolding decimal_in
in_more k v h = rw (le-ltb v 10 h)

pub decimal_small : (v : ℕ) → v < 10 → decimal v ≡ (48 + v) ∷ []
unfolding decimal
decimal_small v h = in_small 9 v h

-- value or `-`
pub value_none : (v : ℕ) → v ≡ none → value_or v ≡ 45 ∷ []
unfolding value_or
value_none v e = rw (eq-eqb v none e)

pub value_number : (v : ℕ) → (v ≡ none → ⊥) → value_or v ≡ decimal v
unfolding value_or
value_number v n = rw (ne_eqb v none n)

-- as many digits as the power of ten says
in_width : (k j v : ℕ) → j < k → 10 ^ j ≤ v → v < 10 ^ suc j → length (decimal_in k v) ≡ suc j
in_width zero j v i l h = absurd (omega arith)
in_width (suc k) zero v i l h = rw (in_small k v (omega arith))
in_width (suc k) (suc j) v i l h =
    let one : 1 ≤ 10 ^ j = pow-le-pow_right {n = 10} (omega arith) {i = 0} {j = j} (omega arith) in
    let shorter : length (decimal_in k (v / 10)) ≡ suc j = in_width k j (v / 10) (omega arith) (omega arith) (omega arith) in
    rw (in_more k v (omega arith), length-append) (omega arith)

pub decimal_width : (j : ℕ) {v : ℕ} → j < 10 → 10 ^ j ≤ v → v < 10 ^ suc j → suc j ≡ length (decimal v)
unfolding decimal
decimal_width j {v} i l h = sym (in_width 10 j v i l h)

-- a number has at most k digits below that power of ten, as the library's decimal has
library_length : (k v : ℕ) → 0 < k → k ≤ 10 → v < 10 ^ k → length (decimal v) ≤ k
unfolding decimal
library_length k v p h l =
    let few : v < 10 ^ 10 = omega (arith, pow-le-pow_right {n = 10} (omega arith) {i = k} {j = 10} h) in
    rw (decimal_from_appends decimal_in (record { one = in_small; more = in_more }) 10 v (omega arith) (length-decimal-le 10 v (omega arith) few (omega arith)))
    (length-decimal-le k v p l (omega arith))

-- at most k digits
in_length : (k v : ℕ) → length (decimal_in k v) ≤ k
unfolding decimal_in
in_length zero v = omega arith
in_length (suc k) v = by_test (in_length k (v / 10)) (ltb v 10)
  where
    by_test : length (decimal_in k (v / 10)) ≤ k → (b : Bool) → length (pick b ((48 + v) ∷ []) (decimal_in k (v / 10) ++ ((48 + v % 10) ∷ []))) ≤ suc k
    by_test h true = omega arith
    by_test h false = simp length-append (omega arith)

pub decimal_ten : (v : ℕ) → length (decimal v) ≤ 10
unfolding decimal
decimal_ten v = in_length 10 v

-- a number of 16 bits has at most 5
pub decimal_five : (v : ℕ) → v < 65536 → length (decimal v) ≤ 5
decimal_five v h = library_length 5 v (omega arith) (omega arith) (omega arith)

-- a decimal number is its digits
in_digits : (k v : ℕ) → decimal_in k v ≡ digits_of (length (decimal_in k v)) v
unfolding decimal_in digits_of
in_digits zero v = refl
in_digits (suc k) v = ⊎_elim small (more (in_digits k (v / 10))) (cases_lt v 10)
  where
    small : v < 10 → decimal_in (suc k) v ≡ digits_of (length (decimal_in (suc k) v)) v
    small l = let e : v % 10 ≡ v = omega arith in rw (in_small k v l, e)

    more : decimal_in k (v / 10) ≡ digits_of (length (decimal_in k (v / 10))) (v / 10) → 10 ≤ v → decimal_in (suc k) v ≡ digits_of (length (decimal_in (suc k) v)) v
    more e l = rw (in_more k v l, length-append, add-one) (ap (λ (xs : List ℕ). xs ++ ((48 + v % 10) ∷ [])) e)

pub decimal-digits : (v : ℕ) → decimal v ≡ digits_of (length (decimal v)) v
unfolding decimal
decimal-digits v = in_digits 10 v

pub length_digits : (k v : ℕ) → length (digits_of k v) ≡ k
unfolding digits_of
length_digits zero v = refl
length_digits (suc k) v = rw (length-append, length_digits k (v / 10)) (omega arith)

-- two digits, of a number below 100
pub digits_two : (v : ℕ) → v < 100 → digits_of 2 v ≡ (48 + v / 10) ∷ (48 + (v - 10 * (v / 10))) ∷ []
unfolding digits_of
digits_two v h = let a : v / 10 % 10 ≡ v / 10 = omega arith in let b : v % 10 ≡ v - 10 * (v / 10) = omega arith in rw (a, b)

pub decimal_two : (v : ℕ) → 10 ≤ v → v < 100 → decimal v ≡ digits_of 2 v
decimal_two v l h = decimal-digits v ∙ ap (λ (k : ℕ). digits_of k v) (sym (decimal_width 1 {v = v} (omega arith) (omega arith) (omega arith)))

pub decimal-three : (v : ℕ) → 100 ≤ v → v < 1000 → decimal v ≡ (48 + v / 100) ∷ digits_of 2 (v - 100 * (v / 100))
unfolding digits_of
decimal-three v l h =
    let a : v / 10 / 10 % 10 ≡ v / 100 = omega arith in
    let b : v / 10 % 10 ≡ (v - 100 * (v / 100)) / 10 % 10 = omega arith in
    let d : v % 10 ≡ (v - 100 * (v / 100)) % 10 = omega arith in
    decimal-digits v ∙ ap (λ (k : ℕ). digits_of k v) (sym (decimal_width 2 {v = v} (omega arith) (omega arith) (omega arith))) ∙ rw (a, b, d)

-- as many digits as powers of ten are reached, and one
pub reached_width : (k v : ℕ) → 0 < k → k ≤ 10 → (1 < k → 10 ^ (k - 1) ≤ v) → v < 10 ^ k → k ≡ length (decimal v)
reached_width zero v p i l h = absurd (omega arith)
reached_width (suc zero) v p i l h = rw (decimal_small v (omega arith))
reached_width (suc (suc k)) v p i l h = let e : suc (suc k) - 1 ≡ suc k = omega arith in decimal_width (suc k) (omega arith) (rw e at l (omega arith)) h
