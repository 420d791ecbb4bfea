-- What a line adds to a sum: its number where it is picked, else 0.
use Rattle.std.specs.Prelude.{◌≡◌, refl, Bool, List, ℕ, ◌<◌, eqb}
use Rattle.std.proofs.Common.{ap, ap₂, ⊎_elim, arith, eq-eqb, ne_eqb, eqb-true}
use Rattle.std.proofs.Math.Bool.{true, false}
use Rattle.rules.specs.Tests.{◌&◌, only_if}
use Rattle.rules.specs.Register.{seat_at, piece_at, number_at, adds, pair}
use Rattle.laws.specs.Numbers.{eq_or}

-- ---- tests

pub and_on : {a b : Bool} → a ≡ true → b ≡ true → (a & b) ≡ true
and_on x y = ap₂ (λ (a b : Bool). a & b) x y

pub and_off : {a : Bool} (b : Bool) → a ≡ false → (a & b) ≡ false
and_off b x = ap (λ (a : Bool). a & b) x

pub and_off_2 : (a : Bool) {b : Bool} → b ≡ false → (a & b) ≡ false
and_off_2 true e = e
and_off_2 false e = refl

pub and_parts : (a b : Bool) → (a & b) ≡ true → (a ≡ true) × (b ≡ true)
and_parts true b e = (refl, e)
and_parts false b e = let z : ◌≡◌ {A = ℕ} 0 1 = cc in absurd (omega arith)

pub pair_on : (s p t q : ℕ) → t ≡ s → q ≡ p → pair s p t q ≡ true
pair_on s p t q x y = and_on (eq-eqb t s x) (eq-eqb q p y)

pub pair_off : (s p t q : ℕ) → ((t ≡ s) → (q ≡ p) → ⊥) → pair s p t q ≡ false
pair_off s p t q f = ⊎_elim (λ e. and_off_2 (eqb t s) (ne_eqb q p (λ x. f e x))) (λ d. and_off (eqb q p) (ne_eqb t s d)) (eq_or t s)

pub pair-told : (s p t q : ℕ) → pair s p t q ≡ true → (t ≡ s) × (q ≡ p)
pair-told s p t q e = let x = and_parts (eqb t s) (eqb q p) e in (eqb-true t s x.0, eqb-true q p x.1)

-- ---- what a line adds

module _ (f : ℕ → ℕ → Bool) (l : List ℕ) (i : ℕ) where
  picked : (b : Bool) → f (seat_at l i) (piece_at l i) ≡ b → only_if (f (seat_at l i) (piece_at l i)) (number_at l i) ≡ only_if b (number_at l i)
  picked b e = ap (λ (x : Bool). only_if x (number_at l i)) e

  pub adds_on : f (seat_at l i) (piece_at l i) ≡ true → adds f l i ≡ number_at l i
  unfolding adds
  adds_on e = picked true e

  pub adds_off : f (seat_at l i) (piece_at l i) ≡ false → adds f l i ≡ 0
  unfolding adds
  adds_off e = picked false e

  none_of : (b : Bool) (k : ℕ) → k ≡ 0 → only_if b k ≡ 0
  none_of true k e = e
  none_of false k e = refl

  pub adds_none : number_at l i ≡ 0 → adds f l i ≡ 0
  unfolding adds
  adds_none e = none_of (f (seat_at l i) (piece_at l i)) (number_at l i) e

  part_of : (b : Bool) (k : ℕ) → 0 < only_if b k → (b ≡ true) × (0 < k)
  part_of true k h = (refl, h)
  part_of false k h = absurd (omega arith)

  pub adds_some : 0 < adds f l i → (f (seat_at l i) (piece_at l i) ≡ true) × (0 < number_at l i)
  unfolding adds
  adds_some h = part_of (f (seat_at l i) (piece_at l i)) (number_at l i) h
