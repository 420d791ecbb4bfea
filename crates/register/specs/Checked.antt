-- The lines checked one by one, with the holds of each piece added up on the way.
use Rattle.register.specs.Adds.{adds_on, adds_off}
use Rattle.std.specs.Prelude.{◌≡◌, refl, ◌⊎◌, List, ℕ, ◌+◌, ◌≤◌, ◌<◌, length, set}
use Rattle.std.proofs.Math.Path.{sym, ap}
use Rattle.std.proofs.Common.{inl, inr, eq-eqb, ne_eqb}
use Rattle.std.proofs.Math.Logic.{⊎_elim}
use native.Mathlib.Omega.{arith}
use borrow.Author.Count.{below_more}
use Rattle.std.proofs.Math.Dec.{eqb}
use Rattle.rules.specs.Below.{sum}
use Rattle.rules.specs.Lists.{◌!◌}
use Rattle.rules.specs.Limits.{lines, entries}
use Rattle.rules.specs.Register.{seat_at, piece_at, number_at, order_at, adds}
use Rattle.laws.specs.Below.{sum-next}
use Rattle.laws.specs.Counts.{sum-most}
use Rattle.laws.specs.Numbers.{eq_or}
use Rattle.tallies.specs.Adding.{Added, added_none, added-one, added_then, added_same}

-- line i is used and in its ranges
pub record LineRight (n : ℕ) (l : List ℕ) (i : ℕ) : Type 0 where
  pub used : 0 < number_at l i
  pub seats : seat_at l i < 32
  pub pieces : piece_at l i < n
  pub numbers : number_at l i ≤ 1000

-- the numbers of the first i lines that name p
unfoldable pub held_below : List ℕ → ℕ → ℕ → ℕ
held_below l i p = sum (adds (λ t q. eqb q p) l) i

-- the first i lines are right, the next key has to be at least low, and their numbers are added up
pub record Checked (n : ℕ) (l sums₀ : List ℕ) (low i : ℕ) (sums : List ℕ) : Type 0 where
  pub small : n ≤ 1024
  pub size : length l ≡ entries
  pub most : i ≤ lines
  pub all : (j : ℕ) → j < i → LineRight n l j
  pub rising : (j : ℕ) → j + 1 < i → order_at l j < order_at l (j + 1)
  pub begin : i ≡ 0 → low ≡ 0
  pub above : (j : ℕ) → i ≡ j + 1 → low ≡ order_at l j + 1
  pub added : Added n (held_below l i) sums₀ sums

pub checked_start : {n : ℕ} {l sums₀ : List ℕ} → n ≤ 1024 → length l ≡ entries → Checked n l sums₀ 0 0 sums₀
unfolding held_below sum
checked_start {n} {l} {sums₀} s z = record {
  small = s;
  size = z;
  most = omega arith;
  all = λ j h. absurd (omega arith);
  rising = λ j h. absurd (omega arith);
  begin = λ e. refl;
  above = λ j e. absurd (omega arith);
  added = added_none (λ p h. refl);
}

module _ {n : ℕ} {l sums₀ : List ℕ} {low i : ℕ} {sums : List ℕ} (v : Checked n l sums₀ low i sums) where
  -- the sums stay small
  pub checked_fits : ((p : ℕ) → p < n → sums₀ ! p ≡ 0) → (p : ℕ) → p < n → sums ! p ≤ 1024000
  unfolding held_below
  checked_fits z p h =
      omega (arith, v.added.sums p h, z p h, v.most, sum-most (adds (λ t q. eqb q p) l) 1000 i (λ j g. small j (v.all j g).numbers (eq_or (piece_at l j) p)))
    where
      small : (j : ℕ) → number_at l j ≤ 1000 → (piece_at l j ≡ p) ⊎ (piece_at l j ≡ p → ⊥) → adds (λ t q. eqb q p) l j ≤ 1000
      small j g (inl e) = omega (arith, adds_on (λ t q. eqb q p) l j (eq-eqb (piece_at l j) p e))
      small j g (inr d) = omega (arith, adds_off (λ t q. eqb q p) l j (ne_eqb (piece_at l j) p d))

  pub checked_more : i < lines → n ≤ length sums₀ → LineRight n l i → low ≤ order_at l i → Checked n l sums₀ (order_at l i + 1) (i + 1)
      (set sums (piece_at l i) (sums ! piece_at l i + number_at l i))
  unfolding held_below
  checked_more h z r g = record {
    small = v.small;
    size = v.size;
    most = omega arith;
    all = below_more _ _ v.all r;
    rising = λ j u. ⊎_elim (λ e. next j e) (λ d. v.rising j (omega (arith, d))) (eq_or i (j + 1));
    begin = λ e. absurd (omega arith);
    above = λ j e. let x : i ≡ j = omega arith in ap (λ (a : ℕ). order_at l a + 1) x;
    added =
        added_same (λ p u. sym (sum-next (adds (λ t q. eqb q p) l) i))
        (added_then v.added
        (added-one {f = λ p. adds (λ t q. eqb q p) l i} (piece_at l i) (number_at l i) r.pieces (omega (arith, v.added.size))
        (adds_on (λ t q. eqb q (piece_at l i)) l i (eq-eqb (piece_at l i) (piece_at l i) refl))
        (λ p u d. adds_off (λ t q. eqb q p) l i (ne_eqb (piece_at l i) p (λ e. d (sym e))))));
  }
    where
      next : (j : ℕ) → i ≡ j + 1 → order_at l j < order_at l (j + 1)
      next j e = omega (arith, v.above j e, ap (order_at l) e)
