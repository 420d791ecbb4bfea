-- The empty register: all zeros. It is right, and nobody holds anything.
use Rattle.register.specs.Sums.{sum-zero}
use Rattle.register.specs.Adds.{adds_none}
use Rattle.register.specs.Totals.{total-sum}
use Rattle.std.specs.Prelude.{◌≡◌, Bool, ℕ, ◌+◌, ◌*◌, get_or, replicate}
use Rattle.std.proofs.Common.{◌∙◌, ⊎_elim, arith}
use Rattle.std.proofs.lemmas.List.{length-replicate, get_or-replicate}
use Rattle.std.proofs.Math.ListN.{get_or-eq_default}
use Rattle.rules.specs.Limits.{lines, entries}
use Rattle.rules.specs.Register.{seat_at, piece_at, number_at, Right, adds, total}
use Rattle.laws.specs.Numbers.{lt_or}

-- past its end every entry reads as 0
pub empty_entry : (j : ℕ) → ◌≡◌ {A = ℕ} (get_or {A = ℕ} (replicate entries 0) j 0) 0
empty_entry j = go entries j
  where
    go : (k i : ℕ) → ◌≡◌ {A = ℕ} (get_or {A = ℕ} (replicate k 0) i 0) 0
    go k i = ⊎_elim (λ h. get_or-replicate {A = ℕ} k i 0 0 h) (λ h. get_or-eq_default (replicate k 0) 0 (omega (arith, length-replicate {A = ℕ} k 0))) (lt_or i k)

pub empty-number : (i : ℕ) → number_at (replicate entries 0) i ≡ 0
unfolding number_at
empty-number i = empty_entry (3 * i + 2)

pub empty_right : (n : ℕ) → Right n (replicate entries 0)
unfolding seat_at piece_at
empty_right n = record {
  ordered = record {
    size = length-replicate {A = ℕ} entries 0;
    first = λ i u. absurd (omega (arith, empty-number (i + 1)));
    rising = λ i u. absurd (omega (arith, empty-number (i + 1)));
    zeros = λ i u. (empty_entry (3 * i), empty_entry (3 * i + 1));
    wide = λ i. omega (arith, empty_entry (3 * i + 1));
  };
  seats = λ i u. absurd (omega (arith, empty-number i));
  pieces = λ i u. absurd (omega (arith, empty-number i));
  numbers = λ i. omega (arith, empty-number i);
}

-- every sum over its lines is 0: of a pair, of a piece
pub empty-total : (f : ℕ → ℕ → Bool) → total f (replicate entries 0) ≡ 0
empty-total f = total-sum f (replicate entries 0) (empty_right 0).ordered ∙ sum-zero (adds f (replicate entries 0)) lines (λ i h. adds_none f (replicate entries 0) i (empty-number i))
