-- What the walks of the check read is set to 0 first: marks, next places, what is counted and what is added up.
use Rattle.std.specs.Prelude.{◌≡◌, List, ℕ, ◌+◌, ◌-◌, ◌*◌, ◌≤◌, ◌<◌, length, drop, replicate}
use Rattle.std.proofs.Common.{◌∙◌, ap, ⊎_elim, arith, length-drop, length-take-le}
use Rattle.std.proofs.lemmas.List.{get_or-replicate, length-replicate}
use Rattle.std.proofs.lemmas.Grind.{common_steps}
use Rattle.std.proofs.lemmas.List.{places}
use Rattle.std.proofs.lemmas.Slice.{drop-put_mid}
use borrow.Rule.Slice.PartMut.{mid_of, put_mid}
use Rattle.rules.specs.Lists.{◌!◌}
use Rattle.laws.specs.Numbers.{lt_or}
use Rattle.tallies.specs.Adding.{LaterSame, later_then, later_on}

-- the entries from a up to b are 0, and what was 0 still is; from b on nothing changes
pub record Zeroed (a b : ℕ) (w w' : List ℕ) : Type 0 where
  pub zeros : (i : ℕ) → a ≤ i → i < b → w' ! i ≡ 0
  pub stays : (i : ℕ) → w ! i ≡ 0 → w' ! i ≡ 0
  pub kept : LaterSame b w w'

-- what the walks read of the pieces from a up to b is 0, and what was 0 still is; behind eight regions nothing changes
pub record PiecesZeroed (n a b : ℕ) (w w' : List ℕ) : Type 0 where
  pub zeros : (q : ℕ) → a ≤ q → q < b → (w' ! q ≡ 0) × (w' ! (n + q) ≡ 0) × (w' ! (6 * n + q) ≡ 0) × (w' ! (7 * n + q) ≡ 0)
  pub stays : (i : ℕ) → w ! i ≡ 0 → w' ! i ≡ 0
  pub kept : LaterSame (8 * n) w w'

-- ---- one fill

-- m entries from a up to b are filled with 0
module _ (a m b : ℕ) (w part : List ℕ) (s : a + m ≡ b) (h : b ≤ length w) (e : part ≡ replicate (length (mid_of a m w)) 0) where
  lent : length (mid_of a m w) ≡ m
  lent = length-take-le m (drop a w) (omega (arith, length-drop a w))

  part_n : length part ≡ m
  part_n = ap length e ∙ length-replicate (length (mid_of a m w)) 0 ∙ lent

  inside : (i : ℕ) → i < m → part ! i ≡ 0
  inside i l = ap (λ (x : List ℕ). x ! i) e ∙ get_or-replicate (length (mid_of a m w)) i 0 0 (omega (arith, lent))

  pub fill_zeroed : Zeroed a b w (put_mid a m w part)
  fill_zeroed = record {
    zeros = λ i l u. let z = inside (i - a) (omega arith) in grind (arith, common_steps, places);
    stays = λ i z.
        ⊎_elim
        (λ l. ⊎_elim (λ u. grind (arith, common_steps, places)) (λ u. let x = inside (i - a) (omega arith) in grind (arith, common_steps, places)) (lt_or i a))
        (λ l. grind (arith, common_steps, places))
        (lt_or i b);
    kept = record { size = grind (arith, common_steps, part_n); later = drop-put_mid a m w part b (omega arith) (omega arith) part_n };
  }

-- ---- the first two regions, and the last two

module _ {n : ℕ} {w w₁ w₂ : List ℕ} (a : Zeroed 0 (2 * n) w w₁) (b : Zeroed (6 * n) (8 * n) w₁ w₂) where
  pub pieces_zeroed : PiecesZeroed n 0 n w w₂
  pieces_zeroed = record {
    zeros = λ q l u. (
      b.stays q (a.zeros q (omega arith) (omega arith)),
      b.stays (n + q) (a.zeros (n + q) (omega arith) (omega arith)),
      b.zeros (6 * n + q) (omega arith) (omega arith),
      b.zeros (7 * n + q) (omega arith) (omega arith),
    );
    stays = λ i e. b.stays i (a.stays i e);
    kept = later_then (later_on (8 * n) (omega arith) a.kept) b.kept;
  }
