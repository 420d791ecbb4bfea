-- What stands in the queue of a freeze, and the leaders found for it.
use Rattle.std.specs.Prelude.{◌≡◌, ◌⊎◌, Bool, List, ℕ, ◌<◌, T, length}
use Rattle.std.proofs.Common.{◌∙◌, inl, inr, arith, T_not}
use Rattle.std.proofs.Math.Logic.{⊎_elim}
use Rattle.std.proofs.Math.Dec.{eqb, eqb→eq}
use Rattle.rules.specs.Lists.{◌!◌}
use Rattle.rules.specs.Tests.{pick}
use Rattle.rules.specs.Limits.{none}
use Rattle.rules.specs.Below.{any, table}
use Rattle.laws.specs.Below.{T_dec, some→, →some, pick_true, pick-false, length-table, get_or-table}
use Rattle.laws.specs.Words.{eqb_of}
use Rattle.tallies.specs.Sums.{get_or_any}
use Rattle.tallies.specs.Tally.{label}

-- q stands in the queue
pub record Standing (queue : List ℕ) (q : ℕ) : Type 0 where
  pub at : ℕ
  pub below : at < length queue
  pub is : queue ! at ≡ q

-- the same by computation
unfoldable pub is_standing : List ℕ → ℕ → Bool
is_standing queue q = any (λ j. eqb (queue ! j) q) (length queue)

-- the leaders found for what stands in the queue, and none for all others
unfoldable pub fresh_leaders : ℕ → List ℕ → List ℕ → List ℕ
fresh_leaders n found queue = table (λ q. pick (is_standing queue q) (found ! q) none) n

module _ (queue : List ℕ) where
  standing_T : (q : ℕ) → Standing queue q → T (is_standing queue q)
  unfolding is_standing
  standing_T q s = →some (λ j. eqb (queue ! j) q) (length queue) s.at s.below (eqb_of {m = queue ! s.at} {n = q} s.is)

  T_standing : (q : ℕ) → T (is_standing queue q) → Standing queue q
  unfolding is_standing
  T_standing q t = let w = some→ (λ j. eqb (queue ! j) q) (length queue) t in record { at = w.0; below = w.1; is = eqb→eq (queue ! w.0) q w.2 }

  -- a piece stands there or not
  pub standing_or : (q : ℕ) → Standing queue q ⊎ (Standing queue q → ⊥)
  standing_or q = ⊎_elim (λ t. inl (T_standing q t)) (λ t. inr (λ s. T_not (is_standing queue q) t (standing_T q s))) (T_dec (is_standing queue q))

  -- a choice by it
  pub standing_on : (x y q : ℕ) → Standing queue q → pick (is_standing queue q) x y ≡ x
  standing_on x y q s = pick_true (is_standing queue q) x y (standing_T q s)

  pub standing_off : (x y q : ℕ) → (Standing queue q → ⊥) → pick (is_standing queue q) x y ≡ y
  standing_off x y q f = ⊎_elim (λ t. absurd (f (T_standing q t))) (λ t. pick-false (is_standing queue q) x y t) (T_dec (is_standing queue q))

module _ (n : ℕ) (found queue : List ℕ) where
  pub fresh-n : length (fresh_leaders n found queue) ≡ n
  unfolding fresh_leaders
  fresh-n = length-table _ n

  entry : ℕ → ℕ
  entry q = pick (is_standing queue q) (found ! q) none

  label_entry : (q : ℕ) → q < n → label (fresh_leaders n found queue) q ≡ fresh_leaders n found queue ! q
  label_entry q h = get_or_any (fresh_leaders n found queue) q none 0 (omega (arith, fresh-n))

  pub fresh_on : (q : ℕ) → q < n → Standing queue q → label (fresh_leaders n found queue) q ≡ found ! q
  unfolding fresh_leaders entry
  fresh_on q h e = label_entry q h ∙ get_or-table entry n q 0 h ∙ standing_on queue (found ! q) none q e

  pub fresh_off : (q : ℕ) → q < n → (Standing queue q → ⊥) → label (fresh_leaders n found queue) q ≡ none
  unfolding fresh_leaders entry
  fresh_off q h f = label_entry q h ∙ get_or-table entry n q 0 h ∙ standing_off queue (found ! q) none q f
