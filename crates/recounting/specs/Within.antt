-- After the first pass the leaders and the labels of the search say the same of what stands in the queue: so do the places within its groups.
use Rattle.std.specs.Prelude.{◌≡◌, refl, Bool, true, false, List, ℕ, ◌+◌, ◌*◌, ◌/◌, ◌<◌, eqb, length}
use Rattle.std.proofs.Common.{sym, ◌∙◌, eq-eqb}
use Rattle.std.proofs.Math.Path.{ap}
use Rattle.std.proofs.Math.Logic.{⊎_elim}
use native.Mathlib.Omega.{arith}
use Rattle.rules.specs.Lists.{◌!◌}
use Rattle.rules.specs.Tests.{pick, only_if}
use Rattle.rules.specs.Limits.{none}
use Rattle.rules.specs.Below.{sum}
use Rattle.laws.specs.Numbers.{eq_or, lt_or}
use Rattle.tallies.specs.Sums.{sum_cong, sum-zero, only_if-true, get_or_any}
use Rattle.tallies.specs.Tally.{label}
use Rattle.tallies.specs.Exact.{sum_flat, label_past}
use Rattle.recounting.specs.Merged.{inner, within, inner_off, inner_out, inner_same}
use Rattle.recounting.specs.Standing.{Standing, is_standing, fresh_leaders, standing_or, standing_on, standing_off, fresh-n, fresh_on, fresh_off}
use Rattle.recounting.specs.Taken.{Taking}
use Rattle.recounting.specs.Summing.{Handed}
use Rattle.recounting.specs.Inner.{within_of}

-- the places of r within label L, where r stands in the queue
unfoldable pub mates : List ℕ → List ℕ → List ℕ → ℕ → ℕ → ℕ
mates links leaders queue L r = pick (is_standing queue r) (within_of links leaders L r 4) 0

module _ (links leaders queue : List ℕ) (L r : ℕ) where
  pub mates_on : Standing queue r → mates links leaders queue L r ≡ within_of links leaders L r 4
  unfolding mates
  mates_on s = standing_on queue (within_of links leaders L r 4) 0 r s

  pub mates_off : (Standing queue r → ⊥) → mates links leaders queue L r ≡ 0
  unfolding mates
  mates_off f = standing_off queue (within_of links leaders L r 4) 0 r f

-- the first pass was made
pub record Turnable (n : ℕ) (states links leaders counts queue : List ℕ) : Type 0 where
  pub found : List ℕ
  pub leaders₀ : List ℕ
  pub counts₀ : List ℕ
  pub into₀ : List ℕ
  pub into₁ : List ℕ
  pub taking : Taking n states links leaders₀ counts₀ into₀ found queue
  pub handed : Handed n links leaders₀ counts₀ into₀ found queue leaders counts into₁

module _ {n : ℕ} {states links leaders counts queue : List ℕ} (t : Turnable n states links leaders counts queue) where
  abbrev found : List ℕ
  found = t.found

  abbrev fresh : List ℕ
  fresh = fresh_leaders n found queue

  abbrev g : Taking n states links t.leaders₀ t.counts₀ t.into₀ found queue
  g = t.taking

  pub leaders_n : length leaders ≡ n
  leaders_n = t.handed.leaders_n ∙ g.leaders_n

  label_at : (q : ℕ) → q < n → label leaders q ≡ leaders ! q
  label_at q h = get_or_any leaders q none 0 (omega (arith, leaders_n))

  -- for a finished piece the labels of the search and the leaders say the same
  module _ (q : ℕ) (h : q < n) (e : Standing queue q) where
    own_fresh : label fresh q ≡ found ! q
    own_fresh = fresh_on n found queue q h e

    own_led : label leaders q ≡ found ! q
    own_led = label_at q h ∙ t.handed.led q h e

    same_place : (L k : ℕ) → L < n → k < 4 → within links leaders L (4 * q + k) ≡ within links fresh L (4 * q + k)
    unfolding within
    same_place L k l m = ⊎_elim inside outside (eq_or (found ! q) L)
      where
        quarter : (4 * q + k) / 4 ≡ q
        quarter = omega arith

        outside : (found ! q ≡ L → ⊥) → inner leaders L (4 * q + k) (links ! (4 * q + k)) ≡ inner fresh L (4 * q + k) (links ! (4 * q + k))
        outside f =
            inner_out leaders L (4 * q + k) (links ! (4 * q + k)) (λ y. f (sym (ap (label leaders) quarter ∙ own_led) ∙ y))
            ∙ sym (inner_out fresh L (4 * q + k) (links ! (4 * q + k)) (λ y. f (sym (ap (label fresh) quarter ∙ own_fresh) ∙ y)))

        both_off : (label leaders (links ! (4 * q + k)) ≡ L → ⊥) → (label fresh (links ! (4 * q + k)) ≡ L → ⊥)
            → inner leaders L (4 * q + k) (links ! (4 * q + k)) ≡ inner fresh L (4 * q + k) (links ! (4 * q + k))
        both_off a b = inner_off leaders L (4 * q + k) (links ! (4 * q + k)) a ∙ sym (inner_off fresh L (4 * q + k) (links ! (4 * q + k)) b)

        inside : found ! q ≡ L → inner leaders L (4 * q + k) (links ! (4 * q + k)) ≡ inner fresh L (4 * q + k) (links ! (4 * q + k))
        inside y = ⊎_elim
            (λ u. ⊎_elim
            (λ v. inner_same leaders fresh L (4 * q + k) (links ! (4 * q + k))
            (label_at (links ! (4 * q + k)) u ∙ t.handed.led (links ! (4 * q + k)) u v ∙ sym (fresh_on n found queue (links ! (4 * q + k)) u v))
            (ap (label leaders) quarter ∙ own_led ∙ sym (ap (label fresh) quarter ∙ own_fresh)))
            (λ v. both_off
            (λ z. g.apart (links ! (4 * q + k)) q u h v e (sym (label_at (links ! (4 * q + k)) u ∙ t.handed.left (links ! (4 * q + k)) v) ∙ z ∙ sym y))
            (λ z. omega (arith, fresh_off n found queue (links ! (4 * q + k)) u v, g.small)))
            (standing_or queue (links ! (4 * q + k))))
            (λ u. both_off
            (λ z. omega (arith, label_past n leaders (links ! (4 * q + k)) leaders_n u, g.small))
            (λ z. omega (arith, label_past n fresh (links ! (4 * q + k)) (fresh-n n found queue) u, g.small)))
            (lt_or (links ! (4 * q + k)) n)

    same_within : (L : ℕ) → L < n → within_of links leaders L q 4 ≡ within_of links fresh L q 4
    same_within L l = sum_cong (λ k. within links leaders L (4 * q + k)) (λ k. within links fresh L (4 * q + k)) 4 (λ k m. same_place L k l m)

  -- a piece that is not finished has no places within a fresh label
  within_none : (q L : ℕ) → q < n → L < n → (Standing queue q → ⊥) → within_of links fresh L q 4 ≡ 0
  unfolding within
  within_none q L h l f =
      sum-zero (λ k. within links fresh L (4 * q + k)) 4
      (λ k m. let quarter : (4 * q + k) / 4 ≡ q = omega arith in
      inner_out fresh L (4 * q + k) (links ! (4 * q + k)) (λ y. omega (arith, ap (label fresh) quarter ∙ fresh_off n found queue q h f, g.small)))

  -- at first all places within a label are those of drafts that stand in the queue
  pub all_remaining : (L : ℕ) → L < n → sum (λ r. only_if (eqb (states ! r) 1) (mates links leaders queue L r)) n ≡ sum (within links fresh L) (4 * n)
  all_remaining L l =
      sum_cong _ (λ r. within_of links fresh L r 4) n
      (λ r h. ⊎_elim
      (λ e. only_if-true _ _ (eq-eqb (states ! r) 1 (g.draft r h e)) ∙ mates_on links leaders queue L r e ∙ same_within r h e L l)
      (λ f. ap (only_if (eqb (states ! r) 1)) (mates_off links leaders queue L r f) ∙ nothing (eqb (states ! r) 1) ∙ sym (within_none r L h l f))
      (standing_or queue r))
      ∙ sym (sum_flat (within links fresh L) n)
    where
      nothing : (c : Bool) → only_if c 0 ≡ 0
      nothing true = refl
      nothing false = refl
