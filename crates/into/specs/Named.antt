-- The link places of other pieces that name a piece, as one sum over all places.
use Rattle.std.specs.Prelude.{◌≡◌, Bool, List, ℕ, ◌+◌, ◌*◌, ◌/◌, ◌≤◌, ◌<◌, length, set}
use Rattle.std.proofs.Math.Path.{refl, ap}
use Rattle.std.proofs.Common.{sym, ap₂, ◌∙◌, ⊎_elim, get_or-set_same, get_or-set_other, eq-eqb, ne_eqb}
use Rattle.std.proofs.Math.Bool.{true, false, not}
use native.Mathlib.Omega.{arith}
use Rattle.std.proofs.Math.Dec.{eqb}
use Rattle.rules.specs.Tests.{◌&◌, only_if}
use Rattle.rules.specs.Below.{sum}
use Rattle.rules.specs.Lists.{◌!◌}
use Rattle.rules.specs.Tables.{Base, link_at, namings}
use Rattle.laws.specs.Below.{sum_change}
use Rattle.laws.specs.Counts.{sum-most}
use Rattle.laws.specs.Kept.{sum_term}
use Rattle.laws.specs.Numbers.{eq_or}
use Rattle.tallies.specs.Sums.{sum_cong, sum-zero, only_if-true, only_if-false, only_if-most}
use Rattle.tallies.specs.Exact.{sum_flat}

-- 1 where t is p, and r, which names it, is another piece
unfoldable pub hit : ℕ → ℕ → ℕ → ℕ
hit p r t = only_if (eqb t p & not (eqb r p)) 1

-- 1 where place i, of another piece, names p
unfoldable pub named : List ℕ → ℕ → ℕ → ℕ
named links p i = hit p (i / 4) (links ! i)

-- the link places of other pieces that name p
abbrev pub named_by : ℕ → List ℕ → ℕ → ℕ
named_by n links p = sum (named links p) (4 * n)

-- ---- one place

module _ (p r t : ℕ) where
  pub hit_on : t ≡ p → (r ≡ p → ⊥) → hit p r t ≡ 1
  unfolding hit
  hit_on e f = only_if-true _ 1 (ap₂ (λ (a b : Bool). a & not b) (eq-eqb t p e) (ne_eqb r p f))

  pub hit_off : (t ≡ p → ⊥) → hit p r t ≡ 0
  unfolding hit
  hit_off f = only_if-false _ 1 (ap (λ (b : Bool). b & not (eqb r p)) (ne_eqb t p f))

  pub hit_own : r ≡ p → hit p r t ≡ 0
  unfolding hit
  hit_own e = only_if-false _ 1 (ap (λ (b : Bool). eqb t p & not b) (eq-eqb r p e) ∙ off (eqb t p))
    where
      off : (b : Bool) → (b & false) ≡ false
      off true = refl
      off false = refl

  pub hit-most : hit p r t ≤ 1
  unfolding hit
  hit-most = only_if-most (eqb t p & not (eqb r p)) 1 1 (omega arith)

  -- what a hit says
  pub hit_pos : 0 < hit p r t → (t ≡ p) × (r ≡ p → ⊥)
  hit_pos h = ⊎_elim
      (λ e. (e, λ o. absurd (omega (arith, hit_own o))))
      (λ f. absurd (omega (arith, hit_off f)))
      (eq_or t p)

-- ---- all places

-- place i becomes t
pub named_moves : (n : ℕ) (links : List ℕ) (i t p : ℕ) → i < 4 * n → i < length links
    → named_by n (set links i t) p + hit p (i / 4) (links ! i) ≡ named_by n links p + hit p (i / 4) t
unfolding named
named_moves n links i t p h l =
    omega (
      arith,
      sum_change (named (set links i t) p) (named links p) (4 * n) i h (λ j _ d. ap (hit p (j / 4)) (get_or-set_other links i j t 0 d)),
      ap (hit p (i / 4)) (get_or-set_same links i t 0 l),
    )

-- a place that names p counts
pub named_counts : (n : ℕ) (links : List ℕ) (i p : ℕ) → i < 4 * n → hit p (i / 4) (links ! i) ≤ named_by n links p
unfolding named
named_counts n links i p h = sum_term (named links p) (4 * n) i h

-- the same places, the same number
pub named_same : (n : ℕ) (links links' : List ℕ) (p : ℕ) → ((i : ℕ) → i < 4 * n → hit p (i / 4) (links' ! i) ≡ hit p (i / 4) (links ! i))
    → named_by n links' p ≡ named_by n links p
unfolding named
named_same n links links' p h = sum_cong (named links' p) (named links p) (4 * n) h

-- nobody names it
pub named_none : (n : ℕ) (links : List ℕ) (p : ℕ) → ((i : ℕ) → i < 4 * n → links ! i ≡ p → ⊥) → named_by n links p ≡ 0
unfolding named
named_none n links p h = sum-zero (named links p) (4 * n) (λ i l. hit_off p (i / 4) (links ! i) (h i l))

module _ (links : List ℕ) (p : ℕ) where
  -- the places of r
  abbrev of : ℕ → ℕ
  of r = sum (λ k. named links p (4 * r + k)) 4

  of_own : of p ≡ 0
  unfolding named
  of_own =
      sum_cong (λ k. named links p (4 * p + k)) (λ k. 0) 4 (λ k h. let e : (4 * p + k) / 4 ≡ p = omega arith in hit_own p ((4 * p + k) / 4) (links ! (4 * p + k)) e)
      ∙ (unfold sum in refl)

  of-most : (r : ℕ) → of r ≤ 4
  unfolding named
  of-most r = sum-most (λ k. named links p (4 * r + k)) 1 4 (λ k h. hit-most p ((4 * r + k) / 4) (links ! (4 * r + k)))

  -- with four for p itself
  abbrev more : ℕ → ℕ
  more r = only_if (eqb r p) 4 + only_if (not (eqb r p)) (of r)

  -- at most four of each other piece
  pub named-most : (n : ℕ) → p < n → named_by n links p + 4 ≤ 4 * n
  named-most n h =
      omega (
        arith,
        sum_flat (named links p) n,
        sum_change of more n p h (λ r _ d. sym (only_if-true _ (of r) (ap not (ne_eqb r p d))) ∙ sym (rest r d)),
        sum-most more 4 n (λ r _. most r),
        of_own,
        at_p,
      )
    where
      rest : (r : ℕ) → (r ≡ p → ⊥) → more r ≡ only_if (not (eqb r p)) (of r)
      rest r d = (omega (arith, only_if-false (eqb r p) 4 (ne_eqb r p d)))

      at_p : more p ≡ 4
      at_p = (omega (arith, only_if-true (eqb p p) 4 (eq-eqb p p refl), only_if-false (not (eqb p p)) (of p) (ap not (eq-eqb p p refl))))

      most : (r : ℕ) → more r ≤ 4
      most r = ⊎_elim
          (λ e. let x : more r ≡ more p = ap more e in omega (arith, at_p))
          (λ d. omega (arith, rest r d, only_if-true (not (eqb r p)) (of r) (ap not (ne_eqb r p d)), of-most r))
          (eq_or r p)

-- the rules' sum over pieces is the sum over places
pub named_is : (b : Base) (p : ℕ) → sum (λ r. only_if (not (eqb r p)) (namings b p r)) b.n ≡ named_by b.n b.links p
unfolding namings link_at named hit
named_is b p = sym (sum_flat (named b.links p) b.n ∙ sum_cong _ _ b.n (λ r _. sum_cong _ _ 4 (λ k h. term r k h) ∙ out (eqb r p) (λ k. eqb (b.links ! (4 * r + k)) p)))
  where
    term : (r k : ℕ) → k < 4 → hit p ((4 * r + k) / 4) (b.links ! (4 * r + k)) ≡ only_if (eqb (b.links ! (4 * r + k)) p & not (eqb r p)) 1
    term r k h = let e : (4 * r + k) / 4 ≡ r = omega arith in unfold hit in (ap (λ (x : ℕ). only_if (eqb (b.links ! (4 * r + k)) p & not (eqb x p)) 1) e)

    out : (v : Bool) (f : ℕ → Bool) → sum (λ k. only_if (f k & not v) 1) 4 ≡ only_if (not v) (sum (λ k. only_if (f k) 1) 4)
    out true f = sum_cong _ (λ k. 0) 4 (λ k _. ap (λ (u : Bool). only_if u 1) (off (f k))) ∙ (unfold sum in refl)
      where
        off : (u : Bool) → (u & false) ≡ false
        off true = refl
        off false = refl
    out false f = sum_cong _ _ 4 (λ k _. ap (λ (u : Bool). only_if u 1) (on (f k)))
      where
        on : (u : Bool) → (u & true) ≡ u
        on true = refl
        on false = refl
