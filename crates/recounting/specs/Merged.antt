-- Drafts that get one label: their entries of links into them, added up, are the places that name the label from outside, and those within it.
use Rattle.std.specs.Prelude.{◌≡◌, Bool, List, length}
use Rattle.std.proofs.Math.Path.{refl, sym, ap}
use Rattle.std.proofs.Common.{ap₂, ◌∙◌, eq-eqb, ne_eqb}
use Rattle.std.proofs.Math.Logic.{⊎_elim}
use Rattle.std.proofs.Math.Bool.{true, false, not}
use Prim.Native.Nat.{ℕ, zero, suc, ◌+◌, ◌*◌, ◌/◌, ◌≤◌, ◌<◌}
use native.Mathlib.Omega.{arith}
use Rattle.std.proofs.Math.Dec.{eqb}
use Rattle.rules.specs.Tests.{◌&◌, only_if}
use Rattle.rules.specs.Below.{sum}
use Rattle.rules.specs.Lists.{◌!◌}
use Rattle.laws.specs.Numbers.{eq_or, lt_or}
use Rattle.tallies.specs.Sums.{sum_cong, sum_joined, sum-zero, sum_one, only_if-true, only_if-false}
use Rattle.tallies.specs.Tally.{label, cross, held, placed}
use Rattle.tallies.specs.Moves.{cross_in, cross_off, cross_on}
use Rattle.tallies.specs.Exact.{label_past}
use Rattle.into.specs.Named.{hit, named, named_by, hit_on, hit_off, hit_own}
use Rattle.into.specs.Into.{Into}

-- 1 where place i, naming t, lies within label L: both pieces have it, and they are two
unfoldable pub inner : List ℕ → ℕ → ℕ → ℕ → ℕ
inner labels L i t = only_if (eqb (label labels t) L & (eqb (label labels (i / 4)) L & not (eqb (i / 4) t))) 1

-- 1 where place i lies within label L
unfoldable pub within : List ℕ → List ℕ → ℕ → ℕ → ℕ
within links labels L i = inner labels L i (links ! i)

module _ (labels : List ℕ) (L i t : ℕ) where
  pub inner_off : (label labels t ≡ L → ⊥) → inner labels L i t ≡ 0
  unfolding inner
  inner_off f = only_if-false _ 1 (ap (λ (b : Bool). b & (eqb (label labels (i / 4)) L & not (eqb (i / 4) t))) (ne_eqb (label labels t) L f))

  off : (b : Bool) → (b & false) ≡ false
  off true = refl
  off false = refl

  pub inner_out : (label labels (i / 4) ≡ L → ⊥) → inner labels L i t ≡ 0
  unfolding inner
  inner_out f = only_if-false _ 1
      (ap (λ (b : Bool). eqb (label labels t) L & (b & not (eqb (i / 4) t))) (ne_eqb (label labels (i / 4)) L f) ∙ off (eqb (label labels t) L))

  pub inner_own : i / 4 ≡ t → inner labels L i t ≡ 0
  unfolding inner
  inner_own e = only_if-false _ 1
      (ap (λ (b : Bool). eqb (label labels t) L & (eqb (label labels (i / 4)) L & not b)) (eq-eqb (i / 4) t e)
      ∙ ap (λ (b : Bool). eqb (label labels t) L & b) (off (eqb (label labels (i / 4)) L)) ∙ off (eqb (label labels t) L))

  pub inner_on : label labels t ≡ L → label labels (i / 4) ≡ L → (i / 4 ≡ t → ⊥) → inner labels L i t ≡ 1
  unfolding inner
  inner_on e g f = only_if-true _ 1
      (ap₂ (λ (a b : Bool). a & (b & not (eqb (i / 4) t))) (eq-eqb (label labels t) L e) (eq-eqb (label labels (i / 4)) L g)
      ∙ ap not (ne_eqb (i / 4) t f))

  -- a place of another piece that names t counts for t's label, or lies within it
  split : only_if (eqb (label labels t) L) (hit t (i / 4) t) ≡ cross labels L i t + inner labels L i t
  split = ⊎_elim has (λ f. omega (arith, only_if-false _ (hit t (i / 4) t) (ne_eqb (label labels t) L f), cross_off labels L i t f, inner_off f)) (eq_or (label labels t) L)
    where
      has : label labels t ≡ L → only_if (eqb (label labels t) L) (hit t (i / 4) t) ≡ cross labels L i t + inner labels L i t
      has e =
          let z = only_if-true _ (hit t (i / 4) t) (eq-eqb (label labels t) L e) in
          ⊎_elim
          (λ o. omega (arith, z, hit_own t (i / 4) t o, cross_in labels L i t (ap (label labels) (sym o)), inner_own o))
          (λ f. ⊎_elim
          (λ g. omega (arith, z, hit_on t (i / 4) t refl f, cross_in labels L i t (e ∙ sym g), inner_on e g f))
          (λ g. omega (arith, z, hit_on t (i / 4) t refl f, cross_on labels L i t e g, inner_out g))
          (eq_or (label labels (i / 4)) L))
          (eq_or (i / 4) t)

-- two tables that label the two pieces alike
pub inner_same : (labels labels' : List ℕ) (L i t : ℕ) → label labels t ≡ label labels' t → label labels (i / 4) ≡ label labels' (i / 4)
    → inner labels L i t ≡ inner labels' L i t
unfolding inner
inner_same labels labels' L i t e f = ap₂ (λ (x y : ℕ). only_if (eqb x L & (eqb y L & not (eqb (i / 4) t))) 1) e f

module _ (n : ℕ) (links labels : List ℕ) (size : length labels ≡ n) (small : n ≤ 1024) (L : ℕ) (below : L < n) where
  -- what place i adds to the entries of the pieces with label L
  place_adds : (i : ℕ) → sum (λ m. only_if (eqb (label labels m) L) (named links m i)) n ≡ placed links labels L i + within links labels L i
  unfolding named placed within
  place_adds i = ⊎_elim inside outside (lt_or (links ! i) n)
    where
      nothing : (c : Bool) (x : ℕ) → x ≡ 0 → only_if c x ≡ 0
      nothing true x e = e
      nothing false x e = refl

      inside : links ! i < n → sum (λ m. only_if (eqb (label labels m) L) (hit m (i / 4) (links ! i))) n ≡ cross labels L i (links ! i) + inner labels L i (links ! i)
      inside h =
          sum_one (λ m. only_if (eqb (label labels m) L) (hit m (i / 4) (links ! i))) n (links ! i) h
          (λ m _ d. nothing (eqb (label labels m) L) _ (hit_off m (i / 4) (links ! i) (λ e. d (sym e))))
          ∙ split labels L i (links ! i)

      outside : n ≤ links ! i → sum (λ m. only_if (eqb (label labels m) L) (hit m (i / 4) (links ! i))) n ≡ cross labels L i (links ! i) + inner labels L i (links ! i)
      outside h =
          let f : label labels (links ! i) ≡ L → ⊥ = λ e. omega (arith, label_past n labels (links ! i) size h) in
          omega (
            arith,
            sum-zero (λ m. only_if (eqb (label labels m) L) (hit m (i / 4) (links ! i))) n
                (λ m l. nothing (eqb (label labels m) L) _ (hit_off m (i / 4) (links ! i) (λ e. omega arith))),
            cross_off labels L i (links ! i) f,
            inner_off labels L i (links ! i) f,
          )

  only_if_add : (c : Bool) (x y : ℕ) → only_if c (x + y) ≡ only_if c x + only_if c y
  only_if_add true x y = refl
  only_if_add false x y = refl

  -- what the first k places add
  places_add : (k : ℕ) → sum (λ m. only_if (eqb (label labels m) L) (sum (named links m) k)) n ≡ sum (placed links labels L) k + sum (within links labels L) k
  unfolding sum
  places_add zero = sum-zero (λ m. only_if (eqb (label labels m) L) 0) n (λ m _. none-added (eqb (label labels m) L))
    where
      none-added : (c : Bool) → only_if c 0 ≡ 0
      none-added true = refl
      none-added false = refl
  places_add (suc k) =
      omega (
        arith,
        sum_joined (λ m. only_if (eqb (label labels m) L) (sum (named links m) k + named links m k)) (λ m. only_if (eqb (label labels m) L) (sum (named links m) k))
            (λ m. only_if (eqb (label labels m) L) (named links m k)) n (λ m _. only_if_add (eqb (label labels m) L) (sum (named links m) k) (named links m k)),
        places_add k,
        place_adds k,
      )

  -- the entries of the pieces with label L, where those are drafts
  pub merged : {states into : List ℕ} → Into n states links into → ((m : ℕ) → m < n → label labels m ≡ L → states ! m ≡ 1)
      → sum (held into labels L) n ≡ sum (placed links labels L) (4 * n) + sum (within links labels L) (4 * n)
  unfolding held
  merged {states} {into} x drafts =
      sum_cong (λ m. only_if (eqb (label labels m) L) (into ! m)) (λ m. only_if (eqb (label labels m) L) (named_by n links m)) n
      (λ m h. ⊎_elim
      (λ e. ap (only_if (eqb (label labels m) L)) (x.drafts m h (drafts m h e)))
      (λ f. only_if-false _ (into ! m) (ne_eqb (label labels m) L f) ∙ sym (only_if-false _ (named_by n links m) (ne_eqb (label labels m) L f)))
      (eq_or (label labels m) L))
      ∙ places_add (4 * n)
