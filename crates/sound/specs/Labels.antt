-- One count for two tables: each piece has its leader as label, or its own number if it has none.
use Rattle.std.specs.Prelude.{◌≡◌, Bool, not, List, ℕ, ◌*◌, ◌/◌, ◌≤◌, ◌<◌, ltb, length}
use Rattle.std.proofs.Common.{sym, ◌∙◌, ⊎_elim, lt-ltb, le-ltb}
use Rattle.std.proofs.Math.Path.{ap}
use native.Mathlib.Omega.{arith}
use Rattle.std.proofs.Math.Dec.{eqb, eqb→eq}
use Rattle.rules.specs.Tests.{◌&◌, pick, only_if}
use Rattle.rules.specs.Limits.{none}
use Rattle.rules.specs.Below.{sum, table}
use Rattle.rules.specs.Lists.{◌!◌}
use Rattle.laws.specs.Below.{get_or-table, length-table}
use Rattle.laws.specs.Counts.{sum-most}
use Rattle.laws.specs.Numbers.{lt_or}
use Rattle.laws.specs.Tests.{same_test}
use Rattle.laws.specs.Words.{eqb_of}
use Rattle.tallies.specs.Sums.{sum_cong}
use Rattle.tallies.specs.Tally.{label, cross, placed}
use Rattle.tallies.specs.Moves.{cross_off}
use Rattle.tallies.specs.Exact.{label_past}
use Rattle.into.specs.Named.{hit, named, named_by}

-- the leader of p, and p if it has none
abbrev pub label_by : ℕ → ℕ → ℕ → ℕ
label_by n leader p = pick (ltb leader n) leader p

module _ (n leader p : ℕ) where
  pub by_leader : leader < n → label_by n leader p ≡ leader
  by_leader h = ap (λ (c : Bool). pick c leader p) (lt-ltb leader n h)

  pub by_own : n ≤ leader → label_by n leader p ≡ p
  by_own h = ap (λ (c : Bool). pick c leader p) (le-ltb leader n h)

  pub by_below : p < n → label_by n leader p < n
  by_below h = ⊎_elim (λ l. omega (arith, by_leader l)) (λ l. omega (arith, by_own l)) (lt_or leader n)

-- the labels of all pieces
unfoldable pub labels : ℕ → List ℕ → List ℕ
labels n leaders = table (λ q. label_by n (leaders ! q) q) n

-- the labels of those without a leader, and none for the others
unfoldable pub singles : ℕ → List ℕ → List ℕ
singles n leaders = table (λ q. pick (ltb (leaders ! q) n) none q) n

module _ (n : ℕ) (leaders : List ℕ) where
  pub labels-n : length (labels n leaders) ≡ n
  unfolding labels
  labels-n = length-table (λ q. label_by n (leaders ! q) q) n

  pub labels_at : (q : ℕ) → q < n → labels n leaders ! q ≡ label_by n (leaders ! q) q
  unfolding labels
  labels_at q h = get_or-table (λ q. label_by n (leaders ! q) q) n q 0 h

  pub label_is : (q : ℕ) → q < n → label (labels n leaders) q ≡ label_by n (leaders ! q) q
  unfolding labels
  label_is q h = get_or-table (λ q. label_by n (leaders ! q) q) n q none h

  pub single_led : (q : ℕ) → q < n → leaders ! q < n → label (singles n leaders) q ≡ none
  unfolding singles
  single_led q h l = get_or-table (λ q. pick (ltb (leaders ! q) n) none q) n q none h ∙ ap (λ (c : Bool). pick c none q) (lt-ltb (leaders ! q) n l)

  pub single_own : (q : ℕ) → q < n → n ≤ leaders ! q → label (singles n leaders) q ≡ q
  unfolding singles
  single_own q h l = get_or-table (λ q. pick (ltb (leaders ! q) n) none q) n q none h ∙ ap (λ (c : Bool). pick c none q) (le-ltb (leaders ! q) n l)

  pub single_past : (q : ℕ) → n ≤ q → label (singles n leaders) q ≡ none
  unfolding singles
  single_past q h = label_past n (singles n leaders) q (length-table (λ q. pick (ltb (leaders ! q) n) none q) n) h

  -- a label of these is the piece itself, which has no leader
  pub single_is : n ≤ 1024 → (q L : ℕ) → L < n → label (singles n leaders) q ≡ L → (q ≡ L) × (n ≤ leaders ! q)
  single_is small q L l e =
      ⊎_elim
      (λ h.
      ⊎_elim (λ u. absurd (omega (arith, single_led q h u))) (λ u. (sym (single_own q h u) ∙ e, u)) (lt_or (leaders ! q) n))
      (λ h. absurd (omega (arith, single_past q h)))
      (lt_or q n)

  -- ---- what is counted by these is what names a piece

  module _ (small : n ≤ 1024) (links : List ℕ) (L : ℕ) (l : L < n) where
    pub singles-named : n ≤ leaders ! L → sum (placed links (singles n leaders) L) (4 * n) ≡ named_by n links L
    unfolding placed cross named hit
    singles-named h = sum_cong _ _ (4 * n) (λ i _. term (links ! i) (i / 4))
      where
        same : (q : ℕ) → eqb (label (singles n leaders) q) L ≡ eqb q L
        same q = same_test (eqb (label (singles n leaders) q) L) (eqb q L)
            (λ t. eqb_of {m = q} {n = L} (single_is small q L l (eqb→eq (label (singles n leaders) q) L t)).0)
            (λ t. let e : q ≡ L = eqb→eq q L t in eqb_of {m = label (singles n leaders) q} {n = L} (ap (label (singles n leaders)) e ∙ single_own L l h))

        term : (t r : ℕ)
            → only_if (eqb (label (singles n leaders) t) L & not (eqb (label (singles n leaders) r) L)) 1 ≡ only_if (eqb t L & not (eqb r L)) 1
        term t r = λ i. only_if (same t i & not (same r i)) 1

    pub singles-none : leaders ! L < n → sum (placed links (singles n leaders) L) (4 * n) ≡ 0
    unfolding placed
    singles-none h =
        omega (
          arith,
          sum-most (placed links (singles n leaders) L) 0 (4 * n) (λ i _.
              omega (
                arith,
                cross_off (singles n leaders) L i (links ! i) (λ e. let s = single_is small (links ! i) L l e in
                    omega (arith, s.1, ap (λ (q : ℕ). leaders ! q) s.0)),
              )),
        )
