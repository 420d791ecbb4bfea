-- Two tables of labels that have no label in common, joined in one: a count by the joined labels is the count by the first, plus the places that count for the second.
use Rattle.std.specs.Prelude.{◌≡◌, ◌⊎◌, Bool, List, ℕ, ◌+◌, ◌*◌, ◌/◌, ◌≤◌, ◌<◌, eqb}
use Rattle.std.proofs.Math.Path.{refl}
use Rattle.std.proofs.Common.{sym, ap, ◌∙◌, inl, inr, ⊎_elim}
use Rattle.std.proofs.Math.Bool.{true, false}
use native.Mathlib.Omega.{arith}
use Rattle.rules.specs.Tests.{only_if}
use Rattle.rules.specs.Limits.{none}
use Rattle.rules.specs.Below.{sum}
use Rattle.rules.specs.Lists.{◌!◌}
use Rattle.laws.specs.Numbers.{eq_or}
use Rattle.tallies.specs.Sums.{sum_cong, sum_joined}
use Rattle.tallies.specs.Tally.{label, cross, held, placed, tally}
use Rattle.tallies.specs.Moves.{cross_in, cross_off, cross_on}

-- the label of t is the first table's or the second's, and the other has none
abbrev pub Joined : List ℕ → List ℕ → List ℕ → ℕ → Type 0
Joined first second both t = ((label both t ≡ label first t) × (label second t ≡ none)) ⊎ ((label both t ≡ label second t) × (label first t ≡ none))

-- no label is of both tables
abbrev pub Apart : ℕ → List ℕ → List ℕ → Type 0
Apart n first second = (s t L : ℕ) → L < n → label first s ≡ L → label second t ≡ L → ⊥

-- a place whose target has its label of the first table
cross-first : (n : ℕ) (first second both : List ℕ) → n ≤ 1024 → ((t : ℕ) → Joined first second both t) → Apart n first second → (L i t : ℕ) → L < n
    → label both t ≡ label first t → label second t ≡ none
    → cross both L i t ≡ cross first L i t + cross second L i t
cross-first n first second both small joined apart L i t h e f =
    let z : cross second L i t ≡ 0 = cross_off second L i t (λ y. omega arith) in
    ⊎_elim
    (λ y. ⊎_elim
    (λ o. let w : label both (i / 4) ≡ L = inside o in omega (arith, cross_in both L i t (e ∙ y ∙ sym w), cross_in first L i t (y ∙ sym o)))
    (λ o. omega (arith, cross_on both L i t (e ∙ y) (outside y o), cross_on first L i t y o))
    (eq_or (label first (i / 4)) L))
    (λ y. omega (arith, cross_off both L i t (λ w. y (sym e ∙ w)), cross_off first L i t y))
    (eq_or (label first t) L)
  where
    inside : label first (i / 4) ≡ L → label both (i / 4) ≡ L
    inside o = ⊎_elim (λ w. w.0 ∙ o) (λ w. absurd (let v = w.1 in omega arith)) (joined (i / 4))

    outside : label first t ≡ L → (label first (i / 4) ≡ L → ⊥) → label both (i / 4) ≡ L → ⊥
    outside y o w = ⊎_elim (λ v. o (sym v.0 ∙ w)) (λ v. apart t (i / 4) L h y (sym v.0 ∙ w)) (joined (i / 4))

module _ (n : ℕ) (first second both : List ℕ) (small : n ≤ 1024) (joined : (t : ℕ) → Joined first second both t) (apart : Apart n first second) where
  cross_joined : (L i t : ℕ) → L < n → cross both L i t ≡ cross first L i t + cross second L i t
  cross_joined L i t h =
      ⊎_elim
      (λ w. cross-first n first second both small joined apart L i t h w.0 w.1)
      (λ w. omega (arith, cross-first n second first both small (λ u. ⊎_elim (λ v. inr v) (λ v. inl v) (joined u)) (λ s u M l x y. apart u s M l y x) L i t h w.0 w.1))
      (joined t)

  -- where the pieces of the second table have no holds
  pub tally_joined : (links holds : List ℕ) → ((q : ℕ) → q < n → (label both q ≡ label first q) ⊎ (holds ! q ≡ 0)) → (L : ℕ) → L < n
      → tally n links holds both L ≡ tally n links holds first L + sum (placed links second L) (4 * n)
  unfolding tally placed held
  tally_joined links holds bare L h =
      omega (
        arith,
        sum_cong (held holds both L) (held holds first L) n (λ q l. held_same q (bare q l)),
        sum_joined (placed links both L) (placed links first L) (placed links second L) (4 * n) (λ i l. cross_joined L i (links ! i) h),
      )
    where
      nothing : (c : Bool) → only_if c 0 ≡ 0
      nothing true = refl
      nothing false = refl

      held_same : (q : ℕ) → (label both q ≡ label first q) ⊎ (holds ! q ≡ 0) → only_if (eqb (label both q) L) (holds ! q) ≡ only_if (eqb (label first q) L) (holds ! q)
      held_same q (inl e) = ap (λ (x : ℕ). only_if (eqb x L) (holds ! q)) e
      held_same q (inr e) = ap (only_if (eqb (label both q) L)) e ∙ nothing (eqb (label both q) L) ∙ sym (ap (only_if (eqb (label first q) L)) e ∙ nothing (eqb (label first q) L))
