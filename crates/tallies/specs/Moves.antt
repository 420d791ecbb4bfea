-- What a hold and a link do to the counts, with the labels fixed.
use Rattle.std.proofs.Math.Path.{◌≡◌, refl, ap}
use Rattle.std.proofs.Common.{sym, ap₂, ◌∙◌, ⊎_elim, get_or-set_same, get_or-set_other}
use Rattle.std.specs.Prelude.{Bool, List, ℕ, ◌+◌, ◌-◌, ◌*◌, ◌/◌, ◌≤◌, ◌<◌, length, set}
use Rattle.std.proofs.Math.Bool.{true, false, not}
use native.Mathlib.Omega.{arith}
use Rattle.std.proofs.Math.Dec.{eqb}
use borrow.Author.Tests.{eq-eqb, ne_eqb, eqb-true}
use Rattle.rules.specs.Tests.{◌&◌, only_if}
use Rattle.rules.specs.Limits.{none}
use Rattle.rules.specs.Lists.{◌!◌}
use Rattle.laws.specs.Kept.{sum_term}
use Rattle.laws.specs.Below.{sum_change}
use Rattle.laws.specs.Counts.{sum-most}
use Rattle.laws.specs.Numbers.{set_cases}
use Rattle.tallies.specs.Sums.{only_if-true, only_if-false, only_if_pos, only_if-most}
use Rattle.tallies.specs.Tally.{label, cross, held, placed, tally, CountsMatch}

-- ---- crossing, by cases

module _ (leaders : List ℕ) (L i t : ℕ) where
  pub cross_in : label leaders t ≡ label leaders (i / 4) → cross leaders L i t ≡ 0
  unfolding cross
  cross_in e = only_if-false _ 1 (ap (λ (x : ℕ). eqb x L & not (eqb (label leaders (i / 4)) L)) e ∙ off (eqb (label leaders (i / 4)) L))
    where
      off : (b : Bool) → (b & not b) ≡ false
      off true = refl
      off false = refl

  pub cross_off : (label leaders t ≡ L → ⊥) → cross leaders L i t ≡ 0
  unfolding cross
  cross_off f = only_if-false _ 1 (ap (λ (b : Bool). b & not (eqb (label leaders (i / 4)) L)) (ne_eqb (label leaders t) L f))

  pub cross_on : label leaders t ≡ L → (label leaders (i / 4) ≡ L → ⊥) → cross leaders L i t ≡ 1
  unfolding cross
  cross_on e f = only_if-true _ 1 (ap₂ (λ (a b : Bool). a & not b) (eq-eqb (label leaders t) L e) (ne_eqb (label leaders (i / 4)) L f))

  pub cross-most : cross leaders L i t ≤ 1
  unfolding cross
  cross-most = only_if-most (eqb (label leaders t) L & not (eqb (label leaders (i / 4)) L)) 1 1 (omega arith)

  -- what a crossing says
  pub cross_pos : 0 < cross leaders L i t → (label leaders t ≡ L) × (label leaders (i / 4) ≡ L → ⊥)
  unfolding cross
  cross_pos h = go (eqb (label leaders t) L) (eqb (label leaders (i / 4)) L) refl refl (only_if_pos _ 1 h).0
    where
      go : (a b : Bool) → eqb (label leaders t) L ≡ a → eqb (label leaders (i / 4)) L ≡ b → (a & not b) ≡ true → (label leaders t ≡ L) × (label leaders (i / 4) ≡ L → ⊥)
      go true true x y z = absurd (let w : ◌≡◌ {A = ℕ} 0 1 = cc in omega arith)
      go true false x y z = (eqb-true _ _ x, λ e. absurd (let v = eq-eqb (label leaders (i / 4)) L e in let w : ◌≡◌ {A = ℕ} 0 1 = cc in omega arith))
      go false b x y z = absurd (let w : ◌≡◌ {A = ℕ} 0 1 = cc in omega arith)

-- ---- one hold, one link

module _ (n : ℕ) (links holds leaders : List ℕ) where
  -- the holds of p become h
  pub hold_moves : (p h L : ℕ) → p < n → p < length holds → tally n links (set holds p h) leaders L + held holds leaders L p ≡ tally n links holds leaders L + only_if
      (eqb (label leaders p) L) h
  unfolding tally held
  hold_moves p h L lt len =
      omega (
        arith,
        sum_change (held (set holds p h) leaders L) (held holds leaders L) n p lt (λ q _ d. ap (only_if (eqb (label leaders q) L)) (get_or-set_other holds p q h 0 d)),
        ap (only_if (eqb (label leaders p) L)) (get_or-set_same holds p h 0 len),
      )

  -- link place i becomes t
  pub link_moves : (i t L : ℕ) → i < 4 * n → i < length links → tally n (set links i t) holds leaders L + cross leaders L i (links ! i) ≡ tally n links holds leaders L + cross leaders L i t
  unfolding tally placed
  link_moves i t L lt len =
      omega (
        arith,
        sum_change (placed (set links i t) leaders L) (placed links leaders L) (4 * n) i lt (λ q _ d. ap (cross leaders L q) (get_or-set_other links i q t 0 d)),
        ap (cross leaders L i) (get_or-set_same links i t 0 len),
      )

  -- a place that crosses is counted
  pub link_counts : (i L : ℕ) → i < 4 * n → cross leaders L i (links ! i) ≤ tally n links holds leaders L
  unfolding tally placed
  link_counts i L lt = omega (arith, sum_term (placed links leaders L) (4 * n) i lt)

  pub hold_counts : (p L : ℕ) → p < n → label leaders p ≡ L → holds ! p ≤ tally n links holds leaders L
  unfolding tally held
  hold_counts p L lt e = omega (arith, sum_term (held holds leaders L) n p lt, only_if-true _ (holds ! p) (eq-eqb (label leaders p) L e))

-- the largest count
pub tally-most : (n : ℕ) (links holds leaders : List ℕ) (L : ℕ) → n ≤ 1024 → ((r : ℕ) → r < n → holds ! r ≤ 1000) → tally n links holds leaders L < 1028097
unfolding tally held placed
tally-most n links holds leaders L m h =
    omega (
      arith,
      sum-most (held holds leaders L) 1000 n (λ r l. only_if-most (eqb (label leaders r) L) (holds ! r) 1000 (h r l)),
      sum-most (placed links leaders L) 1 (4 * n) (λ i _. cross-most leaders L i (links ! i)),
    )

-- ---- the counts follow: the four moves

-- one entry is changed, and the tally with it
pub matched : (n : ℕ) (links holds leaders counts links' holds' : List ℕ) (M x : ℕ) → length counts ≡ n → CountsMatch n links holds leaders counts → M < n
    → x ≡ tally n links' holds' leaders M → ((L : ℕ) → L < n → (L ≡ M → ⊥) → tally n links' holds' leaders L ≡ tally n links holds leaders L)
    → CountsMatch n links' holds' leaders (set counts M x)
matched n links holds leaders counts links' holds' M x len m lt e o L l =
    ⊎_elim
    (λ w. w.1 ∙ e ∙ ap (tally n links' holds' leaders) (sym w.0))
    (λ w. w.1 ∙ m L l ∙ sym (o L l w.0))
    (set_cases counts M x L 0 (omega arith))

module _ (n : ℕ) (links holds leaders counts : List ℕ) (len : length counts ≡ n) (m : CountsMatch n links holds leaders counts) where
  hold_at : (p h M : ℕ) → p < n → p < length holds → label leaders p ≡ M → tally n links (set holds p h) leaders M + holds ! p ≡ tally n links holds leaders M + h
  unfolding held
  hold_at p h M lt l e =
      let t = eq-eqb (label leaders p) M e in
      omega (arith, hold_moves n links holds leaders p h M lt l, only_if-true _ (holds ! p) t, only_if-true _ h t)

  hold_off : (p h M L : ℕ) → p < n → p < length holds → label leaders p ≡ M → (L ≡ M → ⊥) → tally n links (set holds p h) leaders L ≡ tally n links holds leaders L
  unfolding held
  hold_off p h M L lt l e d =
      let f = ne_eqb (label leaders p) L (λ x. d (sym x ∙ e)) in
      omega (arith, hold_moves n links holds leaders p h L lt l, only_if-false _ (holds ! p) f, only_if-false _ h f)

  -- the holds of p become h: the count of its label follows
  pub match_hold : (p h x M : ℕ) → p < n → p < length holds → label leaders p ≡ M → M < n → x + holds ! p ≡ counts ! M + h
      → CountsMatch n links (set holds p h) leaders (set counts M x)
  match_hold p h x M lt l e lm ex =
      matched n links holds leaders counts links (set holds p h) M x len m lm (omega (arith, hold_at p h M lt l e, m M lm)) (λ L k d. hold_off p h M L lt l e d)

  -- a link that crosses no border, or names no label, moves no count
  pub match_in : (i t : ℕ) → i < 4 * n → i < length links → ((L : ℕ) → L < n → cross leaders L i (links ! i) ≡ cross leaders L i t)
      → CountsMatch n (set links i t) holds leaders counts
  match_in i t lt l e L k = omega (arith, m L k, link_moves n links holds leaders i t L lt l, e L k)

  -- a link that crosses is removed
  pub match_unlink : (i M : ℕ) → i < 4 * n → i < length links → n ≤ 1024 → label leaders none ≡ none → label leaders (links ! i) ≡ M → M < n
      → (label leaders (i / 4) ≡ M → ⊥)
      → (0 < counts ! M) × CountsMatch n (set links i none) holds leaders (set counts M (counts ! M - 1))
  match_unlink i M lt l small nn e lm f =
      let a : cross leaders M i (links ! i) ≡ 1 = cross_on leaders M i (links ! i) e f in
      let b : cross leaders M i none ≡ 0 = cross_off leaders M i none (λ x. omega arith) in
      let c = link_counts n links holds leaders i M lt in
      let d = m M lm in (
        omega arith,
        matched n links holds leaders counts (set links i none) holds M (counts ! M - 1) len m lm (omega (arith, link_moves n links holds leaders i none M lt l))
            (λ L k g. omega (arith, link_moves n links holds leaders i none L lt l, cross_off leaders L i (links ! i) (λ x. g (sym x ∙ e)), cross_off leaders L i none (λ x. omega arith))),
      )
