-- Counting up: what a piece's holds and its places add to the counts of the labels.
use Rattle.std.specs.Prelude.{◌≡◌, List, ℕ, zero, suc, ◌+◌, ◌*◌, ◌/◌, ◌≤◌, ◌<◌, eqb, set}
use Rattle.std.proofs.Common.{sym, ◌∙◌, subst, eq-eqb, ne_eqb}
use Rattle.std.proofs.Math.Path.{ap}
use native.Mathlib.Omega.{arith}
use Rattle.rules.specs.Lists.{◌!◌}
use Rattle.rules.specs.Limits.{none}
use Rattle.rules.specs.Below.{sum}
use Rattle.laws.specs.Below.{sum-next}
use Rattle.laws.specs.Counts.{sum-most}
use Rattle.tallies.specs.Sums.{only_if-true, only_if-false, only_if-most}
use Rattle.tallies.specs.Tally.{label, held, placed, tally}
use Rattle.tallies.specs.Moves.{cross-most}
use Rattle.tallies.specs.Exact.{sum_flat}
use Rattle.tallies.specs.Adding.{Labelled, label_at, Tallied, Added, added_none, added-one, added_then, added_same, still}
use Rattle.tallies.specs.Places.{LinkAdded, link_past}

-- each label has a count, with room for one more of 16 bits
pub record Countable (n : ℕ) (leaders counts : List ℕ) : Type 0 where
  pub labelled : Labelled n leaders counts
  pub room : (l : ℕ) → l < n → counts ! l ≤ 4294901759

-- ---- the holds of a piece

-- the holds of q are counted
pub record HoldAdded (n : ℕ) (holds leaders : List ℕ) (q : ℕ) (c c' : List ℕ) : Type 0 where
  pub added : Added n (λ l. held holds leaders l q) c c'

-- q has label l
pub hold_hit : {n : ℕ} {holds leaders counts : List ℕ} {q l : ℕ} → Labelled n leaders counts → q < n → l ≡ leaders ! q → l < n
    → HoldAdded n holds leaders q counts (set counts l (counts ! l + holds ! q))
unfolding held
hold_hit {holds = holds} {leaders} {q = q} {l} z k e h = record {
  added =
      added-one l (holds ! q) h z.counts_n (only_if-true _ (holds ! q) (eq-eqb (label leaders q) l (label_at z q k ∙ sym e)))
      (λ j u d. only_if-false _ (holds ! q) (ne_eqb (label leaders q) j (λ y. d (sym y ∙ label_at z q k ∙ sym e))));
}

-- the holds of one piece more fit
pub hold_fits : {n : ℕ} {holds leaders : List ℕ} {q : ℕ} {c c' : List ℕ} → HoldAdded n holds leaders q c c' → holds ! q < 65536 → (l : ℕ) → l < n → c' ! l ≤ c ! l + 65535
unfolding held
hold_fits {holds = holds} {leaders} {q} a b l h = omega (arith, a.added.sums l h, only_if-most (eqb (label leaders q) l) (holds ! q) 65535 (omega arith))

-- ---- the places of a piece

-- the first j places of q are counted
pub record PlacesCounted (n : ℕ) (links leaders : List ℕ) (q j : ℕ) (c c' : List ℕ) : Type 0 where
  pub added : Added n (λ l. sum (λ k. placed links leaders l (4 * q + k)) j) c c'

pub places-none : {n : ℕ} {links leaders : List ℕ} {q : ℕ} {c : List ℕ} → PlacesCounted n links leaders q 0 c c
unfolding sum
places-none = record { added = added_none (λ l u. omega arith) }

-- each adds at most 1
pub places_fit : {n : ℕ} {links leaders : List ℕ} {q j : ℕ} {c c' : List ℕ} → PlacesCounted n links leaders q j c c' → (l : ℕ) → l < n → c' ! l ≤ c ! l + j
unfolding placed
places_fit {links = links} {leaders} {q} {j} a l h =
    omega (arith, a.added.sums l h, sum-most (λ k. placed links leaders l (4 * q + k)) 1 j (λ k _. cross-most leaders l (4 * q + k) (links ! (4 * q + k))))

-- one place more
pub places-more : {n : ℕ} {links leaders : List ℕ} {q j : ℕ} {c c₁ c₂ : List ℕ} → Labelled n leaders c → q < n → j < 4 → PlacesCounted n links leaders q j c c₁
    → LinkAdded n leaders (leaders ! q) (links ! (4 * q + j)) c₁ c₂ → PlacesCounted n links leaders q (j + 1) c c₂
unfolding placed
places-more {links = links} {leaders} {q} {j} z h k a b =
    let e : (4 * q + j) / 4 ≡ q = omega arith in
    record {
      added =
          added_same (λ l u. omega (arith, sum-next (λ k. placed links leaders l (4 * q + k)) j))
          (added_then a.added (b.at (4 * q + j) (ap (λ (p : ℕ). label leaders p) e ∙ label_at z q h)));
    }

-- the places left are empty
pub places-rest : {n : ℕ} {links leaders : List ℕ} {q j : ℕ} {c c₁ : List ℕ} → Labelled n leaders c → q < n → (m : ℕ) → j + m ≡ 4
    → PlacesCounted n links leaders q j c c₁ → ((k : ℕ) → j ≤ k → k < 4 → links ! (4 * q + k) ≡ none) → PlacesCounted n links leaders q 4 c c₁
places-rest {n} {links} {leaders} {q} {j} {c} {c₁} z h zero e a f =
    let all : j ≡ 4 = omega arith in
    subst (λ (k : ℕ). PlacesCounted n links leaders q k c c₁) all a
places-rest {j = j} z h (suc m) e a f =
    let empty = f j (omega arith) (omega arith) in
    places-rest {j = j + 1} z h m (omega arith) (places-more z h (omega arith) a (link_past (still z a.added) (omega (arith, z.small)))) (λ k l u. f k (omega arith) u)

-- ---- all pieces

-- the holds and the places of the pieces below q are counted
pub record PiecesCounted (n : ℕ) (links holds leaders : List ℕ) (q : ℕ) (c c' : List ℕ) : Type 0 where
  pub added : Added n (λ l. sum (held holds leaders l) q + sum (placed links leaders l) (4 * q)) c c'

pub pieces_none : {n : ℕ} {links holds leaders c : List ℕ} → PiecesCounted n links holds leaders 0 c c
unfolding sum
pieces_none = record { added = added_none (λ l u. omega arith) }

-- one piece more
pub pieces_more : {n : ℕ} {links holds leaders : List ℕ} {q : ℕ} {c c₁ c₂ c₃ : List ℕ} → PiecesCounted n links holds leaders q c c₁ → HoldAdded n holds leaders q c₁ c₂
    → PlacesCounted n links leaders q 4 c₂ c₃ → PiecesCounted n links holds leaders (q + 1) c c₃
pieces_more {links = links} {holds} {leaders} {q} a b d = record {
  added =
      added_same
      (λ l u.
      omega (
        arith,
        sum-next (held holds leaders l) q,
        sum_flat (placed links leaders l) (q + 1),
        sum_flat (placed links leaders l) q,
        sum-next (λ r. sum (λ k. placed links leaders l (4 * r + k)) 4) q,
      ))
      (added_then (added_then a.added b.added) d.added);
}

module _ {n : ℕ} {links holds leaders : List ℕ} {q : ℕ} {c c' : List ℕ} (a : PiecesCounted n links holds leaders q c c') (z : (l : ℕ) → l < n → c ! l ≡ 0) where
  -- counted from 0, the sums fit where holds are 16 bits wide
  pub pieces_fit : n ≤ 1024 → ((p : ℕ) → p < q → holds ! p < 65536) → q ≤ n → (l : ℕ) → l < n → c' ! l ≤ 67111936
  unfolding held placed
  pieces_fit small b h l u = omega (
    arith,
    a.added.sums l u,
    z l u,
    sum-most (held holds leaders l) 65535 q (λ p k. only_if-most (eqb (label leaders p) l) (holds ! p) 65535 (omega (arith, b p k))),
    sum-most (placed links leaders l) 1 (4 * q) (λ i _. cross-most leaders l i (links ! i)),
  )

  -- all pieces: the counts of all labels
  pub pieces_tallied : q ≡ n → Tallied n links holds leaders c c'
  unfolding tally
  pieces_tallied e = record {
    size = a.added.size;
    matches = λ l h.
        a.added.sums l h ∙
        omega (arith, z l h, ap (λ (k : ℕ). sum (held holds leaders l) k + sum (placed links leaders l) (4 * k)) e);
    later = a.added.later;
  }
