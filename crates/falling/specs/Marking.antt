-- A piece becomes marked: it is free while it still has its label, and stands at the tail of the queue.
use Rattle.std.specs.Prelude.{◌≡◌, ◌⊎◌, true, false, List, T, eqb, ltb, length}
use Rattle.std.proofs.Math.Path.{refl, subst}
use Rattle.std.proofs.Common.{sym, ap, ◌∙◌, lt→ltb, length-set, get_or-set_same, get_or-set_other}
use Rattle.std.proofs.Math.Logic.{inl, inr, ⊎_elim}
use Prim.Native.Nat.{ℕ, ◌+◌, ◌*◌, ◌/◌, ◌%◌, ◌≤◌, ◌<◌}
use native.Mathlib.Omega.{arith}
use Rattle.std.proofs.Math.Dec.{eqb→eq, ltb→lt}
use Rattle.std.proofs.Math.ListN.{set}
use Rattle.rules.specs.Tests.{◌&◌, only_if}
use Rattle.rules.specs.Limits.{none}
use Rattle.rules.specs.Below.{sum}
use Rattle.rules.specs.Tables.{Base}
use Rattle.laws.specs.Tests.{and_both, and_left, and_right, same_test}
use Rattle.laws.specs.Words.{eqb_of}
use Rattle.laws.specs.Below.{sum_change}
use Rattle.laws.specs.Numbers.{eq_or, lt_or, set_cases}
use Rattle.rules.specs.Lists.{◌!◌}
use Rattle.laws.specs.Counts.{sum-most}
use Rattle.tallies.specs.Sums.{sum_room, only_if-true, only_if-false, only_if-most}
use Rattle.tallies.specs.Tally.{label}
use Rattle.falling.specs.Queue.{Marked, is_marked, Erased, lengths_kept, Queue, Core, EachCounted, spot, Past}

-- ---- marked, by computation

module _ {n : ℕ} (leaders states : List ℕ) {p : ℕ} where
  pub is_marked→ : p < n → T (is_marked n leaders states p) → Marked n leaders states p
  unfolding is_marked
  is_marked→ h t = record {
    below = h;
    free = eqb→eq (states ! p) 0 (and_left (eqb (states ! p) 0) (ltb (label leaders p) n) t);
    labelled = ltb→lt (label leaders p) n (and_right (eqb (states ! p) 0) (ltb (label leaders p) n) t);
  }

  pub not_marked : p < n → (Marked n leaders states p → ⊥) → is_marked n leaders states p ≡ false
  not_marked h f = same_test (is_marked n leaders states p) false (λ t. f (is_marked→ h t)) (λ t. absurd t)

module _ {n : ℕ} {leaders states : List ℕ} {p : ℕ} where
  pub →is_marked : Marked n leaders states p → T (is_marked n leaders states p)
  unfolding is_marked
  →is_marked g =
      and_both (eqb (states ! p) 0) (ltb (label leaders p) n) (eqb_of g.free) (lt→ltb (label leaders p) n g.labelled)

  pub is_marked_lem : Marked n leaders states p → is_marked n leaders states p ≡ true
  is_marked_lem g = same_test (is_marked n leaders states p) true (λ _. tt) (λ _. →is_marked g)

-- ---- one piece more

pub marked_keeps : {n : ℕ} {leaders states : List ℕ} {p : ℕ} → length states ≡ n → (y : ℕ) → Marked n leaders states p
    → Marked n leaders (set states y 0) p
marked_keeps {states = states} {p = p} len y g = record {
  below = g.below;
  free = ⊎_elim (λ w. w.1) (λ w. w.1 ∙ g.free) (cases (lt_or y (length states)));
  labelled = g.labelled;
}
  where
    cases : (y < length states) ⊎ (length states ≤ y)
        → ((p ≡ y) × (set states y 0 ! p ≡ 0)) ⊎ ((p ≡ y → ⊥) × (set states y 0 ! p ≡ states ! p))
    cases (inl l) = set_cases states y 0 p 0 l
    cases (inr l) = let d : p ≡ y → ⊥ = λ e. (let h = g.below in omega arith) in inr (d, get_or-set_other states y p 0 0 d)

pub marked_new : {n : ℕ} {leaders : List ℕ} {y : ℕ} (states : List ℕ) → length states ≡ n → y < n → label leaders y < n
    → Marked n leaders (set states y 0) y
marked_new {y = y} states len l h = record { below = l; free = get_or-set_same states y 0 0 (omega arith); labelled = h }

marked_old : {n : ℕ} {leaders states : List ℕ} {y p : ℕ} → (p ≡ y → ⊥) → Marked n leaders (set states y 0) p
    → Marked n leaders states p
marked_old {states = states} {y = y} {p = p} d g =
    record { below = g.below; free = sym (get_or-set_other states y p 0 0 d) ∙ g.free; labelled = g.labelled }

-- the queue is no longer than the table
pub queue_most : {n : ℕ} {leaders states queue : List ℕ} {tail : ℕ} → Queue n leaders states queue tail → tail ≤ n
queue_most {n} {leaders} {states} q =
    omega (
      arith,
      q.many,
      sum-most (λ p. only_if (is_marked n leaders states p) 1) 1 n (λ p _. only_if-most (is_marked n leaders states p) 1 1 (omega arith)),
    )

module _ {e : Base} {leaders states links counts queue : List ℕ} {tail : ℕ} (c : Core e leaders states links counts queue tail) where
  -- an unmarked piece leaves room in the queue
  pub room : {y : ℕ} → y < e.n → (states ! y ≡ 0 → ⊥) → tail < e.n
  room {y} l f =
      omega (
        arith,
        c.queued.many,
        sum_room (λ p. only_if (is_marked e.n leaders states p) 1) e.n y l
            (λ p _. only_if-most (is_marked e.n leaders states p) 1 1 (omega arith))
            (only_if-false _ 1 (not_marked leaders states l (λ g. f g.free))),
      )

  pub tail_most : tail ≤ e.n
  tail_most = queue_most c.queued

  module _ {y : ℕ} (l : y < e.n) (h : label leaders y < e.n) (f : states ! y ≡ 0 → ⊥) where
    q_old : (i : ℕ) → i < tail → set queue tail y ! i ≡ queue ! i
    q_old i k = get_or-set_other queue tail i y 0 (λ e. omega arith)

    q_new : set queue tail y ! tail ≡ y
    q_new = get_or-set_same queue tail y 0 (omega (arith, room l f, c.lengths.queue_n))

    keeps : (p : ℕ) → Marked e.n leaders states p → Marked e.n leaders (set states y 0) p
    keeps p g = marked_keeps c.lengths.states_n y g

    new : Marked e.n leaders (set states y 0) y
    new = marked_new states c.lengths.states_n l h

    by : {P : ℕ → Type 0} → P y → ((p : ℕ) → Marked e.n leaders states p → P p) → (p : ℕ) → Marked e.n leaders (set states y 0) p → P p
    by {P} a o p g = ⊎_elim (λ x. subst P (sym x) a) (λ d. o p (marked_old d g)) (eq_or p y)

    erased_keeps : (i : ℕ) → Erased e leaders states links i → Erased e leaders (set states y 0) links i
    erased_keeps i r = record { owner = keeps (i / 4) r.owner; empty = r.empty; inner = λ s. keeps (e.links ! i) (r.inner s) }

    pub past_keeps : (m : ℕ) → m ≤ 4 * tail → Past e leaders states links queue m
        → Past e leaders (set states y 0) links (set queue tail y) m
    past_keeps m k a j u =
        subst (Erased e leaders (set states y 0) links) (ap (λ (x : ℕ). 4 * x + j % 4) (sym (q_old (j / 4) (omega arith))))
        (erased_keeps (spot queue j) (a j u))

    -- y becomes marked
    pub mark : counts ! label leaders y ≡ 0 → (label leaders y ≡ y) ⊎ Marked e.n leaders states (label leaders y)
        → Core e leaders (set states y 0) links counts (set queue tail y) (tail + 1)
    unfolding is_marked
    mark z led-y = record {
      lengths = lengths_kept c.lengths (length-set states y 0) refl refl (length-set queue tail y);
      queued = record {
        each = λ i k.
            ⊎_elim
            (λ u. subst Out (sym (q_old i u)) (keeps (queue ! i) (c.queued.each i u)))
            (λ u. subst Out (sym (ap (λ (x : ℕ). set queue tail y ! x) (omega arith) ∙ q_new)) new)
            (lt_or i tail);
        listed = by (tail, omega arith, q_new) (λ p g. let r = c.queued.listed p g in let u = r.1 in (r.0, omega arith, q_old r.0 u ∙ r.2));
        many = many;
      };
      pieces = λ p k.
          ⊎_elim
          (λ x. inr (subst Out (sym x) new))
          (λ d. ⊎_elim (λ s. inl (get_or-set_other states y p 0 0 d ∙ s)) (λ g. inr (keeps p g)) (c.pieces p k))
          (eq_or p y);
      places = λ i k. ⊎_elim (λ s. inl s) (λ r. inr (erased_keeps i r)) (c.places i k);
      matches = c.matches;
      zeros = by z c.zeros;
      led = by (⊎_elim (λ s. subst Out (sym s) new) (λ g. keeps (label leaders y) g) led-y) (λ p g. keeps (label leaders p) (c.led p g));
    }
      where
        Out : ℕ → Type 0
        Out p = Marked e.n leaders (set states y 0) p

        many : tail + 1 ≡ sum (λ p. only_if (is_marked e.n leaders (set states y 0) p) 1) e.n
        many =
            let s =
            sum_change (λ p. only_if (is_marked e.n leaders (set states y 0) p) 1) (λ p. only_if (is_marked e.n leaders states p) 1) e.n y l
            (λ p k d. ap (λ (x : ℕ). only_if (eqb x 0 & ltb (label leaders p) e.n) 1) (get_or-set_other states y p 0 0 d)) in
            omega (
              arith,
              c.queued.many,
              only_if-true _ 1 (is_marked_lem new),
              only_if-false _ 1 (not_marked leaders states l (λ g. f g.free)),
            )

    pub counted_mark : EachCounted e leaders states counts none → EachCounted e leaders (set states y 0) counts none
    counted_mark o L k own nz d = o L k own (λ z. nz (marked_free L z)) d
      where
        marked_free : (L : ℕ) → states ! L ≡ 0 → set states y 0 ! L ≡ 0
        marked_free L z = ⊎_elim (λ w. w.1) (λ w. w.1 ∙ z) (set_cases states y 0 L 0 (omega (arith, c.lengths.states_n)))

    -- the leader y, that had no count, is marked: no leader is left without
    pub counted_leader : EachCounted e leaders states counts y → EachCounted e leaders (set states y 0) counts none
    counted_leader o L k own nz d =
        let ne : L ≡ y → ⊥ = λ x. nz (ap (λ (u : ℕ). set states y 0 ! u) x ∙ get_or-set_same states y 0 0 (omega (arith, c.lengths.states_n))) in
        o L k own (λ z. nz (get_or-set_other states y L 0 0 ne ∙ z)) ne
