-- The first pass over the queue: each piece gets its leader, and its entry of links into it goes to its group's count.
use Rattle.std.specs.Prelude.{◌≡◌, refl, ◌⊎◌, List, ℕ, ◌+◌, ◌*◌, ◌≤◌, ◌<◌, eqb, length, set}
use Rattle.std.proofs.Common.{sym, ◌∙◌, subst, length-set, get_or-set_same, get_or-set_other, eq-eqb, ne_eqb}
use Rattle.std.proofs.Math.Path.{ap}
use Rattle.std.proofs.Math.Logic.{⊎_elim}
use native.Mathlib.Omega.{arith}
use Rattle.rules.specs.Lists.{◌!◌}
use Rattle.rules.specs.Tests.{only_if}
use Rattle.rules.specs.Below.{sum}
use Rattle.laws.specs.Below.{sum_change}
use Rattle.laws.specs.Counts.{sum-most}
use Rattle.laws.specs.Kept.{sum_term}
use Rattle.laws.specs.Numbers.{eq_or, set_cases}
use Rattle.tallies.specs.Sums.{only_if-true, only_if-false, only_if-most, sum-zero}
use Rattle.tallies.specs.Tally.{label, held, placed}
use Rattle.into.specs.Into.{into_most}
use Rattle.recounting.specs.Merged.{within, merged}
use Rattle.recounting.specs.Standing.{Standing, fresh_leaders, standing_or, fresh-n, fresh_on, fresh_off}
use Rattle.recounting.specs.Taken.{Taking}

-- entry q goes to 0
held_out : (n : ℕ) (into labels : List ℕ) (q L : ℕ) → q < n → q < length into
    → sum (held (set into q 0) labels L) n + only_if (eqb (label labels q) L) (into ! q) ≡ sum (held into labels L) n
unfolding held
held_out n into labels q L h l =
    omega (
      arith,
      sum_change (held (set into q 0) labels L) (held into labels L) n q h (λ r _ d. ap (only_if (eqb (label labels r) L)) (get_or-set_other into q r 0 0 d)),
      ap (only_if (eqb (label labels q) L)) (get_or-set_same into q 0 0 l),
      only_if-most (eqb (label labels q) L) 0 0 (omega arith),
    )

-- the pass may begin, whatever the states and links are
pub record Handing (n : ℕ) (leaders counts into found queue : List ℕ) : Type 0 where
  pub states : List ℕ
  pub links : List ℕ
  pub taking : Taking n states links leaders counts into found queue

-- the first j pieces of the queue are passed
pub record Summed (n : ℕ) (leaders counts into found queue : List ℕ) (j : ℕ) (leaders' counts' into' : List ℕ) : Type 0 where
  pub leaders_n : length leaders' ≡ length leaders
  pub counts_n : length counts' ≡ length counts
  pub into_n : length into' ≡ length into
  pub led : (i : ℕ) → i < j → leaders' ! (queue ! i) ≡ found ! (queue ! i)
  pub left : (q : ℕ) → (Standing queue q → ⊥) → leaders' ! q ≡ leaders ! q
  pub emptied : (i : ℕ) → i < j → into' ! (queue ! i) ≡ 0
  pub kept : (q : ℕ) → (Standing queue q → ⊥) → into' ! q ≡ into ! q
  pub whole : (L : ℕ) → L < n → counts' ! L + sum (held into' (fresh_leaders n found queue) L) n ≡ counts ! L + sum (held into (fresh_leaders n found queue) L) n

module _ {n : ℕ} {states links leaders counts into found queue : List ℕ} (t : Taking n states links leaders counts into found queue) where
  abbrev fresh : List ℕ
  fresh = fresh_leaders n found queue

  -- a whole group's entries, added up, have room
  most_summed : (L : ℕ) → L < n → counts ! L + sum (held into fresh L) n ≤ 71302144
  unfolding held
  most_summed L h =
      omega (
        arith,
        t.most L h,
        t.small,
        sum-most (λ m. only_if (eqb (label fresh m) L) (into ! m)) 4096 n
            (λ m l. only_if-most (eqb (label fresh m) L) (into ! m) 4096 (omega (arith, into_most t.named m l, t.small))),
      )

  module _ {j : ℕ} {leaders₁ counts₁ into₁ : List ℕ} (a : Summed n leaders counts into found queue j leaders₁ counts₁ into₁) where
    module _ (more : j < length queue) where
      abbrev q : ℕ
      q = queue ! j

      abbrev l : ℕ
      l = found ! q

      pub summing_below : queue ! j < n
      summing_below = t.queued.each j more

      standing : Standing queue (queue ! j)
      standing = record { at = j; below = more; is = refl }

      pub summing_leader : found ! (queue ! j) < n
      summing_leader = t.fit q summing_below standing

      label_q : label fresh q ≡ l
      label_q = fresh_on n found queue q summing_below standing

      pub summing_room : counts₁ ! (found ! (queue ! j)) + into₁ ! (queue ! j) ≤ 71302144
      unfolding held
      summing_room =
          omega (
            arith,
            a.whole l summing_leader,
            most_summed l summing_leader,
            sum_term (held into₁ fresh l) n q summing_below,
            only_if-true _ (into₁ ! q) (eq-eqb (label fresh q) l label_q),
          )

      pub summed_more : {leaders₂ counts₂ into₂ : List ℕ} → leaders₂ ≡ set leaders₁ (queue ! j) (found ! (queue ! j))
          → counts₂ ≡ set counts₁ (found ! (queue ! j)) (counts₁ ! (found ! (queue ! j)) + into₁ ! (queue ! j))
          → into₂ ≡ set into₁ (queue ! j) 0
          → Summed n leaders counts into found queue (j + 1) leaders₂ counts₂ into₂
      summed_more {leaders₂} {counts₂} {into₂} el ec ei = record {
        leaders_n = ap length el ∙ length-set leaders₁ q l ∙ a.leaders_n;
        counts_n = ap length ec ∙ length-set counts₁ l (counts₁ ! l + into₁ ! q) ∙ a.counts_n;
        into_n = ap length ei ∙ length-set into₁ q 0 ∙ a.into_n;
        led = λ i h.
            ⊎_elim
            (λ w. w.1 ∙ ap (λ (x : ℕ). found ! x) (sym w.0))
            (λ w. w.1 ∙ a.led i (last i h w.0))
            (leaders_at (queue ! i));
        left = λ r f. ⊎_elim (λ w. absurd (f (subst (Standing queue) (sym w.0) standing))) (λ w. w.1 ∙ a.left r f) (leaders_at r);
        emptied = λ i h. ⊎_elim (λ w. w.1) (λ w. w.1 ∙ a.emptied i (last i h w.0)) (into_at (queue ! i));
        kept = λ r f. ⊎_elim (λ w. absurd (f (subst (Standing queue) (sym w.0) standing))) (λ w. w.1 ∙ a.kept r f) (into_at r);
        whole = λ L h. whole L h;
      }
        where
          leaders_at : (r : ℕ) → ((r ≡ q) × (leaders₂ ! r ≡ l)) ⊎ ((r ≡ q → ⊥) × (leaders₂ ! r ≡ leaders₁ ! r))
          leaders_at r =
              subst (λ (x : List ℕ). ((r ≡ q) × (x ! r ≡ l)) ⊎ ((r ≡ q → ⊥) × (x ! r ≡ leaders₁ ! r))) (sym el)
              (set_cases leaders₁ q l r 0 (omega (arith, summing_below, a.leaders_n, t.leaders_n)))

          into_at : (r : ℕ) → ((r ≡ q) × (into₂ ! r ≡ 0)) ⊎ ((r ≡ q → ⊥) × (into₂ ! r ≡ into₁ ! r))
          into_at r =
              subst (λ (x : List ℕ). ((r ≡ q) × (x ! r ≡ 0)) ⊎ ((r ≡ q → ⊥) × (x ! r ≡ into₁ ! r))) (sym ei)
              (set_cases into₁ q 0 r 0 (omega (arith, summing_below, a.into_n, t.named.size)))

          last : (i : ℕ) → i < j + 1 → (queue ! i ≡ q → ⊥) → i < j
          last i h d = ⊎_elim (λ e. absurd (d (ap (λ (x : ℕ). queue ! x) e))) (λ e. omega arith) (eq_or i j)

          whole : (L : ℕ) → L < n → counts₂ ! L + sum (held into₂ fresh L) n ≡ counts ! L + sum (held into fresh L) n
          whole L h =
              let out = held_out n into₁ fresh q L summing_below (omega (arith, summing_below, a.into_n, t.named.size)) in
              let si : sum (held into₂ fresh L) n ≡ sum (held (set into₁ q 0) fresh L) n = ap (λ (x : List ℕ). sum (held x fresh L) n) ei in
              let sc : counts₂ ! L ≡ set counts₁ l (counts₁ ! l + into₁ ! q) ! L = ap (λ (x : List ℕ). x ! L) ec in
              ⊎_elim
              (λ w.
              omega (arith, w.1, sc, si, out, a.whole L h, only_if-true _ (into₁ ! q) (eq-eqb (label fresh q) L (label_q ∙ sym w.0)), ap (λ (x : ℕ). counts₁ ! x) w.0))
              (λ w. omega (arith, w.1, sc, si, out, a.whole L h, only_if-false _ (into₁ ! q) (ne_eqb (label fresh q) L (λ e. w.0 (sym e ∙ label_q)))))
              (set_cases counts₁ l (counts₁ ! l + into₁ ! q) L 0 (omega (arith, summing_leader, a.counts_n, t.counts_n)))

    -- all are passed
    module _ (end : length queue ≤ j) where
      pub summed_leaders : (r : ℕ) → r < n → Standing queue r → leaders₁ ! r ≡ found ! r
      summed_leaders r h e =
          let x = a.led e.at (let y = e.below in omega arith) in
          subst (λ (y : ℕ). leaders₁ ! y ≡ found ! y) e.is x

      pub summed_empty : (r : ℕ) → r < n → Standing queue r → into₁ ! r ≡ 0
      summed_empty r h e = subst (λ (y : ℕ). into₁ ! y ≡ 0) e.is (a.emptied e.at (let y = e.below in omega arith))

      draft_of : (m : ℕ) → m < n → {L : ℕ} → L < n → label fresh m ≡ L → Standing queue m
      draft_of m h {L} k e = ⊎_elim (λ x. x) (λ f. absurd (omega (arith, fresh_off n found queue m h f, t.small))) (standing_or queue m)

      pub summed_counts : (L : ℕ) → L < n
          → counts₁ ! L ≡ counts ! L + sum (placed links (fresh_leaders n found queue) L) (4 * n) + sum (within links (fresh_leaders n found queue) L) (4 * n)
      unfolding held
      summed_counts L h =
          omega (
            arith,
            a.whole L h,
            sum-zero (held into₁ fresh L) n (λ m k. ⊎_elim
                (λ e. ap (only_if (eqb (label fresh m) L)) (summed_empty m k (draft_of m k h e)) ∙ only_if-true _ 0 (eq-eqb (label fresh m) L e))
                (λ f. only_if-false _ (into₁ ! m) (ne_eqb (label fresh m) L f))
                (eq_or (label fresh m) L)),
            merged n links fresh (fresh-n n found queue) t.small L h t.named (λ m k e. t.draft m k (draft_of m k h e)),
          )

-- ---- what the first pass leaves

pub record Handed (n : ℕ) (links leaders counts into found queue : List ℕ) (leaders' counts' into' : List ℕ) : Type 0 where
  pub leaders_n : length leaders' ≡ length leaders
  pub counts_n : length counts' ≡ length counts
  pub into_n : length into' ≡ length into
  pub led : (q : ℕ) → q < n → Standing queue q → leaders' ! q ≡ found ! q
  pub left : (q : ℕ) → (Standing queue q → ⊥) → leaders' ! q ≡ leaders ! q
  pub emptied : (q : ℕ) → q < n → Standing queue q → into' ! q ≡ 0
  pub kept : (q : ℕ) → (Standing queue q → ⊥) → into' ! q ≡ into ! q
  pub counted : (L : ℕ) → L < n → counts' ! L ≡ counts ! L + sum (placed links (fresh_leaders n found queue) L) (4 * n) + sum (within links (fresh_leaders n found queue) L) (4 * n)

pub summed_all : {n : ℕ} {states links leaders counts into found queue : List ℕ} {j : ℕ} {leaders' counts' into' : List ℕ} → Taking n states links leaders counts into found queue
    → Summed n leaders counts into found queue j leaders' counts' into' → length queue ≤ j → Handed n links leaders counts into found queue leaders' counts' into'
summed_all t a end = record {
  leaders_n = a.leaders_n;
  counts_n = a.counts_n;
  into_n = a.into_n;
  led = summed_leaders t a end;
  left = a.left;
  emptied = summed_empty t a end;
  kept = a.kept;
  counted = summed_counts t a end;
}
