-- The second pass over the queue: the places within each piece's group are taken off its count, and the piece is frozen.
use Rattle.std.specs.Prelude.{◌≡◌, refl, ◌⊎◌, Bool, true, false, List, ℕ, ◌+◌, ◌*◌, ◌≤◌, ◌<◌, eqb, length, set}
use Rattle.std.proofs.Common.{sym, ap, ◌∙◌, subst, ⊎_elim, le_refl, arith, length-set, get_or-set_same, get_or-set_other, eq-eqb, ne_eqb}
use Rattle.rules.specs.Lists.{◌!◌}
use Rattle.rules.specs.Tests.{only_if}
use Rattle.rules.specs.Below.{sum}
use Rattle.laws.specs.Below.{sum_change}
use Rattle.laws.specs.Kept.{sum_term}
use Rattle.laws.specs.Numbers.{eq_or, set_cases}
use Rattle.tallies.specs.Sums.{sum-zero, only_if-true, only_if-false}
use Rattle.tallies.specs.Tally.{placed}
use Rattle.recounting.specs.Standing.{Standing, fresh_leaders, standing_or}
use Rattle.recounting.specs.Taken.{Taking, Taken}
use Rattle.recounting.specs.Summing.{Handing, Summed, summed_all}
use Rattle.recounting.specs.Within.{Turnable, leaders_n, mates, mates_on, mates_off, all_remaining}
use Rattle.recounting.specs.Inner.{within_of, Uncounting, Uncounted}

-- the first j pieces of the queue are passed
pub record Turned (n : ℕ) (states links leaders counts queue : List ℕ) (j : ℕ) (states' counts' : List ℕ) : Type 0 where
  pub states_n : length states' ≡ length states
  pub counts_n : length counts' ≡ length counts
  pub frozen : (i : ℕ) → i < j → states' ! (queue ! i) ≡ 2
  pub still : (i : ℕ) → j ≤ i → i < length queue → states' ! (queue ! i) ≡ 1
  pub left : (q : ℕ) → (Standing queue q → ⊥) → states' ! q ≡ states ! q
  pub sums : (L : ℕ) → L < n
      → counts' ! L + sum (λ r. only_if (eqb (states ! r) 1) (mates links leaders queue L r)) n
      ≡ counts ! L + sum (λ r. only_if (eqb (states' ! r) 1) (mates links leaders queue L r)) n

module _ {n : ℕ} {states links leaders counts queue : List ℕ} (t : Turnable n states links leaders counts queue) where
  abbrev fresh : List ℕ
  fresh = fresh_leaders n t.found queue

  abbrev g : Taking n states links t.leaders₀ t.counts₀ t.into₀ t.found queue
  g = t.taking

  module _ {j : ℕ} {states₁ counts₁ : List ℕ} (a : Turned n states links leaders counts queue j states₁ counts₁) where
    -- the counts are those of the places from outside, and of what is left within
    counts_are : (L : ℕ) → L < n
        → counts₁ ! L ≡ t.counts₀ ! L + sum (placed links fresh L) (4 * n) + sum (λ r. only_if (eqb (states₁ ! r) 1) (mates links leaders queue L r)) n
    counts_are L l = omega (arith, a.sums L l, t.handed.counted L l, all_remaining t L l)

    module _ (more : j < length queue) where
      pub turning_below : queue ! j < n
      turning_below = g.queued.each j more

      marked : Standing queue (queue ! j)
      marked = record { at = j; below = more; is = refl }

      abbrev q : ℕ
      q = queue ! j

      here_term : (L : ℕ) → only_if (eqb (states₁ ! q) 1) (mates links leaders queue L q) ≡ within_of links leaders L q 4
      here_term L = only_if-true _ _ (eq-eqb (states₁ ! q) 1 (a.still j (omega arith) more)) ∙ mates_on links leaders queue L q marked

      pub uncounting : Uncounting n links leaders counts₁ (queue ! j)
      uncounting = record {
        small = g.small;
        links_n = g.links_n;
        leaders_n = leaders_n t;
        counts_n = a.counts_n ∙ t.handed.counts_n ∙ g.counts_n;
        below = turning_below;
        led = own_below;
        room =
            let L : ℕ = leaders ! q in
            omega (
              arith,
              counts_are L own_below,
              here_term L,
              sum_term (λ r. only_if (eqb (states₁ ! r) 1) (mates links leaders queue L r)) n q turning_below,
            );
      }
        where
          own_below : leaders ! q < n
          own_below = subst (λ (x : ℕ). x < n) (sym (t.handed.led q turning_below marked)) (g.fit q turning_below marked)

      pub turned_more : {states₂ counts₂ : List ℕ} → Uncounted n links leaders counts₁ (queue ! j) 4 counts₂ → states₂ ≡ set states₁ (queue ! j) 2
          → Turned n states links leaders counts queue (j + 1) states₂ counts₂
      turned_more {states₂} {counts₂} u e = record {
        states_n = ap length e ∙ length-set states₁ q 2 ∙ a.states_n;
        counts_n = u.size ∙ a.counts_n;
        frozen = λ i h. ⊎_elim (λ w. w.1) (λ w. w.1 ∙ a.frozen i (last i h w.0)) (at (queue ! i));
        still = λ i k h. ⊎_elim (λ w. absurd (g.queued.apart j i (omega arith) h (sym w.0))) (λ w. w.1 ∙ a.still i (omega arith) h) (at (queue ! i));
        left = λ r f. ⊎_elim (λ w. absurd (f (subst (Standing queue) (sym w.0) marked))) (λ w. w.1 ∙ a.left r f) (at r);
        sums = λ L l. omega (arith, u.sums L l, a.sums L l, one_off L, here_term L, turned_term L);
      }
        where
          at : (r : ℕ) → ((r ≡ q) × (states₂ ! r ≡ 2)) ⊎ ((r ≡ q → ⊥) × (states₂ ! r ≡ states₁ ! r))
          at r =
              subst (λ (x : List ℕ). ((r ≡ q) × (x ! r ≡ 2)) ⊎ ((r ≡ q → ⊥) × (x ! r ≡ states₁ ! r))) (sym e)
              (set_cases states₁ q 2 r 0 (omega (arith, turning_below, a.states_n, g.states_n)))

          last : (i : ℕ) → i < j + 1 → (queue ! i ≡ q → ⊥) → i < j
          last i h d = ⊎_elim (λ y. absurd (d (ap (λ (x : ℕ). queue ! x) y))) (λ y. omega arith) (eq_or i j)

          turned_term : (L : ℕ) → only_if (eqb (states₂ ! q) 1) (mates links leaders queue L q) ≡ 0
          turned_term L =
              let two : states₂ ! q ≡ 2 = ap (λ (x : List ℕ). x ! q) e ∙ get_or-set_same states₁ q 2 0 (omega (arith, turning_below, a.states_n, g.states_n)) in
              only_if-false _ _ (ne_eqb (states₂ ! q) 1 (λ y. omega arith))

          one_off : (L : ℕ) → sum (λ r. only_if (eqb (states₂ ! r) 1) (mates links leaders queue L r)) n + only_if (eqb (states₁ ! q) 1) (mates links leaders queue L q)
              ≡ sum (λ r. only_if (eqb (states₁ ! r) 1) (mates links leaders queue L r)) n + only_if (eqb (states₂ ! q) 1) (mates links leaders queue L q)
          one_off L =
              sum_change (λ r. only_if (eqb (states₂ ! r) 1) (mates links leaders queue L r)) (λ r. only_if (eqb (states₁ ! r) 1) (mates links leaders queue L r)) n q turning_below
              (λ r _ d. ap (λ (x : ℕ). only_if (eqb x 1) (mates links leaders queue L r)) (ap (λ (x : List ℕ). x ! r) e ∙ get_or-set_other states₁ q r 2 0 d))

    -- all are passed
    pub turned_all : length queue ≤ j → Taken n states links t.leaders₀ t.counts₀ t.into₀ t.found queue states₁ leaders counts₁ t.into₁
    turned_all end = record {
      made = record {
        states_n = a.states_n;
        leaders_n = t.handed.leaders_n;
        on = λ p h e. (frozen p h e, t.handed.led p h e);
        off = λ p f. (a.left p f, t.handed.left p f);
      };
      counts_n = a.counts_n ∙ t.handed.counts_n;
      counted = λ L l. omega (
        arith,
        counts_are L l,
        sum-zero (λ r. only_if (eqb (states₁ ! r) 1) (mates links leaders queue L r)) n (λ r h. ⊎_elim
            (λ e. only_if-false _ _ (ne_eqb (states₁ ! r) 1 (λ y. let z = frozen r h e in omega arith)))
            (λ f. ap (only_if (eqb (states₁ ! r) 1)) (mates_off links leaders queue L r f) ∙ nothing (eqb (states₁ ! r) 1))
            (standing_or queue r)),
      );
      into_n = t.handed.into_n;
      emptied = t.handed.emptied;
      kept = t.handed.kept;
    }
      where
        frozen : (p : ℕ) → p < n → Standing queue p → states₁ ! p ≡ 2
        frozen p h e = subst (λ (x : ℕ). states₁ ! x ≡ 2) e.is (a.frozen e.at (let y = e.below in omega arith))

        nothing : (c : Bool) → only_if c 0 ≡ 0
        nothing true = refl
        nothing false = refl

-- ---- both passes

module _ {n : ℕ} {states links leaders counts into found queue : List ℕ} (t : Taking n states links leaders counts into found queue) where
  pub handing : Handing (length leaders) leaders counts into found queue
  handing = record { states = states; links = links; taking = subst (λ (m : ℕ). Taking m states links leaders counts into found queue) (sym t.leaders_n) t }

  module _ {leaders' counts₁ into' : List ℕ} (a : Summed (length leaders) leaders counts into found queue (length queue) leaders' counts₁ into') where
    pub turnable : Turnable n states links leaders' counts₁ queue
    turnable = record {
      found = found;
      leaders₀ = leaders;
      counts₀ = counts;
      into₀ = into;
      into₁ = into';
      taking = t;
      handed = summed_all t (subst (λ (m : ℕ). Summed m leaders counts into found queue (length queue) leaders' counts₁ into') t.leaders_n a) (le_refl (length queue));
    }

    pub all-taken : {states' counts' : List ℕ} → Turned n states links leaders' counts₁ queue (length queue) states' counts'
        → Taken n states links leaders counts into found queue states' leaders' counts' into'
    unfolding turnable
    all-taken b = turned_all turnable b (le_refl (length queue))
