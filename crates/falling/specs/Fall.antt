-- The start of a letting go: the leaders of the groups that a command made fall are put into the queue, one by one.
use Rattle.std.specs.Prelude.{◌≡◌, refl, List, [], ◌∷◌, ℕ, ◌+◌, ◌≤◌, ◌<◌, T, length, set}
use Rattle.std.proofs.Common.{sym, ap, ◌∙◌, subst, ⊎_elim, get_or-set_same, get_or-set_other}
use Rattle.std.proofs.Math.Logic.{inl}
use native.Mathlib.Omega.{arith}
use Rattle.laws.specs.Numbers.{eq_or, lt_or}
use Rattle.rules.specs.Limits.{none}
use Rattle.rules.specs.Tests.{only_if}
use Rattle.rules.specs.Below.{sum}
use Rattle.rules.specs.Tables.{Base, state}
use Rattle.rules.specs.Lists.{Among, ◌!◌}
use Rattle.laws.specs.Below.{among_nil, among_cons}
use Rattle.laws.specs.Counts.{sum_pos}
use Rattle.tallies.specs.Sums.{get_or_any, only_if_pos}
use Rattle.tallies.specs.Tally.{label, CountsMatch}
use Rattle.tallies.specs.Exact.{label_past, label_frozen, label_own}
use Rattle.falling.specs.Queue.{Marked, Lengths, Known, Core, Inv, is_marked}
use Rattle.falling.specs.Marking.{is_marked→, mark, room}
use Rattle.falling.specs.Steps.{of_capacity}

-- the tables match the base e, but groups may have no count
pub record Begin (e : Base) (leaders counts queue : List ℕ) : Type 0 where
  pub known : Known e leaders
  pub matches : CountsMatch e.n e.links e.holds leaders counts
  pub lengths : Lengths e.n leaders e.states e.links counts queue

-- no piece of xs has the label L
abbrev pub Off : List ℕ → ℕ → List ℕ → Type 0
Off leaders L xs = (x : ℕ) → Among x xs → label leaders x ≡ L → ⊥

-- each leader that is not marked has a count, but for those of the pieces xs
abbrev pub OthersCounted : Base → List ℕ → List ℕ → List ℕ → List ℕ → Type 0
OthersCounted e leaders states counts xs =
    (L : ℕ) → L < e.n → label leaders L ≡ L → (states ! L ≡ 0 → ⊥) → Off leaders L xs → 0 < counts ! L

-- the leaders without a count are marked, but for those of the pieces xs; no link is erased yet
pub record Falling (e : Base) (leaders states counts queue : List ℕ) (tail : ℕ) (xs : List ℕ) : Type 0 where
  pub core : Core e leaders states e.links counts queue tail
  pub counted : OthersCounted e leaders states counts xs

-- ---- nothing is marked yet

module _ {e : Base} {leaders counts queue : List ℕ} (b : Begin e leaders counts queue) where
  none_marked : (p : ℕ) → Marked e.n leaders e.states p → ⊥
  none_marked p g = let f = (label_frozen e leaders b.known.exact p g.labelled).is in let z = g.free in unfold state in omega arith

  abbrev one : ℕ → ℕ
  one p = only_if (is_marked e.n leaders e.states p) 1

  none_many : 0 ≡ sum one e.n
  none_many =
      ⊎_elim
      (λ l.
      let r = sum_pos one e.n l in
      let is = (only_if_pos (is_marked e.n leaders e.states r.0) 1 r.2).0 in
      absurd (none_marked r.0 (is_marked→ leaders e.states r.1 (subst T (sym is) tt))))
      (λ l. omega arith)
      (lt_or 0 (sum one e.n))

  pub fall_start : {xs : List ℕ} → OthersCounted e leaders e.states counts xs → Falling e leaders e.states counts queue 0 xs
  fall_start o = record {
    core = record {
      lengths = b.lengths;
      queued = record { each = λ i k. absurd (omega arith); listed = λ p g. absurd (none_marked p g); many = none_many };
      pieces = λ p _. inl (unfold state in refl);
      places = λ i _. inl refl;
      matches = b.matches;
      zeros = λ p g. absurd (none_marked p g);
      led = λ p g. absurd (none_marked p g);
    };
    counted = o;
  }

-- ---- one piece t whose group may have fallen

module _ {e : Base} {leaders states counts queue : List ℕ} {tail t : ℕ} {xs : List ℕ} (k : Known e leaders)
    (f : Falling e leaders states counts queue tail (t ∷ xs)) where
  small : e.n ≤ 1024
  small = f.core.lengths.small

  -- it is enough that t's leader has a count, or is marked
  fall_by : ((L : ℕ) → L < e.n → label leaders t ≡ L → (states ! L ≡ 0 → ⊥) → 0 < counts ! L) → Falling e leaders states counts queue tail xs
  fall_by g = record {
    core = f.core;
    counted = λ L h own nz off.
        ⊎_elim
        (λ x. g L h x nz)
        (λ d. f.counted L h own nz (λ y a s. ⊎_elim (λ x. d (ap (label leaders) (sym x) ∙ s)) (λ b. off y b s) (among_cons a)))
        (eq_or (label leaders t) L);
  }

  fall_past : e.n ≤ t → Falling e leaders states counts queue tail xs
  fall_past h = fall_by (λ L l s _. absurd (omega (arith, label_past e.n leaders t k.exact.size h, small)))

  module _ (t-n : t < e.n) where
    abbrev l : ℕ
    l = leaders ! t

    label-t : label leaders t ≡ l
    label-t = get_or_any leaders t none 0 (omega (arith, k.exact.size))

    fall_bare : e.n ≤ l → Falling e leaders states counts queue tail xs
    fall_bare h = fall_by (λ L u s _. absurd (omega (arith, label-t)))

    fall_there : states ! l ≡ 0 → Falling e leaders states counts queue tail xs
    fall_there z = fall_by (λ L u s nz. absurd (nz (ap (λ (y : ℕ). states ! y) (sym s ∙ label-t) ∙ z)))

    fall_counted : (counts ! l ≡ 0 → ⊥) → Falling e leaders states counts queue tail xs
    fall_counted d =
        fall_by (λ L u s _.
        ⊎_elim (λ z. z) (λ z. absurd (d (let x = ap (λ (y : ℕ). counts ! y) (sym label-t ∙ s) in omega arith))) (lt_or 0 (counts ! L)))

    module _ (l-n : l < e.n) (z : counts ! l ≡ 0) (u : states ! l ≡ 0 → ⊥) where
      own : label leaders l ≡ l
      own =
          subst (λ (y : ℕ). label leaders y ≡ y) label-t
          (label_own e leaders k.exact t (label_frozen e leaders k.exact t (subst (λ (y : ℕ). y < e.n) (sym label-t) l-n)))

      own_n : label leaders l < e.n
      own_n = subst (λ (y : ℕ). y < e.n) (sym own) l-n

      fall_room : tail < e.n
      fall_room = room f.core l-n u

      fall_mark : Falling e leaders (set states l 0) counts (set queue tail l) (tail + 1) xs
      fall_mark = record {
        core = mark f.core l-n own_n u (ap (λ (y : ℕ). counts ! y) own ∙ z) (inl own);
        counted = λ L h own_L nz off.
            let in-states : l < length states = omega (arith, f.core.lengths.states_n) in
            let d : L ≡ l → ⊥ = λ x. nz (ap (λ (y : ℕ). set states l 0 ! y) x ∙ get_or-set_same states l 0 0 in-states) in
            f.counted L h own_L (λ y. nz (get_or-set_other states l L 0 0 d ∙ y))
            (λ y a s. ⊎_elim (λ x. d (sym s ∙ ap (label leaders) x ∙ label-t)) (λ b. off y b s) (among_cons a));
      }

-- ---- what the function requires and ensures

-- t, whose group may have fallen, is next
pub record Tipping (n : ℕ) (states leaders counts queue : List ℕ) (t tail : ℕ) : Type 0 where
  pub began : Base
  pub xs : List ℕ
  pub known : Known (of_capacity n began) leaders
  pub falling : Falling (of_capacity n began) leaders states counts queue tail (t ∷ xs)

-- t is done with: its leader is marked, or has a count
pub record Tipped (n : ℕ) (states leaders counts queue : List ℕ) (t tail : ℕ) (states' queue' : List ℕ) (tail' : ℕ) : Type 0 where
  pub falling : (began : Base) {xs : List ℕ} → Known (of_capacity n began) leaders
      → Falling (of_capacity n began) leaders states counts queue tail (t ∷ xs) → Falling (of_capacity n began) leaders states' counts queue' tail' xs
  pub grows : tail ≤ tail'
  pub rest : (i : ℕ) → tail' ≤ i → queue' ! i ≡ queue ! i

module _ {n : ℕ} {states leaders counts queue : List ℕ} {t tail : ℕ} where
  still : ((began : Base) (xs : List ℕ) → Known (of_capacity n began) leaders
      → Falling (of_capacity n began) leaders states counts queue tail (t ∷ xs) → Falling (of_capacity n began) leaders states counts queue tail xs)
      → Tipped n states leaders counts queue t tail states queue tail
  still f = record { falling = λ e k g. f e _ k g; grows = omega arith; rest = λ i _. refl }

  pub tipped_past : n ≤ t → Tipped n states leaders counts queue t tail states queue tail
  tipped_past h = still (λ e xs k f. fall_past k f h)

  module _ (t-n : t < n) where
    pub tipped_bare : n ≤ leaders ! t → Tipped n states leaders counts queue t tail states queue tail
    tipped_bare h = still (λ e xs k f. fall_bare k f t-n h)

    pub tipped_counted : (counts ! (leaders ! t) ≡ 0 → ⊥) → Tipped n states leaders counts queue t tail states queue tail
    tipped_counted d = still (λ e xs k f. fall_counted k f t-n d)

    pub tipped_there : states ! (leaders ! t) ≡ 0 → Tipped n states leaders counts queue t tail states queue tail
    tipped_there z = still (λ e xs k f. fall_there k f t-n z)

    module _ (l-n : leaders ! t < n) (z : counts ! (leaders ! t) ≡ 0) (u : states ! (leaders ! t) ≡ 0 → ⊥) where
      pub tipped_mark : Tipped n states leaders counts queue t tail (set states (leaders ! t) 0) (set queue tail (leaders ! t)) (tail + 1)
      tipped_mark = record {
        falling = λ e k f. fall_mark k f t-n l-n z u;
        grows = omega arith;
        rest = λ i h. get_or-set_other queue tail i (leaders ! t) 0 (λ x. omega arith);
      }

      -- there is room in the queue
      pub tip_room : Tipping n states leaders counts queue t tail → (tail < 1024) × (tail < length queue)
      tip_room p =
          let r = fall_room p.known p.falling t-n l-n z u in
          let s = p.falling.core.lengths in
          (omega (arith, s.small), omega (arith, s.queue_n))

-- every group that fell is in the queue
pub fallen : {e : Base} {leaders states counts queue : List ℕ} {tail : ℕ} → Falling e leaders states counts queue tail []
    → Inv e leaders states e.links counts queue 0 tail
fallen f = record {
  core = f.core;
  counted = λ L u own nz _. f.counted L u own nz (λ x a. absurd (among_nil a));
  past = λ j u. absurd (omega arith);
  place = omega arith;
}
