-- What the functions of the letting go require and ensure, and the step at one place of the queue.
use Rattle.std.specs.Prelude.{◌≡◌, refl, ◌⊎◌, List, ℕ, ◌+◌, ◌-◌, ◌*◌, ◌/◌, ◌%◌, ◌≤◌, ◌<◌, set}
use Rattle.std.proofs.Common.{sym, ap, ◌∙◌, inr, arith, get_or-set_other}
use Rattle.std.proofs.Math.Path.{subst}
use Rattle.std.proofs.Math.Logic.{inl, ⊎_elim}
use Rattle.rules.specs.Lists.{◌!◌}
use Rattle.rules.specs.Limits.{none}
use Rattle.rules.specs.Tables.{base_of, Base, link_at}
use Rattle.rules.specs.Words.{Frozen}
use Rattle.laws.specs.Passes.{frozen_of}
use Rattle.tallies.specs.Sums.{get_or_any}
use Rattle.tallies.specs.Tally.{label}
use Rattle.tallies.specs.Exact.{label_past, label_frozen, label_below, label_own}
use Rattle.falling.specs.Queue.{Marked, Known, Core, spot, Past, Inv}
use Rattle.falling.specs.Marking.{marked_keeps, marked_new, mark, room, past_keeps, counted_mark, counted_leader}
use Rattle.falling.specs.Erasing.{erase_in, erase_out, had, past_next, counted_out, counted_still, out_at}

-- the tables of e at capacity n
abbrev pub of_capacity : ℕ → Base → Base
of_capacity n e = base_of n e.states e.links e.holds

-- a letting go is under way
pub record Going (n : ℕ) (leaders states links counts queue : List ℕ) (m tail : ℕ) : Type 0 where
  pub began : Base
  pub known : Known (of_capacity n began) leaders
  pub inv : Inv (of_capacity n began) leaders states links counts queue m tail

-- whatever the letting go began with goes on; the queue grows, and later entries stay
pub record Stepped (n : ℕ) (leaders states links counts queue : List ℕ) (m tail : ℕ) (states' links' counts' queue' : List ℕ) (m' tail' : ℕ) : Type 0 where
  pub inv : (began : Base) → Known (of_capacity n began) leaders → Inv (of_capacity n began) leaders states links counts queue m tail
      → Inv (of_capacity n began) leaders states' links' counts' queue' m' tail'
  pub grows : tail ≤ tail'
  pub rest : (i : ℕ) → tail' ≤ i → queue' ! i ≡ queue ! i

module _ {n : ℕ} {leaders states links counts queue : List ℕ} {m tail : ℕ} where
  pub stepped_none : Stepped n leaders states links counts queue m tail states links counts queue m tail
  stepped_none = record { inv = λ b k v. v; grows = omega arith; rest = λ i _. refl }

  module _ {states₁ links₁ counts₁ queue₁ : List ℕ} {m₁ tail₁ : ℕ} where
    pub stepped_on : {states₂ links₂ counts₂ queue₂ : List ℕ} {m₂ tail₂ : ℕ}
        → Stepped n leaders states links counts queue m tail states₁ links₁ counts₁ queue₁ m₁ tail₁
        → Stepped n leaders states₁ links₁ counts₁ queue₁ m₁ tail₁ states₂ links₂ counts₂ queue₂ m₂ tail₂
        → Stepped n leaders states links counts queue m tail states₂ links₂ counts₂ queue₂ m₂ tail₂
    stepped_on a b = record {
      inv = λ e k v. b.inv e k (a.inv e k v);
      grows = omega (arith, a.grows, b.grows);
      rest = λ i h. b.rest i h ∙ a.rest i (omega (arith, b.grows));
    }

    pub going_on : Going n leaders states links counts queue m tail → Stepped n leaders states links counts queue m tail states₁ links₁ counts₁ queue₁ m₁ tail₁
        → Going n leaders states₁ links₁ counts₁ queue₁ m₁ tail₁
    going_on g a = record { began = g.began; known = g.known; inv = a.inv g.began g.known g.inv }

    -- no place of the queue is left
    pub stepped_all : Going n leaders states links counts queue m tail → Stepped n leaders states links counts queue m tail states₁ links₁ counts₁ queue₁ m₁ tail₁
        → 4 * tail₁ ≤ m₁ → Stepped n leaders states links counts queue m tail states₁ links₁ counts₁ queue₁ (4 * tail₁) tail₁
    stepped_all g a h =
        let most = (going_on g a).inv.place in
        subst (λ (x : ℕ). Stepped n leaders states links counts queue m tail states₁ links₁ counts₁ queue₁ x tail₁) (omega arith) a

module _ {e : Base} {leaders states links counts queue : List ℕ} {m tail : ℕ} (k : Known e leaders)
    (v : Inv e leaders states links counts queue m tail) (h : m < 4 * tail) where
  abbrev x : ℕ
  x = queue ! (m / 4)

  abbrev i : ℕ
  i = spot queue m

  abbrev t : ℕ
  t = links ! i

  gx : Marked e.n leaders states x
  gx = v.core.queued.each (m / 4) (omega arith)

  pub x-n : x < e.n
  x-n = gx.below

  i-n : i < 4 * e.n
  i-n = omega (arith, x-n)

  own : i / 4 ≡ x
  own = omega arith

  gi : Marked e.n leaders states (i / 4)
  gi = subst (Marked e.n leaders states) (sym own) gx

  fx : Frozen e x
  fx = label_frozen e leaders k.exact x gx.labelled

  label_at : (p : ℕ) → p < e.n → label leaders p ≡ leaders ! p
  label_at p l = get_or_any leaders p none 0 (omega (arith, k.exact.size))

  -- what place i names is none or frozen
  target : (t ≡ none) ⊎ Frozen e t
  unfolding link_at
  target =
      ⊎_elim
      (λ same. subst (λ (u : ℕ). (u ≡ none) ⊎ Frozen e u) (sym same) ((frozen_of e x (k.wells x x-n) fx.is).links (m % 4) (omega arith)))
      (λ gap. inl gap.empty)
      (v.core.places i i-n)

  small : e.n ≤ 1024
  small = v.core.lengths.small

  module _ (no_one : e.n ≤ t) where
    off_t : label leaders t ≡ none
    off_t = label_past e.n leaders t k.exact.size no_one

    never : label leaders t ≡ label leaders (i / 4) → Marked e.n leaders states t
    never s = absurd (omega (arith, off_t, gi.labelled, small))

    pub step_none : Inv e leaders states (set links i none) counts queue (m + 1) tail
    step_none = record {
      core = erase_in v.core i-n gi never (inl off_t);
      counted = v.counted;
      past = past_next v.core i-n gi never m refl v.past;
      place = omega arith;
    }

  module _ (some-t : t < e.n) where
    ft : Frozen e t
    ft = ⊎_elim (λ z. absurd (omega (arith, small))) (λ f. f) target

    below_t : label leaders t < e.n
    below_t = label_below e leaders k.exact t ft

    pub l-n : leaders ! t < e.n
    l-n = subst (λ (u : ℕ). u < e.n) (label_at t some-t) below_t

    -- the same label
    module _ (same : leaders ! t ≡ leaders ! x) where
      same_label : label leaders t ≡ label leaders x
      same_label = label_at t some-t ∙ same ∙ sym (label_at x x-n)

      same_i : label leaders t ≡ label leaders (i / 4)
      same_i = same_label ∙ ap (label leaders) (sym own)

      pub step_seen : states ! t ≡ 0 → Inv e leaders states (set links i none) counts queue (m + 1) tail
      step_seen z =
          let g : label leaders t ≡ label leaders (i / 4) → Marked e.n leaders states t = λ _. record { below = some-t; free = z; labelled = below_t } in
          record {
            core = erase_in v.core i-n gi g (inr same_i);
            counted = v.counted;
            past = past_next v.core i-n gi g m refl v.past;
            place = omega arith;
          }

      module _ (z : states ! t ≡ 0 → ⊥) where
        pub t_room : tail < e.n
        t_room = room v.core some-t z

        core₁ : Core e leaders (set states t 0) links counts (set queue tail t) (tail + 1)
        core₁ =
            mark v.core some-t below_t z (ap (λ (u : ℕ). counts ! u) same_label ∙ v.core.zeros x gx)
            (inr (subst (Marked e.n leaders states) (sym same_label) (v.core.led x gx)))

        x_still : set queue tail t ! (m / 4) ≡ x
        x_still = get_or-set_other queue tail (m / 4) t 0 (λ y. omega arith)

        pub step_new : Inv e leaders (set states t 0) (set links i none) counts (set queue tail t) (m + 1) (tail + 1)
        step_new =
            let gi₁ : Marked e.n leaders (set states t 0) (i / 4) = marked_keeps v.core.lengths.states_n t gi in
            let g : label leaders t ≡ label leaders (i / 4) → Marked e.n leaders (set states t 0) t =
            λ _. marked_new states v.core.lengths.states_n some-t below_t in
            record {
              core = erase_in core₁ i-n gi₁ g (inr same_i);
              counted = counted_mark v.core some-t below_t z v.counted;
              past =
                  past_next core₁ i-n gi₁ g m (ap (λ (u : ℕ). 4 * u + m % 4) x_still)
                  (past_keeps v.core some-t below_t z m v.place v.past);
              place = omega arith;
            }

    -- another label
    module _ (other : leaders ! t ≡ leaders ! x → ⊥) where
      abbrev L : ℕ
      L = leaders ! t

      at_L : label leaders t ≡ L
      at_L = label_at t some-t

      off_L : label leaders (i / 4) ≡ L → ⊥
      off_L s = other (sym s ∙ ap (label leaders) own ∙ label_at x x-n)

      nope : label leaders t ≡ label leaders (i / 4) → Marked e.n leaders states t
      nope s = absurd (off_L (sym s ∙ at_L))

      pub l_counted : 0 < counts ! L
      l_counted = had v.core i-n gi nope at_L l-n off_L

      core₂ : Core e leaders states (set links i none) (set counts L (counts ! L - 1)) queue tail
      core₂ = erase_out v.core i-n gi nope at_L l-n off_L

      past₂ : Past e leaders states (set links i none) queue (m + 1)
      past₂ = past_next v.core i-n gi nope m refl v.past

      pub step_out : (counts ! L - 1 ≡ 0 → ⊥) → Inv e leaders states (set links i none) (set counts L (counts ! L - 1)) queue (m + 1) tail
      step_out nz = record {
        core = core₂;
        counted = counted_still v.core i-n gi nope at_L l-n off_L nz v.counted;
        past = past₂;
        place = omega arith;
      }

      own_L : label leaders L ≡ L
      own_L = subst (λ (u : ℕ). label leaders u ≡ u) at_L (label_own e leaders k.exact t ft)

      below_L : label leaders L < e.n
      below_L = subst (λ (u : ℕ). u < e.n) (sym own_L) l-n

      unmarked : states ! L ≡ 0 → ⊥
      unmarked z =
          let g : Marked e.n leaders states L = record { below = l-n; free = z; labelled = below_L } in
          omega (arith, l_counted, v.core.zeros L g, ap (λ (u : ℕ). counts ! u) own_L)

      pub l_room : tail < e.n
      l_room = room v.core l-n unmarked

      pub step_zero : counts ! L - 1 ≡ 0
          → Inv e leaders (set states L 0) (set links i none) (set counts L (counts ! L - 1)) (set queue tail L) (m + 1) (tail + 1)
      step_zero z =
          let n-L : set counts L (counts ! L - 1) ! L ≡ 0 = out_at v.core i-n gi nope at_L l-n off_L ∙ z in
          record {
            core = mark core₂ l-n below_L unmarked (ap (λ (u : ℕ). set counts L (counts ! L - 1) ! u) own_L ∙ n-L) (inl own_L);
            counted = counted_leader core₂ l-n below_L unmarked (counted_out v.core i-n gi nope at_L l-n off_L v.counted);
            past = past_keeps core₂ l-n below_L unmarked (m + 1) (omega arith) past₂;
            place = omega arith;
          }
