-- Demand 3 by seat: since the number was last given out, or the last start, what a seat added less what it took is the number in its line.
use Rattle.std.specs.Prelude.{◌≡◌, refl, ◌↔◌, List, ℕ, ◌+◌, ◌≤◌, ◌<◌, T, ltb}
use Rattle.std.proofs.Common.{sym, ◌∙◌, subst, arith, lt→ltb}
use Rattle.rules.specs.Limits.{most}
use Rattle.rules.specs.Register.{seat_at, piece_at, number_at, held_by}
use Rattle.rules.specs.Tables.{Base, Store, state, is_free, is_draft, holds_of}
use Rattle.rules.specs.Commands.{accepted, is_again, meant, seat_refusals, table_refusals, register_refusals, refusals, not_held, not_yours, verdict}
use Rattle.rules.specs.Calls.{does, Areas, Outcome, is_lent, done_by, accepted_by, accepted_call, judge, Promise}
use Rattle.rules.specs.History.{Event, is_accepted, History, added_by, taken_by, HeldBy}
use Rattle.rules.specs.declared.Command.TheVariants.{Freeze, Release}
use Rattle.laws.specs.Words.{neqb_of}
use Rattle.laws.specs.Rows.{first-none}
use Rattle.laws.specs.Calls.{double_not, accepted_judged, accepted_outcome, judged, judge_through}
use Rattle.register.specs.Pairs.{held_by_in, held_by_some, held_by_line}
use Rattle.register.specs.Steps.{held_by_more}
use Rattle.register.specs.Kept.{right_ranged}
use Rattle.demands.specs.Sound.{OkStore, →sound_store}
use Rattle.demands.specs.Meant.{accepts_other}
use Rattle.demands.specs.Noted.{release_noted}
use Rattle.demands.specs.Again.{again_held, held_frozen, held_again}
use Rattle.demands.specs.History.{follows}

-- ---- on a sound store a release is accepted exactly where the seat has a hold

module _ (s : Store) (o : OkStore s) (i p : ℕ) where
  abbrev b : Base
  b = s.tables.base

  released : 0 < held_by s.register i p → verdict s (Release p i) ≡ accepted
  unfolding verdict refusals meant is_again seat_refusals table_refusals register_refusals is_free is_draft not_held not_yours
  released u =
      let w = right_ranged b.n s.register o.sound.register i p u in
      let k : 0 < holds_of b p = omega (arith, o.sound.sums p w.1, held_by_in s.register i p) in
      let f = (held_frozen o i p u).is in
      let seat = double_not (ltb i 32) (lt→ltb i 32 w.0) in
      let number = double_not (ltb p b.n) (lt→ltb p b.n w.1) in
      let free = neqb_of {m = state b p} {n = 0} (λ e. omega (arith, e, f)) in
      let draft = neqb_of {m = state b p} {n = 1} (λ e. omega (arith, e, f)) in
      let none = neqb_of {m = holds_of b p} {n = 0} (λ e. omega (arith, e, k)) in
      let others = neqb_of {m = held_by s.register i p} {n = 0} (λ e. omega (arith, e, u)) in
      first-none (refusals s (Release p i)) (seat, (number, (free, (draft, (none, (others, tt))))))

  pub release_held : (verdict s (Release p i) ≡ accepted) ↔ (0 < held_by s.register i p)
  release_held = (λ v. omega (arith, held_by_more (release_noted s o p i (accepts_other refl v))), released)

-- ---- after any history

module _ (n : ℕ) (small : n ≤ most) {h : List Event} {s : Store} (r : History n h s) where
  -- the number in a seat's line
  pub seat_number : (i p : ℕ) → held_by s.register i p + taken_by i p h ≡ added_by i p h
  seat_number = (follows n small r).by

  -- a line that is used: its number is what its seat added less what it took
  pub line-number : (j : ℕ) → 0 < number_at s.register j
      → number_at s.register j + taken_by (seat_at s.register j) (piece_at s.register j) h ≡ added_by (seat_at s.register j) (piece_at s.register j) h
  line-number j u =
      let l = s.register in
      omega (arith, seat_number (seat_at l j) (piece_at l j), held_by_line l (seat_at l j) (piece_at l j) (follows n small r).ok.sound.register.ordered j u refl refl)

  -- and a seat has a line exactly where its own history holds the piece
  pub seat_line : (i p : ℕ) → HeldBy h i p ↔ ((j : ℕ) × (0 < number_at s.register j) × (seat_at s.register j ≡ i) × (piece_at s.register j ≡ p))
  seat_line i p = (
    λ x. held_by_some s.register i p (omega (arith, x, seat_number i p)),
    λ x. omega (arith, seat_number i p, x.1, held_by_line s.register i p (follows n small r).ok.sound.register.ordered x.0 x.1 x.2 x.3),
  )

  -- a freeze is a second hand-in exactly where the seat's own history holds the piece
  pub freeze_again : (i p : ℕ) → T (is_again s (Freeze p i)) ↔ HeldBy h i p
  freeze_again i p = (
    λ t. omega (arith, again_held s (Freeze p i) t, seat_number i p),
    λ x. held_again (follows n small r).ok i p (omega (arith, x, seat_number i p)),
  )

  -- a release is accepted for a seat exactly where its own history holds the piece
  pub release_accepted : (i p : ℕ) → (verdict s (Release p i) ≡ accepted) ↔ HeldBy h i p
  release_accepted i p =
      let x = release_held s (follows n small r).ok i p in
      (λ v. omega (arith, x.0 v, seat_number i p), λ y. x.1 (omega (arith, y, seat_number i p)))

-- the same of the call, on areas of their lengths
pub release_answered : (n : ℕ) → n ≤ most → {h : List Event} {a : Areas} {o : Outcome} {i p : ℕ} → History n h a.store → Promise (does (Release p i)) a o → T
    (is_lent a (does (Release p i)))
    → T (is_accepted o.reply) ↔ HeldBy h i p
release_answered n small {h} {a} {o} {i} {p} r q l = (
  λ t. (release_accepted n small r i p).0 (judged a (Release p i) (accepted_judged a (does (Release p i)) (subst (λ (x : Outcome). T (is_accepted x.reply)) q.exact t))).verdict,
  λ y. said (judge_through a (Release p i) l (→sound_store a.store (follows n small r).ok.sound) ∙ (release_accepted n small r i p).1 y),
)
  where
    said : judge a (does (Release p i)) ≡ accepted → T (is_accepted o.reply)
    said j = subst (λ (x : Outcome). T (is_accepted x.reply)) (sym (q.exact ∙ accepted_outcome a (does (Release p i)) j)) (unfold accepted_call accepted_by done_by is_accepted in tt)
