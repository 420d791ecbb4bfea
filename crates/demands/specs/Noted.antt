-- What a command that is accepted makes of the register: one hold more or less of the seat that it names on the piece that it names, or nothing.
use Rattle.std.specs.Prelude.{◌≡◌, Bool, not, List, [], ◌∷◌, ℕ, ◌+◌, ◌≤◌, ◌<◌, T, ltb}
use Rattle.std.proofs.Math.Path.{refl}
use Rattle.std.proofs.Common.{sym, subst, arith, T_not, ltb→lt}
use Rattle.std.proofs.Math.Dec.{eqb}
use Rattle.rules.specs.Tests.{◌or◌, ◌&◌, only_if}
use Rattle.rules.specs.Limits.{most_holds}
use Rattle.rules.specs.Register.{Right, held_by, held_in, total, one_more_by, one_less_by}
use Rattle.rules.specs.Tables.{Base, Store, holds_of}
use Rattle.rules.specs.Words.{Well, wfree, wdraft, wfrozen}
use Rattle.rules.specs.Commands.{piece_of, seat_of, is_freeze, is_acquire, is_release, accepted, first_of, no_seat, no_line, not_yours}
use Rattle.rules.specs.Commands.{seat_refusals, table_refusals, register_refusals, noted, after}
use Rattle.rules.specs.declared.Refusal.{Refusal}
use Rattle.rules.specs.declared.Refusal.TheVariants.{Seat, Number, Register, NotYours}
use Rattle.rules.specs.declared.Command.{Command}
use Rattle.rules.specs.declared.Command.TheVariants.{New, Set, Freeze, Acquire, Release, Bin, Look}
use Rattle.laws.specs.Words.{eqb_of}
use Rattle.laws.specs.Sound.{Good, sound→entries}
use Rattle.laws.specs.Passes.{applies, first_accepted, not-not, Passes, not_by, passes}
use Rattle.laws.specs.Commands.{below_of, after-n, after_good}
use Rattle.laws.specs.Verdicts.{seat_verdict, register_verdict}
use Rattle.laws.specs.Held.{adds_to, takes_from, after_holds}
use Rattle.register.specs.Room.{Room}
use Rattle.register.specs.Pairs.{held_by_in}
use Rattle.register.specs.Steps.{Stepped, more_steps, less_steps, held_by_more}
use Rattle.register.specs.Kept.{right-more, right_less}
use Rattle.demands.specs.Sound.{OkStore}
use Rattle.demands.specs.Meant.{Accepts}

only_row : (b : Bool) (r : Refusal) → first_of ((b, r) ∷ []) ≡ accepted → T (not b)
only_row b r e = (first_accepted b r [] e).0

seat_below : (i : ℕ) → T (not (no_seat i)) → i < 32
seat_below i t = ltb→lt i 32 (not-not (ltb i 32) t)

yours : (l : List ℕ) (i p : ℕ) → T (not (not_yours l i p)) → 0 < held_by l i p
unfolding not_yours
yours l i p t =
    let some : held_by l i p ≡ 0 → ⊥ = λ e. T_not (eqb (held_by l i p) 0) t (eqb_of e) in
    omega (arith, some)

module _ (s : Store) (o : OkStore s) where
  abbrev b : Base
  b = s.tables.base

  abbrev l : List ℕ
  l = s.register

  pub good : Good b
  good = (sound→entries s.tables o.sound.tables).good

  pub by_tables : {c : Command} → Accepts s c → Passes b c
  by_tables {c} v = passes b c v.tables

  -- ---- the hold that comes or goes

  room_of_lem : (i p : ℕ) → first_of ((no_line l i p, Register) ∷ []) ≡ accepted → Room l i p
  unfolding no_line
  room_of_lem i p e = only_row (no_line l i p) Register e

  more-noted : (i p : ℕ) → p < b.n → Room l i p → Stepped l i p (one_more_by l i p)
  more-noted i p h room = more_steps l o.sound.register.ordered i p (omega (arith, o.sized.tables.base.most)) room

  pub freeze_noted : (p i : ℕ) → Accepts s (Freeze p i) → Stepped l i p (one_more_by l i p) × (i < 32) × (p < b.n)
  unfolding seat_verdict seat_refusals table_refusals register_verdict register_refusals applies
  freeze_noted p i v =
      let h = below_of b o.sized.tables.base good p (not_by (by_tables v) Number) in
      (more-noted i p h (room_of_lem i p v.register), seat_below i (only_row (no_seat i) Seat v.seat), h)

  pub acquire_noted : (p i : ℕ) → Accepts s (Acquire p i) → Stepped l i p (one_more_by l i p) × (i < 32) × (p < b.n)
  unfolding seat_verdict seat_refusals table_refusals register_verdict register_refusals applies
  acquire_noted p i v =
      let h = below_of b o.sized.tables.base good p (not_by (by_tables v) Number) in
      (more-noted i p h (room_of_lem i p v.register), seat_below i (only_row (no_seat i) Seat v.seat), h)

  pub release_noted : (p i : ℕ) → Accepts s (Release p i) → Stepped (one_less_by l i p) i p l
  unfolding register_verdict register_refusals
  release_noted p i v = less_steps l o.sound.register.ordered i p (yours l i p (only_row (not_yours l i p) NotYours v.register))

  -- ---- what it adds up to

  -- of the lines that f picks
  pub noted-total : (f : ℕ → ℕ → Bool) (c : Command) → Accepts s c
      → total f (noted l c) + only_if (is_release c & f (seat_of c) (piece_of c)) 1 ≡ total f l + only_if ((is_freeze c or is_acquire c) & f (seat_of c) (piece_of c)) 1
  unfolding noted
  noted-total f New v = refl
  noted-total f (Set p k t) v = refl
  noted-total f (Freeze p i) v = omega (arith, (freeze_noted p i v).0.sums f)
  noted-total f (Acquire p i) v = omega (arith, (acquire_noted p i v).0.sums f)
  noted-total f (Release p i) v = omega (arith, (release_noted p i v).sums f)
  noted-total f (Bin p) v = refl
  noted-total f (Look p) v = refl

  -- by piece, as the tables' holds
  pub noted-held : (c : Command) → Accepts s c → (p : ℕ) → held_in (noted l c) p + only_if (takes_from p c) 1 ≡ held_in l p + only_if (adds_to p c) 1
  unfolding takes_from adds_to
  noted-held c v p = noted-total (λ t q. eqb q p) c v

  pub noted_sums : (c : Command) → Accepts s c → (p : ℕ) → p < b.n → holds_of (after b c) p ≡ held_in (noted l c) p
  noted_sums c v p h =
      omega (arith, noted-held c v p, o.sound.sums p h, after_holds b o.sized.tables.base good c (by_tables v) p h)

  -- ---- it is right

  few : (e : Base) (p : ℕ) → Well e p → holds_of e p ≤ most_holds
  few e p (wfree w) = omega (arith, w.holds)
  few e p (wdraft w) = omega (arith, w.holds)
  few e p (wfrozen w) = w.holds

  -- the holds of p after the command, and so the number in a line of p, are at most 1,000
  few_noted : (c : Command) → Accepts s c → (i p : ℕ) → p < b.n → held_by (noted l c) i p ≤ most_holds
  few_noted c v i p h =
      let e = after-n b o.sized.tables.base good c in
      let w = few (after b c) p ((after_good b o.sized.tables.base good c (by_tables v)).wells p (subst (λ (x : ℕ). p < x) (sym e) h)) in
      omega (arith, noted_sums c v p h, held_by_in (noted l c) i p)

  more-right : (i p : ℕ) → i < 32 → p < b.n → held_by (one_more_by l i p) i p ≤ most_holds → Stepped l i p (one_more_by l i p) → Right b.n (one_more_by l i p)
  more-right i p si h most t = right-more t o.sound.register si h (omega (arith, held_by_more t))

  pub noted-right : (c : Command) → Accepts s c → Right b.n (noted l c)
  noted-right New v = unfold noted in o.sound.register
  noted-right (Set p k t) v = unfold noted in o.sound.register
  noted-right (Freeze p i) v = let x = freeze_noted p i v in let y = few_noted (Freeze p i) v i p x.2 in unfold noted in (more-right i p x.1 x.2 y x.0)
  noted-right (Acquire p i) v = let x = acquire_noted p i v in let y = few_noted (Acquire p i) v i p x.2 in unfold noted in (more-right i p x.1 x.2 y x.0)
  noted-right (Release p i) v = let x = release_noted p i v in unfold noted in (right_less x o.sound.register)
  noted-right (Bin p) v = unfold noted in o.sound.register
  noted-right (Look p) v = unfold noted in o.sound.register
