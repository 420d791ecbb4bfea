-- Second hand-ins on a sound store: a freeze is one exactly where its seat holds the piece; it is accepted and leaves the store.
use Rattle.std.specs.Prelude.{◌≡◌, refl, not, [], ◌∷◌, ℕ, ◌<◌, T, ltb}
use Rattle.std.proofs.Math.Path.{sym, ap}
use Rattle.std.proofs.Common.{◌∙◌, ⊎_elim, arith, T_not, lt→ltb, ltb→lt}
use Rattle.rules.specs.Register.{held_by}
use Rattle.rules.specs.Tables.{Store, store_by, state, is_free, is_frozen, holds_of}
use Rattle.rules.specs.Words.{Frozen, Well, wfree, wdraft, wfrozen}
use Rattle.rules.specs.Commands.{piece_of, seat_of, is_freeze, is_again, accepted, first_of, no_seat, seat_refusals, table_refusals, register_refusals, verdict}
use Rattle.rules.specs.Commands.{edit, settles, after, next_tables, noted, next_store}
use Rattle.rules.specs.declared.Refusal.TheVariants.{Seat}
use Rattle.rules.specs.declared.Command.{Command}
use Rattle.rules.specs.declared.Command.TheVariants.{Freeze, Look}
use Rattle.laws.specs.Tests.{and_both, and_right}
use Rattle.laws.specs.Words.{neqb_of, →is_frozen}
use Rattle.laws.specs.Numbers.{lt_or}
use Rattle.laws.specs.Sound.{determined}
use Rattle.laws.specs.Passes.{table_verdict}
use Rattle.laws.specs.Rows.{first-none, and_then}
use Rattle.laws.specs.Verdicts.{seat_verdict, register_verdict, verdict_is}
use Rattle.laws.specs.Calls.{double_not}
use Rattle.register.specs.Pairs.{held_by_in}
use Rattle.register.specs.Kept.{right_ranged}
use Rattle.into.specs.Into.{store_follows}
use Rattle.demands.specs.Sound.{OkStore}
use Rattle.demands.specs.Meant.{again_looks}
use Rattle.demands.specs.Noted.{good}

-- ---- where the seat holds the piece

-- the seat holds the piece
pub again_held : (s : Store) (c : Command) → T (is_again s c) → 0 < held_by s.register (seat_of c) (piece_of c)
unfolding is_again
again_held s c t = ltb→lt 0 (held_by s.register (seat_of c) (piece_of c)) (and_right (is_frozen s.tables.base (piece_of c)) _ (and_right (is_freeze c) _ t))

module _ {s : Store} (o : OkStore s) (i p : ℕ) where
  -- a piece that a seat holds is frozen
  pub held_frozen : 0 < held_by s.register i p → Frozen s.tables.base p
  held_frozen u = go ((good s o).wells p below)
    where
      below : p < s.tables.base.n
      below = (right_ranged s.tables.base.n s.register o.sound.register i p u).1

      some : 0 < holds_of s.tables.base p
      some = omega (arith, o.sound.sums p below, held_by_in s.register i p)

      go : Well s.tables.base p → Frozen s.tables.base p
      go (wfree w) = absurd (omega (arith, some, w.holds))
      go (wdraft w) = absurd (omega (arith, some, w.holds))
      go (wfrozen w) = record { below = below; is = w.is }

  -- so a freeze by a seat that holds it is a second hand-in
  pub held_again : 0 < held_by s.register i p → T (is_again s (Freeze p i))
  unfolding is_again
  held_again u = and_both (is_frozen s.tables.base p) _ (→is_frozen s.tables.base p (held_frozen u).is) (lt→ltb 0 (held_by s.register i p) u)

  -- and by a seat that holds none a first one
  pub first-held : T (not (is_again s (Freeze p i))) → held_by s.register i p ≡ 0
  first-held t = ⊎_elim (λ u. absurd (T_not (is_again s (Freeze p i)) t (held_again u))) (λ u. omega arith) (lt_or 0 (held_by s.register i p))

-- ---- what it does

module _ {s : Store} (o : OkStore s) where
  -- it leaves the store
  pub again_stays : (c : Command) → T (is_again s c) → next_store s c ≡ s
  unfolding next_store
  again_stays c t = ap (λ (d : Command). store_by (next_tables s.tables d) (noted s.register d)) (again_looks s c t) ∙ looked
    where
      looked : store_by (next_tables s.tables (Look (piece_of c))) (noted s.register (Look (piece_of c))) ≡ s
      looked = unfold next_tables after settles edit noted in
          (λ i. store_by (sym (determined s.tables o.sized.tables o.sound.tables) i) s.register) ∙ sym (store_follows o.sized o.sound)

  -- and is accepted
  pub again_accepted : (p i : ℕ) → T (is_again s (Freeze p i)) → verdict s (Freeze p i) ≡ accepted
  again_accepted p i t =
      verdict_is s (Freeze p i)
      ∙ ap (λ (d : Command). and_then (seat_verdict (Freeze p i)) (and_then (table_verdict s.tables.base d) (register_verdict s.register d))) (again_looks s (Freeze p i) t)
      ∙ (λ j. and_then (seat j) (and_then (tables j) (register_verdict s.register (Look p))))
      ∙ (unfold and_then register_verdict register_refusals first_of in refl)
    where
      held : 0 < held_by s.register i p
      held = again_held s (Freeze p i) t

      named : (i < 32) × (p < s.tables.base.n)
      named = let x = right_ranged s.tables.base.n s.register o.sound.register i p held in (x.0, x.1)

      frozen : state s.tables.base p ≡ 2
      frozen = (held_frozen o i p held).is

      seat : seat_verdict (Freeze p i) ≡ accepted
      seat = unfold seat_verdict seat_refusals in (first-none ((no_seat i, Seat) ∷ []) (double_not (ltb i 32) (lt→ltb i 32 named.0), tt))

      tables : table_verdict s.tables.base (Look p) ≡ accepted
      tables = unfold table_verdict table_refusals is_free in
          (first-none (table_refusals s.tables.base (Look p))
          (double_not (ltb p s.tables.base.n) (lt→ltb p s.tables.base.n named.1), (neqb_of {m = state s.tables.base p} {n = 0} (λ e. omega (arith, e, frozen)), tt)))
