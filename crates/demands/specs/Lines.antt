-- The lines of a sound store name frozen pieces alone, so a freed or binned piece has none; a hold more and less again gives the register back.
use Rattle.std.specs.Prelude.{◌≡◌, refl, ◌⊎◌, not, List, ℕ, ◌<◌}
use Rattle.std.proofs.Math.Path.{sym}
use Rattle.std.proofs.Common.{ap, ◌∙◌, subst, ⊎_elim, arith, T_not}
use Rattle.std.proofs.Math.Logic.{inl, inr}
use Rattle.std.proofs.Math.Dec.{T}
use Rattle.rules.specs.Tests.{◌or◌}
use Rattle.rules.specs.Lists.{Among}
use Rattle.rules.specs.Register.{piece_at, number_at, one_more_by, one_less_by}
use Rattle.rules.specs.Tables.{Store, state, finish}
use Rattle.rules.specs.Words.{Frozen, Well, wfree, wdraft, wfrozen}
use Rattle.rules.specs.Commands.{piece_of, seat_of, is_freeze, is_acquire, is_again, meant, accepted, verdict, freed_by, noted, next_tables, next_store}
use Rattle.rules.specs.Calls.{Call, does, check, Areas, Outcome, Promise}
use Rattle.rules.specs.History.{is_accepted, listed}
use Rattle.rules.specs.declared.Command.{Command}
use Rattle.rules.specs.declared.Command.TheVariants.{New, Set, Freeze, Acquire, Release, Bin, Look}
use Rattle.laws.specs.Calls.{accepted_judged}
use Rattle.laws.specs.Verdicts.{not_again}
use Rattle.laws.specs.Freed.{alone}
use Rattle.register.specs.Holds.{held_none}
use Rattle.register.specs.Steps.{Stepped, less_steps, held_by_more}
use Rattle.register.specs.Ways.{back_one}
use Rattle.demands.specs.Sound.{OkStore}
use Rattle.demands.specs.Meant.{Accepts, first_is, accepts_of, accepts_itself, freed_meant, meant_bin}
use Rattle.demands.specs.Noted.{good, by_tables, freeze_noted, acquire_noted}
use Rattle.demands.specs.Came.{Came, stayed, stepped, came}
use Rattle.demands.specs.Demand2.{accepted_ok}
use Rattle.demands.specs.Demand3.{listed_is}

-- no used line names piece p
abbrev pub NoLine : List ℕ → ℕ → Type 0
NoLine l p = (i : ℕ) → 0 < number_at l i → piece_at l i ≡ p → ⊥

-- ---- the lines of a sound store

module _ {s : Store} (o : OkStore s) where
  -- a used line names a frozen piece
  pub line_frozen : (i : ℕ) → 0 < number_at s.register i → Frozen s.tables.base (piece_at s.register i)
  line_frozen i u = go ((good s o).wells (piece_at s.register i) below)
    where
      below : piece_at s.register i < s.tables.base.n
      below = o.sound.register.pieces i u

      go : Well s.tables.base (piece_at s.register i) → Frozen s.tables.base (piece_at s.register i)
      go (wfree w) = absurd (held_none s.register _ o.sound.register.ordered (sym (o.sound.sums _ below) ∙ w.holds) i u refl)
      go (wdraft w) = absurd (held_none s.register _ o.sound.register.ordered (sym (o.sound.sums _ below) ∙ w.holds) i u refl)
      go (wfrozen w) = record { below = below; is = w.is }

  -- so a free number has none
  pub free_no-line : (p : ℕ) → state s.tables.base p ≡ 0 → NoLine s.register p
  free_no-line p e i u x = omega (arith, e, (line_frozen i u).is, ap (state s.tables.base) x)

module _ {a : Areas} {o : Outcome} where
  -- after every accepted call, but for check, no line names a free number
  pub free_lines : {c : Call} → Promise c a o → T (is_accepted o.reply) → (c ≡ check → ⊥) → (p : ℕ) → state o.areas.store.tables.base p ≡ 0
      → NoLine o.areas.store.register p
  free_lines q t d p e = free_no-line (accepted_ok q t d) p e

  -- nor one that the call freed or binned
  pub gone-lines : {c : Command} → Promise (does c) a o → T (is_accepted o.reply) → (p : ℕ) → Among p (listed o) ⊎ (c ≡ Bin p) → NoLine o.areas.store.register p
  gone-lines {c} q t p x = free_lines q t (λ e. let z : ◌≡◌ {A = ℕ} 0 1 = cc e in omega arith) p (go (came q))
    where
      go : Came a o (does c) → state o.areas.store.tables.base p ≡ 0
      go (stayed u e) = absurd (T_not (is_accepted o.reply) u t)
      go (stepped c u ok v r e) =
          ap (λ (s : Store). state s.tables.base p) e ∙ (unfold next_store next_tables finish in
          ((alone a.store.tables.base ok.sized.tables.base (good a.store ok) (meant a.store c) (by_tables a.store ok (accepts_of a.store c v)) p).1
          (⊎_elim (λ m. inl (subst (Among p) listed_here m)) (λ m. inr (meant_bin a.store m)) x)).1)
        where
          listed_here : listed o ≡ freed_by a.store.tables.base (meant a.store c)
          listed_here =
              listed_is a o c q (accepted_judged a (does c) (subst (λ (y : Outcome). T (is_accepted y.reply)) q.exact t))
              ∙ sym (freed_meant a.store c a.store.tables.base)

-- ---- a hold more and less again

back_again : {l : List ℕ} {i p : ℕ} → Stepped l i p (one_more_by l i p) → one_less_by (one_more_by l i p) i p ≡ l
back_again {l} {i} {p} t = back_one (λ a b. refl) (less_steps (one_more_by l i p) t.to i p (omega (arith, held_by_more t))) t

-- a freeze or acquire that is accepted as it is, and a release by the same seat of the same piece
pub noted_back : (s : Store) → OkStore s → (c : Command) → T (is_freeze c or is_acquire c) → Accepts s c
    → noted (noted s.register c) (Release (piece_of c) (seat_of c)) ≡ s.register
unfolding noted
noted_back s o New t v = absurd t
noted_back s o (Set p k q) t v = absurd t
noted_back s o (Freeze p i) t v = back_again (freeze_noted s o p i v).0
noted_back s o (Acquire p i) t v = back_again (acquire_noted s o p i v).0
noted_back s o (Release p i) t v = absurd t
noted_back s o (Bin p) t v = absurd t
noted_back s o (Look p) t v = absurd t

-- the same of two stores, where the first command is no second hand-in
pub next_back : (s s' : Store) → OkStore s → (c : Command) → T (is_freeze c or is_acquire c) → T (not (is_again s c)) → verdict s c ≡ accepted → s' ≡ next_store s c
    → (next_store s' (Release (piece_of c) (seat_of c))).register ≡ s.register
unfolding next_store
next_back s s' o c adds first v e =
    ap (noted s'.register) (not_again s' (Release (piece_of c) (seat_of c)) refl).is
    ∙ ap (λ (x : Store). noted x.register (Release (piece_of c) (seat_of c))) e
    ∙ ap (λ (d : Command). noted (noted s.register d) (Release (piece_of c) (seat_of c))) (first_is s c first)
    ∙ noted_back s o c adds (accepts_itself (first_is s c first) v)

-- and of two calls, one after the other
pub given_back : {c : Command} {a a' : Areas} {o o' : Outcome} → T (is_freeze c or is_acquire c) → T (not (is_again a.store c)) → Promise (does c) a o → T (is_accepted o.reply)
    → a'.store ≡ o.areas.store → Promise (does (Release (piece_of c) (seat_of c))) a' o' → T (is_accepted o'.reply) → o'.areas.store.register ≡ a.store.register
given_back {c} {a} {a'} {o} {o'} adds first q t same q' t' = go (came q) (came q')
  where
    go : Came a o (does c) → Came a' o' (does (Release (piece_of c) (seat_of c))) → o'.areas.store.register ≡ a.store.register
    go (stayed u e) y = absurd (T_not (is_accepted o.reply) u t)
    go (stepped c u ok v r e) (stayed u' e') = absurd (T_not (is_accepted o'.reply) u' t')
    go (stepped c u ok v r e) (stepped k u' ok' v' r' e') = ap (λ (s : Store). s.register) e' ∙ next_back a.store a'.store ok c adds first v (same ∙ e)
