-- A second hand-in is the same hand-in: freezing a piece twice by one seat is accepted and leaves what freezing it once does.
use Rattle.std.specs.Prelude.{◌≡◌, not, T}
use Rattle.std.proofs.Math.Path.{refl, ap}
use Rattle.std.proofs.Common.{sym, ◌∙◌, subst, arith, T_not}
use Rattle.std.proofs.Math.Logic.{⊎_elim}
use mathlib.Core.List.{List, []}
use Prim.Native.Nat.{ℕ, ◌<◌}
use Rattle.rules.specs.Register.{held_by}
use Rattle.rules.specs.Tables.{Store, is_sound_store}
use Rattle.rules.specs.Commands.{is_again, meant, Verdict, accepted, refused, verdict}
use Rattle.rules.specs.Commands.{settles, freed_by, value_of, noted, next_store, settled, step_to}
use Rattle.rules.specs.Calls.{does, answered, fresh, Areas, Outcome, is_lent, done_by, accepted_by, listing, cleared, accepted_call, outcome_of, Promise}
use Rattle.rules.specs.History.{is_accepted}
use Rattle.rules.specs.declared.Command.{Command}
use Rattle.rules.specs.declared.Command.TheVariants.{Freeze, Release, Look}
use Rattle.laws.specs.Below.{T_dec}
use Rattle.laws.specs.Calls.{lent_sized, accepted_judged, accepted_outcome, refused_stays, judge_through}
use Rattle.register.specs.Steps.{held_by_more}
use Rattle.demands.specs.Sound.{OkStore, sound_store→}
use Rattle.demands.specs.Meant.{Accepts, again_looks, meant_cases, accepts_itself, freed_meant}
use Rattle.demands.specs.Noted.{freeze_noted}
use Rattle.demands.specs.Again.{again_held, held_again, again_stays, again_accepted}
use Rattle.demands.specs.Came.{Came, stayed, stepped, came}
use Rattle.demands.specs.Demand2.{next-ok}
use Rattle.demands.specs.Lines.{next_back}

-- ---- two freezes of one piece by one seat, one after the other, on a sound store

module _ {s : Store} (o : OkStore s) (p i : ℕ) where
  abbrev c : Command
  c = Freeze p i

  -- after the first the seat holds the piece
  once_held : verdict s c ≡ accepted → 0 < held_by (next_store s c).register i p
  unfolding next_store
  once_held v = ⊎_elim
      (λ x. again (ap held x.1) (again_held s c x.0))
      (λ x. first (ap held x.1) (accepts_itself x.1 v)) (meant_cases s c)
    where
      held : Command → ℕ
      held d = held_by (noted s.register d) i p

      again : held (meant s c) ≡ held (Look p) → 0 < held_by s.register i p → 0 < held (meant s c)
      again e u = unfold noted in (omega (arith, e, u))

      first : held (meant s c) ≡ held c → Accepts s c → 0 < held (meant s c)
      first e a = let x = held_by_more (freeze_noted s o p i a).0 in unfold noted in (omega (arith, e, x))

  second : verdict s c ≡ accepted → T (is_again (next_store s c) c)
  second v = held_again (next-ok s c o v) i p (once_held v)

  -- the second is accepted
  pub second_accepted : verdict s c ≡ accepted → verdict (next_store s c) c ≡ accepted
  second_accepted v = again_accepted (next-ok s c o v) p i (second v)

  -- and leaves what the first left
  pub second_stays : verdict s c ≡ accepted → next_store (next_store s c) c ≡ next_store s c
  second_stays v = again_stays (next-ok s c o v) c (second v)

  -- so twice is once, accepted or refused
  pub twice_once : step_to (step_to s c) c ≡ step_to s c
  unfolding step_to settled
  twice_once = go (verdict s c) refl
    where
      go : (v : Verdict) → verdict s c ≡ v → settled (verdict (settled v s c) c) (settled v s c) c ≡ settled v s c
      go accepted e = ap (λ (v : Verdict). settled v (next_store s c) c) (second_accepted e) ∙ second_stays e
      go (refused r) e = ap (λ (v : Verdict). settled v s c) e

  -- and a release by the seat does after two what it does after one
  pub twice_release : step_to (step_to (step_to s c) c) (Release p i) ≡ step_to (step_to s c) (Release p i)
  twice_release = ap (λ (x : Store). step_to x (Release p i)) twice_once

  -- where the seat held none it holds none again: the register is as before
  pub twice_back : T (not (is_again s c)) → verdict s c ≡ accepted → (next_store (next_store (next_store s c) c) (Release p i)).register ≡ s.register
  twice_back first v = next_back s (next_store (next_store s c) c) o c tt first v (second_stays v)

-- ---- of calls, for all areas

-- a second hand-in leaves the store and the list
pub again_leaves : {c : Command} {a : Areas} {o : Outcome} → Promise (does c) a o → T (is_again a.store c) → (o.areas.store ≡ a.store) × (o.areas.list ≡ a.list)
again_leaves {c} {a} {o} q t = (
  go (came q),
  ap (λ (x : Outcome). x.areas.list) q.exact ∙ ⊎_elim took (λ u. (refused_stays a (does c) u).1) (T_dec (is_accepted (outcome_of a (does c)).reply)),
)
  where
    go : Came a o (does c) → o.areas.store ≡ a.store
    go (stayed u e) = e
    go (stepped c u ok v r e) = e ∙ again_stays ok c t

    nothing : freed_by a.store.tables.base c ≡ []
    nothing =
        sym (freed_meant a.store c a.store.tables.base) ∙ ap (freed_by a.store.tables.base) (again_looks a.store c t)
        ∙ (unfold freed_by settles in refl)

    took : T (is_accepted (outcome_of a (does c)).reply) → (outcome_of a (does c)).areas.list ≡ a.list
    took u =
        ap (λ (x : Outcome). x.areas.list) (accepted_outcome a (does c) (accepted_judged a (does c) u))
        ∙ (unfold accepted_call cleared listing in (ap (λ (f : List ℕ). listing f a.list) nothing))

-- and, on areas of their lengths and a sound store, is answered as accepted, with no value and nothing freed
pub again_answered : {a : Areas} {o : Outcome} {p i : ℕ} → Promise (does (Freeze p i)) a o → T (is_lent a (does (Freeze p i))) → T (is_sound_store a.store)
    → T (is_again a.store (Freeze p i)) → o.reply ≡ answered fresh
again_answered {a} {o} {p} {i} q l u t =
    ap (λ (x : Outcome). x.reply) (q.exact ∙ accepted_outcome a (does (Freeze p i)) (judge_through a (Freeze p i) l u ∙ again_accepted ok p i t))
    ∙ (unfold accepted_call accepted_by done_by value_of freed_by settles in refl)
  where
    ok : OkStore a.store
    ok = let z = (lent_sized a (does (Freeze p i)) l).1 in record { sized = z; sound = sound_store→ a.store z u }

-- after an accepted freeze the next freeze of the piece by the seat leaves the store and the list
pub twice_leaves : {a a' : Areas} {o o' : Outcome} {p i : ℕ} → Promise (does (Freeze p i)) a o → T (is_accepted o.reply) → a'.store ≡ o.areas.store
    → Promise (does (Freeze p i)) a' o' → (o'.areas.store ≡ a'.store) × (o'.areas.list ≡ a'.list)
twice_leaves {a} {a'} {o} {o'} {p} {i} q t same q' = again_leaves q' (go (came q))
  where
    go : Came a o (does (Freeze p i)) → T (is_again a'.store (Freeze p i))
    go (stayed u e) = absurd (T_not (is_accepted o.reply) u t)
    go (stepped c u ok v r e) = subst (λ (s : Store). T (is_again s (Freeze p i))) (sym (same ∙ e)) (second ok p i v)
