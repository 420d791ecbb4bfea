-- After any history a seat's holds on a piece are what it has added since the piece was given out less what it has taken.
use Rattle.std.specs.Prelude.{◌≡◌, refl, Bool, true, not, List, ◌∷◌}
use Rattle.std.proofs.Common.{sym, ◌∙◌, arith}
use Rattle.std.proofs.Math.Path.{ap, subst}
use Rattle.std.proofs.Math.Logic.{⊎_elim}
use Rattle.std.proofs.Math.Bool.{false}
use Prim.Native.Nat.{ℕ, ◌+◌}
use Rattle.std.proofs.Math.Dec.{T, T_not, not_T}
use Rattle.rules.specs.Tests.{only_if}
use Rattle.rules.specs.Register.{pair, held_by}
use Rattle.rules.specs.Tables.{Store, state, empty}
use Rattle.rules.specs.Commands.{accepted, first_free, verdict, noted, next_store}
use Rattle.rules.specs.Calls.{Call, start, does, check}
use Rattle.rules.specs.History.{Event, event, is_accepted, History, begun, refusing, accepting, commands, accepted_of, gives_out, starts, since, often, adds_by, takes_by, added_by, taken_by}
use Rattle.rules.specs.declared.Command.{Command}
use Rattle.rules.specs.declared.Command.TheVariants.{New}
use Rattle.laws.specs.Tests.{and_left, and_right, or_left}
use Rattle.laws.specs.Below.{T_dec}
use Rattle.laws.specs.Numbers.{lt_or}
use Rattle.laws.specs.Commands.{first_free_state}
use Rattle.laws.specs.Verdicts.{not_again}
use Rattle.register.specs.Empty.{empty-total}
use Rattle.demands.specs.Sound.{OkStore}
use Rattle.demands.specs.Meant.{accepts_other}
use Rattle.demands.specs.Noted.{by_tables}
use Rattle.demands.specs.Again.{held_frozen}
use Rattle.demands.specs.Adding.{seat_steps}
use Rattle.demands.specs.Came.{Came, stayed, emptied, stepped, tested, came}
use Rattle.demands.specs.Since.{anew, taken_on, taken-anew, added_on, added-anew, refused_quiet, gives, command_quiet, command_of}

-- a number that new gives out is held by no seat
given-none : (s : Store) → OkStore s → verdict s New ≡ accepted → (i : ℕ) → held_by (next_store s New).register i (first_free s.tables.base) ≡ 0
unfolding next_store
given-none s o v i =
    ap (λ (d : Command). held_by (noted s.register d) i p) (not_again s New refl).is
    ∙ (unfold noted in (⊎_elim (λ u. absurd (omega (arith, (held_frozen o i p u).is, free))) (λ u. omega arith) (lt_or 0 (held_by s.register i p))))
  where
    p : ℕ
    p = first_free s.tables.base

    free : state s.tables.base (first_free s.tables.base) ≡ 0
    free = first_free_state s.tables.base (by_tables s o (accepts_other refl v))

module _ (i p : ℕ) where
  -- x is what was added since p was given out less what was taken
  abbrev Counted : ℕ → List Event → Type 0
  Counted x h = x + taken_by i p h ≡ added_by i p h

  -- this call changed x to y
  counted_on : (x y : ℕ) (e : Event) (h : List Event) → T (not (anew p e))
      → y + only_if (accepted_of (takes_by i p) e) 1 ≡ x + only_if (accepted_of (adds_by i p x) e) 1 → Counted x h → Counted y (e ∷ h)
  counted_on x y e h t z k = omega (arith, z, k, taken_on i p e h t, added_on i p e h t x k)

  -- this call began anew
  counted_anew : (y : ℕ) (e : Event) (h : List Event) → T (anew p e) → y ≡ 0 → Counted y (e ∷ h)
  counted_anew y e h t z = omega (arith, z, taken-anew i p e h t, added-anew i p e h t)

  -- this call is no accepted command
  counted_still : (x : ℕ) (e : Event) (h : List Event) → T (not (anew p e)) → ((f : Command → Bool) → T (not (accepted_of f e))) → Counted x h → Counted x (e ∷ h)
  counted_still x e h t n k = counted_on x x e h t (omega (arith, off (accepted_of (takes_by i p) e) (n (takes_by i p)), off (accepted_of (adds_by i p x) e) (n (adds_by i p x)))) k
    where
      off : (b : Bool) → T (not b) → only_if b 1 ≡ 0
      off true t = absurd t
      off false t = refl

  abbrev of : Store → ℕ
  of s = held_by s.register i p

  empty-none : (n : ℕ) → of (empty n) ≡ 0
  empty-none n = unfold empty in (empty-total (pair i p))

  pub measured : {n : ℕ} {h : List Event} {s : Store} → History n h s → held_by s.register i p + taken_by i p h ≡ added_by i p h
  measured {n} begun = unfold taken_by added_by since often in (omega (arith, empty-none n))
  measured (refusing {h = h} {s = s} c a o r q t) =
      counted_still (of s) (event c o) h (refused_quiet p c o t)
      (λ f. not_T (accepted_of f (event c o)) (λ u. T_not (is_accepted o.reply) t (unfold accepted_of in (and_left (is_accepted o.reply) (commands f c) u))))
      (measured r)
  measured (accepting {h = h} c a o r q t) = go (came q) (measured r)
    where
      go : {c : Call} → Came a o c → Counted (of a.store) h → Counted (of o.areas.store) (event c o ∷ h)
      go (stayed u e) x = absurd (T_not (is_accepted o.reply) u t)
      go (emptied u k e) x =
          counted_anew (of o.areas.store) (event start o) h (unfold gives_out starts commands in u)
          (ap of e ∙ empty-none a.store.tables.base.n)
      go (stepped c u ok v r e) x = ⊎_elim new other (T_dec (gives_out p (event (does c) o)))
        where
          new : T (gives_out p (event (does c) o)) → Counted (of o.areas.store) (event (does c) o ∷ h)
          new g =
              let w = gives p a.store o c r g in
              let z = given-none a.store ok (subst (λ (k : Command). verdict a.store k ≡ accepted) w.0 v) i in
              counted_anew (of o.areas.store) (event (does c) o) h (or_left (gives_out p (event (does c) o)) (starts (event (does c) o)) g)
              (ap of e ∙ ap (λ (k : Command). of (next_store a.store k)) w.0 ∙ subst (λ (y : ℕ). held_by (next_store a.store New).register i y ≡ 0) w.1 z)

          other : T (not (gives_out p (event (does c) o))) → Counted (of o.areas.store) (event (does c) o ∷ h)
          other g =
              counted_on (of a.store) (of o.areas.store) (event (does c) o) h (command_quiet p c o g)
              (omega (arith, ap of e, seat_steps a.store ok i p c v, command_of (takes_by i p) c o u, command_of (adds_by i p (of a.store)) c o u)) x
      go (tested e) x = subst (λ (s : Store). Counted (of s) (event check o ∷ h)) (sym e)
          (counted_still (of a.store) (event check o) h (unfold gives_out starts commands in tt)
          (λ f. not_T (accepted_of f (event check o)) (λ u. unfold accepted_of commands in (absurd (and_right (is_accepted o.reply) false u)))) x)
