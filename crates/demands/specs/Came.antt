-- What comes of a call, for all areas: it is refused and the store stays, or it is accepted and the store is what the rules give.
use Rattle.std.specs.Prelude.{◌≡◌, not, ◌≤◌}
use Rattle.std.proofs.Common.{ap, ◌∙◌, subst, ⊎_elim}
use Rattle.std.proofs.Math.Dec.{T}
use Rattle.rules.specs.Limits.{most}
use Rattle.rules.specs.Tables.{empty}
use Rattle.rules.specs.Commands.{accepted, verdict, next_store}
use Rattle.rules.specs.Calls.{Call, start, does, check, Areas, Outcome, is_lent, accepted_by, call_refusals, judge, cleared, accepted_call, outcome_of, Promise}
use Rattle.rules.specs.History.{is_accepted}
use Rattle.rules.specs.declared.Command.{Command}
use Rattle.laws.specs.Below.{T_dec}
use Rattle.laws.specs.Passes.{not-not, first_accepted}
use Rattle.laws.specs.Calls.{lent_sized, accepted_judged, accepted_outcome, judged, refused_stays}
use Rattle.demands.specs.Sound.{OkStore, sound_store→}

pub data Came (a : Areas) (o : Outcome) : Call → Type 0 where
  -- refused: the store is as it was
  stayed : {c : Call} → T (not (is_accepted o.reply)) → o.areas.store ≡ a.store → Came a o c
  -- an accepted start: the store is empty
  emptied : T (is_accepted o.reply) → a.store.tables.base.n ≤ most → o.areas.store ≡ empty a.store.tables.base.n → Came a o start
  -- an accepted command: the store was sound, and is the next
  stepped : (c : Command) → T (is_accepted o.reply) → OkStore a.store → verdict a.store c ≡ accepted → o.reply ≡ accepted_by a.store.tables c
      → o.areas.store ≡ next_store a.store c → Came a o (does c)
  -- an accepted check: the store is as it was
  tested : o.areas.store ≡ a.store → Came a o check

module _ {a : Areas} {o : Outcome} where
  took : (c : Call) → o ≡ outcome_of a c → judge a c ≡ accepted → T (is_accepted o.reply) → Came a o c
  unfolding accepted_call cleared
  took start e j t = emptied t (lent_sized a start lent).1.tables.base.most (ap (λ (x : Outcome). x.areas.store) (e ∙ accepted_outcome a start j))
    where
      lent : T (is_lent a start)
      lent = unfold judge call_refusals in (not-not (is_lent a start) (first_accepted (not (is_lent a start)) _ _ j).0)
  took (does c) e j t =
      let x = judged a c j in
      let z = (lent_sized a (does c) x.lent).1 in
      let i = e ∙ accepted_outcome a (does c) j in
      stepped c t (record { sized = z; sound = sound_store→ a.store z x.sound }) x.verdict (ap (λ (y : Outcome). y.reply) i) (ap (λ (y : Outcome). y.areas.store) i)
  took check e j t = tested (ap (λ (x : Outcome). x.areas.store) (e ∙ accepted_outcome a check j))

  pub came : {c : Call} → Promise c a o → Came a o c
  came {c} p = ⊎_elim
      (λ t. took c p.exact (accepted_judged a c (subst (λ (x : Outcome). T (is_accepted x.reply)) p.exact t)) t)
      (λ t. stayed t (ap (λ (x : Outcome). x.areas.store) p.exact ∙ (refused_stays a c (subst (λ (x : Outcome). T (not (is_accepted x.reply))) p.exact t)).0))
      (T_dec (is_accepted o.reply))
