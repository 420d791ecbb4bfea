-- LINKED is given exactly where another piece links to the draft, which is where its entry of links into it is not 0.
use Rattle.std.proofs.Math.Path.{◌≡◌, sym, ap}
use Rattle.std.specs.Prelude.{refl, ◌↔◌, Bool, true, not, ℕ, ◌<◌, length, ltb, Err}
use Rattle.std.proofs.Common.{◌∙◌, subst, ltb→lt, lt→ltb}
use Rattle.std.proofs.Math.Bool.{false}
use native.Mathlib.Omega.{arith}
use Rattle.std.proofs.Math.Dec.{T}
use Rattle.rules.specs.Tests.{pick}
use Rattle.rules.specs.Limits.{none}
use Rattle.rules.specs.Lists.{◌!◌}
use Rattle.rules.specs.Tables.{Store, state, is_free, is_frozen}
use Rattle.rules.specs.Words.{Draft}
use Rattle.rules.specs.Commands.{Verdict, accepted, refused, first_of, is_linked, table_refusals, freed_by, value_of, verdict}
use Rattle.rules.specs.Calls.{answered, does, Areas, Outcome, Promise, ended, outcome_of, accepted_call, cleared, accepted_by, done_by, refused_call, refused_by, is_lent}
use Rattle.rules.specs.declared.Refusal.TheVariants.{Linked}
use Rattle.rules.specs.declared.Command.TheVariants.{Bin}
use Rattle.laws.specs.Below.{pick-false}
use Rattle.laws.specs.Words.{neqb_of}
use Rattle.laws.specs.Passes.{table_verdict}
use Rattle.laws.specs.Calls.{double_not, judge_through}
use Rattle.laws.specs.Verdicts.{bare_verdict}
use Rattle.into.specs.Into.{into_sound, linked_into}
use Rattle.demands.specs.Sound.{OkStore, →sound_store}
use Rattle.rules.specs.Replies.{done}

-- of a draft LINKED is the only row that can apply
draft_verdict : (s : Store) (p : ℕ) → Draft s.tables.base p → verdict s (Bin p) ≡ pick (is_linked s.tables.base p) (refused Linked) accepted
draft_verdict s p d = bare_verdict s (Bin p) refl ∙ rows
  where
    rows : table_verdict s.tables.base (Bin p) ≡ pick (is_linked s.tables.base p) (refused Linked) accepted
    rows = unfold table_verdict table_refusals first_of in
        (pick-false (not (ltb p s.tables.base.n)) _ _ (double_not (ltb p s.tables.base.n) (lt→ltb p s.tables.base.n d.below))
        ∙ pick-false (is_free s.tables.base p) _ _ free ∙ pick-false (is_frozen s.tables.base p) _ _ frozen)
      where
        free : T (not (is_free s.tables.base p))
        free = unfold is_free in (neqb_of {m = state s.tables.base p} {n = 0} (λ e. let x = d.is in omega arith))

        frozen : T (not (is_frozen s.tables.base p))
        frozen = unfold is_frozen in (neqb_of {m = state s.tables.base p} {n = 2} (λ e. let x = d.is in omega arith))

module _ {a : Areas} {o : Outcome} {p : ℕ} (promise : Promise (does (Bin p)) a o) (lent : T (is_lent a (does (Bin p)))) (ok : OkStore a.store) (d : Draft a.store.tables.base p) where
  reply_is : (t : Bool) → is_linked a.store.tables.base p ≡ t → o.reply ≡ (ended a (does (Bin p)) (pick t (refused Linked) accepted)).reply
  reply_is t e =
      ap (λ (x : Outcome). x.reply) promise.exact ∙ (unfold outcome_of in
      (ap (λ (v : Verdict). (ended a (does (Bin p)) v).reply)
      (judge_through a (Bin p) lent (→sound_store a.store ok.sound) ∙ draft_verdict a.store p d ∙ ap (λ (x : Bool). pick x (refused Linked) accepted) e)))

  entry_is : is_linked a.store.tables.base p ≡ ltb 0 (a.store.into ! p)
  entry_is = linked_into a.store.tables.base (into_sound ok.sized ok.sound) p d.below (unfold state in d.is)

  -- over the public promise: exactly where another piece links to it, as before
  pub linked_told : (o.reply ≡ answered (Err Linked)) ↔ T (is_linked a.store.tables.base p)
  linked_told = go (is_linked a.store.tables.base p) refl
    where
      go : (t : Bool) → is_linked a.store.tables.base p ≡ t → (o.reply ≡ answered (Err Linked)) ↔ T t
      go true e = (λ _. tt, λ _. reply_is true e ∙ (unfold ended refused_call refused_by in refl))
      go false e = (λ x. absurd (other x), λ t. absurd t)
        where
          other : o.reply ≡ answered (Err Linked) → ⊥
          other x =
              let y : answered (done none (length (freed_by a.store.tables.base (Bin p)))) ≡ answered (Err Linked) =
              sym (reply_is false e ∙ (unfold ended accepted_call cleared accepted_by done_by value_of in refl)) ∙ x in
              let z : ◌≡◌ {A = ℕ} 0 1 = cc y in
              omega arith

  -- and that is where the draft's entry is not 0
  pub linked_entry : (o.reply ≡ answered (Err Linked)) ↔ (0 < a.store.into ! p)
  linked_entry = (
    λ x. ltb→lt 0 (a.store.into ! p) (subst T entry_is (linked_told.0 x)),
    λ h. linked_told.1 (subst T (sym entry_is) (lt→ltb 0 (a.store.into ! p) h)),
  )
