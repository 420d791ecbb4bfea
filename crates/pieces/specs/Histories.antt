-- The C calls are histories: what a call through this door gives is a step of a history, accepted exactly if its number tells refusal 0.
use Rattle.std.specs.Prelude.{◌≡◌, ◌≢◌, true, false, not, List, ◌∷◌, ℕ, ◌%◌, ◌≤◌, T, Ok, Err}
use Rattle.std.proofs.Common.{sym, ap, ◌∙◌, arith}
use Rattle.rules.specs.Limits.{most}
use Rattle.rules.specs.Tables.{Store}
use Rattle.rules.specs.Calls.{Call, Areas, number_of, Reply, answered, saw, checked, Outcome, outcome, outcome_of, Promise}
use Rattle.rules.specs.Trace.{Given, lent_trace}
use Rattle.rules.specs.History.{Event, event, is_accepted, History, refusing, accepting, Listing}
use Rattle.rules.specs.declared.Refusal.{Refusal}
use Rattle.rules.specs.declared.Refusal.TheVariants.{Size, Unsound, Number, Free, State, Limit, NotHeld, Linked, Full, Long, Room, Seat, NotYours, Register, Place, Target, FreeTarget}
use Rattle.demands.specs.Demand3.{demand3}
use Rattle.pieces.specs.Packed.{Packs}
use Rattle.pieces.specs.Told.{Told, told_answer, told_seen, told_checked, number_tells}

-- what came of a call through this door: the reply that its number tells, and the areas on return
abbrev pub came : Call → Areas → Areas → Outcome
came c a after = outcome (outcome_of a c).reply after

-- a C call keeps the call's own promise
pub promised : {c : Call} {a after : Areas} {r : ℕ} → Packs c a r after → Promise c a (came c a after)
promised {c} {a} q = record { exact = ap (outcome (outcome_of a c).reply) q.areas }

-- no refusal has number 0
numbered : (r : Refusal) → number_of r ≢ 0
numbered Size e = omega arith
numbered Unsound e = omega arith
numbered Number e = omega arith
numbered Free e = omega arith
numbered State e = omega arith
numbered Limit e = omega arith
numbered NotHeld e = omega arith
numbered Linked e = omega arith
numbered Full e = omega arith
numbered Long e = omega arith
numbered Room e = omega arith
numbered Seat e = omega arith
numbered NotYours e = omega arith
numbered Register e = omega arith
numbered Place e = omega arith
numbered Target e = omega arith
numbered FreeTarget e = omega arith

-- the lowest byte of the number is 0 exactly if the call was accepted
told_accepted : (r : ℕ) (x : Reply) → Told r x → r % 256 ≡ 0 → T (is_accepted x)
unfolding is_accepted
told_accepted r (answered (Ok d)) t e = tt
told_accepted r (answered (Err q)) (told_answer _ t) e = absurd (numbered q (sym t.refusal ∙ e))
told_accepted r (saw (Ok p)) t e = tt
told_accepted r (saw (Err q)) (told_seen _ t) e = absurd (numbered q (sym t.refusal ∙ e))
told_accepted r (checked (Ok sound)) t e = tt
told_accepted r (checked (Err q)) (told_checked _ t) e = absurd (numbered q (sym t.refusal ∙ e))

told_refused : (r : ℕ) (x : Reply) → Told r x → r % 256 ≢ 0 → T (not (is_accepted x))
unfolding is_accepted
told_refused r (answered (Ok d)) (told_answer _ t) e = absurd (e t.refusal)
told_refused r (answered (Err q)) t e = tt
told_refused r (saw (Ok p)) (told_seen _ t) e = absurd (e t.refusal)
told_refused r (saw (Err q)) t e = tt
told_refused r (checked (Ok true)) (told_checked _ t) e = absurd (e t.refusal)
told_refused r (checked (Ok false)) (told_checked _ t) e = absurd (e t.refusal)
told_refused r (checked (Err q)) t e = tt

-- ---- the steps of a history by C calls

module _ {n : ℕ} {h : List Event} {c : Call} {a after : Areas} {r : ℕ} (q : Packs c a r after) where
  -- an accepted call, lent the store's whole tables
  pub called : History n h a.store → r % 256 ≡ 0 → History n (event c (came c a after) ∷ h) after.store
  called past e = accepting c a (came c a after) past (promised q) (told_accepted r (outcome_of a c).reply (number_tells q) e)

  -- a refused call, whatever it was lent
  pub refused_call_lem : {s : Store} → History n h s → r % 256 ≢ 0 → History n (event c (came c a after) ∷ h) s
  refused_call_lem past e = refusing c a (came c a after) past (promised q) (told_refused r (outcome_of a c).reply (number_tells q) e)

  -- Demand 3 of an accepted C call
  pub called_lists : n ≤ most → History n h a.store → r % 256 ≡ 0 → Listing h c a (came c a after)
  called_lists small past e = demand3 n small h c a (came c a after) past (promised q) (told_accepted r (outcome_of a c).reply (number_tells q) e)

-- the promise of a lent trace decides the answer and the room
pub trace_decided : (text room : List ℕ) {g g' : Given} → g ≡ lent_trace text room → g' ≡ lent_trace text room → g ≡ g'
trace_decided text room p q = p ∙ sym q
