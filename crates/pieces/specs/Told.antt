-- The u64 of every call tells the rulebook's number and values: each part stands in its own bits.
use Rattle.std.specs.Prelude.{◌≡◌, refl, Bool, true, false, ℕ, ◌/◌, ◌%◌, ◌≤◌, ◌<◌, Ok, Err}
use Rattle.std.proofs.Common.{sym, subst, arith}
use Rattle.rules.specs.Tests.{pick}
use Rattle.rules.specs.Limits.{none}
use Rattle.rules.specs.Tables.{Tables, is_sound_store}
use Rattle.rules.specs.Commands.{Verdict, accepted, refused, first_free, value_of}
use Rattle.rules.specs.Calls.{Values, values_of, SeenValues, seen_values_of, CheckedValues, checked_values_of, Reply, answered, saw, checked}
use Rattle.rules.specs.Calls.{Call, start, does, check, Areas, Ready, judge, refused_by, refused_call, seen_at, done_by, accepted_by, cleared, accepted_call, ended, outcome_of}
use Rattle.rules.specs.declared.Refusal.{Refusal}
use Rattle.rules.specs.declared.Command.TheVariants.{New, Set, Freeze, Acquire, Release, Bin, Look}
use Rattle.pieces.specs.Packed.{packed, Packs}
use Rattle.pieces.specs.Looks.{Fitting, seen_fitting, accepted_ready}
use Rattle.pieces.specs.Parts.{number_fits, free_fits, state-fits, leader-fits}
use Rattle.rules.specs.Replies.{Answer, Checked, Seen, done}

-- ---- how a number is taken apart

pub record Tells (r : ℕ) (v : Values) : Type 0 where
  pub refusal : r % 256 ≡ v.refusal
  pub value : r / 65536 % 65536 ≡ v.value
  pub freed : r / 4294967296 ≡ v.freed

pub record TellsSeen (r : ℕ) (v : SeenValues) : Type 0 where
  pub refusal : r % 256 ≡ v.refusal
  pub state : r / 256 % 256 ≡ v.state
  pub leader : r / 65536 % 65536 ≡ v.leader
  pub count : r / 4294967296 % 1048576 ≡ v.count
  pub holds : r / 4503599627370496 ≡ v.holds

pub record TellsChecked (r : ℕ) (v : CheckedValues) : Type 0 where
  pub refusal : r % 256 ≡ v.refusal
  pub yes : r / 65536 % 2 ≡ v.yes

pub data Told (r : ℕ) : Reply → Type 0 where
  told_answer : (a : Answer) → Tells r (values_of a) → Told r (answered a)
  told_seen : (s : Seen) → TellsSeen r (seen_values_of s) → Told r (saw s)
  told_checked : (c : Checked) → TellsChecked r (checked_values_of c) → Told r (checked c)

-- ---- a number that fits tells its parts

answer_told : (a : Answer) → (values_of a).refusal < 256 → (values_of a).value ≤ none → Told (packed (answered a)) (answered a)
answer_told a h l = told_answer a (record { refusal = omega arith; value = omega arith; freed = omega arith })

seen_told : (s : Seen) → (seen_values_of s).refusal < 256 → (seen_values_of s).state ≤ 2 → (seen_values_of s).leader ≤ none → Fitting s → Told (packed (saw s)) (saw s)
seen_told s h k l f = told_seen s (record { refusal = omega arith; state = omega arith; leader = omega arith; count = omega arith; holds = omega arith })

checked_told : (c : Checked) → (checked_values_of c).refusal < 256 → (checked_values_of c).yes < 2 → Told (packed (checked c)) (checked c)
checked_told c h l = told_checked c (record { refusal = omega arith; yes = omega arith })

-- ---- every reply

refused_answer : (r : Refusal) → Told (packed (answered (Err r))) (answered (Err r))
refused_answer r = answer_told (Err r) (number_fits r) (omega arith)

refused_told : (r : Refusal) (c : Call) → Told (packed (refused_call r c)) (refused_call r c)
unfolding refused_call refused_by
refused_told r start = refused_answer r
refused_told r (does New) = refused_answer r
refused_told r (does (Set p k t)) = refused_answer r
refused_told r (does (Freeze p seat)) = refused_answer r
refused_told r (does (Acquire p seat)) = refused_answer r
refused_told r (does (Release p seat)) = refused_answer r
refused_told r (does (Bin p)) = refused_answer r
refused_told r (does (Look p)) = seen_told (Err r) (number_fits r) (omega arith) (omega arith) (record { count = omega arith; holds = omega arith })
refused_told r check = checked_told (Err r) (number_fits r) (omega arith)

-- an accepted command but look
done_told : (v f : ℕ) → v ≤ none → Told (packed (answered (done v f))) (answered (done v f))
done_told v f h = answer_told (done v f) (omega arith) h

saw_told : {s : Tables} → Ready s → (p : ℕ) → Told (packed (saw (seen_at s p))) (saw (seen_at s p))
unfolding seen_at
saw_told {s} o p = seen_told (seen_at s p) (omega arith) (state-fits o p) (leader-fits o p) (seen_fitting o p)

checks_told : (b : Bool) → Told (packed (checked (pick b (Ok true) (Ok false)))) (checked (pick b (Ok true) (Ok false)))
checks_told true = checked_told (Ok true) (omega arith) (omega arith)
checks_told false = checked_told (Ok false) (omega arith) (omega arith)

accepted_told : (a : Areas) (c : Call) → judge a c ≡ accepted → Told (packed (accepted_call (cleared a c) c).reply) (accepted_call (cleared a c) c).reply
unfolding accepted_call accepted_by cleared done_by value_of
accepted_told a start e = done_told none 0 (omega arith)
accepted_told a (does New) e = done_told (first_free a.store.tables.base) _ (free_fits a.store.tables.base (accepted_ready a New e).sized.base.most)
accepted_told a (does (Set p k t)) e = done_told none _ (omega arith)
accepted_told a (does (Freeze p seat)) e = done_told none _ (omega arith)
accepted_told a (does (Acquire p seat)) e = done_told none _ (omega arith)
accepted_told a (does (Release p seat)) e = done_told none _ (omega arith)
accepted_told a (does (Bin p)) e = done_told none _ (omega arith)
accepted_told a (does (Look p)) e = saw_told (accepted_ready a (Look p) e) p
accepted_told a check e = checks_told (is_sound_store a.store)

outcome-told : (a : Areas) (c : Call) → Told (packed (outcome_of a c).reply) (outcome_of a c).reply
unfolding outcome_of
outcome-told a c = go (judge a c) refl
  where
    go : (v : Verdict) → judge a c ≡ v → Told (packed (ended a c v).reply) (ended a c v).reply
    go accepted e = unfold ended in (accepted_told a c e)
    go (refused r) e = unfold ended in (refused_told r c)

-- the u64 of every call tells the number and values of the rulebook's reply
pub number_tells : {c : Call} {a after : Areas} {r : ℕ} → Packs c a r after → Told r (outcome_of a c).reply
number_tells {c} {a} q = subst (λ (x : ℕ). Told x (outcome_of a c).reply) (sym q.answer) (outcome-told a c)
