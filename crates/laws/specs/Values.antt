-- What a call answers, as numbers: every promise decides them, and they are those of the rulebook.
use Rattle.std.specs.Prelude.{◌≡◌, Bool, true, ℕ, length, get_or, Ok, Err}
use Rattle.std.proofs.Math.Path.{refl}
use Rattle.std.proofs.Common.{ap, ◌∙◌}
use Rattle.std.proofs.Math.Bool.{false}
use Rattle.rules.specs.Tests.{pick}
use Rattle.rules.specs.Limits.{none}
use Rattle.rules.specs.Tables.{state, holds_of, is_sound_store}
use Rattle.rules.specs.Commands.{is_look, piece_of, Verdict, accepted, refused, freed_by, value_of}
use Rattle.rules.specs.Calls.{Call, start, does, check, Areas, number_of, answered, saw, checked, Numbers, values, seen_values}
use Rattle.rules.specs.Calls.{checked_values, numbers_of, Outcome, refused_by, refused_call, seen_at, done_by, accepted_by, judge, cleared, accepted_call, ended, outcome_of, Promise}
use Rattle.rules.specs.declared.Refusal.{Refusal}
use Rattle.rules.specs.declared.Command.{Command}

-- refusal, value, number freed
abbrev three : ℕ → ℕ → ℕ → Numbers
three r v f = values (record { refusal = r; value = v; freed = f })

-- refusal, state, leader, count, holds
abbrev looked : ℕ → ℕ → ℕ → ℕ → ℕ → Numbers
looked r s l c h = seen_values (record { refusal = r; state = s; leader = l; count = c; holds = h })

-- refusal, 1 for yes
abbrev told : ℕ → ℕ → Numbers
told r y = checked_values (record { refusal = r; yes = y })

-- An accepted call answers 0, its value (none for all but new) and the number freed; look 0, state, leader, count of its group, holds; check 0, yes or no.
-- A refused call answers its number, value none and 0 freed; look 0, none, 0, 0; check no
abbrev pub numbers_by : Areas → Call → Verdict → Numbers
numbers_by a start accepted = three 0 none 0
numbers_by a start (refused r) = three (number_of r) none 0
numbers_by a (does c) accepted =
    let s = a.store.tables in
    let l = get_or s.leaders (piece_of c) 0 in
    pick (is_look c) (looked 0 (state s.base (piece_of c)) l (get_or s.counts l 0) (holds_of s.base (piece_of c)))
    (three 0 (value_of s.base c) (length (freed_by s.base c)))
numbers_by a (does c) (refused r) = pick (is_look c) (looked (number_of r) 0 none 0 0) (three (number_of r) none 0)
numbers_by a check accepted = told 0 (pick (is_sound_store a.store) 1 0)
numbers_by a check (refused r) = told (number_of r) 0

-- the numbers of the outcome that the rules give
outcome_numbers : (a : Areas) (c : Call) → numbers_of (outcome_of a c).reply ≡ numbers_by a c (judge a c)
outcome_numbers a c = unfold outcome_of in (by a c (judge a c))
  where
    done : (a : Areas) (c : Command) (b : Bool) → numbers_of (pick b (saw (seen_at a.store.tables (piece_of c))) (answered (done_by a.store.tables.base c)))
        ≡ pick b (looked 0 (state a.store.tables.base (piece_of c)) (get_or a.store.tables.leaders (piece_of c) 0)
        (get_or a.store.tables.counts (get_or a.store.tables.leaders (piece_of c) 0) 0) (holds_of a.store.tables.base (piece_of c)))
        (three 0 (value_of a.store.tables.base c) (length (freed_by a.store.tables.base c)))
    done a c true = unfold seen_at in refl
    done a c false = unfold done_by in refl

    no : (r : Refusal) (b : Bool) → numbers_of (pick b (saw (Err r)) (answered (Err r))) ≡ pick b (looked (number_of r) 0 none 0 0) (three (number_of r) none 0)
    no r true = refl
    no r false = refl

    yes : (b : Bool) → numbers_of (checked (pick b (Ok true) (Ok false))) ≡ told 0 (pick b 1 0)
    yes true = refl
    yes false = refl

    by : (a : Areas) (c : Call) (v : Verdict) → numbers_of (ended a c v).reply ≡ numbers_by a c v
    by a start accepted = unfold ended accepted_call cleared in refl
    by a start (refused r) = unfold ended refused_call in refl
    by a (does c) accepted = unfold ended accepted_call accepted_by cleared in (done a c (is_look c))
    by a (does c) (refused r) = unfold ended refused_call refused_by in (no r (is_look c))
    by a check accepted = unfold ended accepted_call cleared in (yes (is_sound_store a.store))
    by a check (refused r) = unfold ended refused_call in refl

-- the numbers of an outcome that keeps the promise of its call
pub promised_numbers : {c : Call} {a : Areas} {o : Outcome} → Promise c a o → numbers_of o.reply ≡ numbers_by a c (judge a c)
promised_numbers {c} {a} p = ap (λ (o : Outcome). numbers_of o.reply) p.exact ∙ outcome_numbers a c
