-- The nine calls over the areas that they are lent, for all contents and all lengths.
use Rattle.std.specs.Prelude.{◌≡◌, Bool, true, false, not, List, [], ◌∷◌, ◌++◌, ℕ, ◌*◌, ◌≤◌, eqb, leb, length, get_or, replicate, drop, Ok, Err}
use Rattle.rules.specs.Tests.{◌or◌, ◌&◌, pick}
use Rattle.rules.specs.Limits.{most, none, entries}
use Rattle.rules.specs.Tables.{Base, Tables, Store, state, holds_of, is_sound_store, empty}
use Rattle.rules.specs.Words.{Sized, SizedStore, Sound, SoundStore}
use Rattle.rules.specs.Commands.{is_look, piece_of, Verdict, accepted, refused, first_of, refusals, verdict, freed_by, value_of, next_store}
use Rattle.rules.specs.declared.Refusal.{Refusal}
use Rattle.rules.specs.declared.Refusal.TheVariants.{Size, Unsound, Number, Free, State, Limit, NotHeld, Linked, Full, Long, Room, Seat, NotYours, Register, Place, Target, FreeTarget}
use Rattle.rules.specs.declared.Command.{Command}
use Rattle.rules.specs.Replies.{Answer, Checked, Seen, done, piece_seen}

pub data Call : Type 0 where
  start : Call
  does : Command → Call
  check : Call

-- what a call is lent: the store's tables at capacity n, list and work; an area that the call does not take stands as []
pub record Areas : Type 0 where
  pub store : Store
  pub list : List ℕ
  pub work : List ℕ

abbrev pub areas_of : Store → List ℕ → List ℕ → Areas
areas_of s list work = record { store = s; list = list; work = work }

-- ---- answers, and the paper's number and values for each of their cases

abbrev pub number_of : Refusal → ℕ
number_of Size = 1
number_of Unsound = 2
number_of Number = 3
number_of Free = 4
number_of State = 5
number_of Limit = 6
number_of NotHeld = 7
number_of Linked = 8
number_of Full = 9
number_of Long = 10
number_of Room = 11
number_of Seat = 12
number_of NotYours = 13
number_of Register = 14
number_of Place = 15
number_of Target = 16
number_of FreeTarget = 17

pub record Values : Type 0 where
  pub refusal : ℕ
  pub value : ℕ
  pub freed : ℕ

-- An accepted call answers 0, its value and the number freed. A refused call returns its number, value none and 0 freed
abbrev pub values_of : Answer → Values
values_of (Ok d) = record { refusal = 0; value = d.value; freed = d.freed }
values_of (Err r) = record { refusal = number_of r; value = none; freed = 0 }

pub record SeenValues : Type 0 where
  pub refusal : ℕ
  pub state : ℕ
  pub leader : ℕ
  pub count : ℕ
  pub holds : ℕ

-- look: state, leader, count of its group, holds of P; refused, it answers 0, none, 0, 0
abbrev pub seen_values_of : Seen → SeenValues
seen_values_of (Ok p) = record { refusal = 0; state = p.state; leader = p.leader; count = p.count; holds = p.holds }
seen_values_of (Err r) = record { refusal = number_of r; state = 0; leader = none; count = 0; holds = 0 }

pub record CheckedValues : Type 0 where
  pub refusal : ℕ
  pub yes : ℕ

-- check: 1 for yes; refused, it answers no
abbrev pub checked_values_of : Checked → CheckedValues
checked_values_of (Ok true) = record { refusal = 0; yes = 1 }
checked_values_of (Ok false) = record { refusal = 0; yes = 0 }
checked_values_of (Err r) = record { refusal = number_of r; yes = 0 }

-- accepted, no value, nothing freed
abbrev pub fresh : Answer
fresh = done none 0

pub data Reply : Type 0 where
  answered : Answer → Reply
  saw : Seen → Reply
  checked : Checked → Reply

-- the number and values of any reply
pub data Numbers : Type 0 where
  values : Values → Numbers
  seen_values : SeenValues → Numbers
  checked_values : CheckedValues → Numbers

abbrev pub numbers_of : Reply → Numbers
numbers_of (answered a) = values (values_of a)
numbers_of (saw s) = seen_values (seen_values_of s)
numbers_of (checked c) = checked_values (checked_values_of c)

pub record Outcome : Type 0 where
  pub reply : Reply
  pub areas : Areas

abbrev pub outcome : Reply → Areas → Outcome
outcome r a = record { reply = r; areas = a }

-- a call of command c refused by r
unfoldable pub refused_by : Refusal → Command → Reply
refused_by r c = pick (is_look c) (saw (Err r)) (answered (Err r))

unfoldable pub refused_call : Refusal → Call → Reply
refused_call r start = answered (Err r)
refused_call r (does c) = refused_by r c
refused_call r check = checked (Err r)

-- state, leader, count of its group, holds of P
unfoldable pub seen_at : Tables → ℕ → Seen
seen_at t p = piece_seen (state t.base p) (get_or t.leaders p 0) (get_or t.counts (get_or t.leaders p 0) 0) (holds_of t.base p)

-- its value and the number freed
unfoldable pub done_by : Base → Command → Answer
done_by b c = done (value_of b c) (length (freed_by b c))

-- what an accepted command answers
unfoldable pub accepted_by : Tables → Command → Reply
accepted_by t c = pick (is_look c) (saw (seen_at t (piece_of c))) (answered (done_by t.base c))

-- ---- a command on sound tables

-- The list then gives their numbers, ascending, from entry 0; entries after them stay
unfoldable pub listing : List ℕ → List ℕ → List ℕ
listing freed l = freed ++ drop (length freed) l

pub record Effect : Type 0 where
  pub reply : Reply
  pub store : Store
  pub list : List ℕ

abbrev pub effect : Reply → Store → List ℕ → Effect
effect r s l = record { reply = r; store = s; list = l }

-- a refused command leaves the store and the list unchanged
unfoldable pub effected : Store → List ℕ → Command → Verdict → Effect
effected s l c accepted = effect (accepted_by s.tables c) (next_store s c) (listing (freed_by s.tables.base c) l)
effected s l c (refused r) = effect (refused_by r c) s l

-- what command c answers, and what it leaves in the store and the list
unfoldable pub effect_of : Store → List ℕ → Command → Effect
effect_of s l c = effected s l c (verdict s c)

-- ---- a call on any areas

-- start takes no list and no work; look and check take work and no list
unfoldable pub takes_list : Call → Bool
takes_list start = false
takes_list (does c) = not (is_look c)
takes_list check = false

unfoldable pub takes_work : Call → Bool
takes_work start = false
takes_work (does c) = true
takes_work check = true

-- N from 1 to 1,024, and each table exactly its length
unfoldable pub is_sized : Tables → Bool
is_sized t =
    let n = t.base.n in
    leb 1 n & leb n most & eqb (length t.base.states) n & eqb (length t.base.links) (4 * n) & eqb (length t.leaders) n
    & eqb (length t.base.holds) n & eqb (length t.counts) n

-- and the register and the links into each draft too
unfoldable pub is_sized_store : Store → Bool
is_sized_store s = is_sized s.tables & eqb (length s.register) entries & eqb (length s.into) s.tables.base.n

-- 1 SIZE does not apply: list has at least N entries and work at least 8N, of the areas the call takes
unfoldable pub is_lent : Areas → Call → Bool
is_lent a c =
    is_sized_store a.store & (not (takes_list c) or leb a.store.tables.base.n (length a.list))
    & (not (takes_work c) or leb (8 * a.store.tables.base.n) (length a.work))

-- 2 UNSOUND is not for start and check; the refusals after it are the command's
unfoldable pub later_refusals : Store → Call → List (Bool × Refusal)
later_refusals s start = []
later_refusals s (does c) = (not (is_sound_store s), Unsound) ∷ refusals s c
later_refusals s check = []

-- all refusals, checked in this order
unfoldable pub call_refusals : Areas → Call → List (Bool × Refusal)
call_refusals a c = (not (is_lent a c), Size) ∷ later_refusals a.store c

unfoldable pub judge : Areas → Call → Verdict
judge a c = first_of (call_refusals a c)

-- its first 8N entries are 0 and later ones unchanged
unfoldable pub clear : ℕ → List ℕ → List ℕ
clear n w = replicate (8 * n) 0 ++ drop (8 * n) w

-- work on return from a call that is not refused by SIZE
unfoldable pub cleared : Areas → Call → Areas
cleared a c = record { store = a.store; list = a.list; work = pick (takes_work c) (clear a.store.tables.base.n a.work) a.work }

-- what an accepted call answers and leaves
unfoldable pub accepted_call : Areas → Call → Outcome
accepted_call a start = outcome (answered fresh) (record { store = empty a.store.tables.base.n; list = a.list; work = a.work })
accepted_call a (does c) =
    outcome (accepted_by a.store.tables c)
    (record { store = next_store a.store c; list = listing (freed_by a.store.tables.base c) a.list; work = a.work })
accepted_call a check = outcome (checked (pick (is_sound_store a.store) (Ok true) (Ok false))) a

-- A refused call leaves the store and the list unchanged; work is unchanged after 1
unfoldable pub ended : Areas → Call → Verdict → Outcome
ended a c accepted = accepted_call (cleared a c) c
ended a c (refused r) = outcome (refused_call r c) (pick (eqb (number_of r) 1) a (cleared a c))

-- what a call answers and leaves in every area
unfoldable pub outcome_of : Areas → Call → Outcome
outcome_of a c = ended a c (judge a c)

-- The promise of every call, for all areas: its reply and every area on return are what the rules give
pub record Promise (c : Call) (before : Areas) (after : Outcome) : Type 0 where
  pub exact : after ≡ outcome_of before c

-- ---- the inner door: a command's work on a store that is known to be sound

-- each table has its length, and the tables are sound
pub record Ready (t : Tables) : Type 0 where
  pub least : 1 ≤ t.base.n
  pub sized : Sized t
  pub sound : Sound t

-- each area of the store has its length, and the store is sound
pub record ReadyStore (s : Store) : Type 0 where
  pub least : 1 ≤ s.tables.base.n
  pub sized : SizedStore s
  pub sound : SoundStore s

-- the command's reply, and the store and the list on return, are what the rules give; a command that takes no list has [] for it
pub record Did (c : Command) (s : Store) (l : List ℕ) (after : Effect) : Type 0 where
  pub exact : after ≡ effect_of s l c
