-- Demand 3's words: a history of calls, which pieces are held by it, and what a call lists.
use Rattle.std.specs.Prelude.{◌≡◌, ◌⊎◌, ◌↔◌, Bool, true, false, not, List, [], ◌∷◌, ◌++◌, ℕ, ◌+◌, ◌-◌, ◌<◌, T, eqb, length, take, drop, Ok, Err}
use Rattle.rules.specs.Tests.{◌or◌, ◌&◌, pick, only_if}
use Rattle.rules.specs.Limits.{seats}
use Rattle.rules.specs.Below.{sum}
use Rattle.rules.specs.Lists.{Among, Ascending}
use Rattle.rules.specs.Tables.{Base, Store, state, empty_tables, empty}
use Rattle.rules.specs.Words.{Draft, Frozen, Live, Reaches}
use Rattle.rules.specs.Commands.{piece_of, seat_of, is_new, is_freeze, is_acquire, is_release, edit, meant}
use Rattle.rules.specs.Calls.{Call, start, does, check, Areas, Reply, answered, saw, checked, Outcome, Promise}
use Rattle.rules.specs.declared.Command.{Command}
use Rattle.rules.specs.declared.Command.TheVariants.{Bin}

-- a call as it was made, and what came of it
pub record Event : Type 0 where
  pub call : Call
  pub came : Outcome

abbrev pub event : Call → Outcome → Event
event c o = record { call = c; came = o }

unfoldable pub is_accepted : Reply → Bool
is_accepted (answered (Ok d)) = true
is_accepted (answered (Err r)) = false
is_accepted (saw (Ok p)) = true
is_accepted (saw (Err r)) = false
is_accepted (checked (Ok sound)) = true
is_accepted (checked (Err r)) = false

-- Start from an empty store of capacity n, make any sequence of calls, refused ones included, the accepted ones all at its one capacity and on its
-- whole tables, and let nothing else write to its tables: the calls, the newest first, and the store that stands after them
pub data History (n : ℕ) : List Event → Store → Type 0 where
  begun : History n [] (empty n)
  refusing : {h : List Event} {s : Store} (c : Call) (lent : Areas) (o : Outcome) → History n h s → Promise c lent o
      → T (not (is_accepted o.reply)) → History n (event c o ∷ h) s
  accepting : {h : List Event} (c : Call) (lent : Areas) (o : Outcome) → History n h lent.store → Promise c lent o
      → T (is_accepted o.reply) → History n (event c o ∷ h) o.areas.store

-- ---- held: since the number was last given out, accepted freezes and acquires naming it outnumber accepted releases

-- of the calls, those of a command with f
unfoldable pub commands : (Command → Bool) → Call → Bool
commands f start = false
commands f (does c) = f c
commands f check = false

-- an accepted call of a command with f
unfoldable pub accepted_of : (Command → Bool) → Event → Bool
accepted_of f e = is_accepted e.came.reply & commands f e.call

-- the answer's value is p
unfoldable pub has_value : ℕ → Reply → Bool
has_value p (answered (Ok d)) = eqb d.value p
has_value p (answered (Err r)) = false
has_value p (saw s) = false
has_value p (checked c) = false

-- an accepted new gave out p
unfoldable pub gives_out : ℕ → Event → Bool
gives_out p e = commands is_new e.call & has_value p e.came.reply

abbrev pub is_start : Call → Bool
is_start start = true
is_start (does c) = false
is_start check = false

-- A start begins the history anew
unfoldable pub starts : Event → Bool
starts e = is_start e.call & is_accepted e.came.reply

-- the calls since p was last given out
unfoldable pub since : ℕ → List Event → List Event
since p [] = []
since p (e ∷ h) = pick (gives_out p e or starts e) [] (e ∷ since p h)

-- how many of the calls have f
unfoldable pub often : (Event → Bool) → List Event → ℕ
often f [] = 0
often f (e ∷ h) = only_if (f e) 1 + often f h

-- ---- by seat

-- an acquire of seat i naming p, or a freeze where the seat holds none: k is what it holds so far
unfoldable pub adds_by : ℕ → ℕ → ℕ → Command → Bool
adds_by i p k c = (is_acquire c or is_freeze c & eqb k 0) & (eqb (seat_of c) i & eqb (piece_of c) p)

-- a release of seat i naming p
unfoldable pub takes_by : ℕ → ℕ → Command → Bool
takes_by i p c = is_release c & (eqb (seat_of c) i & eqb (piece_of c) p)

-- the accepted releases of seat i since p was last given out
unfoldable pub taken_by : ℕ → ℕ → List Event → ℕ
taken_by i p h = often (accepted_of (takes_by i p)) (since p h)

-- its accepted freezes and acquires that added a hold: of the freezes those before which its own calls held none
unfoldable pub added_by : ℕ → ℕ → List Event → ℕ
added_by i p [] = 0
added_by i p (e ∷ h) = pick (gives_out p e or starts e) 0 (only_if (accepted_of (adds_by i p (added_by i p h - taken_by i p h)) e) 1 + added_by i p h)

abbrev pub HeldBy : List Event → ℕ → ℕ → Type 0
HeldBy h i p = taken_by i p h < added_by i p h

-- ---- over all seats

unfoldable pub added : ℕ → List Event → ℕ
added p h = sum (λ i. added_by i p h) seats

unfoldable pub taken : ℕ → List Event → ℕ
taken p h = sum (λ i. taken_by i p h) seats

abbrev pub Held : List Event → ℕ → Type 0
Held h p = taken p h < added p h

-- ---- what a call lists and frees

-- the number freed
unfoldable pub freed_in : Reply → ℕ
freed_in (answered (Ok d)) = d.freed
freed_in (answered (Err r)) = 0
freed_in (saw s) = 0
freed_in (checked c) = 0

-- the numbers freed by this call
unfoldable pub listed : Outcome → List ℕ
listed o = take (freed_in o.reply) o.areas.list

-- a chain of links reaches p from a draft or from a held piece
pub record Reached (h : List Event) (b : Base) (p : ℕ) : Type 0 where
  pub root : ℕ
  pub is : Draft b root ⊎ ((root < b.n) × Held h root)
  pub reached : Reaches b root p

-- states, links and holds changed as the call says
unfoldable pub changed : Store → Call → Base
changed s start = (empty_tables s.tables.base.n).base
changed s (does c) = edit s.tables.base (meant s c)
changed s check = s.tables.base

-- the call is an accepted bin of p
abbrev pub Binned : Call → ℕ → Type 0
Binned c p = c ≡ does (Bin p)

-- Each accepted call lists exactly those frozen pieces that no chain of links reaches any more from a draft or from a held piece, each once, lowest
-- number first, and besides a binned draft those alone are freed
pub record Listing (h : List Event) (c : Call) (lent : Areas) (o : Outcome) : Type 0 where
  pub exact : (p : ℕ) → Among p (listed o) ↔ (Frozen (changed lent.store c) p × (¬ Reached (event c o ∷ h) (changed lent.store c) p))
  pub ascending : Ascending (listed o)
  pub rest : o.areas.list ≡ listed o ++ drop (length (listed o)) lent.list
  pub alone : (c ≡ start → ⊥) → (p : ℕ) → (Live lent.store.tables.base p × (state o.areas.store.tables.base p ≡ 0)) ↔ (Among p (listed o) ⊎ Binned c p)
