-- The rulebook's calls and refusals: the seven commands, on tables of their lengths.
use Rattle.std.specs.Prelude.{Bool, not, List, [], ◌∷◌, ◌++◌, ℕ, ◌+◌, ◌*◌, ◌-◌, ◌/◌, eqb, ltb, leb, get_or, set}
use Rattle.rules.specs.Tests.{◌or◌, ◌&◌, pick}
use Rattle.rules.specs.Limits.{most_holds, none, seats}
use Rattle.rules.specs.Below.{every, any, table, lowest, list}
use Rattle.rules.specs.Register.{held_by, is_full, one_more_by, one_less_by}
use Rattle.rules.specs.Tables.{Base, Tables, Store, base_of, store_by, state, is_free, is_draft, is_frozen, link_at, holds_of, reaches, is_kept, finish}
use Rattle.rules.specs.declared.Refusal.{Refusal}
use Rattle.rules.specs.declared.Refusal.TheVariants.{Seat, Number, Place, Target, Free, FreeTarget, State, Limit, Register, NotHeld, NotYours, Linked, Full}
use Rattle.rules.specs.declared.Command.{Command}
use Rattle.rules.specs.declared.Command.TheVariants.{New, Set, Freeze, Acquire, Release, Bin, Look}

pub data Verdict : Type 0 where
  accepted : Verdict
  refused : Refusal → Verdict

-- the first that applies is given, and none is given otherwise
unfoldable pub first_of : List (Bool × Refusal) → Verdict
first_of [] = accepted
first_of (r ∷ rs) = pick r.0 (refused r.1) (first_of rs)

-- ---- what a command is, and the piece that it names

-- the place of a command in the rulebook's order
abbrev pub place_of : Command → ℕ
place_of New = 0
place_of (Set p k t) = 1
place_of (Freeze p i) = 2
place_of (Acquire p i) = 3
place_of (Release p i) = 4
place_of (Bin p) = 5
place_of (Look p) = 6

-- P, and none for new
abbrev pub piece_of : Command → ℕ
piece_of New = none
piece_of (Set p k t) = p
piece_of (Freeze p i) = p
piece_of (Acquire p i) = p
piece_of (Release p i) = p
piece_of (Bin p) = p
piece_of (Look p) = p

abbrev pub is_new : Command → Bool
is_new c = eqb (place_of c) 0

abbrev pub is_set : Command → Bool
is_set c = eqb (place_of c) 1

abbrev pub is_freeze : Command → Bool
is_freeze c = eqb (place_of c) 2

abbrev pub is_acquire : Command → Bool
is_acquire c = eqb (place_of c) 3

abbrev pub is_release : Command → Bool
is_release c = eqb (place_of c) 4

abbrev pub is_bin : Command → Bool
is_bin c = eqb (place_of c) 5

abbrev pub is_look : Command → Bool
is_look c = eqb (place_of c) 6

-- S, and 0 for a command that names none
abbrev pub seat_of : Command → ℕ
seat_of New = 0
seat_of (Set p k t) = 0
seat_of (Freeze p i) = i
seat_of (Acquire p i) = i
seat_of (Release p i) = i
seat_of (Bin p) = 0
seat_of (Look p) = 0

-- freeze, acquire and release name a seat
abbrev pub names_seat : Command → Bool
names_seat c = is_freeze c or is_acquire c or is_release c

-- ---- what is refused by what the tables hold

module _ (b : Base) where
  -- 3 NUMBER: P is N or more
  abbrev pub no_piece : ℕ → Bool
  no_piece p = not (ltb p b.n)

  -- 15 PLACE: K is above 3
  abbrev pub no_place : ℕ → Bool
  no_place k = not (ltb k 4)

  -- 16 TARGET: T is neither none nor below N
  abbrev pub no_target : ℕ → Bool
  no_target t = not (eqb t none or ltb t b.n)

  -- 17 FREETARGET: T is a free number, as P is for 4 FREE
  abbrev pub free_target : ℕ → Bool
  free_target t = not (eqb t none) & is_free b t

  -- 6 LIMIT: acquire or freeze of a frozen piece with 1,000 holds
  unfoldable pub at_limit : ℕ → Bool
  at_limit p = is_frozen b p & leb most_holds (holds_of b p)

  -- 7 NOTHELD: release of a piece with 0 holds
  unfoldable pub not_held : ℕ → Bool
  not_held p = eqb (holds_of b p) 0

  -- 8 LINKED: bin of a draft that another piece links to
  unfoldable pub is_linked : ℕ → Bool
  is_linked p = any (λ r. not (eqb r p) & any (λ k. eqb (link_at b r k) p) 4) b.n

  -- 9 FULL: new with no free number
  unfoldable pub none_free : Bool
  none_free = every (λ p. not (is_free b p)) b.n

  -- the refusals of each command on sound tables, checked in this order; 4 FREE: P is a free number; 5 STATE: set or bin of a frozen piece, acquire or release of a draft
  unfoldable pub table_refusals : Command → List (Bool × Refusal)
  table_refusals New = (none_free, Full) ∷ []
  table_refusals (Set p k t) =
      (no_piece p, Number) ∷ (no_place k, Place) ∷ (no_target t, Target) ∷ (is_free b p, Free) ∷ (free_target t, FreeTarget) ∷ (is_frozen b p, State) ∷ []
  table_refusals (Freeze p i) = (no_piece p, Number) ∷ (is_free b p, Free) ∷ (at_limit p, Limit) ∷ []
  table_refusals (Acquire p i) = (no_piece p, Number) ∷ (is_free b p, Free) ∷ (is_draft b p, State) ∷ (at_limit p, Limit) ∷ []
  table_refusals (Release p i) = (no_piece p, Number) ∷ (is_free b p, Free) ∷ (is_draft b p, State) ∷ (not_held p, NotHeld) ∷ []
  table_refusals (Bin p) = (no_piece p, Number) ∷ (is_free b p, Free) ∷ (is_frozen b p, State) ∷ (is_linked p, Linked) ∷ []
  table_refusals (Look p) = (no_piece p, Number) ∷ (is_free b p, Free) ∷ []

-- ---- what is refused by the seat and by the register

-- 12 SEAT: the seat is above 31
abbrev pub no_seat : ℕ → Bool
no_seat i = not (ltb i seats)

module _ (register : List ℕ) where
  -- 14 REGISTER: a hold of seat i on piece p would need a line, and none is free
  unfoldable pub no_line : ℕ → ℕ → Bool
  no_line i p = eqb (held_by register i p) 0 & is_full register

  -- 13 NOTYOURS: the piece has holds (else 7 NOTHELD is given), but none of this seat's
  unfoldable pub not_yours : ℕ → ℕ → Bool
  not_yours i p = eqb (held_by register i p) 0

-- before the tables' refusals
unfoldable pub seat_refusals : Command → List (Bool × Refusal)
seat_refusals New = []
seat_refusals (Set p k t) = []
seat_refusals (Freeze p i) = (no_seat i, Seat) ∷ []
seat_refusals (Acquire p i) = (no_seat i, Seat) ∷ []
seat_refusals (Release p i) = (no_seat i, Seat) ∷ []
seat_refusals (Bin p) = []
seat_refusals (Look p) = []

-- and after them
unfoldable pub register_refusals : List ℕ → Command → List (Bool × Refusal)
register_refusals l New = []
register_refusals l (Set p k t) = []
register_refusals l (Freeze p i) = (no_line l i p, Register) ∷ []
register_refusals l (Acquire p i) = (no_line l i p, Register) ∷ []
register_refusals l (Release p i) = (not_yours l i p, NotYours) ∷ []
register_refusals l (Bin p) = []
register_refusals l (Look p) = []

-- a second hand-in: freeze of a frozen piece by a seat that holds it already
unfoldable pub is_again : Store → Command → Bool
is_again s c = is_freeze c & (is_frozen s.tables.base (piece_of c) & ltb 0 (held_by s.register (seat_of c) (piece_of c)))

-- what a command comes to: a second hand-in is accepted and changes nothing, as a look at the piece does; any other command is itself
unfoldable pub meant : Store → Command → Command
meant s c = pick (is_again s c) (Look (piece_of c)) c

-- the refusals of each command on a sound store, checked in this order; 6 LIMIT and 14 REGISTER apply only where a hold is added
unfoldable pub refusals : Store → Command → List (Bool × Refusal)
refusals s c = seat_refusals c ++ (table_refusals s.tables.base (meant s c) ++ register_refusals s.register (meant s c))

module _ (b : Base) where
  -- ---- what changes

  unfoldable pub with_states : List ℕ → Base
  with_states l = base_of b.n l b.links b.holds

  unfoldable pub with_links : List ℕ → Base
  with_links l = base_of b.n b.states l b.holds

  unfoldable pub with_holds : List ℕ → Base
  with_holds l = base_of b.n b.states b.links l

  -- one hold more on p
  unfoldable pub one_more : ℕ → Base
  one_more p = with_holds (set b.holds p (holds_of b p + 1))

  -- one hold less on p
  unfoldable pub one_less : ℕ → Base
  one_less p = with_holds (set b.holds p (holds_of b p - 1))

  -- the pieces of which f is true become free
  unfoldable pub free_all : (ℕ → Bool) → Base
  free_all f =
      base_of b.n (table (λ p. pick (f p) 0 (state b p)) b.n) (table (λ j. pick (f (j / 4)) none (get_or b.links j 0)) (4 * b.n))
      (table (λ p. pick (f p) 0 (holds_of b p)) b.n)

  -- every frozen piece no longer kept
  unfoldable pub gone : ℕ → Bool
  gone p = is_frozen b p & not (is_kept b p)

  -- their numbers, ascending
  unfoldable pub gone_list : List ℕ
  gone_list = list gone b.n

  -- the lowest free number
  unfoldable pub first_free : ℕ
  first_free = lowest (is_free b) b.n

  -- P and every draft it reaches become frozen; P gets one hold
  unfoldable pub freeze_first : ℕ → Base
  freeze_first p = base_of b.n (table (λ q. pick (is_draft b q & reaches b p q) 2 (state b q)) b.n) b.links (set b.holds p 1)

  -- what an accepted command does to states, links and holds, before what is no longer kept is freed:
  -- new: the lowest free number becomes a draft with four empty links (a free piece's links are empty)
  -- set P, place K, target T: draft P's link K becomes T
  -- freeze P: P and every draft it reaches become frozen, P gets one hold; if P is frozen already it only gets one more hold
  -- acquire P, release P: one hold more or less on frozen P
  -- bin P: draft P becomes free
  unfoldable pub edit : Command → Base
  edit New = with_states (set b.states first_free 1)
  edit (Set p k t) = with_links (set b.links (4 * p + k) t)
  edit (Freeze p i) = pick (is_frozen b p) (one_more p) (freeze_first p)
  edit (Acquire p i) = one_more p
  edit (Release p i) = one_less p
  edit (Bin p) = free_all (eqb p)
  edit (Look p) = b

-- after set, release and bin, every frozen piece no longer kept becomes free
unfoldable pub settles : Command → Bool
settles c = is_set c or is_release c or is_bin c

-- the pieces that an accepted command frees, ascending; a binned draft is neither listed nor counted
unfoldable pub freed_by : Base → Command → List ℕ
freed_by b c = pick (settles c) (gone_list (edit b c)) []

-- states, links and holds after an accepted command
unfoldable pub after : Base → Command → Base
after b c = let e = edit b c in pick (settles c) (free_all e (gone e)) e

-- the value of an accepted command: none for all but new
unfoldable pub value_of : Base → Command → ℕ
value_of b c = pick (is_new c) (first_free b) none

-- the verdict on a sound store
unfoldable pub verdict : Store → Command → Verdict
verdict s c = first_of (refusals s c)

-- the tables after an accepted command
unfoldable pub next_tables : Tables → Command → Tables
next_tables t c = finish (after t.base c)

-- the register after an accepted command: freeze and acquire note one hold more of the seat, release one less
unfoldable pub noted : List ℕ → Command → List ℕ
noted l New = l
noted l (Set p k t) = l
noted l (Freeze p i) = one_more_by l i p
noted l (Acquire p i) = one_more_by l i p
noted l (Release p i) = one_less_by l i p
noted l (Bin p) = l
noted l (Look p) = l

-- the store after an accepted command
unfoldable pub next_store : Store → Command → Store
next_store s c = store_by (next_tables s.tables (meant s c)) (noted s.register (meant s c))

-- the store after a command: a refused one leaves it unchanged
unfoldable pub settled : Verdict → Store → Command → Store
settled accepted s c = next_store s c
settled (refused r) s c = s

unfoldable pub step_to : Store → Command → Store
step_to s c = settled (verdict s c) s c
