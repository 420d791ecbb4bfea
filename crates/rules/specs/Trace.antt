-- The rulebook's trace: what a line says, what each line answers, the last line, the output of a whole trace, and what a lent trace gives.
use Rattle.std.specs.Prelude.{Bool, List, [], ◌∷◌, ◌++◌, ℕ, zero, suc, ◌+◌, ◌*◌, ◌-◌, ◌/◌, ◌%◌, ◌^◌, eqb, ltb, leb, length, get_or, take, drop}
use Rattle.std.specs.Prelude.{replicate, Ok, Err, Some, None}
use Rattle.rules.specs.Tests.{◌&◌, pick, only_if}
use Rattle.rules.specs.Limits.{most, most_trace, none}
use Rattle.rules.specs.Below.{sum}
use Rattle.rules.specs.Tables.{Tables, Store, is_draft, is_frozen, empty}
use Rattle.rules.specs.Commands.{is_look, piece_of, Verdict, accepted, refused, verdict, freed_by, value_of, step_to}
use Rattle.rules.specs.Calls.{number_of, seen_at}
use Rattle.rules.specs.declared.Refusal.TheVariants.{Long, Room}
use Rattle.rules.specs.declared.Command.{Command}
use Rattle.rules.specs.declared.Command.TheVariants.{New, Set, Freeze, Acquire, Release, Bin, Look}
use Rattle.rules.specs.Replies.{Line, Seen}

-- ---- lines

-- what stands before the text's lines end, if it has a byte
abbrev pub last_line : List ℕ → List (List ℕ)
last_line [] = []
last_line (b ∷ bs) = (b ∷ bs) ∷ []

-- Text lines ending in byte 10; a last line without it counts if it has a byte. The first line starts with `begun`
unfoldable pub lines_from : List ℕ → List ℕ → List (List ℕ)
lines_from begun [] = last_line begun
lines_from begun (b ∷ bs) = pick (eqb b 10) (begun ∷ lines_from [] bs) (lines_from (begun ++ (b ∷ [])) bs)

unfoldable pub lines_of : List ℕ → List (List ℕ)
lines_of text = lines_from [] text

-- ---- what a line says: it is read from left to right, one word at a time

-- a word's number and what is left of the line, or nothing
pub data Word : Type 0 where
  is : ℕ → List ℕ → Word
  bad : Word

-- a decimal digit
abbrev pub is_digit : ℕ → Bool
is_digit b = leb 48 b & leb b 57

-- how many digits a text starts with
unfoldable pub digits : List ℕ → ℕ
digits [] = 0
digits (b ∷ bs) = pick (is_digit b) (suc (digits bs)) 0

-- the value of decimal digits, after v
unfoldable pub decimal_from : ℕ → List ℕ → ℕ
decimal_from v [] = v
decimal_from v (b ∷ bs) = decimal_from (v * 10 + (b - 48)) bs

-- a number of k digits: Numbers are 1 to 5 decimal digits, at most 65,535, leading zeros allowed
unfoldable pub number_of_digits : ℕ → List ℕ → Word
number_of_digits k text =
    pick (leb 1 k & leb k 5 & leb (decimal_from 0 (take k text)) 65535) (is (decimal_from 0 (take k text)) (drop k text)) bad

unfoldable pub number : List ℕ → Word
number text = number_of_digits (digits text) text

-- exactly one space, then a number
unfoldable pub word : List ℕ → Word
word [] = bad
word (b ∷ bs) = pick (eqb b 32) (number bs) bad

-- T may be `-` for none
unfoldable pub target : List ℕ → Word
target [] = bad
target (b ∷ bs) = pick (eqb b 45) (is none bs) (number (b ∷ bs))

-- exactly one space, then a target
unfoldable pub target_word : List ℕ → Word
target_word [] = bad
target_word (b ∷ bs) = pick (eqb b 32) (target bs) bad

-- nothing is left of the line
abbrev pub ends : Command → List ℕ → Line
ends c [] = Some c
ends c (b ∷ bs) = None

-- `b P`, `l P`
abbrev pub naming : (ℕ → Command) → Word → Line
naming c bad = None
naming c (is p rest) = ends (c p) rest

-- `f P S`, `a P S`, `r P S`
abbrev pub seated_by : (ℕ → ℕ → Command) → ℕ → Word → Line
seated_by c p bad = None
seated_by c p (is i rest) = ends (c p i) rest

-- `f P`, `a P`, `r P`: without S seat 0 acts
abbrev pub seated_or : (ℕ → ℕ → Command) → ℕ → List ℕ → Line
seated_or c p [] = Some (c p 0)
seated_or c p (b ∷ bs) = seated_by c p (word (b ∷ bs))

abbrev pub seated : (ℕ → ℕ → Command) → Word → Line
seated c bad = None
seated c (is p rest) = seated_or c p rest

-- `s P K T`
abbrev pub set_to : ℕ → ℕ → Word → Line
set_to p k bad = None
set_to p k (is t rest) = ends (Set p k t) rest

abbrev pub set_place : ℕ → Word → Line
set_place p bad = None
set_place p (is k rest) = set_to p k (target_word rest)

abbrev pub set_piece : Word → Line
set_piece bad = None
set_piece (is p rest) = set_place p (word rest)

-- The first byte of the line chooses the command: n s f a r b l
unfoldable pub chosen : ℕ → List ℕ → Line
chosen b rest =
    pick (eqb b 110) (ends New rest)
    (pick (eqb b 115) (set_piece (word rest))
    (pick (eqb b 102) (seated Freeze (word rest))
    (pick (eqb b 97) (seated Acquire (word rest))
    (pick (eqb b 114) (seated Release (word rest))
    (pick (eqb b 98) (naming Bin (word rest))
    (pick (eqb b 108) (naming Look (word rest)) None))))))

-- A line that breaks this, is empty, or has over 64 bytes before its end is bad
unfoldable pub says : List ℕ → Line
says [] = None
says (b ∷ bs) = pick (leb (length (b ∷ bs)) 64) (chosen b bs) None

-- ---- what each line answers

-- v in at most k decimal digits, without leading zeros
unfoldable pub decimal_in : ℕ → ℕ → List ℕ
decimal_in zero v = []
decimal_in (suc k) v = pick (ltb v 10) ((48 + v) ∷ []) (decimal_in k (v / 10) ++ ((48 + v % 10) ∷ []))

-- a number in decimal, without leading zeros: ten digits are enough for every u32
unfoldable pub decimal : ℕ → List ℕ
decimal v = decimal_in 10 v

-- value or `-`
unfoldable pub value_or : ℕ → List ℕ
value_or v = pick (eqb v none) (45 ∷ []) (decimal v)

-- each after a single space
unfoldable pub spaced : List ℕ → List ℕ
spaced [] = []
spaced (v ∷ vs) = 32 ∷ (decimal v ++ spaced vs)

-- refusal number, value or `-`, number freed, then the freed numbers, single spaces between
unfoldable pub answer_line : ℕ → ℕ → List ℕ → List ℕ
answer_line refusal value freed =
    decimal refusal ++ (32 ∷ (value_or value ++ (32 ∷ (decimal (length freed) ++ (spaced freed ++ (10 ∷ []))))))

-- An accepted look gives `0`, state, leader or `-`, count, holds; a refused one is answered as any refused command
abbrev pub look_line : Seen → List ℕ
look_line (Ok p) =
    decimal 0 ++ (32 ∷ (decimal p.state ++ (32 ∷ (value_or p.leader ++ (32 ∷ (decimal p.count ++ (32 ∷ (decimal p.holds ++ (10 ∷ [])))))))))
look_line (Err r) = answer_line (number_of r) none []

-- `x` for a bad one
abbrev pub bad_line : List ℕ
bad_line = 120 ∷ 10 ∷ []

unfoldable pub accepted_line : Tables → Command → List ℕ
accepted_line t c = pick (is_look c) (look_line (seen_at t (piece_of c))) (answer_line 0 (value_of t.base c) (freed_by t.base c))

unfoldable pub line_by : Tables → Command → Verdict → List ℕ
line_by t c accepted = accepted_line t c
line_by t c (refused r) = answer_line (number_of r) none []

-- Each line gives one line ended by byte 10
unfoldable pub answer_to : Store → Line → List ℕ
answer_to s (Some c) = line_by s.tables c (verdict s c)
answer_to s None = bad_line

-- a bad line changes nothing
unfoldable pub store_after : Store → Line → Store
store_after s (Some c) = step_to s c
store_after s None = s

-- ---- the whole trace

-- how many pieces below n have f
unfoldable pub how_many : (ℕ → Bool) → ℕ → ℕ
how_many f n = sum (λ p. only_if (f p) 1) n

-- p leads a group
unfoldable pub leads : Tables → ℕ → Bool
leads t p = is_frozen t.base p & eqb (get_or t.leaders p 0) p

-- At the end: `=`, drafts, frozen pieces, groups
unfoldable pub end_line : Tables → List ℕ
end_line t =
    61 ∷ (spaced (how_many (is_draft t.base) t.base.n ∷ how_many (is_frozen t.base) t.base.n ∷ how_many (leads t) t.base.n ∷ []) ++ (10 ∷ []))

-- the output of lines from store s on
unfoldable pub output_of : Store → List (List ℕ) → List ℕ
output_of s [] = end_line s.tables
output_of s (l ∷ ls) = answer_to s (says l) ++ output_of (store_after s (says l)) ls

-- the output of a trace on a store that starts empty at capacity n
unfoldable pub trace_at : ℕ → List ℕ → List ℕ
trace_at n text = output_of (empty n) (lines_of text)

-- The store starts empty at capacity 1,024
unfoldable pub trace : List ℕ → List ℕ
trace text = trace_at most text

-- ---- a lent trace

pub record Given : Type 0 where
  pub result : ℕ
  pub room : List ℕ

-- the output in the room, then zeros; ROOM gives 2^63 + 11 and the room is all zeros
unfoldable pub in_room : List ℕ → List ℕ → Given
in_room out room =
    pick (leb (length out) (length room)) (record { result = length out; room = out ++ replicate (length room - length out) 0 })
    (record { result = 2 ^ 63 + number_of Room; room = replicate (length room) 0 })

-- LONG gives 2^63 + 10 and leaves the room unchanged. LONG is checked first
unfoldable pub lent_trace : List ℕ → List ℕ → Given
lent_trace text room =
    pick (leb (length text) most_trace) (in_room (trace text) room) (record { result = 2 ^ 63 + number_of Long; room = room })
