-- The rulebook's small sets, as one table under one theorem.
use Rattle.std.specs.Prelude.{◌≡◌, refl, Bool, true, false, List, [], ◌∷◌, ℕ, suc, eqb, replicate, Ok, Err}
use Rattle.rules.specs.Tests.{◌&◌, pick}
use Rattle.rules.specs.Limits.{none}
use Rattle.rules.specs.Tables.{Store, store_of, is_sound, empty}
use Rattle.rules.specs.Commands.{Verdict, accepted, refused, verdict, freed_by, value_of, step_to}
use Rattle.rules.specs.Calls.{number_of, seen_at}
use Rattle.rules.specs.Computing.{computing}
use Rattle.rules.specs.declared.Refusal.{Refusal}
use Rattle.rules.specs.declared.Refusal.TheVariants.{Seat, Number, Place, Target, Free, FreeTarget, State, Limit, NotHeld, NotYours, Linked, Full}
use Rattle.rules.specs.declared.Command.{Command}
use Rattle.rules.specs.declared.Command.TheVariants.{New, Set, Freeze, Acquire, Release, Bin}
use Rattle.rules.specs.Replies.{Seen}

-- a line of a set: a command and what it answers, a look and what it sees, the links into each draft
pub data Entry : Type 0 where
  does : Command → ℕ → ℕ → List ℕ → Entry
  sees : ℕ → ℕ → ℕ → ℕ → ℕ → Entry
  named : List ℕ → Entry

unfoldable pub same_list : List ℕ → List ℕ → Bool
same_list [] [] = true
same_list [] (y ∷ ys) = false
same_list (x ∷ xs) [] = false
same_list (x ∷ xs) (y ∷ ys) = eqb x y & same_list xs ys

-- on sound tables, the verdict has this number, and if it is 0 the command gives this value and frees these
unfoldable pub answers : Store → Command → Verdict → ℕ → ℕ → List ℕ → Bool
answers s c accepted r v f = eqb 0 r & eqb (value_of s.tables.base c) v & same_list (freed_by s.tables.base c) f & is_sound s.tables
answers s c (refused q) r v f = eqb (number_of q) r & is_sound s.tables

unfoldable pub shows : Seen → ℕ → ℕ → ℕ → ℕ → Bool
shows (Ok p) y m d i = eqb p.state y & eqb p.leader m & eqb p.count d & eqb p.holds i
shows (Err r) y m d i = false

unfoldable pub right : Store → List Entry → Bool
right s [] = is_sound s.tables
right s (does c r v f ∷ es) = let rest = right (step_to s c) es in answers s c (verdict s c) r v f & rest
right s (named l ∷ es) = let rest = right s es in same_list s.into l & rest
right s (sees p x l c h ∷ es) = let rest = right s es in shows (seen_at s.tables p) x l c h & rest

pub record Row : Type 0 where
  pub store : Store
  pub entries : List Entry

-- lines on an empty store of capacity n
abbrev row : ℕ → List Entry → Row
row n es = record { store = empty n; entries = es }

-- lines on a store of capacity 1 whose piece is frozen and has k holds, all of seat 0
abbrev held : ℕ → List Entry → Row
held k es = record {
  store = store_of 1 (2 ∷ []) (none ∷ none ∷ none ∷ none ∷ []) (0 ∷ []) (k ∷ []) (k ∷ []) (0 ∷ 0 ∷ k ∷ replicate 3069 0) (0 ∷ []);
  entries = es;
}

-- the numbers of the sets that are not right
unfoldable pub wrong_from : ℕ → List Row → List ℕ
wrong_from i [] = []
wrong_from i (r ∷ rs) = let rest = wrong_from (suc i) rs in pick (right r.store r.entries) rest (i ∷ rest)

-- accepted, with no value and nothing freed
abbrev ok : Command → Entry
ok c = does c 0 none []

-- new gives number p
abbrev gives : ℕ → Entry
gives p = does New 0 p []

-- accepted, and frees these
abbrev frees : Command → List ℕ → Entry
frees c l = does c 0 none l

-- refused
abbrev no : Command → Refusal → Entry
no c r = does c (number_of r) none []

unfoldable pub sets : List Row
sets =
    -- 1. No links, freeze 0: leader 0, count 1.
    row 4 (gives 0 ∷ ok (Freeze 0 0) ∷ sees 0 2 0 1 1 ∷ [])
    -- 2. 0 links to itself, freeze 0: count 1.
    ∷ row 4 (gives 0 ∷ ok (Set 0 0 0) ∷ ok (Freeze 0 0) ∷ sees 0 2 0 1 1 ∷ [])
    -- 3. 0 names 1 in two places, freeze 0: group of 1 has count 2.
    ∷ row 4 (gives 0 ∷ gives 1 ∷ ok (Set 0 0 1) ∷ ok (Set 0 1 1) ∷ ok (Freeze 0 0) ∷ sees 1 2 1 2 0 ∷ [])
    -- 4. 0 and 1 name each other, freeze 1: leader 0, count 1; hold on 1.
    ∷ row 4 (gives 0 ∷ gives 1 ∷ ok (Set 0 0 1) ∷ ok (Set 1 0 0) ∷ ok (Freeze 1 0) ∷ sees 1 2 0 1 1 ∷ sees 0 2 0 1 0 ∷ [])
    -- 5. Draft 2 names 0, freeze 0: count 2. Release 0 frees none. Bin 2 frees piece 0.
    ∷ row 4 (gives 0 ∷ gives 1 ∷ gives 2 ∷ ok (Set 2 0 0) ∷ ok (Freeze 0 0) ∷ sees 0 2 0 2 1 ∷ ok (Release 0 0) ∷ frees (Bin 2) (0 ∷ []) ∷ [])
    -- 6. Freeze 1, draft 0 names 1 (count 2), freeze 0: count of 1 is still 2.
    ∷ row 4 (gives 0 ∷ gives 1 ∷ ok (Freeze 1 0) ∷ ok (Set 0 0 1) ∷ sees 1 2 1 2 1 ∷ ok (Freeze 0 0) ∷ sees 1 2 1 2 1 ∷ [])
    -- 7. Frozen 1 kept only by draft 0; the same link set again: none freed.
    ∷ row 4 (gives 0 ∷ gives 1 ∷ ok (Set 0 0 1) ∷ ok (Freeze 1 0) ∷ ok (Release 1 0) ∷ ok (Set 0 0 1) ∷ sees 1 2 1 1 0 ∷ [])
    -- 8. 1 and 2 frozen in one group, kept only by draft 0's link to 1; that link set to 2: none freed.
    ∷ row 4 (gives 0 ∷ gives 1 ∷ gives 2 ∷ ok (Set 1 0 2) ∷ ok (Set 2 0 1) ∷ ok (Set 0 0 1) ∷ ok (Freeze 1 0) ∷ ok (Release 1 0) ∷ ok (Set 0 0 2) ∷ sees 1 2 1 1 0 ∷ [])
    -- 9. 0 to 1 to 2, freeze 0, release 0: frees 0 1 2.
    ∷ row 4 (gives 0 ∷ gives 1 ∷ gives 2 ∷ ok (Set 0 0 1) ∷ ok (Set 1 0 2) ∷ ok (Freeze 0 0) ∷ frees (Release 0 0) (0 ∷ 1 ∷ 2 ∷ []) ∷ [])
    -- 10. 0 to 1 and 2, both to 3, freeze 0: count of 3 is 2; release 0 frees 0 1 2 3.
    ∷ row 4 (gives 0 ∷ gives 1 ∷ gives 2 ∷ gives 3 ∷ ok (Set 0 0 1) ∷ ok (Set 0 1 2) ∷ ok (Set 1 0 3) ∷ ok (Set 2 0 3) ∷ ok (Freeze 0 0) ∷ sees 3 2 3 2 0 ∷ frees
    (Release 0 0) (0 ∷ 1 ∷ 2 ∷ 3 ∷ []) ∷ [])
    -- 11. 999 holds, acquire: accepted. 1,000 holds: acquire gives 6, and so does freeze by a seat without a hold; seat 0's own second freeze is accepted.
    ∷ held 999 (sees 0 2 0 999 999 ∷ ok (Acquire 0 0) ∷ sees 0 2 0 1000 1000 ∷ no (Acquire 0 0) Limit ∷ no (Freeze 0 1) Limit ∷ ok (Freeze 0 0)
    ∷ sees 0 2 0 1000 1000 ∷ [])
    -- 12. Bin of a draft linked by itself: accepted; by another draft: 8.
    ∷ row 4 (gives 0 ∷ ok (Set 0 0 0) ∷ ok (Bin 0) ∷ gives 0 ∷ gives 1 ∷ ok (Set 0 0 1) ∷ no (Bin 1) Linked ∷ [])
    -- 13. N = 1, second new: 9.
    ∷ row 1 (gives 0 ∷ no New Full ∷ [])
    -- 14. N = 4: number 3 may be named, 4 gives 3; link place 3 is right, 4 gives 15; target 3 is right, 4 gives 16.
    ∷ row 4 (gives 0 ∷ gives 1 ∷ gives 2 ∷ gives 3 ∷ ok (Freeze 3 0) ∷ no (Freeze 4 0) Number ∷ ok (Set 0 3 3) ∷ no (Set 0 4 3) Place ∷ no (Set 0 3 4) Target ∷ [])
    -- By seat: 3 and 5 hold piece 0; each releases its own, another's release gives 13, and the last hold's frees it.
    ∷ row 4 (gives 0 ∷ ok (Freeze 0 3) ∷ no (Release 0 5) NotYours ∷ ok (Acquire 0 5) ∷ sees 0 2 0 2 2 ∷ ok (Release 0 3) ∷ no (Release 0 3) NotYours
    ∷ frees (Release 0 5) (0 ∷ []) ∷ [])
    -- Seat 31 is right, 32 gives 12, before a wrong number's 3; a piece without holds gives 7, whoever asks.
    ∷ row 4 (gives 0 ∷ gives 1 ∷ ok (Set 0 0 1) ∷ ok (Freeze 0 31) ∷ no (Freeze 0 32) Seat ∷ no (Acquire 9 32) Seat ∷ no (Acquire 9 31) Number ∷ no (Release 1 31) NotHeld ∷ [])
    -- Of several wrong numbers the first in the table is told: piece, place, target, free piece, free target, then the state.
    ∷ row 4 (gives 0 ∷ gives 1 ∷ ok (Freeze 1 0) ∷ no (Set 4 4 4) Number ∷ no (Set 2 4 4) Place ∷ no (Set 2 0 4) Target ∷ no (Set 2 0 3) Free ∷ no (Set 1 0 3) FreeTarget
    ∷ no (Set 1 0 none) State ∷ no (Set 0 0 3) FreeTarget ∷ ok (Set 0 0 none) ∷ [])
    -- Handing in twice: seat 3's second freeze changes nothing, seat 5's adds its own; one release each lets the piece go.
    ∷ row 4 (gives 0 ∷ ok (Freeze 0 3) ∷ ok (Freeze 0 3) ∷ sees 0 2 0 1 1 ∷ ok (Freeze 0 5) ∷ sees 0 2 0 2 2 ∷ ok (Release 0 3) ∷ frees (Release 0 5) (0 ∷ []) ∷ [])
    -- Links into a draft: 0 names 1 twice, 1 names itself and 0, 2 names 1; set to none a link counts no more, and a frozen piece has none.
    ∷ row 4 (gives 0 ∷ gives 1 ∷ gives 2 ∷ ok (Set 0 0 1) ∷ ok (Set 0 1 1) ∷ ok (Set 1 0 1) ∷ ok (Set 1 1 0)
    ∷ ok (Set 2 0 1) ∷ named (1 ∷ 3 ∷ 0 ∷ 0 ∷ []) ∷ no (Bin 1) Linked
    ∷ ok (Set 0 1 none) ∷ ok (Bin 2) ∷ named (1 ∷ 1 ∷ 0 ∷ 0 ∷ []) ∷ gives 2 ∷ ok (Set 2 3 2)
    ∷ ok (Freeze 0 0) ∷ named (0 ∷ 0 ∷ 0 ∷ 0 ∷ []) ∷ sees 0 2 0 1 1 ∷ ok (Bin 2) ∷ [])
    ∷ []

-- all that the sets compute with besides the rules
unfoldable pub trying : Unit {0}
unfolding computing same_list answers shows right wrong_from sets
trying = tt

-- every set is as the rulebook says
pub sets-right : wrong_from 1 sets ≡ []
unfolding trying
sets-right = refl
