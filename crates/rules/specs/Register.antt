-- The rulebook's register: 1,024 lines of three numbers, a seat, a piece and a number of holds; what it says, and what one hold more or less makes of it.
use Rattle.std.specs.Prelude.{◌≡◌, Bool, List, [], ◌∷◌, ◌++◌, ℕ, zero, suc, ◌+◌, ◌-◌, ◌*◌, ◌≤◌, ◌<◌, eqb, ltb, leb, length, take, drop, set}
use Rattle.rules.specs.Tests.{◌or◌, ◌&◌, pick, only_if}
use Rattle.rules.specs.Limits.{most_holds, seats, lines, entries}
use Rattle.rules.specs.Lists.{◌!◌}
use Rattle.rules.specs.Below.{every}

-- ---- line i

unfoldable pub seat_at : List ℕ → ℕ → ℕ
seat_at l i = l ! (3 * i)

unfoldable pub piece_at : List ℕ → ℕ → ℕ
piece_at l i = l ! (3 * i + 1)

-- 0 where the line is unused
unfoldable pub number_at : List ℕ → ℕ → ℕ
number_at l i = l ! (3 * i + 2)

-- seat and piece as one number: by seat, then by piece
abbrev pub order : ℕ → ℕ → ℕ
order s p = 65536 * s + p

abbrev pub order_at : List ℕ → ℕ → ℕ
order_at l i = order (seat_at l i) (piece_at l i)

-- ---- a right register

-- an unused line is all zeros and the next is unused
unfoldable pub unused_right : List ℕ → ℕ → Bool
unused_right l i = eqb (seat_at l i) 0 & eqb (piece_at l i) 0 & eqb (number_at l (i + 1)) 0

-- a used line has a seat of 0 to 31, a piece below n and a number of 1 to 1,000, and the next is unused or behind it
unfoldable pub used_right : ℕ → List ℕ → ℕ → Bool
used_right n l i =
    ltb (seat_at l i) seats & ltb (piece_at l i) n & leb (number_at l i) most_holds & (eqb (number_at l (i + 1)) 0 or ltb (order_at l i) (order_at l (i + 1)))

unfoldable pub line_right : ℕ → List ℕ → ℕ → Bool
line_right n l i = pick (eqb (number_at l i) 0) (unused_right l i) (used_right n l i)

-- the used lines come first and ascend strictly by seat, then piece; an unused line is all zeros
unfoldable pub is_right : ℕ → List ℕ → Bool
is_right n l = every (line_right n l) lines

-- the same in words; past its end every entry is 0
pub record Ordered (l : List ℕ) : Type 0 where
  pub size : length l ≡ entries
  pub first : (i : ℕ) → 0 < number_at l (i + 1) → 0 < number_at l i
  pub rising : (i : ℕ) → 0 < number_at l (i + 1) → order_at l i < order_at l (i + 1)
  pub zeros : (i : ℕ) → number_at l i ≡ 0 → (seat_at l i ≡ 0) × (piece_at l i ≡ 0)
  pub wide : (i : ℕ) → piece_at l i < 65536

pub record Right (n : ℕ) (l : List ℕ) : Type 0 where
  pub ordered : Ordered l
  pub seats : (i : ℕ) → 0 < number_at l i → seat_at l i < seats
  pub pieces : (i : ℕ) → 0 < number_at l i → piece_at l i < n
  pub numbers : (i : ℕ) → number_at l i ≤ most_holds

-- ---- what it says

-- the number of line i, where f picks its seat and piece
unfoldable pub adds : (ℕ → ℕ → Bool) → List ℕ → ℕ → ℕ
adds f l i = only_if (f (seat_at l i) (piece_at l i)) (number_at l i)

-- the numbers of the lines that f picks, added up: of the k lines from line i on, up to the first that is unused
unfoldable pub total_from : (ℕ → ℕ → Bool) → List ℕ → ℕ → ℕ → ℕ
total_from f l i zero = 0
total_from f l i (suc k) = pick (eqb (number_at l i) 0) 0 (adds f l i + total_from f l (suc i) k)

-- of all used lines
unfoldable pub total : (ℕ → ℕ → Bool) → List ℕ → ℕ
total f l = total_from f l 0 lines

-- this seat and this piece
abbrev pub pair : ℕ → ℕ → ℕ → ℕ → Bool
pair s p t q = eqb t s & eqb q p

-- the holds of seat s on piece p: the number in their line, 0 if there is none
abbrev pub held_by : List ℕ → ℕ → ℕ → ℕ
held_by l s p = total (pair s p) l

-- the holds of piece p: the sum over the lines that name it
abbrev pub held_in : List ℕ → ℕ → ℕ
held_in l p = total (λ t q. eqb q p) l

-- ---- one hold more, one less

-- line i is used and stands before the pair of this order
unfoldable pub is_before : List ℕ → ℕ → ℕ → Bool
is_before l o i = ltb 0 (number_at l i) & ltb (order_at l i) o

-- the first of the k lines from line i on that is not
unfoldable pub line_from : List ℕ → ℕ → ℕ → ℕ → ℕ
line_from l o i zero = i
line_from l o i (suc k) = pick (is_before l o i) (line_from l o (suc i) k) i

-- the line where seat s and piece p stand or would stand
unfoldable pub line_of : List ℕ → ℕ → ℕ → ℕ
line_of l s p = line_from l (order s p) 0 lines

-- line i is used, by seat s and piece p
unfoldable pub has_line : List ℕ → ℕ → ℕ → ℕ → Bool
has_line l i s p = ltb 0 (number_at l i) & (eqb (seat_at l i) s & eqb (piece_at l i) p)

-- all lines are used
unfoldable pub is_full : List ℕ → Bool
is_full l = ltb 0 (number_at l 1023)

-- line i has number k
unfoldable pub renumbered : List ℕ → ℕ → ℕ → List ℕ
renumbered l i k = set l (3 * i + 2) k

-- a line comes before line i, and the last one falls away
unfoldable pub inserted : List ℕ → ℕ → ℕ → ℕ → List ℕ
inserted l i s p = take (3 * i) l ++ (s ∷ p ∷ 1 ∷ take (3069 - 3 * i) (drop (3 * i) l))

-- line i goes, and an unused one comes last
unfoldable pub removed : List ℕ → ℕ → List ℕ
removed l i = take (3 * i) l ++ (drop (3 * i + 3) l ++ (0 ∷ 0 ∷ 0 ∷ []))

-- one hold more of seat s on piece p: its line counts one more, or a new line comes in its place
unfoldable pub one_more_by : List ℕ → ℕ → ℕ → List ℕ
one_more_by l s p = let i = line_of l s p in pick (has_line l i s p) (renumbered l i (number_at l i + 1)) (inserted l i s p)

-- one hold less: a line that falls to 0 is removed
unfoldable pub one_less_by : List ℕ → ℕ → ℕ → List ℕ
one_less_by l s p = let i = line_of l s p in pick (eqb (number_at l i) 1) (removed l i) (renumbered l i (number_at l i - 1))
