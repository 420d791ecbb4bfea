-- What the functions of the search require and ensure, over the lists of the tables.
use Rattle.std.specs.Prelude.{◌≡◌, List, ℕ, pred, ◌+◌, ◌*◌, ◌≤◌, ◌<◌, length, set}
use Rattle.rules.specs.Limits.{none}
use Rattle.rules.specs.Lists.{◌!◌}
use Rattle.paths.specs.Ground.{ground, OneWay, Reached}
use Rattle.paths.specs.Search.{finished_mark, Regions, Invariant, Calm, Visited, measure}
use Rattle.paths.specs.Moves.Pop.{LowestOnStack}
use Rattle.groups.specs.Layout.{part, tail, regions, moved}
use Rattle.groups.specs.declared.At.{At}

-- the tables and the work are lent in their lengths
pub record Lent (n : ℕ) (states links work : List ℕ) : Type 0 where
  pub most : n ≤ 1024
  pub states_n : length states ≡ n
  pub links_n : length links ≡ 4 * n
  pub work_n : 6 * n ≤ length work

-- the regions of the work, with the next place of the search's piece as it is carried
abbrev pub view : ℕ → List ℕ → At → Regions
view n w a = moved (regions n w) a.piece a.place

-- the search stands at a
pub record Positioned (n : ℕ) (states links : List ℕ) (class : ℕ) (old : Regions) (root : ℕ) (w : List ℕ) (a : At) : Type 0 where
  pub inv : Invariant (ground n states links class) old root (view n w a) a.size a.blocks a.stand
  pub piece_lt : a.piece < n
  pub piece_is : 0 < a.size → part n (3 * n) w ! a.stand ≡ a.piece
  pub stored : a.size ≡ 0 → part n n w ! a.piece ≡ a.place

-- a search is under way
pub record UnderWay (n : ℕ) (states links : List ℕ) (class : ℕ) (w : List ℕ) (a : At) : Type 0 where
  pub lent : Lent n states links w
  pub live : 0 < a.size
  pub old : Regions
  pub root : ℕ
  pub stands : Positioned n states links class old root w a

-- every place of the search's piece is explored; what leaves the class does not come back to it
pub record Exhausted (n : ℕ) (states links : List ℕ) (class : ℕ) (w : List ℕ) (a : At) : Type 0 where
  pub going : UnderWay n states links class w a
  pub closed : OneWay (ground n states links class)
  pub four : a.place ≡ 4

-- a step keeps the invariant, and leaves less to do
pub record Progressed (n : ℕ) (states links : List ℕ) (class : ℕ) (w : List ℕ) (a : At) (w' : List ℕ) (a' : At) : Type 0 where
  pub stands : (old : Regions) (root : ℕ) → Positioned n states links class old root w a → Positioned n states links class old root w' a'
  pub less : measure n (view n w' a') a'.size a'.stand < measure n (view n w a) a.size a.stand
  pub tail_same : tail n w' ≡ tail n w

-- one place is explored: the search stands at the same piece, or at the first place of one that is pushed
pub record Followed (n : ℕ) (states links : List ℕ) (class : ℕ) (w : List ℕ) (a : At) (w' : List ℕ) (a' : At) : Type 0 where
  pub progressed : Progressed n states links class w a w' a'
  pub live : 0 < a'.size
  pub same : (a'.place ≡ 0 → ⊥) → a'.piece ≡ a.piece

-- some places are explored, or none
pub record Came (n : ℕ) (states links : List ℕ) (class : ℕ) (w : List ℕ) (a : At) (w' : List ℕ) (a' : At) : Type 0 where
  pub len : length w' ≡ length w
  pub stands : (old : Regions) (root : ℕ) → Positioned n states links class old root w a → Positioned n states links class old root w' a'
  pub most : measure n (view n w' a') a'.size a'.stand ≤ measure n (view n w a) a.size a.stand
  pub tail_same : tail n w' ≡ tail n w

-- every place of the piece at which the search then stands is explored
pub record Advanced (n : ℕ) (states links : List ℕ) (class : ℕ) (w : List ℕ) (a : At) (w' : List ℕ) (a' : At) : Type 0 where
  pub came : Came n states links class w a w' a'
  pub four : a'.place ≡ 4
  pub live : 0 < a'.size

-- no place of the piece from `end` on names a piece
pub record Ending (links : List ℕ) (piece end : ℕ) : Type 0 where
  pub few : end ≤ 4
  pub empty : (j : ℕ) → end ≤ j → j < 4 → links ! (4 * piece + j) ≡ none

-- there is room on the stack for the piece
pub record Stackable (n : ℕ) (w : List ℕ) (size blocks stand piece : ℕ) : Type 0 where
  pub most : n ≤ 1024
  pub work_n : 6 * n ≤ length w
  pub size_lt : size < n
  pub blocks_lt : blocks < n
  pub stand_lt : stand < n
  pub piece_lt : piece < n

-- a piece is put on the stack
abbrev pub stacked : ℕ → List ℕ → ℕ → ℕ → ℕ → ℕ → List ℕ
stacked n w size blocks stand piece = set (set (set (set w piece (size + 1)) (3 * n + size) piece) (4 * n + blocks) size) (5 * n + size) stand

-- there is a block, and the first starts at or below the position
pub record Blocks (starts : List ℕ) (position : ℕ) : Type 0 where
  pub some : 0 < length starts
  pub base : starts ! 0 ≤ position

-- the number of blocks left when those that start above the position are dropped
pub record Cut (starts : List ℕ) (position left : ℕ) : Type 0 where
  pub some : 0 < left
  pub le : left ≤ length starts
  pub below : starts ! pred left ≤ position
  pub above : (i : ℕ) → left ≤ i → i < length starts → position < starts ! i

-- every piece on the stack is a piece
pub record Pieces (n : ℕ) (w : List ℕ) (stand size : ℕ) : Type 0 where
  pub work_n : 6 * n ≤ length w
  pub most : n ≤ 1024
  pub size_le : size ≤ n
  pub stand_lt : stand < size
  pub piece : (q : ℕ) → q < size → part n (3 * n) w ! q < n

-- the pieces on the stack from `stand` up are finished, with leader low
pub record ClosedOff (n : ℕ) (w : List ℕ) (stand size low : ℕ) (w' : List ℕ) : Type 0 where
  pub hit : (q : ℕ) → stand ≤ q → q < size
      → (part n 0 w' ! (part n (3 * n) w ! q) ≡ finished_mark) × (part n (2 * n) w' ! (part n (3 * n) w ! q) ≡ low)
  pub miss : (u : ℕ) → u < n → ((q : ℕ) → stand ≤ q → q < size → part n (3 * n) w ! q ≡ u → ⊥)
      → (part n 0 w' ! u ≡ part n 0 w ! u) × (part n (2 * n) w' ! u ≡ part n (2 * n) w ! u)
  pub next_same : part n n w' ≡ part n n w
  pub stack_same : part n (3 * n) w' ≡ part n (3 * n) w
  pub starts_same : part n (4 * n) w' ≡ part n (4 * n) w
  pub parents_same : part n (5 * n) w' ≡ part n (5 * n) w
  pub tail_same : tail n w' ≡ tail n w

-- the search's piece stands on the stack
pub record Standing (n : ℕ) (w : List ℕ) (a : At) : Type 0 where
  pub pieces : Pieces n w a.stand a.size
  pub piece_is : part n (3 * n) w ! a.stand ≡ a.piece

-- they are finished, with the lowest of them as leader
pub record Closed (n : ℕ) (w : List ℕ) (stand size : ℕ) (w' : List ℕ) : Type 0 where
  pub low : ℕ
  pub lowest : LowestOnStack (part n (3 * n) w) stand size low
  pub off : ClosedOff n w stand size low w'

-- a piece is finished as a group of its own
abbrev pub closed_one : ℕ → List ℕ → ℕ → List ℕ
closed_one n w piece = set (set w piece finished_mark) (2 * n + piece) piece

-- a position of the stack with a piece
pub record Resumable (n : ℕ) (w : List ℕ) (stand : ℕ) : Type 0 where
  pub most : n ≤ 1024
  pub work_n : 6 * n ≤ length w
  pub stand_lt : stand < n
  pub piece_lt : w ! (3 * n + stand) < n

-- the search goes on at a position
pub record Resumed (n : ℕ) (w : List ℕ) (size blocks stand : ℕ) (a : At) : Type 0 where
  pub size_is : a.size ≡ size
  pub blocks_is : a.blocks ≡ blocks
  pub stand_is : a.stand ≡ stand
  pub piece_is : a.piece ≡ w ! (3 * n + stand)
  pub place_is : a.place ≡ w ! (n + w ! (3 * n + stand))

-- a search may begin at root
pub record Started (n : ℕ) (states links : List ℕ) (class : ℕ) (w : List ℕ) (root : ℕ) : Type 0 where
  pub lent : Lent n states links w
  pub closed : OneWay (ground n states links class)
  pub calm : Calm (ground n states links class) (Reached (ground n states links class) root) (part n 0 w) (part n n w) (part n (2 * n) w)
  pub root_lt : root < n
  pub root_in : states ! root ≡ class

-- what a search from root leaves
pub record Searched (n : ℕ) (states links : List ℕ) (class : ℕ) (w : List ℕ) (root : ℕ) (w' : List ℕ) : Type 0 where
  pub visited : Visited (ground n states links class) (regions n w) (part n 0 w') (part n n w') (part n (2 * n) w') root
  pub tail_same : tail n w' ≡ tail n w
