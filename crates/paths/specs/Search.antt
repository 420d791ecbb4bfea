-- The state of the search, and its invariant in parts, by which regions each reads.
use Rattle.std.specs.Prelude.{◌≡◌, List, ◌⊎◌, ℕ, zero, suc, pred, ◌+◌, ◌-◌, ◌*◌, ◌≤◌, ◌<◌, length}
use Rattle.rules.specs.Lists.{◌!◌}
use Rattle.paths.specs.Ground.{Ground, Way, Leads, Reached}

-- the mark of a finished piece; 0 is unseen, and q + 1 is on the stack at position q
abbrev pub finished_mark : ℕ
finished_mark = 65535

-- how many of the first n entries are not 0
unfoldable pub sign : ℕ → ℕ
sign zero = 0
sign (suc x) = 1

unfoldable pub count : List ℕ → ℕ → ℕ
count l zero = 0
count l (suc n) = sign (l ! n) + count l n

-- the places not yet explored
unfoldable pub rest : List ℕ → ℕ → ℕ
rest l zero = 0
rest l (suc n) = (4 - l ! n) + rest l n

-- the marks and the stack agree: the first `size` entries of the stack are pieces that root reaches, each once
pub record Stack (g : Ground) (root : ℕ) (marks stack : List ℕ) (size : ℕ) : Type 0 where
  pub stack_lt : (q : ℕ) → q < size → stack ! q < g.n
  pub stack_marks : (q : ℕ) → q < size → marks ! (stack ! q) ≡ suc q
  pub stack_in : (q : ℕ) → q < size → Reached g root (stack ! q)
  pub marks_stack : (v : ℕ) → v < g.n → Reached g root v → (marks ! v ≡ 0 → ⊥) → (marks ! v ≡ finished_mark → ⊥)
      → (q : ℕ) × (marks ! v ≡ suc q) × (q < size) × (stack ! q ≡ v)
  pub few : size ≤ count marks g.n

-- the starts of the blocks rise from 0
pub record Starts (starts : List ℕ) (size blocks : ℕ) : Type 0 where
  pub some : 0 < size → 0 < blocks
  pub base : 0 < blocks → starts ! 0 ≡ 0
  pub mono : (i j : ℕ) → i < j → j < blocks → starts ! i < starts ! j
  pub below : (i : ℕ) → i < blocks → starts ! i < size
  pub rank : (i : ℕ) → i < blocks → i ≤ starts ! i

-- each piece on the stack reaches the next, and the one before it where no block starts; what lies between a piece and its parent is explored
pub record Trail (g : Ground) (next stack starts parents : List ℕ) (size blocks : ℕ) : Type 0 where
  pub par_le : (q : ℕ) → q < size → parents ! q ≤ q
  pub par_lt : (q : ℕ) → q < size → 0 < q → parents ! q < q
  pub par_in : (q : ℕ) → q < size → 0 < q → (i : ℕ) → i < blocks → starts ! i < q → starts ! i ≤ parents ! q
  pub par_full : (q : ℕ) → q < size → 0 < q → (r : ℕ) → parents ! q < r → r < q → next ! (stack ! r) ≡ 4
  pub up : (q : ℕ) → suc q < size → Way g (stack ! q) (stack ! suc q)
  pub back : (q : ℕ) → suc q < size → ((i : ℕ) → i < blocks → starts ! i ≡ suc q → ⊥) → Way g (stack ! suc q) (stack ! q)

-- every explored place names a piece that is finished, or at or above the start of its own block
pub record Explored (g : Ground) (root : ℕ) (marks next stack starts : List ℕ) (size blocks : ℕ) : Type 0 where
  pub four : (v : ℕ) → v < g.n → Reached g root v → next ! v ≤ 4
  pub fresh : (v : ℕ) → v < g.n → Reached g root v → marks ! v ≡ 0 → next ! v ≡ 0
  pub seen : (q : ℕ) → q < size → (j : ℕ) → j < next ! (stack ! q) → g.at (stack ! q) j < g.n → g.state (g.at (stack ! q) j) ≡ g.class
      → (i : ℕ) → i < blocks → starts ! i ≤ q → starts ! i < marks ! (g.at (stack ! q) j)

-- what is finished of the pieces with P is closed under the links
abbrev pub MarksClosed : Ground → (ℕ → Type 0) → List ℕ → Type 0
MarksClosed g P marks =
    (x : ℕ) → x < g.n → P x → marks ! x ≡ finished_mark → (j : ℕ) → j < 4 → g.at x j < g.n → g.state (g.at x j) ≡ g.class → marks ! (g.at x j) ≡ finished_mark

-- what root reaches and is finished is closed under the links, and has its leader
pub record Ends (g : Ground) (root : ℕ) (marks leaders : List ℕ) : Type 0 where
  pub closed : MarksClosed g (Reached g root) marks
  pub exact : (x : ℕ) → x < g.n → Reached g root x → marks ! x ≡ finished_mark → Leads g x (leaders ! x)

-- the search stands at a position of the last block; every piece above it is explored
pub record Standing (g : Ground) (next stack starts : List ℕ) (root size blocks stand : ℕ) : Type 0 where
  pub stand_lt : stand < size
  pub stand_in : (i : ℕ) → i < blocks → starts ! i ≤ stand
  pub stand_full : (r : ℕ) → stand < r → r < size → next ! (stack ! r) ≡ 4
  pub top : Way g (stack ! pred size) (stack ! stand)
  pub first : stack ! 0 ≡ root

-- by piece: marks, next place, leaders; by position: stack, starts of the blocks, parent's position
pub record Regions : Type 0 where
  pub marks : List ℕ
  pub next : List ℕ
  pub leaders : List ℕ
  pub stack : List ℕ
  pub starts : List ℕ
  pub parents : List ℕ

pub record RegionsSized (n : ℕ) (s : Regions) : Type 0 where
  pub marks_n : length s.marks ≡ n
  pub next-n : length s.next ≡ n
  pub leaders_n : length s.leaders ≡ n
  pub stack_n : length s.stack ≡ n
  pub starts-n : length s.starts ≡ n
  pub parents_n : length s.parents ≡ n

-- what root does not reach is as it was before
pub record Others (g : Ground) (root : ℕ) (old : Regions) (marks next leaders : List ℕ) : Type 0 where
  pub same : (v : ℕ) → v < g.n → Reached g root v ⊎ ((marks ! v ≡ old.marks ! v) × (next ! v ≡ old.next ! v) × (leaders ! v ≡ old.leaders ! v))

-- what holds wherever the search stands
pub record Steady (g : Ground) (old : Regions) (root : ℕ) (s : Regions) (size blocks : ℕ) : Type 0 where
  pub small : g.n ≤ 1024
  pub sizes : RegionsSized g.n s
  pub stack : Stack g root s.marks s.stack size
  pub bounds : Starts s.starts size blocks
  pub trail : Trail g s.next s.stack s.starts s.parents size blocks
  pub explored : Explored g root s.marks s.next s.stack s.starts size blocks
  pub ends : Ends g root s.marks s.leaders
  pub others : Others g root old s.marks s.next s.leaders

-- with `size` pieces on the stack, in `blocks` blocks, the search at position `stand`
pub record Invariant (g : Ground) (old : Regions) (root : ℕ) (s : Regions) (size blocks stand : ℕ) : Type 0 where
  pub base : Steady g old root s size blocks
  pub live : 0 < size → Standing g s.next s.stack s.starts root size blocks stand
  pub rooted : s.marks ! root ≡ 0 → ⊥

-- between two searches: each piece with P is unseen or finished
pub record Calm (g : Ground) (P : ℕ → Type 0) (marks next leaders : List ℕ) : Type 0 where
  pub small : g.n ≤ 1024
  pub either : (v : ℕ) → v < g.n → P v → (marks ! v ≡ 0) ⊎ (marks ! v ≡ finished_mark)
  pub four : (v : ℕ) → v < g.n → P v → next ! v ≤ 4
  pub fresh : (v : ℕ) → v < g.n → P v → marks ! v ≡ 0 → next ! v ≡ 0
  pub closed : MarksClosed g P marks
  pub exact : (x : ℕ) → x < g.n → P x → marks ! x ≡ finished_mark → Leads g x (leaders ! x)

-- what a search from root has done
pub record Visited (g : Ground) (old : Regions) (marks next leaders : List ℕ) (root : ℕ) : Type 0 where
  pub calm : Calm g (Reached g root) marks next leaders
  pub all : (x : ℕ) → x < g.n → Reached g root x → marks ! x ≡ finished_mark
  pub others : Others g root old marks next leaders

-- the height of the search: falls with each step that explores no place
abbrev pub height : ℕ → ℕ → ℕ
height zero stand = 0
height (suc _) stand = suc stand

abbrev pub measure : ℕ → Regions → ℕ → ℕ → ℕ
measure n s size stand = 2048 * rest s.next n + height size stand
