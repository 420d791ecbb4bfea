-- The rulebook's words as statements: Reach, Group, Leader, Kept, Sound.
use Rattle.std.specs.Prelude.{◌≡◌, ◌⊎◌, ◌≢◌, ℕ, ◌*◌, ◌≤◌, ◌<◌, length, get_or}
use Rattle.rules.specs.Limits.{most, most_holds, none, entries}
use Rattle.rules.specs.Register.{Right, held_in}
use Rattle.rules.specs.Reach.{Reach}
use Rattle.rules.specs.Tables.{Base, Tables, Store, state, link_at, holds_of, count_of, into_entry}

module _ (b : Base) where
  pub record Draft (p : ℕ) : Type 0 where
    pub below : p < b.n
    pub is : state b p ≡ 1

  pub record Frozen (p : ℕ) : Type 0 where
    pub below : p < b.n
    pub is : state b p ≡ 2

  abbrev pub Live : ℕ → Type 0
  Live p = Draft p ⊎ Frozen p

  -- Reach: q is p or a chain of links leads from p to q
  abbrev pub Reaches : ℕ → ℕ → Type 0
  Reaches p q = Reach b.n (link_at b) p q

  -- Group of a frozen piece: all frozen pieces that it reaches and that reach it
  pub record Group (p q : ℕ) : Type 0 where
    pub frozen : Frozen q
    pub there : Reaches p q
    pub back : Reaches q p

  -- Leader: the lowest number in the group
  pub record Leader (p l : ℕ) : Type 0 where
    pub member : Group p l
    pub lowest : (q : ℕ) → Group p q → l ≤ q

  -- Kept: reached from a draft, or from a frozen piece with a hold
  abbrev pub Root : ℕ → Type 0
  Root r = Draft r ⊎ (Frozen r × (0 < holds_of b r))

  pub record Kept (p : ℕ) : Type 0 where
    pub root : ℕ
    pub is : Root root
    pub reached : Reaches root p

  -- a free piece has four empty links and 0 holds
  pub record FreeWell (p : ℕ) : Type 0 where
    pub is : state b p ≡ 0
    pub links : (k : ℕ) → k < 4 → link_at b p k ≡ none
    pub holds : holds_of b p ≡ 0

  -- a draft's links are none or live pieces, with 0 holds
  pub record DraftWell (p : ℕ) : Type 0 where
    pub is : state b p ≡ 1
    pub links : (k : ℕ) → k < 4 → (link_at b p k ≡ none) ⊎ Live (link_at b p k)
    pub holds : holds_of b p ≡ 0

  -- a frozen piece's links are none or frozen, holds at most 1,000
  pub record FrozenWell (p : ℕ) : Type 0 where
    pub is : state b p ≡ 2
    pub links : (k : ℕ) → k < 4 → (link_at b p k ≡ none) ⊎ Frozen (link_at b p k)
    pub holds : holds_of b p ≤ most_holds

  -- states 0 to 2
  pub data Well (p : ℕ) : Type 0 where
    wfree : FreeWell p → Well p
    wdraft : DraftWell p → Well p
    wfrozen : FrozenWell p → Well p

module _ (t : Tables) where
  abbrev pub leader_at : ℕ → ℕ
  leader_at p = get_or t.leaders p 0

  abbrev pub count_at : ℕ → ℕ
  count_at p = get_or t.counts p 0

  -- at a leader: the group's count; else 0
  pub record CountRight (p : ℕ) : Type 0 where
    pub leads : leader_at p ≡ p → count_at p ≡ count_of t.base p
    pub others : leader_at p ≢ p → count_at p ≡ 0

  -- no leader and 0 count but for a frozen piece, which has leader and count as defined and is kept
  pub data Piece (p : ℕ) : Type 0 where
    free : FreeWell t.base p → leader_at p ≡ none → count_at p ≡ 0 → Piece p
    draft : DraftWell t.base p → leader_at p ≡ none → count_at p ≡ 0 → Piece p
    frozen : FrozenWell t.base p → Leader t.base p (leader_at p) → CountRight p → Kept t.base p → Piece p

  abbrev pub Sound : Type 0
  Sound = (p : ℕ) → p < t.base.n → Piece p

-- Sound, of the store: its tables are, its register is right, holds are the sum over it, and the links into each draft are right
pub record SoundStore (s : Store) : Type 0 where
  pub tables : Sound s.tables
  pub register : Right s.tables.base.n s.register
  pub sums : (p : ℕ) → p < s.tables.base.n → holds_of s.tables.base p ≡ held_in s.register p
  pub into : (p : ℕ) → p < s.tables.base.n → get_or s.into p 0 ≡ into_entry s.tables.base p

-- each area of the store has exactly its length
pub record SizedBase (b : Base) : Type 0 where
  pub states : length b.states ≡ b.n
  pub links : length b.links ≡ 4 * b.n
  pub holds : length b.holds ≡ b.n
  pub most : b.n ≤ most

pub record Sized (t : Tables) : Type 0 where
  pub base : SizedBase t.base
  pub leaders : length t.leaders ≡ t.base.n
  pub counts : length t.counts ≡ t.base.n

pub record SizedStore (s : Store) : Type 0 where
  pub tables : Sized s.tables
  pub register : length s.register ≡ entries
  pub into : length s.into ≡ s.tables.base.n
