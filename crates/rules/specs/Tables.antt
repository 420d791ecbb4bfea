-- The rulebook's tables: what the areas of the store hold, and what a sound store is.
use Rattle.std.specs.Prelude.{Bool, not, List, ℕ, ◌+◌, ◌*◌, eqb, ltb, leb, get_or, replicate}
use Rattle.rules.specs.Tests.{◌or◌, ◌&◌, pick, only_if}
use Rattle.rules.specs.Limits.{most_holds, none, entries}
use Rattle.rules.specs.Register.{is_right, held_in}
use Rattle.rules.specs.Reach.{reachb}
use Rattle.rules.specs.Below.{every, any, sum, table, lowest}

-- states, links and holds at capacity n: leaders and counts follow from these
pub record Base : Type 0 where
  pub n : ℕ
  pub states : List ℕ
  pub links : List ℕ
  pub holds : List ℕ

-- the five tables of the store
pub record Tables : Type 0 where
  pub base : Base
  pub leaders : List ℕ
  pub counts : List ℕ

-- the store: its tables, the register of who holds what, and the links into each draft
pub record Store : Type 0 where
  pub tables : Tables
  pub register : List ℕ
  pub into : List ℕ

-- what commands tell the store, at capacity n
abbrev pub base_of : ℕ → List ℕ → List ℕ → List ℕ → Base
base_of n states links holds = record { n = n; states = states; links = links; holds = holds }

-- the tables of what is told, with what follows from it
abbrev pub tables_on : Base → List ℕ → List ℕ → Tables
tables_on base leaders counts = record { base = base; leaders = leaders; counts = counts }

-- the tables in the rulebook's order
abbrev pub tables_of : ℕ → List ℕ → List ℕ → List ℕ → List ℕ → List ℕ → Tables
tables_of n states links leaders holds counts = tables_on (base_of n states links holds) leaders counts

-- the tables with a register and the links into each draft beside them
abbrev pub store_on : Tables → List ℕ → List ℕ → Store
store_on tables register into = record { tables = tables; register = register; into = into }

-- the store's areas in the rulebook's order
abbrev pub store_of : ℕ → List ℕ → List ℕ → List ℕ → List ℕ → List ℕ → List ℕ → List ℕ → Store
store_of n states links leaders holds counts register into = store_on (tables_of n states links leaders holds counts) register into

module _ (b : Base) where
  unfoldable pub state : ℕ → ℕ
  state p = get_or b.states p 0

  unfoldable pub is_free : ℕ → Bool
  is_free p = eqb (state p) 0

  unfoldable pub is_draft : ℕ → Bool
  is_draft p = eqb (state p) 1

  unfoldable pub is_frozen : ℕ → Bool
  is_frozen p = eqb (state p) 2

  unfoldable pub is_live : ℕ → Bool
  is_live p = is_draft p or is_frozen p

  -- the four links of piece p start at entry 4p
  unfoldable pub link_at : ℕ → ℕ → ℕ
  link_at p k = get_or b.links (4 * p + k) 0

  unfoldable pub holds_of : ℕ → ℕ
  holds_of p = get_or b.holds p 0

  -- Reach: P reaches Q if Q is P or a chain of links leads from P to Q
  unfoldable pub reaches : ℕ → ℕ → Bool
  reaches p q = reachb b.n link_at p q

  -- Group of a frozen piece: all frozen pieces that it reaches and that reach it
  unfoldable pub in_group : ℕ → ℕ → Bool
  in_group p q = is_frozen q & reaches p q & reaches q p

  -- Leader: the lowest number in the group
  unfoldable pub leader_of : ℕ → ℕ
  leader_of p = lowest (in_group p) b.n

  -- the link places of r that name a member of p's group
  unfoldable pub places : ℕ → ℕ → ℕ
  places p r = sum (λ k. only_if (in_group p (link_at r k)) 1) 4

  -- Count: the holds of all members added up, plus every link place of a live piece outside the group (draft or frozen) that names a member
  unfoldable pub count_of : ℕ → ℕ
  count_of p = sum (λ q. only_if (in_group p q) (holds_of q)) b.n + sum (λ r. only_if (is_live r & not (in_group p r)) (places p r)) b.n

  -- a draft, or a frozen piece with a hold
  unfoldable pub is_root : ℕ → Bool
  is_root r = is_draft r or is_frozen r & ltb 0 (holds_of r)

  -- Kept: reached from a draft, or from a frozen piece with a hold
  unfoldable pub is_kept : ℕ → Bool
  is_kept p = any (λ r. is_root r & reaches r p) b.n

  -- leaders: frozen: its group's leader; else none
  unfoldable pub leader_entry : ℕ → ℕ
  leader_entry p = pick (is_frozen p) (leader_of p) none

  -- counts: at a leader: the group's count; else 0
  unfoldable pub count_entry : ℕ → ℕ
  count_entry p = pick (is_frozen p & eqb (leader_of p) p) (count_of p) 0

  -- the link places of r that name p
  unfoldable pub namings : ℕ → ℕ → ℕ
  namings p r = sum (λ k. only_if (eqb (link_at r k) p) 1) 4

  -- into: for a draft the link places of other pieces that name it; else 0
  unfoldable pub into_entry : ℕ → ℕ
  into_entry p = only_if (is_draft p) (sum (λ r. only_if (not (eqb r p)) (namings p r)) b.n)

  -- the tables with these states, links and holds
  unfoldable pub finish : Tables
  finish = tables_on b (table leader_entry b.n) (table count_entry b.n)

  -- and the links into each draft
  unfoldable pub into_of : List ℕ
  into_of = table into_entry b.n

  -- f at each of the four links of p
  unfoldable pub all_four : ℕ → (ℕ → Bool) → Bool
  all_four p f = every (λ k. f (link_at p k)) 4

  -- a free piece has four empty links and 0 holds
  unfoldable pub well_free : ℕ → Bool
  well_free p = is_free p & all_four p (λ t. eqb t none) & eqb (holds_of p) 0

  -- a draft's links are none or live pieces, with 0 holds
  unfoldable pub well_draft : ℕ → Bool
  well_draft p = is_draft p & all_four p (λ t. eqb t none or ltb t b.n & is_live t) & eqb (holds_of p) 0

  -- a frozen piece's links are none or frozen, holds at most 1,000
  unfoldable pub well_frozen : ℕ → Bool
  well_frozen p = is_frozen p & all_four p (λ t. eqb t none or ltb t b.n & is_frozen t) & leb (holds_of p) most_holds

  unfoldable pub well : ℕ → Bool
  well p = well_free p or well_draft p or well_frozen p

module _ (t : Tables) where
  abbrev bs : Base
  bs = t.base

  -- Sound, of one piece: its state, links and holds, its leader, its count, and kept where it is frozen
  unfoldable pub sound_at : ℕ → Bool
  sound_at p =
      well bs p & eqb (get_or t.leaders p 0) (leader_entry bs p) & eqb (get_or t.counts p 0) (count_entry bs p)
      & (not (is_frozen bs p) or is_kept bs p)

  unfoldable pub is_sound : Bool
  is_sound = every sound_at bs.n

-- the store with these tables and this register: the links into each draft follow
abbrev pub store_by : Tables → List ℕ → Store
store_by tables register = store_on tables register (into_of tables.base)

-- the holds of every piece are the sum over the register
unfoldable pub sums_right : Base → List ℕ → Bool
sums_right b l = every (λ p. eqb (holds_of b p) (held_in l p)) b.n

-- the links into every draft are as they follow
unfoldable pub into_right : Base → List ℕ → Bool
into_right b l = every (λ p. eqb (get_or l p 0) (into_entry b p)) b.n

-- Sound, of the store: its tables are, its register is right, holds are the sum over it, and the links into each draft are right
unfoldable pub is_sound_store : Store → Bool
is_sound_store s = let b = s.tables.base in is_sound s.tables & is_right b.n s.register & sums_right b s.register & into_right b s.into

-- In empty tables all links are 65,535, all leaders too, and everything else is 0
unfoldable pub empty_tables : ℕ → Tables
empty_tables n = tables_of n (replicate n 0) (replicate (4 * n) none) (replicate n none) (replicate n 0) (replicate n 0)

-- and in an empty store every line of the register is unused, and nothing is named
unfoldable pub empty : ℕ → Store
empty n = store_on (empty_tables n) (replicate entries 0) (replicate n 0)
