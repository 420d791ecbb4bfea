-- The counting of a freeze: what it asks, and what it leaves.
use Rattle.std.specs.Prelude.{◌≡◌, List, ℕ, ◌+◌, ◌*◌, ◌≤◌, ◌<◌, length}
use Rattle.rules.specs.Lists.{◌!◌}
use Rattle.rules.specs.Below.{sum}
use Rattle.tallies.specs.Tally.{placed}
use Rattle.into.specs.Into.{Into}
use Rattle.recounting.specs.Standing.{Standing, fresh_leaders}

-- pieces stand in the queue, each once
pub record Queued (n : ℕ) (queue : List ℕ) : Type 0 where
  pub each : (j : ℕ) → j < length queue → queue ! j < n
  pub apart : (i j : ℕ) → i < j → j < length queue → queue ! i ≡ queue ! j → ⊥
  pub most : length queue ≤ n

-- the areas in their lengths, with leaders that fit; what stands in the queue is a draft, and its leaders are no others'; counts have room
pub record Taking (n : ℕ) (states links leaders counts into found queue : List ℕ) : Type 0 where
  pub small : n ≤ 1024
  pub states_n : length states ≡ n
  pub links_n : length links ≡ 4 * n
  pub leaders_n : length leaders ≡ n
  pub counts_n : length counts ≡ n
  pub found_n : length found ≡ n
  pub fit : (q : ℕ) → q < n → Standing queue q → found ! q < n
  pub draft : (q : ℕ) → q < n → Standing queue q → states ! q ≡ 1
  pub apart : (t q : ℕ) → t < n → q < n → (Standing queue t → ⊥) → Standing queue q → leaders ! t ≡ found ! q → ⊥
  pub most : (l : ℕ) → l < n → counts ! l ≤ 67107840
  pub queued : Queued n queue
  pub named : Into n states links into

-- what stands in the queue is frozen, with its leaders; all else is as it was
pub record MadeFrozen (n : ℕ) (states leaders found queue : List ℕ) (states' leaders' : List ℕ) : Type 0 where
  pub states_n : length states' ≡ length states
  pub leaders_n : length leaders' ≡ length leaders
  pub on : (p : ℕ) → p < n → Standing queue p → (states' ! p ≡ 2) × (leaders' ! p ≡ found ! p)
  pub off : (p : ℕ) → (Standing queue p → ⊥) → (states' ! p ≡ states ! p) × (leaders' ! p ≡ leaders ! p)

-- and no link into a draft is left of it; each fresh group has a count more for each place that names it from outside
pub record Taken (n : ℕ) (states links leaders counts into found queue : List ℕ) (states' leaders' counts' into' : List ℕ) : Type 0 where
  pub made : MadeFrozen n states leaders found queue states' leaders'
  pub counts_n : length counts' ≡ length counts
  pub counted : (L : ℕ) → L < n → counts' ! L ≡ counts ! L + sum (placed links (fresh_leaders n found queue) L) (4 * n)
  pub into_n : length into' ≡ length into
  pub emptied : (q : ℕ) → q < n → Standing queue q → into' ! q ≡ 0
  pub kept : (q : ℕ) → (Standing queue q → ⊥) → into' ! q ≡ into ! q
