-- The letting go of groups: what holds while marked pieces stand in a queue and their places are erased one by one.
-- A piece is marked by its state 0 while it still has its label.
use Rattle.std.specs.Prelude.{◌≡◌, ◌⊎◌, Bool, List, ℕ, ◌+◌, ◌*◌, ◌/◌, ◌%◌, ◌≤◌, ◌<◌, eqb, ltb, length}
use Rattle.std.proofs.Common.{◌∙◌, arith}
use Rattle.rules.specs.Lists.{◌!◌}
use Rattle.rules.specs.Tests.{◌&◌, only_if}
use Rattle.rules.specs.Limits.{none}
use Rattle.rules.specs.Below.{sum}
use Rattle.rules.specs.Tables.{Base, state}
use Rattle.rules.specs.Words.{Well}
use Rattle.tallies.specs.Tally.{label, CountsMatch}
use Rattle.tallies.specs.Exact.{Exact}

-- p is marked
pub record Marked (n : ℕ) (leaders states : List ℕ) (p : ℕ) : Type 0 where
  pub below : p < n
  pub free : states ! p ≡ 0
  pub labelled : label leaders p < n

-- the same by computation
unfoldable pub is_marked : ℕ → List ℕ → List ℕ → ℕ → Bool
is_marked n leaders states p = eqb (states ! p) 0 & ltb (label leaders p) n

-- place i is erased: its piece is marked, and so is the piece of the same label that it named
pub record Erased (e : Base) (leaders states links : List ℕ) (i : ℕ) : Type 0 where
  pub owner : Marked e.n leaders states (i / 4)
  pub empty : links ! i ≡ none
  pub inner : label leaders (e.links ! i) ≡ label leaders (i / 4) → Marked e.n leaders states (e.links ! i)

-- each table has its length
pub record Lengths (n : ℕ) (leaders states links counts queue : List ℕ) : Type 0 where
  pub small : n ≤ 1024
  pub leaders_n : length leaders ≡ n
  pub states_n : length states ≡ n
  pub links_n : length links ≡ 4 * n
  pub counts_n : length counts ≡ n
  pub queue_n : n ≤ length queue

-- the tables keep their lengths
pub lengths_kept : {n : ℕ} {leaders states links counts queue states' links' counts' queue' : List ℕ}
    → Lengths n leaders states links counts queue → length states' ≡ length states → length links' ≡ length links → length counts' ≡ length counts
    → length queue' ≡ length queue → Lengths n leaders states' links' counts' queue'
lengths_kept z s l c q = record {
  small = z.small;
  leaders_n = z.leaders_n;
  states_n = s ∙ z.states_n;
  links_n = l ∙ z.links_n;
  counts_n = c ∙ z.counts_n;
  queue_n = omega (arith, z.queue_n);
}

-- the queue holds the marked pieces
pub record Queue (n : ℕ) (leaders states queue : List ℕ) (tail : ℕ) : Type 0 where
  pub each : (i : ℕ) → i < tail → Marked n leaders states (queue ! i)
  pub listed : (p : ℕ) → Marked n leaders states p → (i : ℕ) × (i < tail) × (queue ! i ≡ p)
  pub many : tail ≡ sum (λ p. only_if (is_marked n leaders states p) 1) n

-- the base that the letting go began with, and its labels
pub record Known (e : Base) (leaders : List ℕ) : Type 0 where
  pub exact : Exact e leaders
  pub wells : (p : ℕ) → p < e.n → Well e p

-- the tables against the base e that the letting go began with
pub record Core (e : Base) (leaders states links counts queue : List ℕ) (tail : ℕ) : Type 0 where
  pub lengths : Lengths e.n leaders states links counts queue
  pub queued : Queue e.n leaders states queue tail
  pub pieces : (p : ℕ) → p < e.n → (states ! p ≡ state e p) ⊎ Marked e.n leaders states p
  pub places : (i : ℕ) → i < 4 * e.n → (links ! i ≡ e.links ! i) ⊎ Erased e leaders states links i
  pub matches : CountsMatch e.n links e.holds leaders counts
  pub zeros : (p : ℕ) → Marked e.n leaders states p → counts ! label leaders p ≡ 0
  pub led : (p : ℕ) → Marked e.n leaders states p → Marked e.n leaders states (label leaders p)

-- each leader that is not marked has a count, but for x
abbrev pub EachCounted : Base → List ℕ → List ℕ → List ℕ → ℕ → Type 0
EachCounted e leaders states counts x =
    (L : ℕ) → L < e.n → label leaders L ≡ L → (states ! L ≡ 0 → ⊥) → (L ≡ x → ⊥) → 0 < counts ! L

-- the link place that the queue's place m is
abbrev pub spot : List ℕ → ℕ → ℕ
spot queue m = 4 * (queue ! (m / 4)) + m % 4

-- the places before m are erased
abbrev pub Past : Base → List ℕ → List ℕ → List ℕ → List ℕ → ℕ → Type 0
Past e leaders states links queue m = (j : ℕ) → j < m → Erased e leaders states links (spot queue j)

-- the letting go under way: places before m of the queue are erased
pub record Inv (e : Base) (leaders states links counts queue : List ℕ) (m tail : ℕ) : Type 0 where
  pub core : Core e leaders states links counts queue tail
  pub counted : EachCounted e leaders states counts none
  pub past : Past e leaders states links queue m
  pub place : m ≤ 4 * tail
