-- One place of the queue as the code goes through it: what is in range there, and what each way leaves.
use Rattle.std.specs.Prelude.{◌≡◌, refl, List, ℕ, ◌+◌, ◌-◌, ◌*◌, ◌/◌, ◌≤◌, ◌<◌, length, set}
use Rattle.std.proofs.Common.{arith, get_or-set_other}
use Rattle.rules.specs.Limits.{none}
use Rattle.rules.specs.Lists.{◌!◌}
use Rattle.rules.specs.Tables.{Base}
use Rattle.falling.specs.Queue.{Known, spot, Inv}
use Rattle.falling.specs.Marking.{tail_most}
use Rattle.falling.specs.Steps.{of_capacity, Going, Stepped, x-n, l-n, t_room, l_room, l_counted, step_none, step_seen, step_new, step_out, step_zero}

-- the piece of the queue's place m, what the place names, and that one's leader
abbrev owner : List ℕ → ℕ → ℕ
owner queue m = queue ! (m / 4)

abbrev target : List ℕ → List ℕ → ℕ → ℕ
target links queue m = links ! spot queue m

abbrev leader : List ℕ → List ℕ → List ℕ → ℕ → ℕ
leader leaders links queue m = leaders ! target links queue m

-- ---- what is in range

module _ {n : ℕ} {leaders states links counts queue : List ℕ} {m tail : ℕ} where
  -- the queue is no longer than the table
  pub tail_in : Going n leaders states links counts queue m tail → (tail ≤ n) × (n ≤ 1024) × (m ≤ 4 * tail)
  tail_in g = (tail_most g.inv.core, g.inv.core.lengths.small, g.inv.place)

  module _ (g : Going n leaders states links counts queue m tail × (m < 4 * tail)) where
    pub place_in : (n ≤ 1024) × (owner queue m < n) × (m / 4 < length queue) × (owner queue m < length leaders) × (spot queue m < length links)
    place_in =
        let z = g.0.inv.core.lengths in
        let x = x-n g.0.known g.0.inv g.1 in
        let t = tail_most g.0.inv.core in
        let h = g.1 in
        (z.small, x, omega (arith, z.queue_n), omega (arith, z.leaders_n), omega (arith, z.links_n))

    module _ (some : target links queue m < n) where
      pub target_in : (n ≤ 1024) × (target links queue m < length leaders) × (target links queue m < length states)
          × (leader leaders links queue m < n) × (leader leaders links queue m < length counts) × (leader leaders links queue m < length states)
      target_in =
          let z = g.0.inv.core.lengths in
          let l = l-n g.0.known g.0.inv g.1 some in
          (z.small, omega (arith, z.leaders_n), omega (arith, z.states_n), l, omega (arith, z.counts_n), omega (arith, z.states_n))

      -- a mate that is not marked yet
      pub mate_in : leader leaders links queue m ≡ leaders ! owner queue m → (states ! target links queue m ≡ 0 → ⊥)
          → (n ≤ 1024) × (target links queue m < n) × (tail < n) × (tail < length queue)
      mate_in same z =
          let r = t_room g.0.known g.0.inv g.1 some same z in
          (g.0.inv.core.lengths.small, some, r, omega (arith, g.0.inv.core.lengths.queue_n))

      -- a piece of another group
      pub other_in : (leader leaders links queue m ≡ leaders ! owner queue m → ⊥)
          → (n ≤ 1024) × (leader leaders links queue m < n) × (0 < counts ! leader leaders links queue m) × (tail < n) × (tail < length queue)
      other_in other =
          let r = l_room g.0.known g.0.inv g.1 some other in (
            g.0.inv.core.lengths.small,
            l-n g.0.known g.0.inv g.1 some,
            l_counted g.0.known g.0.inv g.1 some other,
            r,
            omega (arith, g.0.inv.core.lengths.queue_n),
          )

-- ---- what each way leaves

module _ {n : ℕ} {leaders states links counts queue : List ℕ} {m tail : ℕ} (h : m < 4 * tail) where
  -- the step, where the queue stays
  stays : {links' counts' : List ℕ}
      → ((e : Base) → Known (of_capacity n e) leaders → Inv (of_capacity n e) leaders states links counts queue m tail
      → Inv (of_capacity n e) leaders states links' counts' queue (m + 1) tail)
      → Stepped n leaders states links counts queue m tail states links' counts' queue (m + 1) tail
  stays f = record { inv = f; grows = omega arith; rest = λ j _. refl }

  pub left_past : n ≤ target links queue m
      → Stepped n leaders states links counts queue m tail states (set links (spot queue m) none) counts queue (m + 1) tail
  left_past past = stays (λ e k v. step_none k v h past)

  module _ (some : target links queue m < n) where
    pub left_seen : leader leaders links queue m ≡ leaders ! owner queue m → states ! target links queue m ≡ 0
        → Stepped n leaders states links counts queue m tail states (set links (spot queue m) none) counts queue (m + 1) tail
    left_seen same z = stays (λ e k v. step_seen k v h some same z)

    pub left_new : leader leaders links queue m ≡ leaders ! owner queue m → (states ! target links queue m ≡ 0 → ⊥)
        → Stepped n leaders states links counts queue m tail (set states (target links queue m) 0) (set links (spot queue m) none) counts
        (set queue tail (target links queue m)) (m + 1) (tail + 1)
    left_new same z = record {
      inv = λ e k v. step_new k v h some same z;
      grows = omega arith;
      rest = λ j u. get_or-set_other queue tail j (target links queue m) 0 (λ y. omega arith);
    }

    module _ (other : leader leaders links queue m ≡ leaders ! owner queue m → ⊥) where
      pub left_zero : counts ! leader leaders links queue m - 1 ≡ 0
          → Stepped n leaders states links counts queue m tail (set states (leader leaders links queue m) 0) (set links (spot queue m) none)
          (set counts (leader leaders links queue m) (counts ! leader leaders links queue m - 1))
          (set queue tail (leader leaders links queue m)) (m + 1) (tail + 1)
      left_zero z = record {
        inv = λ e k v. step_zero k v h some other z;
        grows = omega arith;
        rest = λ j u. get_or-set_other queue tail j (leader leaders links queue m) 0 (λ y. omega arith);
      }

      pub left_out : (counts ! leader leaders links queue m - 1 ≡ 0 → ⊥)
          → Stepped n leaders states links counts queue m tail states (set links (spot queue m) none)
          (set counts (leader leaders links queue m) (counts ! leader leaders links queue m - 1)) queue (m + 1) tail
      left_out z = stays (λ e k v. step_out k v h some other z)
