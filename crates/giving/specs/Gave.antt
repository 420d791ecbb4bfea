-- New, over the states alone: what it asks, and what it did in every sound store that has these states.
use Rattle.std.specs.Prelude.{◌≡◌, List, [], ℕ, ◌≤◌, length}
use Rattle.rules.specs.Tables.{Tables, tables_of}
use Rattle.rules.specs.Calls.{Ready, answered}
use Rattle.rules.specs.declared.Command.TheVariants.{New}
use Rattle.laws.specs.ByTables.{DidTables, tables_effect}
use Rattle.areas.specs.Lowest.{NoneFree}
use Rattle.rules.specs.Replies.{Answer}

-- states of their length, of which no number below from is free
pub record Giving (n : ℕ) (states : List ℕ) (from : ℕ) : Type 0 where
  pub small : n ≤ 1024
  pub states_n : length states ≡ n
  pub within : from ≤ n
  pub none_free_lem : NoneFree states from

-- a sound store's states are
pub giving_of : {s : Tables} {from : ℕ} → Ready s → from ≤ s.base.n → NoneFree s.base.states from → Giving s.base.n s.base.states from
giving_of o within none_free_lem =
    record { small = o.sized.base.most; states_n = o.sized.base.states; within = within; none_free_lem = none_free_lem }

-- the answer r and the states left are what new gives, whatever the other tables are
pub record Gave (n : ℕ) (states : List ℕ) (r : Answer) (states' : List ℕ) : Type 0 where
  pub did : {links leaders holds counts : List ℕ} → Ready (tables_of n states links leaders holds counts)
      → DidTables New (tables_of n states links leaders holds counts) [] (tables_effect (answered r) (tables_of n states' links leaders holds counts) [])
