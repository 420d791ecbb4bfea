-- What the areas of a store hold: the store, the list, the work, and the number below which nothing is free.
use Rattle.std.specs.Prelude.{List, ℕ}
use Rattle.rules.specs.Tables.{Store}

pub record Standing : Type 0 where
  pub store : Store
  pub list : List ℕ
  pub work : List ℕ
  pub from : ℕ
