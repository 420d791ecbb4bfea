-- A draft to be frozen.
use Rattle.std.specs.Prelude.{◌≡◌, List, ℕ, ◌*◌, ◌≤◌, ◌<◌, length}
use Rattle.rules.specs.Lists.{◌!◌}
use Rattle.rules.specs.Tables.{Tables}
use Rattle.rules.specs.Calls.{Ready}

-- p is a draft of sound tables, and work has its length
pub record Freezable (s : Tables) (work : List ℕ) (p : ℕ) : Type 0 where
  pub ready : Ready s
  pub wide : 8 * s.base.n ≤ length work
  pub below : p < s.base.n
  pub is : s.base.states ! p ≡ 1
