-- Over the numbers below a bound: tests, sums, tables, the lowest, the list.
use Rattle.std.specs.Prelude.{Bool, true, false, List, [], ◌∷◌, ℕ, zero, suc, ◌+◌}
use Rattle.rules.specs.Tests.{◌or◌, ◌&◌, pick}
use Rattle.rules.specs.Limits.{none}

-- f at every number below k
unfoldable pub every : (ℕ → Bool) → ℕ → Bool
every f zero = true
every f (suc k) = every f k & f k

-- f at some number below k
unfoldable pub any : (ℕ → Bool) → ℕ → Bool
any f zero = false
any f (suc k) = any f k or f k

-- f 0 + .. + f (k - 1)
unfoldable pub sum : (ℕ → ℕ) → ℕ → ℕ
sum f zero = 0
sum f (suc k) = sum f k + f k

-- f p ∷ .. ∷ f (p + k - 1)
unfoldable pub table_from : ℕ → (ℕ → ℕ) → ℕ → List ℕ
table_from p f zero = []
table_from p f (suc k) = f p ∷ table_from (suc p) f k

unfoldable pub table : (ℕ → ℕ) → ℕ → List ℕ
table f k = table_from 0 f k

-- the lowest of p .. p + k - 1 with f, and none if there is none
unfoldable pub lowest_from : ℕ → (ℕ → Bool) → ℕ → ℕ
lowest_from p f zero = none
lowest_from p f (suc k) = let r = lowest_from (suc p) f k in pick (f p) p r

unfoldable pub lowest : (ℕ → Bool) → ℕ → ℕ
lowest f k = lowest_from 0 f k

-- those of p .. p + k - 1 with f, ascending
unfoldable pub list_from : ℕ → (ℕ → Bool) → ℕ → List ℕ
list_from p f zero = []
list_from p f (suc k) = let r = list_from (suc p) f k in pick (f p) (p ∷ r) r

unfoldable pub list : (ℕ → Bool) → ℕ → List ℕ
list f k = list_from 0 f k
