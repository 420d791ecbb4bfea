-- The counts by label: what the tables give where the groups are given as labels. No Reach, no states.
use Rattle.std.specs.Prelude.{◌≡◌, not, List, ℕ, ◌+◌, ◌*◌, ◌/◌, ◌<◌, eqb, get_or}
use Rattle.rules.specs.Tests.{◌&◌, only_if}
use Rattle.rules.specs.Limits.{none}
use Rattle.rules.specs.Below.{sum}
use Rattle.rules.specs.Lists.{◌!◌}

-- the label of p: none past the table's end, so also of none itself
abbrev pub label : List ℕ → ℕ → ℕ
label leaders p = get_or leaders p none

-- 1 where place i, naming t, counts for label L: t has the label and the piece of the place has not
unfoldable pub cross : List ℕ → ℕ → ℕ → ℕ → ℕ
cross leaders L i t = only_if (eqb (label leaders t) L & not (eqb (label leaders (i / 4)) L)) 1

-- the holds of q, where it has label L
unfoldable pub held : List ℕ → List ℕ → ℕ → ℕ → ℕ
held holds leaders L q = only_if (eqb (label leaders q) L) (holds ! q)

-- 1 where place i counts for label L
unfoldable pub placed : List ℕ → List ℕ → ℕ → ℕ → ℕ
placed links leaders L i = cross leaders L i (links ! i)

-- the holds of the pieces with label L added up, plus every place outside that names one of them
unfoldable pub tally : ℕ → List ℕ → List ℕ → List ℕ → ℕ → ℕ
tally n links holds leaders L = sum (held holds leaders L) n + sum (placed links leaders L) (4 * n)

-- the counts are those that links, holds and labels give
abbrev pub CountsMatch : ℕ → List ℕ → List ℕ → List ℕ → List ℕ → Type 0
CountsMatch n links holds leaders counts = (L : ℕ) → L < n → counts ! L ≡ tally n links holds leaders L
