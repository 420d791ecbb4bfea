-- What a search is lent, and what it leaves: which pieces are finished, and their leaders.
use Rattle.std.specs.Prelude.{◌≡◌, List, ◌⊎◌, ℕ, ◌+◌, ◌*◌, ◌<◌, length, drop}
use Rattle.rules.specs.Reach.{Reach}
use Rattle.rules.specs.Lists.{◌!◌}
use Rattle.paths.specs.Ground.{ground, OneWay, Lead, link_in}
use Rattle.paths.specs.Search.{finished_mark}
use Rattle.groups.specs.Steps.{Lent}

-- lent in their lengths, with the marks and the next places 0; what leaves the class does not come back to it
pub record Searchable (n : ℕ) (states links : List ℕ) (class : ℕ) (work : List ℕ) : Type 0 where
  pub lent : Lent n states links work
  pub closed : OneWay (ground n states links class)
  pub zeros : (i : ℕ) → i < 2 * n → work ! i ≡ 0

-- the pieces of a class
abbrev pub Of : List ℕ → ℕ → ℕ → Type 0
Of states class p = states ! p ≡ class

-- the pieces of a class that root reaches
abbrev pub ReachedFrom : ℕ → List ℕ → List ℕ → ℕ → ℕ → ℕ → Type 0
ReachedFrom n states links class root p = (states ! p ≡ class) × Reach n (link_in links) root p

-- lent in their lengths, with a root of the class, and the marks and the next places 0 of what it reaches in the class; what leaves the class does not come back to it
pub record Visitable (n : ℕ) (states links : List ℕ) (class : ℕ) (work : List ℕ) (root : ℕ) : Type 0 where
  pub lent : Lent n states links work
  pub closed : OneWay (ground n states links class)
  pub root_lt : root < n
  pub root_in : states ! root ≡ class
  pub zeros : (q : ℕ) → q < n → ReachedFrom n states links class root q → (work ! q ≡ 0) × (work ! (n + q) ≡ 0)

-- each piece with P has its leader in the third region; behind six regions nothing changes
pub record Led (n : ℕ) (links : List ℕ) (P : ℕ → Type 0) (w w' : List ℕ) : Type 0 where
  pub leads : (p : ℕ) → p < n → P p → Lead n (link_in links) p (w' ! (2 * n + p))
  pub size : length w' ≡ length w
  pub later : drop (6 * n) w' ≡ drop (6 * n) w

-- exactly the pieces with P are marked finished, the others 0; each has its leader in the third region; behind six regions nothing changes
pub record Grouped (n : ℕ) (links : List ℕ) (P : ℕ → Type 0) (w w' : List ℕ) : Type 0 where
  pub all : (p : ℕ) → p < n → P p → w' ! p ≡ finished_mark
  pub «only» : (p : ℕ) → p < n → w' ! p ≡ finished_mark → P p
  pub either : (p : ℕ) → p < n → (w' ! p ≡ 0) ⊎ (w' ! p ≡ finished_mark)
  pub leads : (p : ℕ) → p < n → P p → Lead n (link_in links) p (w' ! (2 * n + p))
  pub size : length w' ≡ length w
  pub later : drop (6 * n) w' ≡ drop (6 * n) w
