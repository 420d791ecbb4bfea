-- The ground of a search: the pieces below n, what their places name, and a class of pieces by state.
use Rattle.std.specs.Prelude.{◌≡◌, refl, List, ℕ, ◌+◌, ◌*◌, ◌≤◌, ◌<◌}
use Rattle.std.proofs.Common.{sym, subst}
use Rattle.rules.specs.Lists.{◌!◌}
use Rattle.rules.specs.Reach.{Link, Reach, here, chain}
use Rattle.laws.specs.Words.{trans}

-- the four links of piece p start at entry 4p
abbrev pub link_in : List ℕ → ℕ → ℕ → ℕ
link_in links p k = links ! (4 * p + k)

-- l is the lowest of all that p reaches and that reach p
pub record Lead (n : ℕ) (at : ℕ → ℕ → ℕ) (p l : ℕ) : Type 0 where
  pub there : Reach n at p l
  pub back : Reach n at l p
  pub lowest : (q : ℕ) → Reach n at p q → Reach n at q p → l ≤ q

pub record Ground : Type 0 where
  pub n : ℕ
  pub at : ℕ → ℕ → ℕ
  pub state : ℕ → ℕ
  pub class : ℕ

-- the ground of the tables
abbrev pub ground : ℕ → List ℕ → List ℕ → ℕ → Ground
ground n states links class = record { n = n; at = link_in links; state = λ p. states ! p; class = class }

module _ (g : Ground) where
  abbrev pub Step : ℕ → ℕ → Type 0
  Step p q = Link g.n g.at p q

  abbrev pub Way : ℕ → ℕ → Type 0
  Way p q = Reach g.n g.at p q

  abbrev pub Leads : ℕ → ℕ → Type 0
  Leads p l = Lead g.n g.at p l

  -- a piece of the class that root reaches
  pub record Reached (root p : ℕ) : Type 0 where
    pub is : g.state p ≡ g.class
    pub way : Way root p

  -- what leaves the class does not come back to it
  pub record OneWay : Type 0 where
    pub stays : {p q r : ℕ} → g.state p ≡ g.class → Step p q → (g.state q ≡ g.class → ⊥) → g.state r ≡ g.class → Way q r → ⊥

pub one_step : {n : ℕ} {at : ℕ → ℕ → ℕ} {p q : ℕ} → Link n at p q → Reach n at p q
one_step l = chain l here

-- what such a piece names in the class, root reaches too
pub reached_next : {g : Ground} {root p : ℕ} → Reached g root p → p < g.n → (k : ℕ) → k < 4 → g.at p k < g.n → g.state (g.at p k) ≡ g.class → Reached g root (g.at p k)
reached_next r lt k inside to is = record { is = is; way = trans r.way (one_step (record { from = lt; to = to; place = k; inside = inside; names = refl })) }

pub way_at : {n : ℕ} {at : ℕ → ℕ → ℕ} {p p' q q' : ℕ} → p' ≡ p → q' ≡ q → Reach n at p q → Reach n at p' q'
way_at {n} {at} {p} {p'} {q} {q'} d e r = subst (λ (x : ℕ). Reach n at x q') (sym d) (subst (λ (x : ℕ). Reach n at p x) (sym e) r)
