-- Reach over the pieces below n, where `at p k` is what place k of piece p names.
use Rattle.std.specs.Prelude.{◌≡◌, Bool, true, false, List, [], ◌∷◌, ℕ, zero, suc, ◌<◌, get_or, replicate, set}
use Rattle.rules.specs.Tests.{◌or◌}
use Rattle.rules.specs.Below.{any}

module _ (n : ℕ) (at : ℕ → ℕ → ℕ) where
  -- a place of piece p names the piece q
  pub record Link (p q : ℕ) : Type 0 where
    pub from : p < n
    pub to : q < n
    pub place : ℕ
    pub inside : place < 4
    pub names : at p place ≡ q

  -- q is p, or a chain of links leads from p to q
  pub data Reach : ℕ → ℕ → Type 0 where
    here : {p : ℕ} → Reach p p
    chain : {p q r : ℕ} → Link p q → Reach q r → Reach p r

-- ---- the same by computation: marks are widened n times

module _ (at : ℕ → ℕ → ℕ) where
  -- a place of p names a piece marked in m
  unfoldable pub hit : List Bool → ℕ → Bool
  hit m p = any (λ k. get_or m (at p k) false) 4

  -- the marks l of the pieces from p on, with those marked too that name a piece marked in m
  unfoldable pub widen_from : ℕ → List Bool → List Bool → List Bool
  widen_from p [] m = []
  widen_from p (b ∷ l) m = (b or hit m p) ∷ widen_from (suc p) l m

  unfoldable pub widen : List Bool → List Bool
  widen m = widen_from 0 m m

  unfoldable pub close : ℕ → List Bool → List Bool
  close zero m = m
  close (suc k) m = close k (widen m)

-- the marks of the pieces below n that reach t
unfoldable pub reaching : ℕ → (ℕ → ℕ → ℕ) → ℕ → List Bool
reaching n at t = close at n (set (replicate n false) t true)

unfoldable pub reachb : ℕ → (ℕ → ℕ → ℕ) → ℕ → ℕ → Bool
reachb n at p t = get_or (reaching n at t) p false
