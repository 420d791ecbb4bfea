-- The rows of refusals for names, over the capacity and the states; and a target's test.
use Rattle.std.specs.Prelude.{◌≡◌, Bool, true, false, not, List, [], ◌∷◌, ℕ, ◌≤◌, ◌<◌, eqb, ltb}
use borrow.Author.Tests.{eq-eqb, ne_eqb, lt-ltb, le-ltb}
use Rattle.rules.specs.Tests.{◌&◌, ◌or◌}
use Rattle.rules.specs.Limits.{none}
use Rattle.rules.specs.Lists.{◌!◌}
use Rattle.rules.specs.declared.Refusal.{Refusal}
use Rattle.rules.specs.declared.Refusal.TheVariants.{Number, Place, Target, Free, FreeTarget}

-- T is neither none nor below N
unfoldable pub beyond : ℕ → ℕ → Bool
beyond n t = not (eqb t none or ltb t n)

-- for a piece: 3 NUMBER, 4 FREE
unfoldable pub piece_rows : ℕ → List ℕ → ℕ → List (Bool × Refusal)
piece_rows n states p = (not (ltb p n), Number) ∷ (eqb (states ! p) 0, Free) ∷ []

-- for a piece, a place and a target: 3 NUMBER, 15 PLACE, 16 TARGET, 4 FREE, 17 FREETARGET
unfoldable pub link_rows : ℕ → List ℕ → ℕ → ℕ → ℕ → List (Bool × Refusal)
link_rows n states p k t =
    (not (ltb p n), Number) ∷ (not (ltb k 4), Place) ∷ (beyond n t, Target) ∷ (eqb (states ! p) 0, Free) ∷ (not (eqb t none) & eqb (states ! t) 0, FreeTarget) ∷ []

-- ---- a target

pub none-target : {t : ℕ} (n : ℕ) → t ≡ none → false ≡ beyond n t
unfolding beyond
none-target {t} n h = rw (eq-eqb t none h)

module _ {n t : ℕ} (d : t ≡ none → ⊥) where
  pub past_target : n ≤ t → true ≡ beyond n t
  unfolding beyond
  past_target h = rw (ne_eqb t none d, le-ltb t n h)

  pub piece_target : t < n → false ≡ beyond n t
  unfolding beyond
  piece_target h = rw (ne_eqb t none d, lt-ltb t n h)
