-- An answer that decides a statement, and passes over all pieces.
use Rattle.std.specs.Prelude.{◌≡◌, refl, Bool, true, false, ℕ, ◌<◌, T, eqb}
use Rattle.std.proofs.Common.{sym, ◌∙◌, subst, arith, eqb-true}
use Rattle.std.proofs.lemmas.Bool.{eqb-false}

-- r is yes exactly if P holds
pub record Truthful (P : Type 0) (r : Bool) : Type 0 where
  pub yes : r ≡ true → P
  pub no : r ≡ false → P → ⊥

apart : true ≡ false → ⊥
apart e = let z : ◌≡◌ {A = ℕ} 0 1 = cc in omega arith

pub tells_yes : {P : Type 0} → P → Truthful P true
tells_yes p = record { yes = λ _. p; no = λ e. absurd (apart e) }

pub tells_no : {P : Type 0} → (P → ⊥) → Truthful P false
tells_no f = record { yes = λ e. absurd (apart (sym e)); no = λ _. f }

pub tells_eq : {P : Type 0} (a b : ℕ) → (a ≡ b → P) → (P → a ≡ b) → Truthful P (eqb a b)
tells_eq a b f g = record { yes = λ e. f (eqb-true a b e); no = λ e p. eqb-false a b e (g p) }

-- an answer that is no gives anything that a yes would
pub never : {A : Type 0} → false ≡ true → A
never e = absurd (apart (sym e))

-- the same statement in other words
pub tells_same : {P Q : Type 0} {r : Bool} → (P → Q) → (Q → P) → Truthful P r → Truthful Q r
tells_same f g s = record { yes = λ e. f (s.yes e); no = λ e q. s.no e (g q) }

-- P at every number below k
abbrev pub Below : (ℕ → Type 0) → ℕ → Type 0
Below P k = (p : ℕ) → p < k → P p

-- one answer only
pub tells_is : {P : Type 0} {r : Bool} (t : Bool) → (T t → P) → (P → T t) → Truthful P r → r ≡ t
tells_is {P} {r} t f g s = go r t refl refl
  where
    go : (x y : Bool) → r ≡ x → t ≡ y → r ≡ t
    go true true d e = d ∙ sym e
    go true false d e = absurd (subst T e (g (s.yes d)))
    go false true d e = absurd (s.no d (f (subst T (sym e) tt)))
    go false false d e = d ∙ sym e
