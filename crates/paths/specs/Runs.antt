-- Runs of the stack: each piece reaches each later one, and within a block each earlier one too.
use Rattle.std.proofs.Common.{subst, arith}
use Rattle.std.specs.Prelude.{List, ℕ, zero, suc, ◌+◌, ◌-◌, ◌≤◌, ◌<◌}
use Rattle.rules.specs.Reach.{here}
use Rattle.rules.specs.Lists.{◌!◌}
use Rattle.laws.specs.Words.{trans}
use Rattle.paths.specs.Ground.{Ground, Way}
use Rattle.paths.specs.Search.{Trail}

-- each piece on the stack reaches each later one
pub up_run : {g : Ground} {next stack starts parents : List ℕ} {size blocks : ℕ} → Trail g next stack starts parents size blocks → (p d : ℕ) → p + d < size
    → Way g (stack ! p) (stack ! (p + d))
up_run {g} {stack = stack} t p zero h = subst (λ (m : ℕ). Way g (stack ! p) (stack ! m)) (omega arith) here
up_run {g} {stack = stack} t p (suc d) h =
    trans (up_run t p d (omega arith))
    (subst (λ (m : ℕ). Way g (stack ! (p + d)) (stack ! m)) (omega arith) (t.up (p + d) (omega arith)))

pub up_to : {g : Ground} {next stack starts parents : List ℕ} {size blocks : ℕ} → Trail g next stack starts parents size blocks → (p q : ℕ) → p ≤ q → q < size
    → Way g (stack ! p) (stack ! q)
up_to {g} {stack = stack} t p q le lt = subst (λ (m : ℕ). Way g (stack ! p) (stack ! m)) (omega arith) (up_run t p (q - p) (omega arith))

-- where no block starts after p and up to p + d, the later piece reaches the earlier
pub back_run : {g : Ground} {next stack starts parents : List ℕ} {size blocks : ℕ} → Trail g next stack starts parents size blocks → (p d : ℕ) → p + d < size
    → ((i : ℕ) → i < blocks → p < starts ! i → starts ! i ≤ p + d → ⊥) → Way g (stack ! (p + d)) (stack ! p)
back_run {g} {stack = stack} t p zero h no-b = subst (λ (m : ℕ). Way g (stack ! m) (stack ! p)) (omega arith) here
back_run {g} {stack = stack} t p (suc d) h no-b =
    trans
    (subst (λ (m : ℕ). Way g (stack ! m) (stack ! (p + d))) (omega arith) (t.back (p + d) (omega arith) (λ i lt e. no-b i lt (omega arith) (omega arith))))
    (back_run t p d (omega arith) (λ i lt a b. no-b i lt a (omega arith)))

pub back_to : {g : Ground} {next stack starts parents : List ℕ} {size blocks : ℕ} → Trail g next stack starts parents size blocks → (p q : ℕ) → p ≤ q → q < size
    → ((i : ℕ) → i < blocks → p < starts ! i → starts ! i ≤ q → ⊥) → Way g (stack ! q) (stack ! p)
back_to {g} {stack = stack} t p q le lt no-b =
    subst (λ (m : ℕ). Way g (stack ! m) (stack ! p)) (omega arith) (back_run t p (q - p) (omega arith) (λ i u a b. no-b i u a (omega arith)))
