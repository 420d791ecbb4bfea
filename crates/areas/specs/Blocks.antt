-- A block of numbers that is looked at as a whole: whether one of them is free.
use Rattle.std.specs.Prelude.{◌≡◌, Bool, true, false, List, ℕ, ◌+◌, ◌-◌, ◌<◌, get_or}
use Rattle.std.proofs.Common.{sym, subst, ⊎_elim, arith}
use Rattle.laws.specs.Numbers.{lt_or}
use Rattle.areas.specs.Lowest.{NoneFree}

-- r is false only if none of the k numbers from a on is free
pub record Shows (states : List ℕ) (a k : ℕ) (r : Bool) : Type 0 where
  pub seen : (i : ℕ) → i < k → get_or states (a + i) 0 ≡ 0 → r ≡ true

-- a block that shows none has none
pub shows-none : {states : List ℕ} {a k : ℕ} {r : Bool} → Shows states a k r → r ≡ false → (i : ℕ) → i < k → get_or states (a + i) 0 ≡ 0 → ⊥
shows-none d e i l x = let y = d.seen i l x in let z : ◌≡◌ {A = ℕ} 0 1 = cc in omega arith

-- nothing below the next block is free
pub block_past : {states : List ℕ} {a k : ℕ} {r : Bool} → NoneFree states a → Shows states a k r → r ≡ false → NoneFree states (a + k)
block_past {states} {a} h d e q l x =
    ⊎_elim
    (λ y. h q y x)
    (λ y.
    let i : a + (q - a) ≡ q = omega arith in
    shows-none d e (q - a) (omega arith) (subst (λ (j : ℕ). get_or states j 0 ≡ 0) (sym i) x))
    (lt_or q a)
