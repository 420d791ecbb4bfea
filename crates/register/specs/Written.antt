-- Three entries written, and the zeros behind an unused line.
use Rattle.register.specs.Order.{used_down}
use Rattle.std.specs.Prelude.{◌≡◌, List, length, set}
use Rattle.std.proofs.Common.{◌∙◌, ⊎_elim, length-set, get_or-set_same, get_or-set_other}
use Rattle.std.proofs.Math.Path.{subst}
use Prim.Native.Nat.{ℕ, zero, suc, ◌+◌, ◌*◌, ◌/◌, ◌%◌, ◌≤◌, ◌<◌}
use native.Mathlib.Omega.{arith}
use Rattle.std.proofs.Math.ListN.{get_or}
use Rattle.rules.specs.Register.{seat_at, piece_at, number_at, Ordered}
use Rattle.laws.specs.Numbers.{lt_or}

-- ---- from an unused line on all entries are 0

module _ (l : List ℕ) (o : Ordered l) (u : ℕ) (w : number_at l u ≡ 0) where
  unused-line : (i : ℕ) → u ≤ i → number_at l i ≡ 0
  unused-line i h = ⊎_elim (λ g. absurd (omega (arith, used_down l o u i h g))) (λ g. omega arith) (lt_or 0 (number_at l i))

  zero_entry : (i d : ℕ) → u ≤ i → d < 3 → get_or l (3 * i + d) 0 ≡ 0
  unfolding seat_at piece_at number_at
  zero_entry i zero h g = let x : 3 * i ≡ 3 * i + 0 = omega arith in subst (λ (a : ℕ). get_or l a 0 ≡ 0) x (o.zeros i (unused-line i h)).0
  zero_entry i (suc zero) h g = (o.zeros i (unused-line i h)).1
  zero_entry i (suc (suc zero)) h g = unused-line i h
  zero_entry i (suc (suc (suc d))) h g = absurd (omega arith)

  pub rest-zero : (k : ℕ) → 3 * u ≤ k → get_or l k 0 ≡ 0
  rest-zero k h = let x : 3 * (k / 3) + k % 3 ≡ k = omega arith in subst (λ (a : ℕ). get_or l a 0 ≡ 0) x (zero_entry (k / 3) (k % 3) (omega arith) (omega arith))

-- ---- three entries written

module _ (m : List ℕ) (a x y z : ℕ) where
  abbrev pub line : List ℕ
  line = set (set (set m a x) (a + 1) y) (a + 2) z

  pub line_size : length line ≡ length m
  line_size = length-set (set (set m a x) (a + 1) y) (a + 2) z ∙ length-set (set m a x) (a + 1) y ∙ length-set m a x

  pub line_other : (k : ℕ) → (k ≡ a → ⊥) → (k ≡ a + 1 → ⊥) → (k ≡ a + 2 → ⊥) → get_or line k 0 ≡ get_or m k 0
  line_other k d e f = get_or-set_other (set (set m a x) (a + 1) y) (a + 2) k z 0 f ∙ get_or-set_other (set m a x) (a + 1) k y 0 e ∙ get_or-set_other m a k x 0 d

  module _ (h : a + 2 < length m) where
    pub line_first : get_or line a 0 ≡ x
    line_first =
        get_or-set_other (set (set m a x) (a + 1) y) (a + 2) a z 0 (λ e. omega arith) ∙ get_or-set_other (set m a x) (a + 1) a y 0 (λ e. omega arith)
        ∙ get_or-set_same m a x 0 (omega arith)

    pub line_second : get_or line (a + 1) 0 ≡ y
    line_second = get_or-set_other (set (set m a x) (a + 1) y) (a + 2) (a + 1) z 0 (λ e. omega arith) ∙ get_or-set_same (set m a x) (a + 1) y 0 (omega (arith, length-set m a x))

    pub line_third : get_or line (a + 2) 0 ≡ z
    line_third = get_or-set_same (set (set m a x) (a + 1) y) (a + 2) z 0 (omega (arith, length-set (set m a x) (a + 1) y, length-set m a x))
