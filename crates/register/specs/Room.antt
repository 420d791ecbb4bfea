-- Room for one hold more: the pair has a line, or the last line is free.
use Rattle.std.specs.Prelude.{◌≡◌, ◌⊎◌, Bool, true, false, not, List, ℕ, ◌<◌, T, eqb}
use Rattle.std.proofs.Common.{sym, subst, inl, inr, arith, eq-eqb, ne_eqb, le-ltb, ltb-false}
use Rattle.rules.specs.Tests.{◌&◌}
use Rattle.rules.specs.Register.{number_at, held_by, is_full}
use Rattle.laws.specs.Numbers.{eq_or}

abbrev pub Room : List ℕ → ℕ → ℕ → Type 0
Room l s p = T (not (eqb (held_by l s p) 0 & is_full l))

-- ---- a free line, told by its number

pub full_not : (l : List ℕ) → number_at l 1023 ≡ 0 → is_full l ≡ false
unfolding is_full
full_not l e = le-ltb 0 (number_at l 1023) (omega arith)

pub free_last : (l : List ℕ) → is_full l ≡ false → number_at l 1023 ≡ 0
unfolding is_full
free_last l e = omega (arith, ltb-false 0 (number_at l 1023) e)

-- ---- room

both : (a b : Bool) → a ≡ true → T (not (a & b)) → b ≡ false
both true true e t = absurd t
both true false e t = cc
both false b e t = let z : ◌≡◌ {A = ℕ} 0 1 = cc in absurd (omega arith)

first : (a b : Bool) → a ≡ false → T (not (a & b))
first a b e = subst (λ (x : Bool). T (not (x & b))) (sym e) tt

second : (a b : Bool) → b ≡ false → T (not (a & b))
second true b e = subst (λ (x : Bool). T (not x)) (sym e) tt
second false b e = tt

-- where the pair has no line, the last one is free
pub room_free : (l : List ℕ) (s p : ℕ) → Room l s p → held_by l s p ≡ 0 → number_at l 1023 ≡ 0
room_free l s p t e = free_last l (both (eqb (held_by l s p) 0) (is_full l) (eq-eqb (held_by l s p) 0 e) t)

-- the pair has a line
pub room_has : (l : List ℕ) (s p : ℕ) → 0 < held_by l s p → Room l s p
room_has l s p h = first (eqb (held_by l s p) 0) (is_full l) (ne_eqb (held_by l s p) 0 (λ e. omega arith))

-- the last line is free
pub room_last : (l : List ℕ) (s p : ℕ) → number_at l 1023 ≡ 0 → Room l s p
room_last l s p e = second (eqb (held_by l s p) 0) (is_full l) (full_not l e)

-- room is one or the other
pub room_by : (l : List ℕ) (s p : ℕ) → (held_by l s p ≡ 0 → number_at l 1023 ≡ 0) → Room l s p
room_by l s p f = go (eq_or (held_by l s p) 0)
  where
    go : (held_by l s p ≡ 0) ⊎ (held_by l s p ≡ 0 → ⊥) → Room l s p
    go (inl e) = room_last l s p (f e)
    go (inr d) = room_has l s p (omega (arith, d))
