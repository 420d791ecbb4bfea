-- Whether the line of a pair is there.
use Rattle.register.specs.Order.{line_is}
use Rattle.register.specs.Adds.{and_on, and_parts}
use Rattle.register.specs.Pairs.{held_by_some, held_by_line}
use Rattle.register.specs.Found.{Found, found_is}
use Rattle.std.specs.Prelude.{◌≡◌, refl, Bool, true, false, not, List, ℕ, ◌<◌, eqb, ltb}
use Rattle.std.proofs.Common.{sym, ap, ◌∙◌, subst, ⊎_elim, arith, lt-ltb, eq-eqb, ne_eqb, eqb-true, ltb-true}
use Rattle.rules.specs.Tests.{◌&◌, only_if}
use Rattle.rules.specs.Register.{seat_at, piece_at, number_at, order, order_at, Ordered, held_by, has_line}
use Rattle.laws.specs.Numbers.{eq_or, lt_or}

pub has_told : (l : List ℕ) (i s p : ℕ) → has_line l i s p ≡ true → (0 < number_at l i) × (seat_at l i ≡ s) × (piece_at l i ≡ p)
unfolding has_line
has_told l i s p e =
    let x = and_parts (ltb 0 (number_at l i)) (eqb (seat_at l i) s & eqb (piece_at l i) p) e in
    let y = and_parts (eqb (seat_at l i) s) (eqb (piece_at l i) p) x.1 in
    (ltb-true 0 (number_at l i) x.0, eqb-true (seat_at l i) s y.0, eqb-true (piece_at l i) p y.1)

pub has_on : (l : List ℕ) (i s p : ℕ) → 0 < number_at l i → seat_at l i ≡ s → piece_at l i ≡ p → has_line l i s p ≡ true
unfolding has_line
has_on l i s p u a b = and_on (lt-ltb 0 (number_at l i) u) (and_on (eq-eqb (seat_at l i) s a) (eq-eqb (piece_at l i) p b))

pub has_off : (l : List ℕ) (i s p : ℕ) → (0 < number_at l i → seat_at l i ≡ s → piece_at l i ≡ p → ⊥) → has_line l i s p ≡ false
has_off l i s p f = go (has_line l i s p) refl
  where
    go : (b : Bool) → has_line l i s p ≡ b → b ≡ false
    go true e = let x = has_told l i s p e in absurd (f x.0 x.1 x.2)
    go false e = refl

module _ (l : List ℕ) (o : Ordered l) (s p r : ℕ) (f : Found l s p r) where
  pub has_held : has_line l r s p ≡ true → held_by l s p ≡ number_at l r
  has_held e = let x = has_told l r s p e in held_by_line l s p o r x.0 x.1 x.2

  -- a pair with a number has its line here
  pub held_has : 0 < held_by l s p → has_line l r s p ≡ true
  held_has h =
      let w = held_by_some l s p h in
      let e : w.0 ≡ r = found_is l o s p r w.0 f w.1 w.2 w.3 in
      subst (λ (i : ℕ). has_line l i s p ≡ true) e (has_on l w.0 s p w.1 w.2 w.3)

  pub has_none : has_line l r s p ≡ false → held_by l s p ≡ 0
  has_none e = ⊎_elim (λ h. let t = held_has h in let z : ◌≡◌ {A = ℕ} 0 1 = cc in absurd (omega arith)) (λ h. omega arith) (lt_or 0 (held_by l s p))

  -- where it has none, the next used line is behind it
  pub has_behind : p < 65536 → has_line l r s p ≡ false → 0 < number_at l r → order s p < order_at l r
  has_behind k e u =
      ⊎_elim
      (λ x. let w = line_is l o r s p k (sym x) in let t = has_on l r s p u w.0 w.1 in let z : ◌≡◌ {A = ℕ} 0 1 = cc in absurd (omega arith))
      (λ d. omega (arith, d, f.here u))
      (eq_or (order s p) (order_at l r))

-- ---- the number of a line, 0 where it is not the pair's

module _ (l : List ℕ) (i s p : ℕ) {k : ℕ} (e : k ≡ only_if (has_line l i s p) (number_at l i)) where
  by_test : (b : Bool) → has_line l i s p ≡ b → k ≡ only_if b (number_at l i)
  by_test b t = e ∙ ap (λ (x : Bool). only_if x (number_at l i)) t

  pub number_has : not (eqb k 0) ≡ has_line l i s p
  number_has = go (has_line l i s p) refl
    where
      go : (b : Bool) → has_line l i s p ≡ b → not (eqb k 0) ≡ has_line l i s p
      go true t = let u = (has_told l i s p t).0 in ap not (ne_eqb k 0 (λ z. omega (arith, by_test true t))) ∙ sym t
      go false t = ap not (eq-eqb k 0 (by_test false t)) ∙ sym t

  pub number_held : Ordered l → Found l s p i → k ≡ held_by l s p
  number_held o f = go (has_line l i s p) refl
    where
      go : (b : Bool) → has_line l i s p ≡ b → k ≡ held_by l s p
      go true t = by_test true t ∙ sym (has_held l o s p i f t)
      go false t = by_test false t ∙ sym (has_none l o s p i f t)
