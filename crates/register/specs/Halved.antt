-- What the two halvings find: the number of used lines, and the line of a pair.
use Rattle.register.specs.Adds.{and_on, and_parts}
use Rattle.register.specs.Found.{Found, Used}
use Rattle.register.specs.Halves.{before_true}
use Rattle.register.specs.Lines.{line_at, before, up_to}
use Rattle.register.specs.Order.{number_past, used_below, used_down, order_up, order_on}
use Rattle.register.specs.Points.{Fronts, PointSaid}
use Rattle.std.specs.Prelude.{◌≡◌, Bool, true, false, not, List, ℕ, ◌+◌, ◌-◌, ◌≤◌, ◌<◌, eqb, ltb, leb, get_or}
use Rattle.std.proofs.Common.{sym, ap, ap₂, ◌∙◌, subst, ⊎_elim, arith, lt-ltb, le-leb, ltb-true, leb-true}
use Rattle.std.proofs.lemmas.Bool.Decides.{nat_tests}
use Rattle.rules.specs.Tests.{◌&◌}
use Rattle.rules.specs.Limits.{lines}
use Rattle.rules.specs.Register.{number_at, order, order_at, Ordered, is_before}
use Rattle.laws.specs.Numbers.{eq_or, lt_or}

-- a line is used
abbrev pub in_use : List ℕ → Bool
in_use x = not (eqb (get_or x 2 0) 0)

used_on : (k : ℕ) → not (eqb k 0) ≡ true → 0 < k
used_on k e = grind (arith, nat_tests)

used_off : (k : ℕ) → not (eqb k 0) ≡ false → k ≡ 0
used_off k e = grind (arith, nat_tests)

on_used : (k : ℕ) → 0 < k → not (eqb k 0) ≡ true
on_used k h = grind (arith, nat_tests)

-- an order that is not 0 and at most k
up_on : (a k : ℕ) → (ltb 0 a & leb a k) ≡ true → (0 < a) × (a ≤ k)
up_on a k e = let w = and_parts (ltb 0 a) (leb a k) e in (ltb-true 0 a w.0, leb-true a k w.1)

on_up : (a k : ℕ) → 0 < a → a ≤ k → (ltb 0 a & leb a k) ≡ true
on_up a k h g = and_on (lt-ltb 0 a h) (le-leb a k g)

up_off : (a k : ℕ) → (ltb 0 a & leb a k) ≡ false → 0 < a → k < a
up_off a k e h = ⊎_elim (λ g. g) (λ g. let x = on_up a k h g in let z : ◌≡◌ {A = ℕ} 0 1 = cc in absurd (omega arith)) (lt_or k a)

module _ {l : List ℕ} (o : Ordered l) where
  -- ---- the number of used lines

  pub fronts_used : Fronts l in_use
  fronts_used = record {
    used = λ i h g e. used_on (number_at l i) e;
    down = λ i j h g k e. on_used (number_at l i) (used_down l o i j g (used_on (number_at l j) e));
  }

  pub none_used : number_at l 0 ≡ 0 → Used l 0
  none_used e = record { most = omega arith; before = λ i h. absurd (omega arith); here = e }

  pub some_used : {r : ℕ} → (number_at l 0 ≡ 0 → ⊥) → PointSaid l in_use r → Used l (1 + r)
  some_used {r} d w = record {
    most = omega (arith, w.most);
    before = λ i h. ⊎_elim (λ e. omega (arith, d, ap (number_at l) e)) (λ e. used_on (number_at l i) (w.front i (omega (arith, e)) (omega arith))) (eq_or i 0);
    here = ⊎_elim (λ h. used_off (number_at l (1 + r)) (w.rest (1 + r) (omega arith) h)) (λ h. number_past l o.size (1 + r) h) (lt_or (1 + r) lines);
  }

  -- ---- the line of a pair

  used_behind : (i : ℕ) → 0 < i → 0 < order_at l i → 0 < number_at l i
  used_behind i h u = ⊎_elim (λ v. v) (λ v. absurd (omega (arith, (o.zeros i (omega arith)).0, (o.zeros i (omega arith)).1))) (lt_or 0 (number_at l i))

  pub fronts_pair : (k : ℕ) → Fronts l (λ x. up_to x k)
  fronts_pair k = record {
    used = λ i h g e. used_behind i h (up_on (order_at l i) k e).0;
    down = λ i j h g b e.
        let w = up_on (order_at l j) k e in
        let u = used_behind j (omega arith) w.0 in
        on_up (order_at l i) k (omega (arith, order_up l o 0 i h (used_down l o i j g u))) (omega (arith, order_on l o i j g u, w.1));
  }

  module _ (s p : ℕ) where
    pub some_pair : (k : ℕ) {r : ℕ} → is_before l (order s p) 0 ≡ true → k ≡ order s p - 1 → PointSaid l (λ x. up_to x k) r → Found l s p (1 + r)
    some_pair k {r} e t w =
        let q : k + 1 ≡ order s p = omega (arith, t, (before_true l 0 (order s p) e).1) in
        record {
          most = omega (arith, w.most);
          before = λ i h. ⊎_elim
              (λ x. subst (λ (j : ℕ). (0 < number_at l j) × (order_at l j < order s p)) (sym x) (before_true l 0 (order s p) e))
              (λ x. let v = up_on (order_at l i) k (w.front i (omega (arith, x)) (omega arith)) in (used_behind i (omega (arith, x)) v.0, omega (arith, v.1, q)))
              (eq_or i 0);
          here = λ u. omega (arith, q, up_off (order_at l (1 + r)) k (w.rest (1 + r) (omega arith) (used_below l o (1 + r) u)) (omega (arith, order_up l o 0 (1 + r) (omega arith) u)));
        }

    -- the test on the first line, as the code makes it
    pub first_told : {x : List ℕ} {k : ℕ} {t : Bool} → t ≡ before x k → x ≡ line_at l 0 → k ≡ order s p → is_before l (order s p) 0 ≡ t
    unfolding is_before
    first_told e f g = sym (e ∙ ap₂ before f g)
