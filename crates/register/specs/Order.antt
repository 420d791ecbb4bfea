-- What an ordered register says of its lines: used ones come before unused ones, and no pair has two lines.
use Rattle.std.specs.Prelude.{◌≡◌, ◌⊎◌, List, ℕ, zero, suc, ◌+◌, ◌-◌, ◌≤◌, ◌<◌, length}
use Rattle.std.proofs.Common.{sym, ap, subst, inl, inr, ⊎_elim, arith}
use Rattle.std.proofs.Math.ListN.{get_or-eq_default}
use Rattle.rules.specs.Limits.{lines, entries}
use Rattle.rules.specs.Register.{seat_at, piece_at, number_at, order, order_at, Ordered}
use Rattle.laws.specs.Numbers.{eq_or, lt_or}

-- ---- past the end every entry reads as 0

module _ (l : List ℕ) (z : length l ≡ entries) (i : ℕ) (h : lines ≤ i) where
  pub number_past : number_at l i ≡ 0
  unfolding number_at
  number_past = get_or-eq_default l 0 (omega arith)

  pub seat_past : seat_at l i ≡ 0
  unfolding seat_at
  seat_past = get_or-eq_default l 0 (omega arith)

  pub piece_past : piece_at l i ≡ 0
  unfolding piece_at
  piece_past = get_or-eq_default l 0 (omega arith)

-- seat and piece are told by the key
pub order-one : (s p t q : ℕ) → p < 65536 → q < 65536 → order s p ≡ order t q → (s ≡ t) × (p ≡ q)
order-one s p t q h k e = (omega arith, omega arith)

-- the order is by seat, then by piece
pub order_less : (s p t q : ℕ) → p < 65536 → q < 65536 → order s p < order t q → (s < t) ⊎ ((s ≡ t) × (p < q))
order_less s p t q h k e = ⊎_elim (λ u. inl u) (λ u. inr (omega arith, omega arith)) (lt_or s t)

pub less_order : (s p t q : ℕ) → p < 65536 → (s < t) ⊎ ((s ≡ t) × (p < q)) → order s p < order t q
less_order s p t q h (inl u) = omega arith
less_order s p t q h (inr u) = omega (arith, u.0, u.1)

module _ (l : List ℕ) (o : Ordered l) where
  -- a used line is one of the 1,024
  pub used_below : (i : ℕ) → 0 < number_at l i → i < lines
  used_below i u = ⊎_elim (λ h. h) (λ h. absurd (omega (arith, number_past l o.size i h))) (lt_or i lines)

  used_back : (d i : ℕ) → 0 < number_at l (i + d) → 0 < number_at l i
  used_back zero i u = subst (λ (j : ℕ). 0 < number_at l j) (let x : i + 0 ≡ i = omega arith in x) u
  used_back (suc d) i u = used_back d i (o.first (i + d) (subst (λ (j : ℕ). 0 < number_at l j) (let x : i + suc d ≡ i + d + 1 = omega arith in x) u))

  -- the lines before a used line are used
  pub used_down : (i j : ℕ) → i ≤ j → 0 < number_at l j → 0 < number_at l i
  used_down i j h u = used_back (j - i) i (let x : j ≡ i + (j - i) = omega arith in subst (λ (a : ℕ). 0 < number_at l a) x u)

  order_back : (d i : ℕ) → 0 < number_at l (i + d + 1) → order_at l i < order_at l (i + d + 1)
  order_back zero i u = let x : i + 1 ≡ i + 0 + 1 = omega arith in subst (λ (j : ℕ). 0 < number_at l j → order_at l i < order_at l j) x (o.rising i) u
  order_back (suc d) i u =
      let x : i + d + 1 + 1 ≡ i + suc d + 1 = omega arith in
      subst (λ (j : ℕ). 0 < number_at l j → order_at l i < order_at l j) x (λ v. omega (arith, o.rising (i + d + 1) v, order_back d i (o.first (i + d + 1) v))) u

  -- and stand before it
  pub order_up : (i j : ℕ) → i < j → 0 < number_at l j → order_at l i < order_at l j
  order_up i j h u =
      let x : j ≡ i + (j - i - 1) + 1 = omega arith in
      subst (λ (a : ℕ). order_at l i < order_at l a) (sym x) (order_back (j - i - 1) i (subst (λ (a : ℕ). 0 < number_at l a) x u))

  pub order_on : (i j : ℕ) → i ≤ j → 0 < number_at l j → order_at l i ≤ order_at l j
  order_on i j h u = ⊎_elim (λ e. omega (arith, ap (order_at l) e)) (λ d. omega (arith, order_up i j (omega (arith, d)) u)) (eq_or i j)

  -- no pair has two lines
  pub one_line : (i j : ℕ) → 0 < number_at l i → 0 < number_at l j → order_at l i ≡ order_at l j → i ≡ j
  one_line i j u v e =
      ⊎_elim
      (λ h. absurd (omega (arith, order_up i j h v)))
      (λ h. ⊎_elim (λ k. absurd (omega (arith, order_up j i k u))) (λ k. omega arith) (lt_or j i))
      (lt_or i j)

  -- a line's key tells its seat and piece
  pub line_is : (i s p : ℕ) → p < 65536 → order_at l i ≡ order s p → (seat_at l i ≡ s) × (piece_at l i ≡ p)
  line_is i s p h e = order-one (seat_at l i) (piece_at l i) s p (o.wide i) h e
