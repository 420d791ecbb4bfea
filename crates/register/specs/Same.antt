-- Two ordered registers with the same number for every pair are the same list.
use Rattle.register.specs.Order.{order-one, used_down, order_up, order_on}
use Rattle.register.specs.Pairs.{held_by_some, held_by_line}
use Rattle.register.specs.Moves.{SameLine}
use Rattle.std.specs.Prelude.{◌≡◌, refl, ◌⊎◌, List, ℕ, zero, suc, ◌+◌, ◌*◌, ◌/◌, ◌%◌, ◌≤◌, ◌<◌, length, get_or}
use Rattle.std.proofs.Common.{sym, ◌∙◌, subst, inl, inr, ⊎_elim, arith, ext_get_or}
use Rattle.rules.specs.Limits.{lines, entries}
use Rattle.rules.specs.Register.{seat_at, piece_at, number_at, order_at, Ordered, held_by}
use Rattle.laws.specs.Numbers.{lt_or}

-- ---- lines make the list

same_entry : (l m : List ℕ) (i d : ℕ) → SameLine l i m i → d < 3 → get_or l (3 * i + d) 0 ≡ get_or m (3 * i + d) 0
unfolding seat_at piece_at number_at
same_entry l m i zero e h = let x : 3 * i ≡ 3 * i + 0 = omega arith in subst (λ (a : ℕ). get_or l a 0 ≡ get_or m a 0) x e.seats
same_entry l m i (suc zero) e h = e.pieces
same_entry l m i (suc (suc zero)) e h = e.numbers
same_entry l m i (suc (suc (suc d))) e h = absurd (omega arith)

pub same_list_lem : (l m : List ℕ) → length l ≡ entries → length m ≡ entries → ((i : ℕ) → i < lines → SameLine l i m i) → l ≡ m
same_list_lem l m y z e =
    ext_get_or 0 l m (y ∙ sym z)
    (λ j h. let x : 3 * (j / 3) + j % 3 ≡ j = omega arith in subst (λ (a : ℕ). get_or l a 0 ≡ get_or m a 0) x (same_entry l m (j / 3) (j % 3) (e (j / 3) (omega arith)) (omega arith)))

-- ---- the numbers make the lines

-- the lines below i are the same; each pair with a number in l has it in m
module _ (l m : List ℕ) (o : Ordered l) (q : Ordered m) (e : (s p : ℕ) → held_by l s p ≡ held_by m s p) (i : ℕ) (b : (j : ℕ) → j < i → SameLine l j m j) where
  -- a used line i of l stands in m at i or behind
  there : 0 < number_at l i → (j : ℕ) × (i ≤ j) × (0 < number_at m j) × (seat_at m j ≡ seat_at l i) × (piece_at m j ≡ piece_at l i)
  there u =
      let w = held_by_some m (seat_at l i) (piece_at l i) (omega (arith, e (seat_at l i) (piece_at l i), held_by_line l (seat_at l i) (piece_at l i) o i u refl refl)) in
      (w.0, ⊎_elim (λ h. absurd (omega (arith, order_up l o w.0 i h u, (b w.0 h).seats, (b w.0 h).pieces, w.2, w.3))) (λ h. h) (lt_or w.0 i), w.1, w.2, w.3)

  pub used_there : 0 < number_at l i → (0 < number_at m i) × (order_at m i ≤ order_at l i)
  used_there u =
      let w = there u in
      (used_down m q i w.0 w.1 w.2, omega (arith, order_on m q i w.0 w.1 w.2, w.3, w.4))

module _ (l m : List ℕ) (o : Ordered l) (q : Ordered m) (e : (s p : ℕ) → held_by l s p ≡ held_by m s p) where
  same_flip : {j : ℕ} → SameLine l j m j → SameLine m j l j
  same_flip x = record { seats = sym x.seats; pieces = sym x.pieces; numbers = sym x.numbers }

  same_at : (i : ℕ) → ((j : ℕ) → j < i → SameLine l j m j) → SameLine l i m i
  same_at i b = go (lt_or 0 (number_at l i)) (lt_or 0 (number_at m i))
    where
      right : 0 < number_at l i → (0 < number_at m i) × (order_at m i ≤ order_at l i)
      right = used_there l m o q e i b

      left : 0 < number_at m i → (0 < number_at l i) × (order_at l i ≤ order_at m i)
      left = used_there m l q o (λ s p. sym (e s p)) i (λ j h. same_flip (b j h))

      go : (0 < number_at l i) ⊎ (number_at l i ≤ 0) → (0 < number_at m i) ⊎ (number_at m i ≤ 0) → SameLine l i m i
      go (inl u) (inl v) =
          let x : order_at l i ≡ order_at m i = omega (arith, (right u).1, (left v).1) in
          let w = order-one (seat_at l i) (piece_at l i) (seat_at m i) (piece_at m i) (o.wide i) (q.wide i) x in
          record {
            seats = w.0;
            pieces = w.1;
            numbers = sym (held_by_line l (seat_at l i) (piece_at l i) o i u refl refl) ∙ e (seat_at l i) (piece_at l i) ∙ held_by_line m (seat_at l i) (piece_at l i) q i v (sym w.0) (sym w.1);
          }
      go (inl u) (inr v) = absurd (omega (arith, (right u).0))
      go (inr u) (inl v) = absurd (omega (arith, (left v).0))
      go (inr u) (inr v) =
          let x : number_at l i ≡ 0 = omega arith in
          let y : number_at m i ≡ 0 = omega arith in
          record { seats = (o.zeros i x).0 ∙ sym (q.zeros i y).0; pieces = (o.zeros i x).1 ∙ sym (q.zeros i y).1; numbers = x ∙ sym y }

  same_below : (k i : ℕ) → i < k → SameLine l i m i
  same_below zero i h = absurd (omega arith)
  same_below (suc k) i h = same_at i (λ j g. same_below k j (omega arith))

  pub same_register : l ≡ m
  same_register = same_list_lem l m o.size q.size (λ i h. same_below lines i h)
