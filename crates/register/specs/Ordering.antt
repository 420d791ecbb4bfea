-- A line comes in where it belongs, or goes: the order is kept.
use Rattle.register.specs.Order.{used_down, order_up}
use Rattle.register.specs.Moves.{SameLine, Inserted}
use Rattle.std.specs.Prelude.{◌≡◌, List, ℕ, ◌+◌, ◌-◌, ◌≤◌, ◌<◌}
use Rattle.std.proofs.Common.{sym, ap, ◌∙◌, subst, ⊎_elim, arith}
use Rattle.rules.specs.Register.{seat_at, piece_at, number_at, order, order_at, Ordered}
use Rattle.laws.specs.Numbers.{eq_or, lt_or}

module _ {l : List ℕ} {i s p k : ℕ} {m : List ℕ} (n : Inserted l i s p k m) where
  -- where line j of m comes from
  data Origin (j : ℕ) : Type 0 where
    front : j < i → SameLine m j l j → Origin j
    comes : j ≡ i → Origin j
    back : (a : ℕ) → j ≡ a + 1 → i ≤ a → SameLine m j l a → Origin j

  origin : (j : ℕ) → Origin j
  origin j = ⊎_elim (λ h. front h (n.before j h)) (λ h. ⊎_elim (λ e. comes e) (λ d. last h (omega (arith, d))) (eq_or j i)) (lt_or j i)
    where
      last : i ≤ j → i < j → Origin j
      last h g = let e : j ≡ j - 1 + 1 = omega arith in back (j - 1) e (omega arith) (subst (λ (x : ℕ). SameLine m x l (j - 1)) (sym e) (n.behind (j - 1) (omega arith)))

  -- ... and where line j of l goes
  data Target (j : ℕ) : Type 0 where
    stays : j < i → SameLine m j l j → Target j
    moves : i ≤ j → SameLine m (j + 1) l j → Target j

  target : (j : ℕ) → Target j
  target j = ⊎_elim (λ h. stays h (n.before j h)) (λ h. moves h (n.behind j h)) (lt_or j i)

  module _ (o : Ordered l) (h : 0 < k) (w : p < 65536) (pre : (j : ℕ) → j < i → (0 < number_at l j) × (order_at l j < order s p)) (post : 0 < number_at l i → order s p < order_at l i) where
    first_on : (j : ℕ) → Origin j → 0 < number_at m (j + 1) → 0 < number_at m j
    first_on j (front g e) u = omega (arith, e.numbers, (pre j g).0)
    first_on j (comes e) u = omega (arith, ap (number_at m) e, n.line-number)
    first_on j (back a e g q) u =
        let b = n.behind j (omega arith) in
        omega (arith, q.numbers, o.first a (omega (arith, b.numbers, ap (number_at l) e)))

    rising_on : (j : ℕ) → Origin j → 0 < number_at m (j + 1) → order_at m j < order_at m (j + 1)
    rising_on j (front g e) u =
        ⊎_elim
        (λ x. let b = n.before (j + 1) x in omega (arith, e.seats, e.pieces, b.seats, b.pieces, o.rising j (omega (arith, b.numbers))))
        (λ x. let y : j + 1 ≡ i = omega arith in omega (arith, e.seats, e.pieces, ap (seat_at m) y, ap (piece_at m) y, n.line_seat, n.line_piece, (pre j g).1))
        (lt_or (j + 1) i)
    rising_on j (comes e) u =
        let b = n.behind j (omega arith) in
        omega (arith, b.seats, b.pieces, ap (seat_at m) e, ap (piece_at m) e, ap (seat_at l) e, ap (piece_at l) e, n.line_seat, n.line_piece, post (omega (arith, b.numbers, ap (number_at l) e)))
    rising_on j (back a e g q) u =
        let b = n.behind j (omega arith) in
        omega (arith, q.seats, q.pieces, b.seats, b.pieces, order_up l o a j (omega arith) (omega (arith, b.numbers)))

    zeros_on : (j : ℕ) → Origin j → number_at m j ≡ 0 → (seat_at m j ≡ 0) × (piece_at m j ≡ 0)
    zeros_on j (front g e) z = let y = o.zeros j (omega (arith, e.numbers)) in (e.seats ∙ y.0, e.pieces ∙ y.1)
    zeros_on j (comes e) z = absurd (omega (arith, ap (number_at m) e, n.line-number))
    zeros_on j (back a e g q) z = let y = o.zeros a (omega (arith, q.numbers)) in (q.seats ∙ y.0, q.pieces ∙ y.1)

    wide_on : (j : ℕ) → Origin j → piece_at m j < 65536
    wide_on j (front g e) = omega (arith, e.pieces, o.wide j)
    wide_on j (comes e) = omega (arith, ap (piece_at m) e, n.line_piece)
    wide_on j (back a e g q) = omega (arith, q.pieces, o.wide a)

    -- a line that comes in where it belongs
    pub ordered_inserted : Ordered m
    ordered_inserted = record {
      size = n.size ∙ o.size;
      first = λ j. first_on j (origin j);
      rising = λ j. rising_on j (origin j);
      zeros = λ j. zeros_on j (origin j);
      wide = λ j. wide_on j (origin j);
    }

  -- the register without the line
  module _ (o : Ordered m) where
    -- two lines of l are two lines of m in the same order
    two : (j : ℕ) → Target j → Target (j + 1) → (a b : ℕ) × (a < b) × SameLine m a l j × SameLine m b l (j + 1)
    two j (stays g e) (stays g' e') = (j, j + 1, omega arith, e, e')
    two j (stays g e) (moves g' e') = (j, j + 1 + 1, omega arith, e, e')
    two j (moves g e) (stays g' e') = absurd (omega arith)
    two j (moves g e) (moves g' e') = (j + 1, j + 1 + 1, omega arith, e, e')

    pub ordered_removed : Ordered l
    ordered_removed = record {
      size = sym n.size ∙ o.size;
      first = λ j u.
          let t = two j (target j) (target (j + 1)) in
          omega (arith, t.3.numbers, used_down m o t.0 t.1 (let x = t.2 in omega arith) (omega (arith, t.4.numbers)));
      rising = λ j u.
          let t = two j (target j) (target (j + 1)) in
          omega (arith, t.3.seats, t.3.pieces, t.4.seats, t.4.pieces, order_up m o t.0 t.1 t.2 (omega (arith, t.4.numbers)));
      zeros = λ j z. zeros_in j (target j) z;
      wide = λ j. wide_in j (target j);
    }
      where
        zeros_in : (j : ℕ) → Target j → number_at l j ≡ 0 → (seat_at l j ≡ 0) × (piece_at l j ≡ 0)
        zeros_in j (stays g e) z = let y = o.zeros j (omega (arith, e.numbers)) in (sym e.seats ∙ y.0, sym e.pieces ∙ y.1)
        zeros_in j (moves g e) z = let y = o.zeros (j + 1) (omega (arith, e.numbers)) in (sym e.seats ∙ y.0, sym e.pieces ∙ y.1)

        wide_in : (j : ℕ) → Target j → piece_at l j < 65536
        wide_in j (stays g e) = omega (arith, e.pieces, o.wide j)
        wide_in j (moves g e) = omega (arith, e.pieces, o.wide (j + 1))
