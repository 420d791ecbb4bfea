-- The test for a right register says what the words say.
use Rattle.register.specs.Order.{number_past, seat_past, piece_past}
use Rattle.std.specs.Prelude.{◌≡◌, refl, ◌⊎◌, Bool, true, false, not, List, ℕ, ◌+◌, ◌≤◌, ◌<◌, length}
use Rattle.std.proofs.Common.{sym, inl, inr, arith, ne_eqb, lt→ltb, le→leb}
use Rattle.std.proofs.Math.Path.{subst}
use Rattle.std.proofs.Math.Logic.{⊎_elim}
use Rattle.std.proofs.Math.Dec.{T, eqb, ltb, leb, eqb→eq, ltb→lt, leb→le, eqb_refl}
use Rattle.rules.specs.Tests.{◌or◌, ◌&◌}
use Rattle.rules.specs.Limits.{lines, entries}
use Rattle.rules.specs.Register.{seat_at, piece_at, number_at, order_at, Right, unused_right, used_right, line_right, is_right}
use Rattle.laws.specs.Tests.{or_left, or_right, or_cases, and_both, and_left, and_right}
use Rattle.laws.specs.Below.{every→, →every, pick_true, pick-false}
use Rattle.laws.specs.Numbers.{eq_or, lt_or}

pub eq→T : (a b : ℕ) → a ≡ b → T (eqb a b)
eq→T a b e = subst (λ (x : ℕ). T (eqb a x)) e (eqb_refl a)

ne→T : (a b : ℕ) → (a ≡ b → ⊥) → T (not (eqb a b))
ne→T a b d = subst (λ (x : Bool). T (not x)) (sym (ne_eqb a b d)) tt

T_true : (b : Bool) → T b → b ≡ true
T_true true t = refl
T_true false t = absurd t

T_false : (b : Bool) → (T b → ⊥) → b ≡ false
T_false true f = absurd (f tt)
T_false false f = refl

-- ---- one line

module _ (n : ℕ) (l : List ℕ) (i : ℕ) where
  case_unused : number_at l i ≡ 0 → line_right n l i ≡ unused_right l i
  unfolding line_right
  case_unused e = pick_true (eqb (number_at l i) 0) (unused_right l i) (used_right n l i) (eq→T (number_at l i) 0 e)

  case_used : (number_at l i ≡ 0 → ⊥) → line_right n l i ≡ used_right n l i
  unfolding line_right
  case_used d = pick-false (eqb (number_at l i) 0) (unused_right l i) (used_right n l i) (ne→T (number_at l i) 0 d)

  unused→ : number_at l i ≡ 0 → T (line_right n l i) → (seat_at l i ≡ 0) × (piece_at l i ≡ 0) × (number_at l (i + 1) ≡ 0)
  unfolding unused_right
  unused→ e t =
      let u = subst (λ (b : Bool). T b) (case_unused e) t in
      let w = and_right (eqb (seat_at l i) 0) (eqb (piece_at l i) 0 & eqb (number_at l (i + 1)) 0) u in
      let a = eqb→eq (seat_at l i) 0 (and_left (eqb (seat_at l i) 0) (eqb (piece_at l i) 0 & eqb (number_at l (i + 1)) 0) u) in
      let b = eqb→eq (piece_at l i) 0 (and_left (eqb (piece_at l i) 0) (eqb (number_at l (i + 1)) 0) w) in
      (a, b, eqb→eq (number_at l (i + 1)) 0 (and_right (eqb (piece_at l i) 0) (eqb (number_at l (i + 1)) 0) w))

  →unused : number_at l i ≡ 0 → seat_at l i ≡ 0 → piece_at l i ≡ 0 → number_at l (i + 1) ≡ 0 → T (line_right n l i)
  unfolding unused_right
  →unused e a b c =
      subst (λ (x : Bool). T x) (sym (case_unused e))
      (and_both (eqb (seat_at l i) 0) (eqb (piece_at l i) 0 & eqb (number_at l (i + 1)) 0) (eq→T (seat_at l i) 0 a)
      (and_both (eqb (piece_at l i) 0) (eqb (number_at l (i + 1)) 0) (eq→T (piece_at l i) 0 b) (eq→T (number_at l (i + 1)) 0 c)))

  abbrev next : Bool
  next = eqb (number_at l (i + 1)) 0 or ltb (order_at l i) (order_at l (i + 1))

  used→ : (number_at l i ≡ 0 → ⊥) → T (line_right n l i)
      → (seat_at l i < 32) × (piece_at l i < n) × (number_at l i ≤ 1000) × (0 < number_at l (i + 1) → order_at l i < order_at l (i + 1))
  unfolding used_right
  used→ d t =
      let u = subst (λ (b : Bool). T b) (case_used d) t in
      let w = and_right (ltb (seat_at l i) 32) (ltb (piece_at l i) n & leb (number_at l i) 1000 & next) u in
      let x = and_right (ltb (piece_at l i) n) (leb (number_at l i) 1000 & next) w in
      let y = or_cases (eqb (number_at l (i + 1)) 0) (ltb (order_at l i) (order_at l (i + 1))) (and_right (leb (number_at l i) 1000) next x) in
      let a = ltb→lt (seat_at l i) 32 (and_left (ltb (seat_at l i) 32) (ltb (piece_at l i) n & leb (number_at l i) 1000 & next) u) in
      let b = ltb→lt (piece_at l i) n (and_left (ltb (piece_at l i) n) (leb (number_at l i) 1000 & next) w) in
      let c = leb→le (number_at l i) 1000 (and_left (leb (number_at l i) 1000) next x) in
      (a, b, c, λ h. ⊎_elim (λ e. absurd (omega (arith, eqb→eq (number_at l (i + 1)) 0 e))) (λ e. ltb→lt (order_at l i) (order_at l (i + 1)) e) y)

  →used : (number_at l i ≡ 0 → ⊥) → seat_at l i < 32 → piece_at l i < n → number_at l i ≤ 1000 → (0 < number_at l (i + 1) → order_at l i < order_at l (i + 1))
      → T (line_right n l i)
  unfolding used_right
  →used d a b c f =
      subst (λ (x : Bool). T x) (sym (case_used d))
      (and_both (ltb (seat_at l i) 32) (ltb (piece_at l i) n & leb (number_at l i) 1000 & next) (lt→ltb (seat_at l i) 32 a)
      (and_both (ltb (piece_at l i) n) (leb (number_at l i) 1000 & next) (lt→ltb (piece_at l i) n b)
      (and_both (leb (number_at l i) 1000) next (le→leb (number_at l i) 1000 c) (behind (lt_or 0 (number_at l (i + 1)))))))
    where
      behind : (0 < number_at l (i + 1)) ⊎ (number_at l (i + 1) ≤ 0) → T (eqb (number_at l (i + 1)) 0 or ltb (order_at l i) (order_at l (i + 1)))
      behind (inl h) = or_right (eqb (number_at l (i + 1)) 0) (ltb (order_at l i) (order_at l (i + 1))) (lt→ltb (order_at l i) (order_at l (i + 1)) (f h))
      behind (inr h) = or_left (eqb (number_at l (i + 1)) 0) (ltb (order_at l i) (order_at l (i + 1))) (eq→T (number_at l (i + 1)) 0 (omega arith))

-- ---- all lines

module _ (n : ℕ) (l : List ℕ) where
  module _ (z : length l ≡ entries) (w : n ≤ 1024) (t : (i : ℕ) → i < lines → T (line_right n l i)) where
    inside : (i : ℕ) → 0 < number_at l i → i < lines
    inside i u = ⊎_elim (λ h. h) (λ h. absurd (omega (arith, number_past l z i h))) (lt_or i lines)

    nonzero : (i : ℕ) → 0 < number_at l i → number_at l i ≡ 0 → ⊥
    nonzero i u e = omega arith

    held : (i : ℕ) → 0 < number_at l i → (seat_at l i < 32) × (piece_at l i < n) × (number_at l i ≤ 1000) × (0 < number_at l (i + 1) → order_at l i < order_at l (i + 1))
    held i u = used→ n l i (nonzero i u) (t i (inside i u))

    first : (i : ℕ) → 0 < number_at l (i + 1) → 0 < number_at l i
    first i u = ⊎_elim (λ h. h) (λ h. absurd (omega (arith, (unused→ n l i (omega arith) (t i (omega (arith, inside (i + 1) u)))).2))) (lt_or 0 (number_at l i))

    zeros : (i : ℕ) → number_at l i ≡ 0 → (seat_at l i ≡ 0) × (piece_at l i ≡ 0)
    zeros i e = ⊎_elim (λ h. let x = unused→ n l i e (t i h) in (x.0, x.1)) (λ h. (seat_past l z i h, piece_past l z i h)) (lt_or i lines)

    lines-right : Right n l
    lines-right = record {
      ordered = record {
        size = z;
        first = first;
        rising = λ i u. (held i (first i u)).3 u;
        zeros = zeros;
        wide = λ i. ⊎_elim (λ u. omega (arith, (held i u).1)) (λ u. omega (arith, (zeros i (omega arith)).1)) (lt_or 0 (number_at l i));
      };
      seats = λ i u. (held i u).0;
      pieces = λ i u. (held i u).1;
      numbers = λ i. ⊎_elim (λ u. (held i u).2) (λ u. omega arith) (lt_or 0 (number_at l i));
    }

  pub is_right→ : n ≤ 1024 → length l ≡ entries → T (is_right n l) → Right n l
  unfolding is_right
  is_right→ w z t = lines-right z w (every→ (line_right n l) lines t)

  pub →is_right : Right n l → T (is_right n l)
  unfolding is_right
  →is_right r = →every (line_right n l) lines (λ i h. go i (eq_or (number_at l i) 0))
    where
      go : (i : ℕ) → (number_at l i ≡ 0) ⊎ (number_at l i ≡ 0 → ⊥) → T (line_right n l i)
      go i (inl e) =
          let x = r.ordered.zeros i e in
          →unused n l i e x.0 x.1 (⊎_elim (λ u. absurd (omega (arith, r.ordered.first i u))) (λ u. omega arith) (lt_or 0 (number_at l (i + 1))))
      go i (inr d) = let u : 0 < number_at l i = omega (arith, d) in →used n l i d (r.seats i u) (r.pieces i u) (r.numbers i) (r.ordered.rising i)

  -- what tells whether the register is right is the test
  pub right-told : (b : Bool) → n ≤ 1024 → length l ≡ entries → (b ≡ true → Right n l) → (b ≡ false → Right n l → ⊥) → b ≡ is_right n l
  right-told true w z f g = sym (T_true (is_right n l) (→is_right (f refl)))
  right-told false w z f g = sym (T_false (is_right n l) (λ t. g refl (is_right→ w z t)))
