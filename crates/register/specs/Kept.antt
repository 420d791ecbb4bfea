-- A right register stays right, and no line of another seat changes.
use Rattle.register.specs.Pairs.{held_by_some, held_by_line}
use Rattle.register.specs.Moves.{SameLine}
use Rattle.register.specs.Steps.{Stepped, held_by_more, held_by_other}
use Rattle.std.specs.Prelude.{◌≡◌, refl, ◌⊎◌, List, ℕ, ◌≤◌, ◌<◌}
use Rattle.std.proofs.Common.{sym, ◌∙◌, subst, inl, inr, ⊎_elim, arith}
use Rattle.rules.specs.Register.{seat_at, piece_at, number_at, Ordered, Right, pair, held_by}
use Rattle.laws.specs.Numbers.{eq_or, lt_or}

-- the ranges, told of the pairs
abbrev pub Ranged : ℕ → List ℕ → Type 0
Ranged n l = (a b : ℕ) → 0 < held_by l a b → (a < 32) × (b < n) × (held_by l a b ≤ 1000)

pub right_ranged : (n : ℕ) (l : List ℕ) → Right n l → Ranged n l
right_ranged n l r a b h =
    let w = held_by_some l a b h in
    let e = held_by_line l a b r.ordered w.0 w.1 w.2 w.3 in
    (omega (arith, r.seats w.0 w.1, w.2), omega (arith, r.pieces w.0 w.1, w.3), omega (arith, r.numbers w.0, e))

pub ranged_right : (n : ℕ) (l : List ℕ) → Ordered l → Ranged n l → Right n l
ranged_right n l o g = record {
  ordered = o;
  seats = λ i u. (told i u).0;
  pieces = λ i u. (told i u).1;
  numbers = λ i. ⊎_elim (λ u. omega (arith, (told i u).2, held_by_line l (seat_at l i) (piece_at l i) o i u refl refl)) (λ z. omega arith) (lt_or 0 (number_at l i));
}
  where
    told : (i : ℕ) → 0 < number_at l i → (seat_at l i < 32) × (piece_at l i < n) × (held_by l (seat_at l i) (piece_at l i) ≤ 1000)
    told i u = g (seat_at l i) (piece_at l i) (omega (arith, held_by_line l (seat_at l i) (piece_at l i) o i u refl refl))

module _ {n : ℕ} {l : List ℕ} {s p : ℕ} {m : List ℕ} (t : Stepped l s p m) where
  pub right-more : Right n l → s < 32 → p < n → held_by l s p < 1000 → Right n m
  right-more r x y z = ranged_right n m t.to (λ a b h. go a b h (eq_or s a) (eq_or p b))
    where
      other : (a b : ℕ) → 0 < held_by m a b → held_by m a b ≡ held_by l a b → (a < 32) × (b < n) × (held_by m a b ≤ 1000)
      other a b h e = let w = right_ranged n l r a b (omega arith) in (w.0, w.1, omega (arith, w.2))

      go : (a b : ℕ) → 0 < held_by m a b → (s ≡ a) ⊎ (s ≡ a → ⊥) → (p ≡ b) ⊎ (p ≡ b → ⊥) → (a < 32) × (b < n) × (held_by m a b ≤ 1000)
      go a b h (inl e) (inl f) =
          subst (λ (c : ℕ). (a < 32) × (c < n) × (held_by m a c ≤ 1000)) f
          (subst (λ (c : ℕ). (c < 32) × (p < n) × (held_by m c p ≤ 1000)) e (x, y, omega (arith, held_by_more t)))
      go a b h (inl e) (inr d) = other a b h (held_by_other t a b (λ _ f. d f))
      go a b h (inr d) f = other a b h (held_by_other t a b (λ e _. d e))

  pub right_less : Right n m → Right n l
  right_less r = ranged_right n l t.from (λ a b h. let w = right_ranged n m r a b (omega (arith, t.sums (pair a b))) in (w.0, w.1, omega (arith, w.2, t.sums (pair a b))))

-- ---- no call naming one seat changes another seat's lines, though their places may shift

-- each line of seat a in l is one in m, and each in m one in l
pub record SameLines (a : ℕ) (l m : List ℕ) : Type 0 where
  pub there : (i : ℕ) → 0 < number_at l i → seat_at l i ≡ a → (j : ℕ) × SameLine m j l i
  pub back : (i : ℕ) → 0 < number_at m i → seat_at m i ≡ a → (j : ℕ) × SameLine l j m i

pub lines_flip : {a : ℕ} {l m : List ℕ} → SameLines a l m → SameLines a m l
lines_flip e = record { there = e.back; back = e.there }

module _ {l : List ℕ} {s p : ℕ} {m : List ℕ} (t : Stepped l s p m) where
  pub other_seat : (a b : ℕ) → (s ≡ a → ⊥) → held_by m a b ≡ held_by l a b
  other_seat a b d = held_by_other t a b (λ e _. d e)

  -- a line of another seat is still there
  pub other_line : (i : ℕ) → 0 < number_at l i → (s ≡ seat_at l i → ⊥) → (j : ℕ) × SameLine m j l i
  other_line i u d =
      let e = other_seat (seat_at l i) (piece_at l i) d in
      let n = held_by_line l (seat_at l i) (piece_at l i) t.from i u refl refl in
      let w = held_by_some m (seat_at l i) (piece_at l i) (omega arith) in
      (w.0, record { seats = w.2; pieces = w.3; numbers = sym (held_by_line m (seat_at l i) (piece_at l i) t.to w.0 w.1 w.2 w.3) ∙ e ∙ n })

  -- and none has come
  pub other_back : (i : ℕ) → 0 < number_at m i → (s ≡ seat_at m i → ⊥) → (j : ℕ) × SameLine l j m i
  other_back i u d =
      let e = other_seat (seat_at m i) (piece_at m i) d in
      let n = held_by_line m (seat_at m i) (piece_at m i) t.to i u refl refl in
      let w = held_by_some l (seat_at m i) (piece_at m i) (omega arith) in
      (w.0, record { seats = w.2; pieces = w.3; numbers = sym (held_by_line l (seat_at m i) (piece_at m i) t.from w.0 w.1 w.2 w.3) ∙ sym e ∙ n })

  pub other_lines : (a : ℕ) → (s ≡ a → ⊥) → SameLines a l m
  other_lines a d = record {
    there = λ i u e. other_line i u (λ x. d (x ∙ e));
    back = λ i u e. other_back i u (λ x. d (x ∙ e));
  }
