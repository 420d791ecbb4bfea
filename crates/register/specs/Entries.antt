-- The registers that one hold more gives, entry by entry.
use Rattle.register.specs.Order.{number_past, seat_past, piece_past}
use Rattle.register.specs.Moves.{SameLine, Renumbered, Inserted}
use Rattle.std.specs.Prelude.{◌≡◌, ◌⊎◌, List, ◌∷◌, ◌++◌, length, drop}
use Rattle.std.proofs.Math.Path.{sym, ap, subst}
use Rattle.std.proofs.Common.{◌∙◌, inl, inr, length-drop, length-set, length-take-le, get_or-append-add, get_or-set_same, get_or-set_other, ext_get_or}
use Rattle.std.proofs.Math.Logic.{⊎_elim}
use Prim.Native.Nat.{ℕ, suc, ◌+◌, ◌-◌, ◌*◌, ◌≤◌, ◌<◌}
use native.Mathlib.Omega.{arith}
use Rattle.std.proofs.Math.ListN.{get_or, take, length-append, get_or-append}
use Rattle.std.proofs.Math.Seq.{get_or-take, get_or-drop}
use Rattle.rules.specs.Limits.{lines, entries}
use Rattle.rules.specs.Register.{seat_at, piece_at, number_at, Ordered, renumbered, inserted}
use Rattle.laws.specs.Numbers.{eq_or, lt_or}

-- ---- another number

pub renumbered_is : (l : List ℕ) (i k : ℕ) → length l ≡ entries → i < lines → Renumbered l i k (renumbered l i k)
unfolding renumbered seat_at piece_at number_at
renumbered_is l i k z h = record {
  size = length-set l (3 * i + 2) k;
  seats = λ j. get_or-set_other l (3 * i + 2) (3 * j) k 0 (λ e. omega arith);
  pieces = λ j. get_or-set_other l (3 * i + 2) (3 * j + 1) k 0 (λ e. omega arith);
  here = get_or-set_same l (3 * i + 2) k 0 (omega arith);
  others = λ j d. get_or-set_other l (3 * i + 2) (3 * j + 2) k 0 (λ e. d (omega arith));
}

-- ---- a line comes

three : (a j : ℕ) → a ≤ j → (j ≡ a → ⊥) → (j ≡ a + 1 → ⊥) → (j ≡ a + 2 → ⊥) → a + 3 ≤ j
three a j h x y z = omega (arith, x, y, z)

module _ (l : List ℕ) (z : length l ≡ entries) (i : ℕ) (h : i < lines) where
  pub front_length : length (take (3 * i) l) ≡ 3 * i
  front_length = length-take-le (3 * i) l (omega arith)

  -- entry 3 i + k of a list that starts with the first i lines
  pub after : (r : List ℕ) (k : ℕ) → get_or (take (3 * i) l ++ r) (3 * i + k) 0 ≡ get_or r k 0
  after r k = subst (λ (x : ℕ). get_or (take (3 * i) l ++ r) (x + k) 0 ≡ get_or r k 0) front_length (get_or-append-add (take (3 * i) l) r k 0)

  pub in_front : (r : List ℕ) (j : ℕ) → j < 3 * i → get_or (take (3 * i) l ++ r) j 0 ≡ get_or l j 0
  in_front r j k = get_or-append (take (3 * i) l) r 0 j (omega (arith, front_length)) ∙ get_or-take (3 * i) l j 0 k

  module _ (s p : ℕ) where
    tail_length : length (take (3069 - 3 * i) (drop (3 * i) l)) ≡ 3069 - 3 * i
    tail_length = length-take-le (3069 - 3 * i) (drop (3 * i) l) (omega (arith, length-drop (3 * i) l))

    pub inserted_size : length (inserted l i s p) ≡ entries
    unfolding inserted
    inserted_size = omega (arith, length-append (take (3 * i) l) (s ∷ p ∷ 1 ∷ take (3069 - 3 * i) (drop (3 * i) l)), front_length, tail_length)

    pub inserted_front : (j : ℕ) → j < 3 * i → get_or (inserted l i s p) j 0 ≡ get_or l j 0
    unfolding inserted
    inserted_front j k = in_front (s ∷ p ∷ 1 ∷ take (3069 - 3 * i) (drop (3 * i) l)) j k

    pub inserted_seat : get_or (inserted l i s p) (3 * i) 0 ≡ s
    unfolding inserted
    inserted_seat = let x : 3 * i + 0 ≡ 3 * i = omega arith in subst (λ (j : ℕ). get_or (inserted l i s p) j 0 ≡ s) x (after (s ∷ p ∷ 1 ∷ take (3069 - 3 * i) (drop (3 * i) l)) 0)

    pub inserted_piece : get_or (inserted l i s p) (3 * i + 1) 0 ≡ p
    unfolding inserted
    inserted_piece = after (s ∷ p ∷ 1 ∷ take (3069 - 3 * i) (drop (3 * i) l)) 1

    pub inserted-number : get_or (inserted l i s p) (3 * i + 2) 0 ≡ 1
    unfolding inserted
    inserted-number = after (s ∷ p ∷ 1 ∷ take (3069 - 3 * i) (drop (3 * i) l)) 2

    pub inserted_back : (j : ℕ) → 3 * i ≤ j → j < 3069 → get_or (inserted l i s p) (j + 3) 0 ≡ get_or l j 0
    unfolding inserted
    inserted_back j g k =
        let r = take (3069 - 3 * i) (drop (3 * i) l) in
        let x : 3 * i + suc (suc (suc (j - 3 * i))) ≡ j + 3 = omega arith in
        let y : 3 * i + (j - 3 * i) ≡ j = omega arith in
        subst (λ (a : ℕ). get_or (inserted l i s p) a 0 ≡ get_or r (j - 3 * i) 0) x (after (s ∷ p ∷ 1 ∷ r) (suc (suc (suc (j - 3 * i)))))
        ∙ get_or-take (3069 - 3 * i) (drop (3 * i) l) (j - 3 * i) 0 (omega arith)
        ∙ get_or-drop (3 * i) l (j - 3 * i) 0
        ∙ ap (λ (a : ℕ). get_or l a 0) y

    -- whatever has these entries is this register
    pub inserted-one : (m : List ℕ) → length m ≡ entries → ((j : ℕ) → j < 3 * i → get_or m j 0 ≡ get_or l j 0)
        → get_or m (3 * i) 0 ≡ s → get_or m (3 * i + 1) 0 ≡ p → get_or m (3 * i + 2) 0 ≡ 1
        → ((j : ℕ) → 3 * i ≤ j → j < 3069 → get_or m (j + 3) 0 ≡ get_or l j 0) → m ≡ inserted l i s p
    inserted-one m y f a b c g =
        ext_get_or 0 m (inserted l i s p) (y ∙ sym inserted_size)
        (λ j k. go j (omega (arith, k)) (lt_or j (3 * i)) (eq_or j (3 * i)) (eq_or j (3 * i + 1)) (eq_or j (3 * i + 2)))
      where
        at : (j q v : ℕ) → j ≡ q → get_or m q 0 ≡ v → get_or (inserted l i s p) q 0 ≡ v → get_or m j 0 ≡ get_or (inserted l i s p) j 0
        at j q v e x w = subst (λ (t : ℕ). get_or m t 0 ≡ get_or (inserted l i s p) t 0) (sym e) (x ∙ sym w)

        far : (j : ℕ) → j < entries → 3 * i + 3 ≤ j → get_or m j 0 ≡ get_or (inserted l i s p) j 0
        far j k u =
            let e : j ≡ j - 3 + 3 = omega arith in
            at j (j - 3 + 3) (get_or l (j - 3) 0) e (g (j - 3) (omega arith) (omega arith)) (inserted_back (j - 3) (omega arith) (omega arith))

        go : (j : ℕ) → j < entries → (j < 3 * i) ⊎ (3 * i ≤ j) → (j ≡ 3 * i) ⊎ (j ≡ 3 * i → ⊥)
            → (j ≡ 3 * i + 1) ⊎ (j ≡ 3 * i + 1 → ⊥) → (j ≡ 3 * i + 2) ⊎ (j ≡ 3 * i + 2 → ⊥)
            → get_or m j 0 ≡ get_or (inserted l i s p) j 0
        go j k (inl u) d₀ d₁ d₂ = f j u ∙ sym (inserted_front j u)
        go j k (inr u) (inl e) d₁ d₂ = at j (3 * i) s e a inserted_seat
        go j k (inr u) (inr d₀) (inl e) d₂ = at j (3 * i + 1) p e b inserted_piece
        go j k (inr u) (inr d₀) (inr d₁) (inl e) = at j (3 * i + 2) 1 e c inserted-number
        go j k (inr u) (inr d₀) (inr d₁) (inr d₂) = far j k (three (3 * i) j u d₀ d₁ d₂)

    module _ (o : Ordered l) (e : number_at l 1023 ≡ 0) where
      shift : (j d : ℕ) → 3 * i ≤ 3 * j + d → 3 * j + d < 3069 → get_or (inserted l i s p) (3 * (j + 1) + d) 0 ≡ get_or l (3 * j + d) 0
      shift j d g k = let x : 3 * j + d + 3 ≡ 3 * (j + 1) + d = omega arith in subst (λ (a : ℕ). get_or (inserted l i s p) a 0 ≡ get_or l (3 * j + d) 0) x (inserted_back (3 * j + d) g k)

      moved : (j : ℕ) → i ≤ j → j < 1023 → SameLine (inserted l i s p) (j + 1) l j
      unfolding seat_at piece_at number_at
      moved j k b =
          let x : 3 * j + 3 ≡ 3 * (j + 1) = omega arith in
          record {
            seats = subst (λ (a : ℕ). get_or (inserted l i s p) a 0 ≡ get_or l (3 * j) 0) x (inserted_back (3 * j) (omega arith) (omega arith));
            pieces = shift j 1 (omega arith) (omega arith);
            numbers = shift j 2 (omega arith) (omega arith);
          }

      -- the last line and those past it are zeros
      empty : (j : ℕ) → 1023 ≤ j → (seat_at l j ≡ 0) × (piece_at l j ≡ 0) × (number_at l j ≡ 0)
      empty j b =
          ⊎_elim
          (λ x. subst (λ (a : ℕ). (seat_at l a ≡ 0) × (piece_at l a ≡ 0) × (number_at l a ≡ 0)) (sym x) ((o.zeros 1023 e).0, (o.zeros 1023 e).1, e))
          (λ d. let k : lines ≤ j = omega (arith, d) in (seat_past l z j k, piece_past l z j k, number_past l z j k))
          (eq_or j 1023)

      gone : (j : ℕ) → 1023 ≤ j → SameLine (inserted l i s p) (j + 1) l j
      gone j b =
          let k : lines ≤ j + 1 = omega arith in
          let w = empty j b in
          record {
            seats = seat_past (inserted l i s p) inserted_size (j + 1) k ∙ sym w.0;
            pieces = piece_past (inserted l i s p) inserted_size (j + 1) k ∙ sym w.1;
            numbers = number_past (inserted l i s p) inserted_size (j + 1) k ∙ sym w.2;
          }

      pub inserted_is : Inserted l i s p 1 (inserted l i s p)
      unfolding seat_at piece_at number_at
      inserted_is = record {
        size = inserted_size ∙ sym z;
        inside = h;
        before = λ j k. record { seats = inserted_front (3 * j) (omega arith); pieces = inserted_front (3 * j + 1) (omega arith); numbers = inserted_front (3 * j + 2) (omega arith) };
        line_seat = inserted_seat;
        line_piece = inserted_piece;
        line-number = inserted-number;
        behind = λ j k. ⊎_elim (λ b. moved j k b) (λ b. gone j b) (lt_or j 1023);
      }
