-- One hold more, one less: the order is kept, and every sum over the lines changes by that hold alone.
use Rattle.register.specs.Order.{used_below}
use Rattle.register.specs.Adds.{pair_on, pair_off}
use Rattle.register.specs.Found.{Found, line_found}
use Rattle.register.specs.Has.{has_told, held_has, has_none, has_behind}
use Rattle.register.specs.Moves.{ordered_renumbered, total-inserted, total-renumbered}
use Rattle.register.specs.Ordering.{ordered_inserted, ordered_removed}
use Rattle.register.specs.Entries.{renumbered_is, inserted_is}
use Rattle.register.specs.Removed.{removed_is}
use Rattle.register.specs.Room.{Room, room_free}
use Rattle.std.specs.Prelude.{◌≡◌, refl, Bool, List, ℕ, ◌+◌, ◌-◌, ◌<◌, eqb}
use Rattle.std.proofs.Common.{sym, ap, subst, ⊎_elim, arith, eq-eqb, ne_eqb}
use Rattle.std.proofs.Math.Bool.{true, false}
use Rattle.rules.specs.Tests.{pick, only_if}
use Rattle.rules.specs.Limits.{lines}
use Rattle.rules.specs.Register.{piece_at, number_at, Ordered, total, pair, held_by, line_of, has_line, renumbered, inserted, removed, one_more_by, one_less_by}
use Rattle.laws.specs.Numbers.{eq_or, lt_or}
use Rattle.tallies.specs.Sums.{only_if-true, only_if-false}

-- two registers, m with one hold of piece p by seat s more than l
pub record Stepped (l : List ℕ) (s p : ℕ) (m : List ℕ) : Type 0 where
  pub from : Ordered l
  pub to : Ordered m
  pub sums : (f : ℕ → ℕ → Bool) → total f m ≡ total f l + only_if (f s p) 1

chosen : (b c : Bool) (x y : List ℕ) → b ≡ c → pick b x y ≡ pick c x y
chosen b c x y e = ap (λ (a : Bool). pick a x y) e

more-sum : (b : Bool) (x y k : ℕ) → x + only_if b k ≡ y + only_if b (k + 1) → x ≡ y + only_if b 1
more-sum true x y k e = omega arith
more-sum false x y k e = omega arith

less_sum : (b : Bool) (x y k : ℕ) → 0 < k → x + only_if b k ≡ y + only_if b (k - 1) → y ≡ x + only_if b 1
less_sum true x y k h e = omega arith
less_sum false x y k h e = omega arith

module _ (l : List ℕ) (o : Ordered l) (s p : ℕ) where
  -- the line of the pair has another number: the order stays
  still : (r k : ℕ) → has_line l r s p ≡ true → 0 < k → Ordered (renumbered l r k)
  still r k e h = let u = (has_told l r s p e).0 in ordered_renumbered o (renumbered_is l r k o.size (used_below l o r u)) u h

  -- ... and every sum changes by it
  changed : (r k : ℕ) → has_line l r s p ≡ true → 0 < k → (g : ℕ → ℕ → Bool) → total g (renumbered l r k) + only_if (g s p) (number_at l r) ≡ total g l + only_if (g s p) k
  changed r k e d g =
      let w = has_told l r s p e in
      let h = used_below l o r w.0 in
      subst (λ (y : ℕ). total g (renumbered l r k) + only_if (g s y) (number_at l r) ≡ total g l + only_if (g s y) k) w.2
      (subst (λ (x : ℕ). total g (renumbered l r k) + only_if (g x (piece_at l r)) (number_at l r) ≡ total g l + only_if (g x (piece_at l r)) k) w.1
      (total-renumbered g o (still r k e d) h (renumbered_is l r k o.size h)))

  -- ---- one hold more

  pub more-number : (r : ℕ) → has_line l r s p ≡ true → Stepped l s p (renumbered l r (number_at l r + 1))
  more-number r e = record {
    from = o;
    to = still r (number_at l r + 1) e (omega arith);
    sums = λ g. more-sum (g s p) (total g (renumbered l r (number_at l r + 1))) (total g l) (number_at l r) (changed r (number_at l r + 1) e (omega arith) g);
  }

  -- a line comes in among the 1,024
  pub insert_room : (r : ℕ) → Found l s p r → number_at l 1023 ≡ 0 → r < lines
  insert_room r f e = ⊎_elim (λ h. h) (λ h. absurd (omega (arith, (f.before 1023 (omega arith)).0))) (lt_or r lines)

  pub more-line : (r : ℕ) → Found l s p r → p < 65536 → has_line l r s p ≡ false → number_at l 1023 ≡ 0 → Stepped l s p (inserted l r s p)
  more-line r f w e z =
      let h = insert_room r f z in
      let n = inserted_is l o.size r h s p o z in
      let q = ordered_inserted n o (omega arith) w f.before (has_behind l o s p r f w e) in
      record {
        from = o;
        to = q;
        sums = λ g. total-inserted g o q n;
      }

  pub more_has : has_line l (line_of l s p) s p ≡ true → one_more_by l s p ≡ renumbered l (line_of l s p) (number_at l (line_of l s p) + 1)
  unfolding one_more_by
  more_has e = chosen (has_line l (line_of l s p) s p) true (renumbered l (line_of l s p) (number_at l (line_of l s p) + 1)) (inserted l (line_of l s p) s p) e

  pub more_new : has_line l (line_of l s p) s p ≡ false → one_more_by l s p ≡ inserted l (line_of l s p) s p
  unfolding one_more_by
  more_new e = chosen (has_line l (line_of l s p) s p) false (renumbered l (line_of l s p) (number_at l (line_of l s p) + 1)) (inserted l (line_of l s p) s p) e

  pub more_steps : p < 65536 → Room l s p → Stepped l s p (one_more_by l s p)
  more_steps w room = go (has_line l (line_of l s p) s p) refl
    where
      go : (b : Bool) → has_line l (line_of l s p) s p ≡ b → Stepped l s p (one_more_by l s p)
      go true e = subst (λ (m : List ℕ). Stepped l s p m) (sym (more_has e)) (more-number (line_of l s p) e)
      go false e = subst (λ (m : List ℕ). Stepped l s p m) (sym (more_new e))
          (more-line (line_of l s p) (line_found l o s p) w e (room_free l s p room (has_none l o s p (line_of l s p) (line_found l o s p) e)))

  -- ---- one hold less

  fewer : (r : ℕ) → has_line l r s p ≡ true → (number_at l r ≡ 1 → ⊥) → 0 < number_at l r - 1
  fewer r e d = let u = (has_told l r s p e).0 in omega (arith, d)

  pub less_number : (r : ℕ) → has_line l r s p ≡ true → (number_at l r ≡ 1 → ⊥) → Stepped (renumbered l r (number_at l r - 1)) s p l
  less_number r e d = record {
    from = still r (number_at l r - 1) e (fewer r e d);
    to = o;
    sums = λ g. less_sum (g s p) (total g (renumbered l r (number_at l r - 1))) (total g l) (number_at l r) (has_told l r s p e).0 (changed r (number_at l r - 1) e (fewer r e d) g);
  }

  pub less_line : (r : ℕ) → has_line l r s p ≡ true → number_at l r ≡ 1 → Stepped (removed l r) s p l
  less_line r e k =
      let w = has_told l r s p e in
      let n = removed_is l o.size r (used_below l o r w.0) in
      let q = ordered_removed n o in
      record {
        from = q;
        to = o;
        sums = λ g.
            subst (λ (z : ℕ). total g l ≡ total g (removed l r) + only_if (g s p) z) k
            (subst (λ (y : ℕ). total g l ≡ total g (removed l r) + only_if (g s y) (number_at l r)) w.2
            (subst (λ (x : ℕ). total g l ≡ total g (removed l r) + only_if (g x (piece_at l r)) (number_at l r)) w.1 (total-inserted g q o n)));
      }

  pub less_last : number_at l (line_of l s p) ≡ 1 → one_less_by l s p ≡ removed l (line_of l s p)
  unfolding one_less_by
  less_last e =
      chosen (eqb (number_at l (line_of l s p)) 1) true (removed l (line_of l s p)) (renumbered l (line_of l s p) (number_at l (line_of l s p) - 1)) (eq-eqb (number_at l (line_of l s p)) 1 e)

  pub less_some : (number_at l (line_of l s p) ≡ 1 → ⊥) → one_less_by l s p ≡ renumbered l (line_of l s p) (number_at l (line_of l s p) - 1)
  unfolding one_less_by
  less_some d =
      chosen (eqb (number_at l (line_of l s p)) 1) false (removed l (line_of l s p)) (renumbered l (line_of l s p) (number_at l (line_of l s p) - 1)) (ne_eqb (number_at l (line_of l s p)) 1 d)

  pub less_steps : 0 < held_by l s p → Stepped (one_less_by l s p) s p l
  less_steps h =
      let e = held_has l o s p (line_of l s p) (line_found l o s p) h in
      ⊎_elim
      (λ k. subst (λ (m : List ℕ). Stepped m s p l) (sym (less_last k)) (less_line (line_of l s p) e k))
      (λ d. subst (λ (m : List ℕ). Stepped m s p l) (sym (less_some d)) (less_number (line_of l s p) e d))
      (eq_or (number_at l (line_of l s p)) 1)

-- ---- what a hold more changes

module _ {l : List ℕ} {s p : ℕ} {m : List ℕ} (t : Stepped l s p m) where
  pub held_by_more : held_by m s p ≡ held_by l s p + 1
  held_by_more = omega (arith, t.sums (pair s p), only_if-true (pair s p s p) 1 (pair_on s p s p refl refl))

  -- no other pair's number: nothing of another seat, nothing of another piece
  pub held_by_other : (a b : ℕ) → ((s ≡ a) → (p ≡ b) → ⊥) → held_by m a b ≡ held_by l a b
  held_by_other a b d = omega (arith, t.sums (pair a b), only_if-false (pair a b s p) 1 (pair_off a b s p d))
