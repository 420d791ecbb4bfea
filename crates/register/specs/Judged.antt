-- What the check of arbitrary contents says at each way out.
use Rattle.register.specs.Sums.{sum_same}
use Rattle.register.specs.Adds.{adds_none}
use Rattle.register.specs.Totals.{total-sum}
use Rattle.register.specs.Written.{rest-zero}
use Rattle.register.specs.Decided.{right-told}
use Rattle.register.specs.Zeros.{ZeroFrom, ZeroSaid}
use Rattle.register.specs.Folds.{all_zeros, zeros_said}
use Rattle.register.specs.Lines.{line_at}
use Rattle.register.specs.Checked.{held_below, Checked, checked_more}
use Rattle.std.specs.Prelude.{◌≡◌, refl, Bool, List, ℕ, zero, suc, ◌+◌, ◌*◌, ◌≤◌, ◌<◌, length, set, drop}
use Rattle.std.proofs.Common.{sym, ap, ap₂, ◌∙◌, ⊎_elim}
use Rattle.std.proofs.Math.Path.{subst}
use Rattle.std.proofs.Math.Bool.{true, false}
use native.Mathlib.Omega.{arith}
use Rattle.std.proofs.Math.Dec.{eqb}
use Rattle.std.proofs.Math.ListN.{get_or, get_or-eq_default}
use Rattle.rules.specs.Lists.{◌!◌}
use Rattle.rules.specs.Limits.{lines, entries}
use Rattle.rules.specs.Register.{seat_at, piece_at, number_at, order, order_at, Right, is_right, adds, held_in}
use Rattle.laws.specs.Numbers.{lt_or}

-- r says whether the register is right; if it is, sums has the holds of each piece
pub record RightSaid (n : ℕ) (l sums₀ sums : List ℕ) (r : Bool) : Type 0 where
  pub says : r ≡ is_right n l
  pub held : r ≡ true → (p : ℕ) → p < n → sums ! p ≡ held_in l p
  pub size : length sums ≡ length sums₀
  pub later : drop n sums ≡ drop n sums₀

module _ {n : ℕ} {l sums₀ : List ℕ} {low i : ℕ} {sums : List ℕ} (v : Checked n l sums₀ low i sums) where
  -- a line that is not in its ranges, or not behind the one before it
  pub line-wrong : (Right n l → ⊥) → RightSaid n l sums₀ sums false
  line-wrong f = record {
    says = right-told n l false v.small v.size (λ e. let c : ◌≡◌ {A = ℕ} 0 1 = cc in absurd (omega arith)) (λ _. f);
    held = λ e. let c : ◌≡◌ {A = ℕ} 0 1 = cc in absurd (omega arith);
    size = v.added.size;
    later = v.added.later;
  }

  pub not_behind : 0 < number_at l i → order_at l i < low → Right n l → ⊥
  not_behind u g r = go i refl
    where
      go : (k : ℕ) → i ≡ k → ⊥
      go zero e = omega (arith, v.begin e)
      go (suc j) e =
          let x : i ≡ j + 1 = omega arith in
          omega (arith, v.above j x, ap (order_at l) x, r.ordered.rising j (subst (λ (a : ℕ). 0 < number_at l a) x u))

  module _ (b : (p : ℕ) → p < n → sums₀ ! p ≡ 0) where
    -- the rest is zeros: the register is right
    module _ (f : ZeroFrom l (3 * i) entries) where
      rest_entry : (k : ℕ) → 3 * i ≤ k → get_or l k 0 ≡ 0
      rest_entry k h = ⊎_elim (λ g. f k h g) (λ g. get_or-eq_default l 0 (omega (arith, v.size))) (lt_or k entries)

      rest-number : (j : ℕ) → i ≤ j → number_at l j ≡ 0
      unfolding number_at
      rest-number j h = rest_entry (3 * j + 2) (omega arith)

      rest_seat : (j : ℕ) → i ≤ j → seat_at l j ≡ 0
      unfolding seat_at
      rest_seat j h = rest_entry (3 * j) (omega arith)

      rest_piece : (j : ℕ) → i ≤ j → piece_at l j ≡ 0
      unfolding piece_at
      rest_piece j h = rest_entry (3 * j + 1) (omega arith)

      -- a used line is one of the first i
      low_line : (j : ℕ) → 0 < number_at l j → j < i
      low_line j u = ⊎_elim (λ h. h) (λ h. absurd (omega (arith, rest-number j h))) (lt_or j i)

      right : Right n l
      right = record {
        ordered = record {
          size = v.size;
          first = λ j u. (v.all j (omega (arith, low_line (j + 1) u))).used;
          rising = λ j u. v.rising j (low_line (j + 1) u);
          zeros = λ j e. ⊎_elim (λ h. absurd (omega (arith, (v.all j h).used))) (λ h. (rest_seat j h, rest_piece j h)) (lt_or j i);
          wide = λ j. ⊎_elim (λ h. omega (arith, (v.all j h).pieces, v.small)) (λ h. omega (arith, rest_piece j h)) (lt_or j i);
        };
        seats = λ j u. (v.all j (low_line j u)).seats;
        pieces = λ j u. (v.all j (low_line j u)).pieces;
        numbers = λ j. ⊎_elim (λ h. (v.all j h).numbers) (λ h. omega (arith, rest-number j h)) (lt_or j i);
      }

      held_all : (p : ℕ) → p < n → sums ! p ≡ held_in l p
      unfolding held_below
      held_all p h =
          omega (
            arith,
            v.added.sums p h,
            b p h,
            total-sum (λ t q. eqb q p) l right.ordered,
            sum_same (adds (λ t q. eqb q p) l) i lines v.most (λ j g k. adds_none (λ t q. eqb q p) l j (rest-number j g)),
          )

      pub all_right : RightSaid n l sums₀ sums true
      all_right = record {
        says = right-told n l true v.small v.size (λ _. right) (λ e. let c : ◌≡◌ {A = ℕ} 0 1 = cc in absurd (omega arith));
        held = λ _. held_all;
        size = v.added.size;
        later = v.added.later;
      }

    -- an unused line, and behind it something that is not 0
    pub rest-wrong : number_at l i ≡ 0 → (ZeroFrom l (3 * i) entries → ⊥) → Right n l → ⊥
    rest-wrong e f r = f (λ k h g. rest-zero l r.ordered i e k h)

    rest_said : (r : Bool) → number_at l i ≡ 0 → ZeroSaid l (3 * i) r → RightSaid n l sums₀ sums r
    rest_said true e q = all_right (q.yes refl)
    rest_said false e q = line-wrong (rest-wrong e (q.no refl))

    pub full_right : lines ≤ i → RightSaid n l sums₀ sums true
    full_right h = all_right (λ k g u. absurd (omega arith))

-- ---- the same, of the line that the code reads

module _ {n : ℕ} {l sums₀ : List ℕ} {low i : ℕ} {sums : List ℕ} (v : Checked n l sums₀ low i sums) {x : List ℕ} (e : x ≡ line_at l i) where
  seat : get_or x 0 0 ≡ seat_at l i
  seat = ap (λ (y : List ℕ). get_or y 0 0) e

  piece : get_or x 1 0 ≡ piece_at l i
  piece = ap (λ (y : List ℕ). get_or y 1 0) e

  number : get_or x 2 0 ≡ number_at l i
  number = ap (λ (y : List ℕ). get_or y 2 0) e

  pub zeros_right : {r : Bool} → ((p : ℕ) → p < n → sums₀ ! p ≡ 0) → get_or x 2 0 ≡ 0 → r ≡ all_zeros (drop (3 * i) l) → RightSaid n l sums₀ sums r
  zeros_right {r} b u q = rest_said v b r (sym number ∙ u) (zeros_said l v.size (3 * i) q)

  module _ (u : get_or x 2 0 ≡ 0 → ⊥) where
    used : 0 < number_at l i
    used = omega (arith, number)

    pub wrong_seat : 32 ≤ get_or x 0 0 → RightSaid n l sums₀ sums false
    wrong_seat h = line-wrong v (λ r. omega (arith, r.seats i used, seat))

    pub wrong_piece : n ≤ get_or x 1 0 → RightSaid n l sums₀ sums false
    wrong_piece h = line-wrong v (λ r. omega (arith, r.pieces i used, piece))

    pub wrong-number : 1000 < get_or x 2 0 → RightSaid n l sums₀ sums false
    wrong-number h = line-wrong v (λ r. omega (arith, r.numbers i, number))

    module _ {k : ℕ} (q : k ≡ order (get_or x 0 0) (get_or x 1 0)) where
      key : k ≡ order_at l i
      key = q ∙ ap₂ order seat piece

      pub wrong-order : k < low → RightSaid n l sums₀ sums false
      wrong-order h = line-wrong v (not_behind v used (omega (arith, key)))

      pub line_counted : {d : ℕ} → i < lines → n ≤ length sums₀ → get_or x 0 0 < 32 → get_or x 1 0 < n → get_or x 2 0 ≤ 1000 → low ≤ k → d ≡ get_or x 2 0
          → Checked n l sums₀ (k + 1) (i + 1) (set sums (get_or x 1 0) (sums ! get_or x 1 0 + d))
      line_counted {d} h z a b c g t =
          rw (key, piece, t ∙ number)
          (checked_more v h z (record { used = used; seats = omega (arith, seat); pieces = omega (arith, piece); numbers = omega (arith, number) }) (omega (arith, key)))
