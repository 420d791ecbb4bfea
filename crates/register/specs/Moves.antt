-- A line's number changes, or a line comes in: what that makes of the sums.
use Rattle.register.specs.Sums.{sum_insert}
use Rattle.register.specs.Order.{number_past}
use Rattle.register.specs.Adds.{adds_none}
use Rattle.register.specs.Totals.{total-sum}
use Rattle.std.specs.Prelude.{◌≡◌, Bool, List, ℕ, ◌+◌, ◌-◌, ◌≤◌, ◌<◌, length}
use Rattle.std.proofs.Common.{sym, ap, ap₂, ◌∙◌, subst, ⊎_elim, arith, le_refl}
use Rattle.rules.specs.Tests.{only_if}
use Rattle.rules.specs.Below.{sum}
use Rattle.rules.specs.Limits.{lines}
use Rattle.rules.specs.Register.{seat_at, piece_at, number_at, Ordered, adds, total}
use Rattle.laws.specs.Below.{sum-next, sum_change}
use Rattle.laws.specs.Numbers.{eq_or}

-- line j of m is line i of l
pub record SameLine (m : List ℕ) (j : ℕ) (l : List ℕ) (i : ℕ) : Type 0 where
  pub seats : seat_at m j ≡ seat_at l i
  pub pieces : piece_at m j ≡ piece_at l i
  pub numbers : number_at m j ≡ number_at l i

-- m is l with number k in line i
pub record Renumbered (l : List ℕ) (i k : ℕ) (m : List ℕ) : Type 0 where
  pub size : length m ≡ length l
  pub seats : (j : ℕ) → seat_at m j ≡ seat_at l j
  pub pieces : (j : ℕ) → piece_at m j ≡ piece_at l j
  pub here : number_at m i ≡ k
  pub others : (j : ℕ) → (j ≡ i → ⊥) → number_at m j ≡ number_at l j

-- m is l with the line s p k before line i; the last line of l, which falls away, is unused
pub record Inserted (l : List ℕ) (i s p k : ℕ) (m : List ℕ) : Type 0 where
  pub size : length m ≡ length l
  pub inside : i < lines
  pub before : (j : ℕ) → j < i → SameLine m j l j
  pub line_seat : seat_at m i ≡ s
  pub line_piece : piece_at m i ≡ p
  pub line-number : number_at m i ≡ k
  pub behind : (j : ℕ) → i ≤ j → SameLine m (j + 1) l j

-- ---- the order is kept

module _ {l : List ℕ} {i k : ℕ} {m : List ℕ} (o : Ordered l) (r : Renumbered l i k m) (u : 0 < number_at l i) (h : 0 < k) where
  used→ : (j : ℕ) → 0 < number_at m j → 0 < number_at l j
  used→ j v = ⊎_elim (λ e. subst (λ (x : ℕ). 0 < number_at l x) (sym e) u) (λ d. omega (arith, r.others j d)) (eq_or j i)

  →used : (j : ℕ) → 0 < number_at l j → 0 < number_at m j
  →used j v = ⊎_elim (λ e. omega (arith, ap (number_at m) e, r.here)) (λ d. omega (arith, r.others j d)) (eq_or j i)

  pub ordered_renumbered : Ordered m
  ordered_renumbered = record {
    size = r.size ∙ o.size;
    first = λ j v. →used j (o.first j (used→ (j + 1) v));
    rising = λ j v. omega (arith, o.rising j (used→ (j + 1) v), r.seats j, r.pieces j, r.seats (j + 1), r.pieces (j + 1));
    zeros = λ j e.
        let w = o.zeros j (⊎_elim (λ x. absurd (omega (arith, ap (number_at m) x, r.here))) (λ d. omega (arith, r.others j d)) (eq_or j i)) in
        (r.seats j ∙ w.0, r.pieces j ∙ w.1);
    wide = λ j. omega (arith, o.wide j, r.pieces j);
  }

-- ---- the sums change by the line

same_adds : (f : ℕ → ℕ → Bool) (m : List ℕ) (j : ℕ) (l : List ℕ) (i : ℕ) → SameLine m j l i → adds f m j ≡ adds f l i
unfolding adds
same_adds f m j l i e = ap₂ (λ (b : Bool) (x : ℕ). only_if b x) (ap₂ f e.seats e.pieces) e.numbers

pub total-inserted : {l : List ℕ} {i s p k : ℕ} {m : List ℕ} (f : ℕ → ℕ → Bool) → Ordered l → Ordered m → Inserted l i s p k m → total f m ≡ total f l + only_if (f s p) k
total-inserted {l} {i} {s} {p} {k} {m} f o q n =
    let d : i + (1023 - i) ≡ 1023 = let h = n.inside in omega arith in
    let e : sum (adds f m) (1023 + 1) ≡ sum (adds f l) 1023 + adds f m i =
    subst (λ (x : ℕ). sum (adds f m) (x + 1) ≡ sum (adds f l) x + adds f m i) d
    (sum_insert (adds f l) (adds f m) i (1023 - i) (λ j h. same_adds f m j l j (n.before j h)) (λ j h. same_adds f m (j + 1) l j (n.behind j h))) in
    let last : adds f l 1023 ≡ 0 = adds_none f l 1023 (sym (n.behind 1023 (let h = n.inside in omega arith)).numbers ∙ number_past m q.size 1024 (le_refl 1024)) in
    omega (arith, e, sum-next (adds f l) 1023, line, total-sum f l o, total-sum f m q)
  where
    line : adds f m i ≡ only_if (f s p) k
    line = unfold adds in (ap₂ (λ (b : Bool) (x : ℕ). only_if b x) (ap₂ f n.line_seat n.line_piece) n.line-number)

pub total-renumbered : {l : List ℕ} {i k : ℕ} {m : List ℕ} (f : ℕ → ℕ → Bool) → Ordered l → Ordered m → i < lines → Renumbered l i k m
    → total f m + only_if (f (seat_at l i) (piece_at l i)) (number_at l i) ≡ total f l + only_if (f (seat_at l i) (piece_at l i)) k
unfolding adds
total-renumbered {l} {i} {k} {m} f o q h r =
    let c = sum_change (adds f m) (adds f l) lines i h (λ j u d. same_adds f m j l j (record { seats = r.seats j; pieces = r.pieces j; numbers = r.others j d })) in
    omega (arith, c, ap₂ (λ (b : Bool) (x : ℕ). only_if b x) (ap₂ f (r.seats i) (r.pieces i)) r.here, total-sum f l o, total-sum f m q)
