-- The three loops: dropping block starts, the lowest piece of a block, finishing a block.
use Rattle.std.specs.Prelude.{◌≡◌, refl, List, ℕ, pred, ◌+◌, ◌-◌, ◌*◌, ◌≤◌, ◌<◌, length, set, min, slice_range}
use Rattle.std.proofs.Common.{sym, ◌∙◌, ap, subst, ⊎_elim, arith, get_or-set_other}
use Rattle.rules.specs.Lists.{◌!◌}
use Rattle.laws.specs.Numbers.{lt_or, set_cases}
use Rattle.paths.specs.Search.{finished_mark, Regions}
use Rattle.paths.specs.Moves.Pop.{LowestOnStack}
use Rattle.groups.specs.Layout.{regions, with_marks, with_leaders, part, part_get, slice_get, slice_length, part_length, put_marks, put_leaders, tail_keeps}
use Rattle.groups.specs.Steps.{Blocks, Cut, ClosedOff, Pieces, Standing, Closed, closed_one}
use Rattle.groups.specs.declared.At.{At}

-- the blocks from b on start above the position
pub record Cutting (starts : List ℕ) (position b : ℕ) : Type 0 where
  pub some : 0 < b
  pub le : b ≤ length starts
  pub above : (i : ℕ) → b ≤ i → i < length starts → position < starts ! i

module _ {starts : List ℕ} {position b : ℕ} (I : Cutting starts position b) where
  -- the last block starts above the position
  pub cut-more : 1 < b → position < starts ! (b - 1) → Cutting starts position (b - 1)
  cut-more more lt = record {
    some = omega arith;
    le = omega (arith, I.le);
    above = λ i a u.
        ⊎_elim
        (λ h. I.above i (omega arith) u)
        (λ h. let z : i ≡ b - 1 = omega arith in omega (arith, ap (λ (i : ℕ). starts ! i) z))
        (lt_or (b - 1) i);
  }

  -- it does not
  pub cut_done : {left : ℕ} → left ≡ b → starts ! (b - 1) ≤ position → Cut starts position left
  cut_done {left} e h = record {
    some = omega (arith, I.some);
    le = omega (arith, I.le);
    below = let z : pred left ≡ b - 1 = omega arith in omega (arith, ap (λ (i : ℕ). starts ! i) z);
    above = λ i a u. I.above i (omega arith) u;
  }

  -- the first block does not
  pub more_blocks : Blocks starts position → position < starts ! (b - 1) → 1 < b
  more_blocks B lt = ⊎_elim
      (λ h. h)
      (λ h. let z : b - 1 ≡ 0 = omega arith in absurd (omega (arith, ap (λ (i : ℕ). starts ! i) z, B.base)))
      (lt_or 1 b)

-- ---- the lowest piece

pub low_first : {stack : List ℕ} {stand low : ℕ} → stack ! stand ≡ low → LowestOnStack stack stand (stand + 1) low
low_first {stack} {stand} is = record {
  place = stand;
  from_stand = omega arith;
  to_size = omega arith;
  is = is;
  least = λ q a b. let e : q ≡ stand = omega arith in omega (arith, ap (λ (i : ℕ). stack ! i) e);
}

-- one position more
pub low_min : {stack : List ℕ} {stand q low q' low' : ℕ} → LowestOnStack stack stand q low → q' ≡ q + 1 → low' ≡ min low (stack ! q) → LowestOnStack stack stand q' low'
low_min {stack} {stand} {q} {low} {q'} L q'-is low'-is =
    let piece : ℕ = stack ! q in
    let last : (p : ℕ) → q ≤ p → p < q' → stack ! p ≡ piece =
    λ p a b. let e : p ≡ q = omega arith in ap (λ (i : ℕ). stack ! i) e in
    ⊎_elim
    (λ h. record {
      place = q;
      from_stand = omega (arith, L.from_stand, L.to_size);
      to_size = omega arith;
      is = omega arith;
      least = λ p a b. ⊎_elim (λ u. omega (arith, L.least p a u)) (λ u. omega (arith, last p u b)) (lt_or p q);
    })
    (λ h. record {
      place = L.place;
      from_stand = L.from_stand;
      to_size = omega (arith, L.to_size);
      is = omega (arith, L.is);
      least = λ p a b. ⊎_elim (λ u. omega (arith, L.least p a u)) (λ u. omega (arith, last p u b)) (lt_or p q);
    })
    (lt_or piece low)

-- the pieces from a position up, as they are read
module _ {n : ℕ} {w : List ℕ} {stand size : ℕ} (P : Pieces n w stand size) where
  abbrev above : List ℕ
  above = slice_range w (3 * n + stand) (3 * n + size)

  above_length : length above ≡ size - stand
  above_length = slice_length w (omega (arith, P.stand_lt)) (omega (arith, P.size_le, P.work_n)) ∙ omega arith

  above_get : (i : ℕ) → stand + i < size → above ! i ≡ part n (3 * n) w ! (stand + i)
  above_get i lt = slice_get n (3 * n) w stand i refl (omega arith) (omega (arith, P.size_le))

  pub low_some : 0 < length above
  low_some = omega (arith, above_length, P.stand_lt)

  pub low_stack : {low : ℕ} → LowestOnStack above 0 (length above) low → LowestOnStack (part n (3 * n) w) stand size low
  low_stack L = record {
    place = stand + L.place;
    from_stand = omega arith;
    to_size = omega (arith, L.to_size, above_length);
    is = sym (above_get L.place (omega (arith, L.to_size, above_length))) ∙ L.is;
    least = λ q a b.
        let e : stand + (q - stand) ≡ q = omega arith in
        omega (arith, L.least (q - stand) (omega arith) (omega (arith, above_length)), above_get (q - stand) (omega arith), ap (λ (j : ℕ). part n (3 * n) w ! j) e);
  }

-- ---- finishing a block

pub close-none : {n : ℕ} {w : List ℕ} {stand low : ℕ} → ClosedOff n w stand stand low w
close-none = record {
  hit = λ q a b. absurd (omega arith);
  miss = λ u lt o. (refl, refl);
  next_same = refl;
  stack_same = refl;
  starts_same = refl;
  parents_same = refl;
  tail_same = refl;
}

module _ {n : ℕ} {w : List ℕ} {stand size low q : ℕ} {w' : List ℕ} (P : Pieces n w stand size) (stand-le : stand ≤ q) (q-lt : q < size) (len : length w' ≡ length w)
    (D : ClosedOff n w stand q low w') {x : ℕ} (x-is : x ≡ w' ! (3 * n + q)) where
  x_stack : part n (3 * n) w ! q ≡ x
  x_stack = ap (λ (l : List ℕ). l ! q) (sym D.stack_same) ∙ part_get n (3 * n) w' q (omega (arith, P.size_le)) ∙ sym x-is

  pub closed_lt : x < n
  closed_lt = omega (arith, x_stack, P.piece q q-lt)

  abbrev w₂ : List ℕ
  w₂ = set (set w' x finished_mark) (2 * n + x) low

  R : regions n w₂ ≡ with_leaders (with_marks (regions n w') (set (part n 0 w') x finished_mark)) (set (part n (2 * n) w') x low)
  R =
      put_leaders n (set w' x finished_mark) x low closed_lt ∙
      ap (λ (r : Regions). with_leaders r (set r.leaders x low)) (put_marks n w' x finished_mark closed_lt)

  marks_x : x < length (part n 0 w')
  marks_x = omega (arith, closed_lt, part_length n 0 w' (omega (arith, P.work_n)))

  leaders_x : x < length (part n (2 * n) w')
  leaders_x = omega (arith, closed_lt, part_length n (2 * n) w' (omega (arith, P.work_n)))

  marks_at : (u : ℕ) → part n 0 w₂ ! u ≡ set (part n 0 w') x finished_mark ! u
  marks_at u = ap (λ (r : Regions). r.marks ! u) R

  leaders_at : (u : ℕ) → part n (2 * n) w₂ ! u ≡ set (part n (2 * n) w') x low ! u
  leaders_at u = ap (λ (r : Regions). r.leaders ! u) R

  closed_two : ClosedOff n w stand (q + 1) low w₂
  closed_two = record {
    hit = λ p a b.
        let u : ℕ = part n (3 * n) w ! p in
        let old : (u ≡ x → ⊥) → p < q =
        λ f.
        ⊎_elim
        (λ h. h)
        (λ h. let e : p ≡ q = omega arith in absurd (f (ap (λ (i : ℕ). part n (3 * n) w ! i) e ∙ x_stack)))
        (lt_or p q)
        in (
          marks_at u ∙ ⊎_elim (λ e. e.1) (λ e. e.1 ∙ (D.hit p a (old e.0)).0) (set_cases (part n 0 w') x finished_mark u 0 marks_x),
          leaders_at u ∙ ⊎_elim (λ e. e.1) (λ e. e.1 ∙ (D.hit p a (old e.0)).1) (set_cases (part n (2 * n) w') x low u 0 leaders_x),
        );
    miss = λ u lt o.
        let f : u ≡ x → ⊥ = λ e. o q stand-le (omega arith) (x_stack ∙ sym e) in
        let m = D.miss u lt (λ p a b. o p a (omega arith)) in (
          marks_at u ∙ get_or-set_other (part n 0 w') x u finished_mark 0 f ∙ m.0,
          leaders_at u ∙ get_or-set_other (part n (2 * n) w') x u low 0 f ∙ m.1,
        );
    next_same = ap (λ (r : Regions). r.next) R ∙ D.next_same;
    stack_same = ap (λ (r : Regions). r.stack) R ∙ D.stack_same;
    starts_same = ap (λ (r : Regions). r.starts) R ∙ D.starts_same;
    parents_same = ap (λ (r : Regions). r.parents) R ∙ D.parents_same;
    tail_same =
        tail_keeps n (set w' x finished_mark) (2 * n + x) low (omega (arith, closed_lt)) ∙ tail_keeps n w' x finished_mark (omega (arith, closed_lt)) ∙
        D.tail_same;
  }

  -- the mark and the leader of one piece more, as they are stored
  pub close_more : {w₁ w₂ : List ℕ} → w₁ ≡ set w' x finished_mark → w₂ ≡ set w₁ (2 * n + x) low → ClosedOff n w stand (q + 1) low w₂
  close_more e f = subst (λ (u : List ℕ). ClosedOff n w stand (q + 1) low u) (sym (f ∙ ap (λ (u : List ℕ). set u (2 * n + x) low) e)) closed_two

-- a block of one piece, which leads it
pub closed_alone : {n : ℕ} {w : List ℕ} {a : At} → Standing n w a → a.stand + 1 ≡ a.size → {w' : List ℕ} → w' ≡ closed_one n w a.piece → Closed n w a.stand a.size w'
closed_alone {n} {w} {a} S e {w'} w'-is =
    let P = S.pieces in
    let x-is : a.piece ≡ w ! (3 * n + a.stand) = sym S.piece_is ∙ part_get n (3 * n) w a.stand (omega (arith, P.stand_lt, P.size_le)) in
    subst (λ (m : ℕ). Closed n w a.stand m w') e (record {
      low = a.piece;
      lowest = low_first S.piece_is;
      off = close_more P (omega arith) P.stand_lt refl close-none x-is refl w'-is;
    })
