-- The work as six regions: what a read and a store at an offset are of the regions.
use Rattle.std.specs.Prelude.{◌≡◌, refl, List, ℕ, ◌+◌, ◌-◌, ◌*◌, ◌≤◌, ◌<◌, length, set, take, drop, slice_range}
use Rattle.std.proofs.Common.{sym, ◌∙◌, ap, arith, length-drop, drop-set-lt, get_or-take, get_or-drop, length-take-le}
use Rattle.std.proofs.lemmas.List.{drop-set-add, take-set-le}
use Rattle.std.proofs.Math.Seq.{take-set-lt}
use Rattle.rules.specs.Lists.{◌!◌}
use Rattle.paths.specs.Search.{Regions, RegionsSized}

-- the n entries from offset o
pub part : ℕ → ℕ → List ℕ → List ℕ
part n o w = take n (drop o w)

abbrev pub regions : ℕ → List ℕ → Regions
regions n w = record {
  marks = part n 0 w;
  next = part n n w;
  leaders = part n (2 * n) w;
  stack = part n (3 * n) w;
  starts = part n (4 * n) w;
  parents = part n (5 * n) w;
}

-- the regions with one of them replaced
module _ (s : Regions) (l : List ℕ) where
  abbrev pub with_marks : Regions
  with_marks = record { marks = l; next = s.next; leaders = s.leaders; stack = s.stack; starts = s.starts; parents = s.parents }

  abbrev pub with_next : Regions
  with_next = record { marks = s.marks; next = l; leaders = s.leaders; stack = s.stack; starts = s.starts; parents = s.parents }

  abbrev pub with_leaders : Regions
  with_leaders = record { marks = s.marks; next = s.next; leaders = l; stack = s.stack; starts = s.starts; parents = s.parents }

  abbrev pub with_stack : Regions
  with_stack = record { marks = s.marks; next = s.next; leaders = s.leaders; stack = l; starts = s.starts; parents = s.parents }

  abbrev pub with_starts : Regions
  with_starts = record { marks = s.marks; next = s.next; leaders = s.leaders; stack = s.stack; starts = l; parents = s.parents }

  abbrev pub with_parents : Regions
  with_parents = record { marks = s.marks; next = s.next; leaders = s.leaders; stack = s.stack; starts = s.starts; parents = l }

-- the regions with j for the next place of piece v
abbrev pub moved : Regions → ℕ → ℕ → Regions
moved s v j = with_next s (set s.next v j)

-- what stands behind the six regions
pub tail : ℕ → List ℕ → List ℕ
tail n w = drop (6 * n) w

pub part_length : (n o : ℕ) (w : List ℕ) → o + n ≤ length w → length (part n o w) ≡ n
unfolding part
part_length n o w h = length-take-le n (drop o w) (simp length-drop (omega arith))

pub part_get : (n o : ℕ) (w : List ℕ) (i : ℕ) → i < n → part n o w ! i ≡ w ! (o + i)
unfolding part
part_get n o w i h = get_or-take n (drop o w) i 0 h ∙ get_or-drop o w i 0

-- entries of the region as a slice of the work, from its entry a on
pub slice_get : (n o : ℕ) (w : List ℕ) {from to : ℕ} (a i : ℕ) → from ≡ o + a → from + i < to → to ≤ o + n → slice_range w from to ! i ≡ part n o w ! (a + i)
slice_get n o w {from} {to} a i e lt le =
    get_or-take (to - from) (drop from w) i 0 (omega arith) ∙ get_or-drop from w i 0 ∙
    ap (λ (j : ℕ). w ! j) (omega arith) ∙ sym (part_get n o w (a + i) (omega arith))

pub slice_length : (w : List ℕ) {from to : ℕ} → from ≤ to → to ≤ length w → length (slice_range w from to) ≡ to - from
slice_length w {from} {to} le h = length-take-le (to - from) (drop from w) (simp length-drop (omega arith))

-- the marks are the first entries
pub marks_get : (n : ℕ) (w : List ℕ) (i : ℕ) → i < n → part n 0 w ! i ≡ w ! i
marks_get n w i h = part_get n 0 w i h ∙ ap (λ (j : ℕ). w ! j) (omega arith)

pub part_hit : (n o : ℕ) (w : List ℕ) (i a : ℕ) → i < n → part n o (set w (o + i) a) ≡ set (part n o w) i a
unfolding part
part_hit n o w i a h = ap (take n) (drop-set-add o w i a) ∙ take-set-lt n (drop o w) i a h

pub part_low : (n o : ℕ) (w : List ℕ) (i a : ℕ) → i < o → part n o (set w i a) ≡ part n o w
unfolding part
part_low n o w i a h = ap (take n) (drop-set-lt o w i a h)

pub part_high : (n o : ℕ) (w : List ℕ) (i a : ℕ) → o + n ≤ i → part n o (set w i a) ≡ part n o w
unfolding part
part_high n o w i a h =
    let e : i ≡ o + (i - o) = omega arith in
    ap (λ (m : ℕ). take n (drop o (set w m a))) e ∙ ap (take n) (drop-set-add o w (i - o) a) ∙ take-set-le n (drop o w) (i - o) a (omega arith)

pub tail_keeps : (n : ℕ) (w : List ℕ) (i a : ℕ) → i < 6 * n → tail n (set w i a) ≡ tail n w
unfolding tail
tail_keeps n w i a h = drop-set-lt (6 * n) w i a h

pub tail_is : (n : ℕ) (w : List ℕ) → tail n w ≡ drop (6 * n) w
unfolding tail
tail_is n w = refl

pub sizes : (n : ℕ) (w : List ℕ) → 6 * n ≤ length w → RegionsSized n (regions n w)
sizes n w h = record {
  marks_n = part_length n 0 w (omega arith);
  next-n = part_length n n w (omega arith);
  leaders_n = part_length n (2 * n) w (omega arith);
  stack_n = part_length n (3 * n) w (omega arith);
  starts-n = part_length n (4 * n) w (omega arith);
  parents_n = part_length n (5 * n) w (omega arith);
}

module _ (n : ℕ) (w : List ℕ) (i a : ℕ) (lt : i < n) where
  pub put_marks : regions n (set w i a) ≡ with_marks (regions n w) (set (part n 0 w) i a)
  put_marks =
      let e : set w i a ≡ set w (0 + i) a = ap (λ (m : ℕ). set w m a) (omega arith) in
      let h : part n 0 (set w i a) ≡ set (part n 0 w) i a = ap (part n 0) e ∙ part_hit n 0 w i a lt in
      λ t. record {
        marks = h t;
        next = part_low n n w i a (omega arith) t;
        leaders = part_low n (2 * n) w i a (omega arith) t;
        stack = part_low n (3 * n) w i a (omega arith) t;
        starts = part_low n (4 * n) w i a (omega arith) t;
        parents = part_low n (5 * n) w i a (omega arith) t;
      }

  pub put_next : regions n (set w (n + i) a) ≡ with_next (regions n w) (set (part n n w) i a)
  put_next = λ t. record {
    marks = part_high n 0 w (n + i) a (omega arith) t;
    next = part_hit n n w i a lt t;
    leaders = part_low n (2 * n) w (n + i) a (omega arith) t;
    stack = part_low n (3 * n) w (n + i) a (omega arith) t;
    starts = part_low n (4 * n) w (n + i) a (omega arith) t;
    parents = part_low n (5 * n) w (n + i) a (omega arith) t;
  }

  pub put_leaders : regions n (set w (2 * n + i) a) ≡ with_leaders (regions n w) (set (part n (2 * n) w) i a)
  put_leaders = λ t. record {
    marks = part_high n 0 w (2 * n + i) a (omega arith) t;
    next = part_high n n w (2 * n + i) a (omega arith) t;
    leaders = part_hit n (2 * n) w i a lt t;
    stack = part_low n (3 * n) w (2 * n + i) a (omega arith) t;
    starts = part_low n (4 * n) w (2 * n + i) a (omega arith) t;
    parents = part_low n (5 * n) w (2 * n + i) a (omega arith) t;
  }

  pub put_stack : regions n (set w (3 * n + i) a) ≡ with_stack (regions n w) (set (part n (3 * n) w) i a)
  put_stack = λ t. record {
    marks = part_high n 0 w (3 * n + i) a (omega arith) t;
    next = part_high n n w (3 * n + i) a (omega arith) t;
    leaders = part_high n (2 * n) w (3 * n + i) a (omega arith) t;
    stack = part_hit n (3 * n) w i a lt t;
    starts = part_low n (4 * n) w (3 * n + i) a (omega arith) t;
    parents = part_low n (5 * n) w (3 * n + i) a (omega arith) t;
  }

  pub put_starts : regions n (set w (4 * n + i) a) ≡ with_starts (regions n w) (set (part n (4 * n) w) i a)
  put_starts = λ t. record {
    marks = part_high n 0 w (4 * n + i) a (omega arith) t;
    next = part_high n n w (4 * n + i) a (omega arith) t;
    leaders = part_high n (2 * n) w (4 * n + i) a (omega arith) t;
    stack = part_high n (3 * n) w (4 * n + i) a (omega arith) t;
    starts = part_hit n (4 * n) w i a lt t;
    parents = part_low n (5 * n) w (4 * n + i) a (omega arith) t;
  }

  pub put_parents : regions n (set w (5 * n + i) a) ≡ with_parents (regions n w) (set (part n (5 * n) w) i a)
  put_parents = λ t. record {
    marks = part_high n 0 w (5 * n + i) a (omega arith) t;
    next = part_high n n w (5 * n + i) a (omega arith) t;
    leaders = part_high n (2 * n) w (5 * n + i) a (omega arith) t;
    stack = part_high n (3 * n) w (5 * n + i) a (omega arith) t;
    starts = part_high n (4 * n) w (5 * n + i) a (omega arith) t;
    parents = part_hit n (5 * n) w i a lt t;
  }
