-- The lines of a text whose last byte is 10, by their places.
use Rattle.std.specs.Prelude.{◌≡◌, refl, Bool, true, false, List, [], ◌∷◌, ◌++◌, ℕ, zero, suc, ◌+◌, ◌-◌, ◌≤◌, ◌<◌, leb, length, get_or, take, drop, Some, None}
use Rattle.std.proofs.Common.{sym, ap, ◌∙◌, subst, arith, add-one, leb-true, leb-false, take-append-drop, length-append, length-drop, drop-drop, drop-cons, get_or-drop, get_or-take, length-take-le}
use Rattle.std.proofs.Math.Decide.{ℕ_discrete}
use Rattle.rules.specs.Trace.{says}
use Rattle.rules.specs.declared.Command.{Command}
use Rattle.lines.specs.Ending.{Found, Unended, Closed, right, other, leaving, Reads}
use Rattle.rules.specs.Replies.{Line}

-- no byte from `at` to before `end` ends a line
abbrev pub NoEnd : List ℕ → ℕ → ℕ → Type 0
NoEnd text at end = (i : ℕ) → at ≤ i → i < end → get_or text i 0 ≡ 10 → ⊥

-- the line from `at` ends at r
pub record LineEnd (text : List ℕ) (at r : ℕ) : Type 0 where
  pub after : at ≤ r
  pub inside : r < length text
  pub before : NoEnd text at r
  pub is : get_or text r 0 ≡ 10

-- the whole lines of a text are its first r bytes
pub record Whole (text : List ℕ) (r : ℕ) : Type 0 where
  pub inside : r ≤ length text
  pub closed : Closed (take r text)
  pub after : NoEnd text r (length text)

-- a line stands at a place, and what is behind it from `next` on
pub record OneLine (text : List ℕ) (at next : ℕ) (line : List ℕ) : Type 0 where
  pub less : at < next
  pub inside : next ≤ length text
  pub is : drop at text ≡ line ++ (10 ∷ drop next text)
  pub unended : Unended line

-- ---- laws

-- block after block
pub no_end_join : (text : List ℕ) (at mid end : ℕ) → NoEnd text at mid → NoEnd text mid end → NoEnd text at end
no_end_join text at mid end a b i l h e = by_test (leb mid i) refl
  where
    by_test : (t : Bool) → leb mid i ≡ t → ⊥
    by_test true x = b i (leb-true mid i x) h e
    by_test false x = a i l (leb-false mid i x) e

-- a text does not end with a block in which no line ends
pub block_inside : (text : List ℕ) (i size : ℕ) → Closed text → 1 ≤ size → i + size ≤ length text → NoEnd text i (i + size) → i + size < length text
block_inside text i size c s h u =
    let last = i + (size - 1) in
    let x : last + 1 < length text = c last (omega arith) (u last (omega arith) (omega arith)) in omega arith

pub closed_last : (text : List ℕ) → (0 < length text → get_or text (length text - 1) 0 ≡ 10) → Closed text
closed_last text e i l d = go (ℕ_discrete (i + 1) (length text))
  where
    go : Dec (i + 1 ≡ length text) → i + 1 < length text
    go (yes x) = absurd (d (let j : i ≡ length text - 1 = omega arith in ap (λ (k : ℕ). get_or text k 0) j ∙ e (omega arith)))
    go (no x) = omega arith

-- a text that ends by byte 10 is all whole lines
pub whole_all : {text : List ℕ} {r : ℕ} → Whole text r → (0 < length text → get_or text (length text - 1) 0 ≡ 10) → length text ≤ r
whole_all {text} {r} w e = by_test (leb (length text) r) refl
  where
    by_test : (t : Bool) → leb (length text) r ≡ t → length text ≤ r
    by_test true x = leb-true (length text) r x
    by_test false x =
        let h : r < length text = leb-false (length text) r x in
        absurd (w.after (length text - 1) (omega arith) (omega arith) (e (omega arith)))

-- a line that ends at `end`
module _ {text : List ℕ} {at end : ℕ} (e : LineEnd text at end) where
  abbrev line : List ℕ
  line = take (end - at) (drop at text)

  line_size : length line ≡ end - at
  line_size = length-take-le (end - at) (drop at text) (omega (arith, length-drop at text, e.after, e.inside))

  pub line_at : OneLine text at (end + 1) line
  line_at = record {
    less = let x = e.after in omega arith;
    inside = let x = e.inside in omega arith;
    is = sym (take-append-drop (end - at) (drop at text)) ∙ ap (λ (r : List ℕ). take (end - at) (drop at text) ++ r) behind;
    unended = λ i l x.
        let c : i < end - at = subst (λ (m : ℕ). i < m) line_size l in
        e.before (at + i) (omega arith) (omega arith) (sym (get_or-drop at text i 0) ∙ sym (get_or-take (end - at) (drop at text) i 0 c) ∙ x);
  }
    where
      there : at + (end - at) ≡ end
      there = let x = e.after in omega arith

      behind : drop (end - at) (drop at text) ≡ 10 ∷ drop (end + 1) text
      behind =
          drop-drop (end - at) at text ∙ ap (λ (m : ℕ). drop m text) there ∙ drop-cons text end 0 e.inside
          ∙ ap (λ (x : ℕ). x ∷ drop (suc end) text) e.is ∙ ap (λ (m : ℕ). 10 ∷ drop m text) (sym (add-one end))

  -- no right line stands there: it is bad
  pub bad_at : {r : Found} → Reads text at r → r ≡ None → says line ≡ None
  bad_at h x = go (says line) ((subst (λ (y : Found). Reads text at y) x h).exact line (drop (end + 1) text) line_at.unended line_at.is)
    where
      go : (l : Line) → other ≡ leaving l (drop (end + 1) text) → l ≡ None
      go (Some c) y = absurd (let z : ◌≡◌ {A = ℕ} 0 1 = cc y in omega arith)
      go None y = refl

-- the first line of a text, and what is behind it
pub record First (text : List ℕ) : Type 0 where
  pub line : List ℕ
  pub more : List ℕ
  pub is : text ≡ line ++ (10 ∷ more)
  pub unended : Unended line

unended_cons : (b : ℕ) (l : List ℕ) → (b ≡ 10 → ⊥) → Unended l → Unended (b ∷ l)
unended_cons b l d u zero h e = d e
unended_cons b l d u (suc i) h e = u i (omega arith) e

closed_tail : (b : ℕ) (bs : List ℕ) → Closed (b ∷ bs) → Closed bs
closed_tail b bs c i l x = let y : suc i + 1 < length (b ∷ bs) = c (suc i) (omega arith) x in omega arith

first : (text : List ℕ) → Closed text → 0 < length text → First text
first [] c h = absurd (omega arith)
first (b ∷ bs) c h = go (first bs) (ℕ_discrete b 10)
  where
    on : (b ≡ 10 → ⊥) → First bs → First (b ∷ bs)
    on d f = record { line = b ∷ f.line; more = f.more; is = ap (λ (t : List ℕ). b ∷ t) f.is; unended = unended_cons b f.line d f.unended }

    go : (Closed bs → 0 < length bs → First bs) → Dec (b ≡ 10) → First (b ∷ bs)
    go r (yes e) = record { line = []; more = bs; is = ap (λ (x : ℕ). x ∷ bs) e; unended = λ i l x. omega arith }
    go r (no d) = on d (r (closed_tail b bs c) (let y : 0 + 1 < length (b ∷ bs) = c 0 (omega arith) d in omega arith))

pub closed_drop : (text : List ℕ) (at : ℕ) → Closed text → Closed (drop at text)
closed_drop text at c i l x =
    let y : at + i + 1 < length text = c (at + i) (omega (arith, length-drop at text)) (λ e. x (get_or-drop at text i 0 ∙ e)) in
    omega (arith, length-drop at text)

-- a right line stands at a place
pub record RightLine (text : List ℕ) (at next : ℕ) (c : Command) : Type 0 where
  pub line : List ℕ
  pub one : OneLine text at next line
  pub says_is : says line ≡ Some c

pub right-at : {text : List ℕ} {at next : ℕ} {r : Found} {c : Command} → Reads text at r → r ≡ Some (c, next) → Closed text → at < length text
    → RightLine text at next c
right-at {text} {at} {next} {c = c} h x closed l = go (first (drop at text) (closed_drop text at closed) (omega (arith, length-drop at text)))
  where
    read : Reads text at (Some (c, next))
    read = subst (λ (y : Found). Reads text at y) x h

    go : First (drop at text) → RightLine text at next c
    go f = by_line (says f.line) refl (read.exact f.line f.more f.unended f.is)
      where
        by_line : (l : Line) → says f.line ≡ l → right c (drop next text) ≡ leaving l f.more → RightLine text at next c
        by_line (Some d) e y =
            let p : drop next text ≡ f.more = cc y in
            let q : c ≡ d = cc y in
            let z = ap length f.is in
            record {
              line = f.line;
              one = record {
                less = omega (arith, length-drop at text, length-drop next text, ap length p, length-append f.line (10 ∷ f.more), read.inside);
                inside = read.inside;
                is = f.is ∙ ap (λ (t : List ℕ). f.line ++ (10 ∷ t)) (sym p);
                unended = f.unended;
              };
              says_is = e ∙ ap Some (sym q);
            }
        by_line None e y = absurd (let z : ◌≡◌ {A = ℕ} 0 1 = cc y in omega arith)
