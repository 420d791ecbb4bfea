-- Blocks of a text: what is known of the bytes that are passed.
use Rattle.std.specs.Prelude.{◌≡◌, Bool, false, List, ℕ, ◌+◌, ◌-◌, ◌*◌, ◌/◌, ◌%◌, ◌≤◌, ◌<◌, length, get_or, take, drop}
use Rattle.std.proofs.Common.{sym, ap, ◌∙◌, subst, arith, length-take, length-drop, get_or-take, get_or-drop}
use Rattle.std.specs.List.{AllWithin, HoldsAt}
use Rattle.lines.specs.Ending.{Closed}
use Rattle.reader.specs.Lines.{NoEnd, LineEnd, block_inside, no_end_join}

-- no byte of so many from `at` on, each 16 behind the one before, is lower than r
abbrev pub Lowest : List ℕ → ℕ → ℕ → ℕ → Type 0
Lowest text at many r = (j : ℕ) → j < many → r ≤ get_or text (at + 16 * j) 0

-- all bytes of the first i rows of 32 are higher than 10, each byte of a row 16 behind the one before
abbrev pub High : List ℕ → ℕ → ℕ → Type 0
High text at i = (l : ℕ) → l < i → (j : ℕ) → j < 32 → 10 < get_or text (at + l + 16 * j) 0

-- a test of blocks of this size: it may be asked of each block of the text, and no line ends in one of which it says no
pub record Tells (text : List ℕ) (size : ℕ) (asked : ℕ → Type 0) (said : ℕ → Bool → Type 0) : Type 0 where
  pub may : (i : ℕ) → i + size ≤ length text → asked i
  pub no : (i : ℕ) → i + size ≤ length text → said i false → NoEnd text i (i + size)

-- r is the number where the byte is 10, else 255
pub record IfEnd (b number r : ℕ) : Type 0 where
  pub is : b ≡ 10 → r ≡ number
  pub other : (b ≡ 10 → ⊥) → r ≡ 255

-- the first of `size` bytes from `at` on that ends a line is number r; no number below 255 where none does
pub record FirstEnd (text : List ℕ) (at size r : ℕ) : Type 0 where
  pub before : (j : ℕ) → j < size → j < r → get_or text (at + j) 0 ≡ 10 → ⊥
  pub is : r < 255 → (r < size) × (get_or text (at + r) 0 ≡ 10)

-- no line ends from r on, and one ends right before r, unless that is as far back as one went
pub record Back (text : List ℕ) (to r : ℕ) : Type 0 where
  pub most : to ≤ r
  pub inside : r ≤ length text
  pub after : NoEnd text r (length text)
  pub is : to < r → get_or text (r - 1) 0 ≡ 10

-- ---- laws

pub high_all : (text : List ℕ) (at : ℕ) → High text at 16 → NoEnd text at (at + 512)
high_all text at h i a b e =
    let k = i - at in
    let there : at + k % 16 + 16 * (k / 16) ≡ i = omega arith in
    let x : 10 < get_or text i 0 = subst (λ (m : ℕ). 10 < get_or text m 0) there (h (k % 16) (omega arith) (k / 16) (omega arith)) in
    omega (arith, x, e)

module _ {text : List ℕ} {at r : ℕ} (room : at + 64 ≤ length text) (f : FirstEnd text at 64 r) where
  -- a line ends in the block
  pub first_here : r < 64 → LineEnd text at (at + r)
  first_here l = record {
    after = omega arith;
    inside = omega arith;
    before = λ i a b e. f.before (i - at) (omega arith) (omega arith) (ap (λ (k : ℕ). get_or text k 0) (let x : at + (i - at) ≡ i = omega arith in x) ∙ e);
    is = (f.is (omega arith)).1;
  }

  -- no line ends in it: the text goes on behind it, and behind the next multiple of 64
  module _ (l : 64 ≤ r) (closed : Closed text) where
    first_past : NoEnd text at (at + 64)
    first_past i a b e = f.before (i - at) (omega arith) (omega arith) (ap (λ (k : ℕ). get_or text k 0) (let x : at + (i - at) ≡ i = omega arith in x) ∙ e)

    pub first_on : 64 * (at / 64 + 1) < length text
    first_on = omega (arith, block_inside text at 64 closed (omega arith) room first_past)

    -- what ends from a later place on
    pub first_join : {end : ℕ} → NoEnd text (64 * (at / 64 + 1)) end → NoEnd text at end
    first_join {end} u = no_end_join text at (64 * (at / 64 + 1)) end (λ i a b. first_past i a (omega arith)) u

-- a line that ends behind what is passed
pub line_past : {text : List ℕ} {at mid r : ℕ} → at ≤ mid → NoEnd text at mid → LineEnd text mid r → LineEnd text at r
line_past {text} {at} {mid} {r} h u e = record {
  after = omega (arith, e.after);
  inside = e.inside;
  before = no_end_join text at mid r u e.before;
  is = e.is;
}

-- ---- a part of a text, byte by byte

-- the part from `to` up to `from`
abbrev part : List ℕ → ℕ → ℕ → List ℕ
part text from to = take (from - to) (drop to text)

module _ (text : List ℕ) (from to : ℕ) where
  part_size : from ≤ length text → length (part text from to) ≡ from - to
  part_size h = omega (arith, length-take (from - to) (drop to text), length-drop to text)

  byte_at : (j : ℕ) → to ≤ j → j < from → get_or (part text from to) (j - to) 0 ≡ get_or text j 0
  byte_at j a b =
      get_or-take (from - to) (drop to text) (j - to) 0 (omega arith) ∙ get_or-drop to text (j - to) 0
      ∙ ap (λ (k : ℕ). get_or text k 0) (let x : to + (j - to) ≡ j = omega arith in x)

-- the first byte 10 from a place on
pub first_at : {text : List ℕ} {at i : ℕ}
    → (i < length (part text (length text) at)) × HoldsAt (λ b. b ≡ 10) (part text (length text) at) i
    × AllWithin (λ b. b ≡ 10 → ⊥) (part text (length text) at) 0 i → LineEnd text at (at + i)
first_at {text} {at} {i} f = record {
  after = omega arith;
  inside = inside;
  before = λ j a b e. f.2 (j - at) 0 (omega arith) (omega arith) (byte_at text (length text) at j a (omega (arith, inside)) ∙ e);
  is = sym (byte_at text (length text) at (at + i) (omega arith) inside) ∙ (let x : at + i - at ≡ i = omega arith in rw x (f.1 0));
}
  where
    inside : at + i < length text
    inside = omega (arith, f.0, part_size text (length text) at)

module _ (text : List ℕ) {from to : ℕ} (start : (to ≤ from) × (from ≤ length text) × NoEnd text from (length text)) where
  size : length (part text from to) ≡ from - to
  size = part_size text from to start.1

  -- the last byte 10 of the part, or none
  pub back_some : {i : ℕ}
      → (i < length (part text from to)) × (get_or (part text from to) i 0 ≡ 10)
      × ((k : ℕ) → i < k → k < length (part text from to) → get_or (part text from to) k 0 ≡ 10 → ⊥) → Back text to (to + i + 1)
  back_some {i} f = record {
    most = omega arith;
    inside = omega (arith, f.0, size, start.1);
    after = no_end_join text (to + i + 1) from (length text)
        (λ j a b e. f.2 (j - to) (omega arith) (omega (arith, size)) (byte_at text from to j (omega arith) b ∙ e)) start.2;
    is = λ _. sym (byte_at text from to (to + i + 1 - 1) (omega arith) (omega (arith, f.0, size))) ∙ (let x : to + i + 1 - 1 - to ≡ i = omega arith in rw x f.1);
  }

  pub back_none : ((k : ℕ) → k < length (part text from to) → get_or (part text from to) k 0 ≡ 10 → ⊥) → Back text to to
  back_none f = record {
    most = omega arith;
    inside = omega (arith, start.0, start.1);
    after = no_end_join text to from (length text) (λ j a b e. f (j - to) (omega (arith, size)) (byte_at text from to j a b ∙ e)) start.2;
    is = λ h. absurd (omega arith);
  }
