-- The number at a place, read digit by digit: a digit more, the end, and a digit too many.
use Rattle.std.specs.Prelude.{ℕ, suc, ◌+◌, ◌*◌, ◌-◌, ◌^◌, ◌≤◌, ◌<◌, ◌≡◌, refl, Bool, true, false, List, ◌∷◌, leb, length, get_or, take, drop, Some, None}
use Rattle.std.proofs.Common.{◌∙◌, add-one, zero-add, drop-cons, arith, add-zero, leb-true, le-leb}
use Rattle.std.proofs.lemmas.Bool.{lt-leb}
use Rattle.rules.specs.Tests.{◌&◌, pick}
use Rattle.rules.specs.Trace.{Word, is, bad, is_digit, digits, decimal_from, number_of_digits, number}
use Rattle.lines.specs.Cursor.{digit_of, taken_of, word_of, place_of}

-- a number of which k digits of value v are read, and the d digits that a text starts with are not
unfoldable pub after_digits : ℕ → ℕ → ℕ → List ℕ → Word
after_digits k v d text =
    pick (leb 1 (k + d) & leb (k + d) 5 & leb (decimal_from v (take d text)) 65535) (is (decimal_from v (take d text)) (drop d text)) bad

unfoldable pub number_after : ℕ → ℕ → List ℕ → Word
number_after k v text = after_digits k v (digits text) text

pub number_start : (text : List ℕ) → number_after 0 0 text ≡ number text
unfolding number_after after_digits number number_of_digits
number_start text = rw (zero-add (digits text))

-- a byte that digit_of takes for a digit
digit_test : (b : ℕ) → digit_of b < 10 → is_digit b ≡ true
digit_test b l = by_test (is_digit b) l
  where
    by_test : (t : Bool) → pick t (b - 48) 10 < 10 → t ≡ true
    by_test true h = refl
    by_test false h = absurd (omega arith)

other_test : (b : ℕ) → 9 < digit_of b → is_digit b ≡ false
other_test b l = by_test (leb 48 b) (leb b 57) refl l
  where
    by_test : (s t : Bool) → leb b 57 ≡ t → 9 < pick (s & t) (b - 48) 10 → (s & t) ≡ false
    by_test true true e h = absurd (omega (arith, leb-true b 57 e))
    by_test true false e h = refl
    by_test false t e h = refl

module _ (k v b : ℕ) (bs : List ℕ) where
  -- a digit more
  cons_digit : digit_of b < 10 → number_after k v (b ∷ bs) ≡ number_after (k + 1) (v * 10 + digit_of b) bs
  unfolding number_after after_digits digits decimal_from
  cons_digit l = let e : k + suc (digits bs) ≡ k + 1 + digits bs = omega arith in rw (digit_test b l, e)

  -- a byte that is no digit ends the number
  cons_other : 9 < digit_of b → k ≤ 5 → number_after k v (b ∷ bs) ≡ pick (leb 1 k & leb v 65535) (is v (b ∷ bs)) bad
  unfolding number_after after_digits digits decimal_from
  cons_other l h = rw (other_test b l, add-zero k, le-leb k 5 h)

-- more than 5 digits are no number
too_many : (k v : ℕ) (text : List ℕ) → 5 < k → number_after k v text ≡ bad
unfolding number_after after_digits
too_many k v text h = rw (le-leb 1 (k + digits text) (omega arith), lt-leb (k + digits text) 5 (omega arith))

-- the number that ends at a place, as a word of the line
finished_word : (line : List ℕ) (k v i : ℕ) → word_of line (taken_of v k i) ≡ pick (leb 1 k & leb v 65535) (is v (drop i line)) bad
finished_word line k v i = by_test (leb 1 k & leb v 65535)
  where
    by_test : (t : Bool) → word_of line (pick t (Some (v, record { at = i })) None) ≡ pick t (is v (drop i line)) bad
    by_test true = refl
    by_test false = refl

module _ (line : List ℕ) (k v i : ℕ) where
  pub digit_more : i < length line → digit_of (get_or line i 0) < 10
      → number_after k v (drop i line) ≡ number_after (k + 1) (v * 10 + digit_of (get_or line i 0)) (drop (i + 1) line)
  digit_more l h = rw (drop-cons line i 0 l, add-one i) (cons_digit k v (get_or line i 0) (drop (suc i) line) h)

  pub digit_many : i < length line → digit_of (get_or line i 0) < 10 → 4 < k → number_after k v (drop i line) ≡ bad
  digit_many l h m = digit_more l h ∙ too_many (k + 1) (v * 10 + digit_of (get_or line i 0)) (drop (i + 1) line) (omega arith)

  pub digit_stop : i < length line → 9 < digit_of (get_or line i 0) → k ≤ 5 → number_after k v (drop i line) ≡ word_of line (taken_of v k i)
  digit_stop l h m =
      rw (finished_word line k v i, drop-cons line i 0 l) (cons_other k v (get_or line i 0) (drop (suc i) line) h m)

-- a digit ends no line
pub digit_unended : (b : ℕ) → digit_of b < 10 → b ≡ 10 → ⊥
digit_unended b l e = by_test (is_digit b) (digit_test b l) e
  where
    by_test : (t : Bool) → is_digit b ≡ true → b ≡ 10 → ⊥
    by_test t h x = let z : is_digit 10 ≡ true = rw x at h in let y : ◌≡◌ {A = ℕ} 0 1 = cc z in omega arith

-- the number that ends at a place leaves it inside the text
pub finished_place : (v k i n : ℕ) → i < n → place_of (taken_of v k i) < n
finished_place v k i n h = by_test (leb 1 k & leb v 65535)
  where
    by_test : (t : Bool) → place_of (pick t (Some (v, record { at = i })) None) < n
    by_test true = h
    by_test false = omega arith

-- the value of at most 5 digits
pub value_more : (v k d : ℕ) → v < 10 ^ k → d < 10 → v * 10 + d < 10 ^ (k + 1)
value_more v k d h l = rw add-one (omega arith)
