-- What is left of a line behind a word, and that a line over 64 bytes is bad by its words alone.
use Rattle.std.specs.Prelude.{◌≡◌, refl, Bool, true, false, List, [], ◌∷◌, ℕ, suc, ◌+◌, ◌≤◌, ◌<◌, eqb, leb, length, take, drop, None}
use Rattle.std.proofs.Common.{sym, ◌∙◌, arith, leb-true, leb-false, length-drop, get_or-drop}
use Rattle.rules.specs.Tests.{◌&◌, pick}
use Rattle.rules.specs.Trace.{Word, is, bad, digits, decimal_from, number_of_digits, number, word, target, target_word, ends}
use Rattle.rules.specs.Trace.{naming, seated_by, seated_or, seated, set_to, set_place, set_piece, chosen, says}
use Rattle.rules.specs.declared.Command.{Command}
use Rattle.rules.specs.declared.Command.TheVariants.{New, Set, Freeze, Acquire, Release, Bin, Look}
use Rattle.lines.specs.Ending.{Unended, digits-most}
use Rattle.rules.specs.Replies.{Line}

-- ---- what is left behind a word: of a line without end one without end, at most k bytes shorter

abbrev pub Left : ℕ → List ℕ → Word → Type 0
Left k l (is p r) = Unended r × (length l ≤ k + length r)
Left k l bad = Unit

left_more : (b : ℕ) (k : ℕ) (bs : List ℕ) (w : Word) → Left k bs w → Left (suc k) (b ∷ bs) w
left_more b k bs (is p r) h = (h.0, omega (arith, h.1))
left_more b k bs bad h = tt

pub unended_tail : (b : ℕ) (bs : List ℕ) → Unended (b ∷ bs) → Unended bs
unended_tail b bs u i l e = u (suc i) (omega arith) e

number_left : (l : List ℕ) → Unended l → Left 5 l (number l)
unfolding number number_of_digits
number_left l u = by_test (leb 1 (digits l)) (leb (digits l) 5) (leb (decimal_from 0 (take (digits l) l)) 65535) refl
  where
    by_test : (a b c : Bool) → leb (digits l) 5 ≡ b → Left 5 l (pick (a & b & c) (is (decimal_from 0 (take (digits l) l)) (drop (digits l) l)) bad)
    by_test true true true e = (
      λ i h x. u (digits l + i) (omega (arith, length-drop (digits l) l)) (sym (get_or-drop (digits l) l i 0) ∙ x),
      omega (arith, length-drop (digits l) l, digits-most l, leb-true (digits l) 5 e),
    )
    by_test true true false e = tt
    by_test true false c e = tt
    by_test false b c e = tt

pub word_left : (l : List ℕ) → Unended l → Left 6 l (word l)
unfolding word
word_left [] u = tt
word_left (b ∷ bs) u = by_test (eqb b 32) (left_more b 5 bs (number bs) (number_left bs (unended_tail b bs u)))
  where
    by_test : (t : Bool) → Left 6 (b ∷ bs) (number bs) → Left 6 (b ∷ bs) (pick t (number bs) bad)
    by_test true h = h
    by_test false h = tt

target_left : (l : List ℕ) → Unended l → Left 5 l (target l)
unfolding target
target_left [] u = tt
target_left (b ∷ bs) u = by_test (eqb b 45) (number_left (b ∷ bs) u)
  where
    by_test : (t : Bool) → Left 5 (b ∷ bs) (number (b ∷ bs)) → Left 5 (b ∷ bs) (pick t (is 65535 bs) (number (b ∷ bs)))
    by_test true h = (unended_tail b bs u, omega arith)
    by_test false h = h

pub target-word_left : (l : List ℕ) → Unended l → Left 6 l (target_word l)
unfolding target_word
target-word_left [] u = tt
target-word_left (b ∷ bs) u = by_test (eqb b 32) (left_more b 5 bs (target bs) (target_left bs (unended_tail b bs u)))
  where
    by_test : (t : Bool) → Left 6 (b ∷ bs) (target bs) → Left 6 (b ∷ bs) (pick t (target bs) bad)
    by_test true h = h
    by_test false h = tt

-- ---- a line over 64 bytes is bad by its words alone

ends_long : (c : Command) (r : List ℕ) → 0 < length r → ends c r ≡ None
ends_long c [] h = absurd (omega arith)
ends_long c (b ∷ bs) h = refl

naming_long : (c : ℕ → Command) (l : List ℕ) (w : Word) → Left 6 l w → 18 < length l → naming c w ≡ None
naming_long c l (is p r) h k = ends_long (c p) r (omega (arith, h.1))
naming_long c l bad h k = refl

seated_by_long : (c : ℕ → ℕ → Command) (p : ℕ) (l : List ℕ) (w : Word) → Left 6 l w → 6 < length l → seated_by c p w ≡ None
seated_by_long c p l (is i r) h k = ends_long (c p i) r (omega (arith, h.1))
seated_by_long c p l bad h k = refl

seated_or_long : (c : ℕ → ℕ → Command) (p : ℕ) (l : List ℕ) → Unended l → 6 < length l → seated_or c p l ≡ None
seated_or_long c p [] u k = absurd (omega arith)
seated_or_long c p (b ∷ bs) u k = seated_by_long c p (b ∷ bs) (word (b ∷ bs)) (word_left (b ∷ bs) u) k

seated_long : (c : ℕ → ℕ → Command) (l : List ℕ) (w : Word) → Left 6 l w → 18 < length l → seated c w ≡ None
seated_long c l (is p r) h k = seated_or_long c p r h.0 (omega (arith, h.1))
seated_long c l bad h k = refl

set_to_long : (p k : ℕ) (l : List ℕ) (w : Word) → Left 6 l w → 6 < length l → set_to p k w ≡ None
set_to_long p k l (is t r) h m = ends_long (Set p k t) r (omega (arith, h.1))
set_to_long p k l bad h m = refl

set_place_long : (p : ℕ) (l : List ℕ) (w : Word) → Left 6 l w → 12 < length l → set_place p w ≡ None
set_place_long p l (is k r) h m = set_to_long p k r (target_word r) (target-word_left r h.0) (omega (arith, h.1))
set_place_long p l bad h m = refl

set_piece_long : (l : List ℕ) (w : Word) → Left 6 l w → 18 < length l → set_piece w ≡ None
set_piece_long l (is p r) h m = set_place_long p r (word r) (word_left r h.0) (omega (arith, h.1))
set_piece_long l bad h m = refl

pick_long : (t : Bool) {x y : Line} → x ≡ None → y ≡ None → pick t x y ≡ None
pick_long true a b = a
pick_long false a b = b

chosen_long : (b : ℕ) (l : List ℕ) → Unended l → 18 < length l → chosen b l ≡ None
unfolding chosen
chosen_long b l u k =
    pick_long (eqb b 110) (ends_long New l (omega arith))
    (pick_long (eqb b 115) (set_piece_long l (word l) h k)
    (pick_long (eqb b 102) (seated_long Freeze l (word l) h k)
    (pick_long (eqb b 97) (seated_long Acquire l (word l) h k)
    (pick_long (eqb b 114) (seated_long Release l (word l) h k)
    (pick_long (eqb b 98) (naming_long Bin l (word l) h k)
    (pick_long (eqb b 108) (naming_long Look l (word l) h k) refl))))))
  where
    h : Left 6 l (word l)
    h = word_left l u

pub says-chosen : (b : ℕ) (l : List ℕ) → Unended l → says (b ∷ l) ≡ chosen b l
unfolding says
says-chosen b l u = by_test (leb (suc (length l)) 64) refl
  where
    by_test : (t : Bool) → leb (suc (length l)) 64 ≡ t → pick t (chosen b l) None ≡ chosen b l
    by_test true e = refl
    by_test false e = sym (chosen_long b l u (omega (arith, leb-false (suc (length l)) 64 e)))
