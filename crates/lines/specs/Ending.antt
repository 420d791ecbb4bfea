-- A line read at its place in a text: the byte 10 behind its last word ends it.
use Rattle.std.specs.Prelude.{◌≡◌, refl, Bool, true, false, List, [], ◌∷◌, ◌++◌, ℕ, suc, ◌+◌, ◌≤◌, ◌<◌, eqb, leb, length, get_or, take, drop, Option, Some, None}
use Rattle.std.proofs.Common.{ap, ◌∙◌, arith}
use Rattle.std.proofs.lemmas.List.{take-append-le, drop-append-le}
use Rattle.rules.specs.Tests.{◌&◌, pick}
use Rattle.rules.specs.Trace.{Word, is, bad, is_digit, digits, decimal_from, number_of_digits, number, word, target, target_word, says}
use Rattle.rules.specs.declared.Command.{Command}
use Rattle.rules.specs.declared.Command.TheVariants.{New, Set, Freeze, Acquire, Release, Bin, Look}
use Rattle.rules.specs.Replies.{Line}

-- what stands at a place: what a right line says, with the place behind its end; none where no right line stands
abbrev pub Found : Type 0
Found = Option (Command × ℕ)

-- what a line names last, a piece or a seat, with the place behind byte 10; none for anything else
abbrev pub Named : Type 0
Named = Option (ℕ × ℕ)

-- no byte of it ends a line
abbrev pub Unended : List ℕ → Type 0
Unended part = (i : ℕ) → i < length part → get_or part i 0 ≡ 10 → ⊥

-- a byte that ends no line has another after it
abbrev pub Closed : List ℕ → Type 0
Closed text = (i : ℕ) → i < length text → (get_or text i 0 ≡ 10 → ⊥) → i + 1 < length text

-- what stands at the front of a text: a command with what is left behind its line, or no right line
pub data Front : Type 0 where
  right : Command → List ℕ → Front
  other : Front

-- a line that says this, with what is left behind it
abbrev pub leaving : Line → List ℕ → Front
leaving (Some c) more = right c more
leaving None more = other

abbrev pub front_of : List ℕ → Found → Front
front_of text (Some (c, next)) = right c (drop next text)
front_of text None = other

-- the place behind the line
abbrev pub next_of : Found → ℕ
next_of (Some (c, next)) = next
next_of None = 0

-- whatever line stands at a place with byte 10 behind it, it is what was found
pub record Reads (text : List ℕ) (at : ℕ) (r : Found) : Type 0 where
  pub exact : (line more : List ℕ) → Unended line → drop at text ≡ line ++ (10 ∷ more) → front_of text r ≡ leaving (says line) more
  pub inside : next_of r ≤ length text

-- ---- the words of the rulebook, with byte 10 where the line ends

abbrev pub ended_by : Command → List ℕ → Front
ended_by c [] = other
ended_by c (b ∷ bs) = pick (eqb b 10) (right c bs) other

abbrev pub naming_by : (ℕ → Command) → Word → Front
naming_by c bad = other
naming_by c (is p rest) = ended_by (c p) rest

abbrev pub seat_or_by : (ℕ → ℕ → Command) → ℕ → List ℕ → Front
seat_or_by c p [] = other
seat_or_by c p (b ∷ bs) = pick (eqb b 10) (right (c p 0) bs) (naming_by (c p) (word (b ∷ bs)))

abbrev pub seating_by : (ℕ → ℕ → Command) → Word → Front
seating_by c bad = other
seating_by c (is p rest) = seat_or_by c p rest

abbrev pub set_to_by : ℕ → ℕ → Word → Front
set_to_by p k bad = other
set_to_by p k (is t rest) = ended_by (Set p k t) rest

abbrev pub set_place_by : ℕ → Word → Front
set_place_by p bad = other
set_place_by p (is k rest) = set_to_by p k (target_word rest)

abbrev pub set_piece_by : Word → Front
set_piece_by bad = other
set_piece_by (is p rest) = set_place_by p (word rest)

unfoldable pub chosen_by : ℕ → List ℕ → Front
chosen_by b rest =
    pick (eqb b 110) (ended_by New rest)
    (pick (eqb b 115) (set_piece_by (word rest))
    (pick (eqb b 102) (seating_by Freeze (word rest))
    (pick (eqb b 97) (seating_by Acquire (word rest))
    (pick (eqb b 114) (seating_by Release (word rest))
    (pick (eqb b 98) (naming_by Bin (word rest))
    (pick (eqb b 108) (naming_by Look (word rest)) other))))))

-- the command c of what is named last
abbrev pub found_by : (ℕ → Command) → Named → Found
found_by c (Some (p, next)) = Some (c p, next)
found_by c None = None

-- what stands at a place is the last word, for every command that has one
pub record Names (text : List ℕ) (at : ℕ) (r : Named) : Type 0 where
  pub exact : (c : ℕ → Command) → front_of text (found_by c r) ≡ naming_by c (word (drop at text))
  pub inside : (c : ℕ → Command) → next_of (found_by c r) ≤ length text

-- what stands behind the piece names the seat that acts, for every command that does
pub record Seats (text : List ℕ) (at : ℕ) (r : Named) : Type 0 where
  pub exact : (c : ℕ → ℕ → Command) (p : ℕ) → front_of text (found_by (c p) r) ≡ seat_or_by c p (drop at text)
  pub inside : (c : ℕ → Command) → next_of (found_by c r) ≤ length text

-- ---- a word before byte 10 is the word of the line

abbrev pub behind : Word → List ℕ → Word
behind (is p r) more = is p (r ++ more)
behind bad more = bad

digits-ended : (l more : List ℕ) → digits (l ++ (10 ∷ more)) ≡ digits l
unfolding digits
digits-ended [] more = refl
digits-ended (b ∷ bs) more = by_test (is_digit b) (digits-ended bs more)
  where
    by_test : (t : Bool) → digits (bs ++ (10 ∷ more)) ≡ digits bs → pick t (suc (digits (bs ++ (10 ∷ more)))) 0 ≡ pick t (suc (digits bs)) 0
    by_test true e = ap suc e
    by_test false e = refl

pub digits-most : (l : List ℕ) → digits l ≤ length l
unfolding digits
digits-most [] = omega arith
digits-most (b ∷ bs) = by_test (is_digit b) (digits-most bs)
  where
    by_test : (t : Bool) → digits bs ≤ length bs → pick t (suc (digits bs)) 0 ≤ suc (length bs)
    by_test true h = omega arith
    by_test false h = omega arith

number-ended : (l more : List ℕ) → number (l ++ (10 ∷ more)) ≡ behind (number l) (10 ∷ more)
unfolding number number_of_digits
number-ended l more =
    rw (digits-ended l more, take-append-le (digits l) l (10 ∷ more) (digits-most l), drop-append-le (digits l) l (10 ∷ more) (digits-most l))
    (by_test (leb 1 (digits l) & leb (digits l) 5 & leb (decimal_from 0 (take (digits l) l)) 65535))
  where
    by_test : (t : Bool)
        → pick t (is (decimal_from 0 (take (digits l) l)) (drop (digits l) l ++ (10 ∷ more))) bad
        ≡ behind (pick t (is (decimal_from 0 (take (digits l) l)) (drop (digits l) l)) bad) (10 ∷ more)
    by_test true = refl
    by_test false = refl

pub word-ended : (l more : List ℕ) → word (l ++ (10 ∷ more)) ≡ behind (word l) (10 ∷ more)
unfolding word
word-ended [] more = refl
word-ended (b ∷ bs) more = by_test (eqb b 32) (number-ended bs more)
  where
    by_test : (t : Bool) → number (bs ++ (10 ∷ more)) ≡ behind (number bs) (10 ∷ more) → pick t (number (bs ++ (10 ∷ more))) bad ≡ behind (pick t (number bs) bad) (10 ∷ more)
    by_test true e = e
    by_test false e = refl

target-ended : (l more : List ℕ) → target (l ++ (10 ∷ more)) ≡ behind (target l) (10 ∷ more)
unfolding target
target-ended [] more = number-ended [] more ∙ (unfold number number_of_digits digits in refl)
target-ended (b ∷ bs) more = by_test (eqb b 45) (number-ended (b ∷ bs) more)
  where
    by_test : (t : Bool) → number (b ∷ (bs ++ (10 ∷ more))) ≡ behind (number (b ∷ bs)) (10 ∷ more)
        → pick t (is 65535 (bs ++ (10 ∷ more))) (number (b ∷ (bs ++ (10 ∷ more)))) ≡ behind (pick t (is 65535 bs) (number (b ∷ bs))) (10 ∷ more)
    by_test true e = refl
    by_test false e = e

pub target-word-ended : (l more : List ℕ) → target_word (l ++ (10 ∷ more)) ≡ behind (target_word l) (10 ∷ more)
unfolding target_word
target-word-ended [] more = refl
target-word-ended (b ∷ bs) more = by_test (eqb b 32) (target-ended bs more)
  where
    by_test : (t : Bool) → target (bs ++ (10 ∷ more)) ≡ behind (target bs) (10 ∷ more) → pick t (target (bs ++ (10 ∷ more))) bad ≡ behind (pick t (target bs) bad) (10 ∷ more)
    by_test true e = e
    by_test false e = refl
