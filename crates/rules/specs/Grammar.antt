-- The trace by example: what lines say, near misses among them; how a text is cut into lines; numbers written out.
use Rattle.std.specs.Prelude.{◌≡◌, refl, List, [], ◌∷◌, ℕ, Some, None}
use Prim.Native.String.{String}
use Rattle.rules.specs.Limits.{none}
use Rattle.rules.specs.Texts.{bytes}
use Rattle.rules.specs.Trace.{lines_from, lines_of, digits, decimal_from, number_of_digits, number, word, target, target_word, chosen, says, decimal_in, decimal}
use Rattle.rules.specs.declared.Command.{Command}
use Rattle.rules.specs.declared.Command.TheVariants.{New, Set, Freeze, Acquire, Release, Bin, Look}
use Rattle.rules.specs.Replies.{Line}

-- all that reading a line and writing a number computes with
unfoldable pub reading : Unit {0}
unfolding bytes lines_from lines_of digits decimal_from number_of_digits number word target target_word chosen says decimal_in decimal
reading = tt

pub record Example : Type 0 where
  pub line : String
  pub says : Line

abbrev right : String → Command → Example
right l c = record { line = l; says = Some c }

abbrev wrong : String → Example
wrong l = record { line = l; says = None }

unfoldable pub examples : List Example
examples =
    -- every command, leading zeros, 65535 for none, numbers past every piece and place
    right "n" New
    ∷ right "s 00000 3 -" (Set 0 3 none)
    ∷ right "s 0 3 65535" (Set 0 3 none)
    ∷ right "s 1 65535 2" (Set 1 65535 2)
    ∷ right "f 00007" (Freeze 7 0)
    ∷ right "f 65535" (Freeze 65535 0)
    ∷ right "a 9" (Acquire 9 0)
    ∷ right "r 10" (Release 10 0)
    ∷ right "b 0" (Bin 0)
    ∷ right "l 1024" (Look 1024)
    -- with a seat, which may be any number
    ∷ right "f 7 31" (Freeze 7 31)
    ∷ right "a 9 00002" (Acquire 9 2)
    ∷ right "r 10 65535" (Release 10 65535)
    -- an empty line, spaces before, behind and twice
    ∷ wrong ""
    ∷ wrong "n "
    ∷ wrong " n"
    ∷ wrong "f  0"
    ∷ wrong "f 0 "
    ∷ wrong "f 0  1"
    ∷ wrong "f 0 1 "
    ∷ wrong "s 0 0 - "
    -- cut lines, and words too many
    ∷ wrong "f"
    ∷ wrong "f "
    ∷ wrong "s 0 0"
    ∷ wrong "n1"
    ∷ wrong "s 0 0 0 0"
    ∷ wrong "f 0 1 2"
    ∷ wrong "b 0 1"
    ∷ wrong "l 0 1"
    -- six digits, 65536, signs and letters in numbers
    ∷ wrong "f 000001"
    ∷ wrong "f 65536"
    ∷ wrong "f 0 65536"
    ∷ wrong "f 0 000001"
    ∷ wrong "f +1"
    ∷ wrong "f 1a"
    -- `-` stands for T alone
    ∷ wrong "f -"
    ∷ wrong "f 0 -"
    ∷ wrong "s - 0 1"
    ∷ wrong "s 0 - 1"
    ∷ wrong "s 0 0 -1"
    ∷ wrong "s 0 0 --"
    -- no command, a capital letter, a carriage return
    ∷ wrong "x 0"
    ∷ wrong "N"
    ∷ wrong "f 0\r"
    ∷ []

unfoldable pub read : List Example → List Line
read [] = []
read (e ∷ es) = says (bytes e.line) ∷ read es

unfoldable pub meant : List Example → List Line
meant [] = []
meant (e ∷ es) = e.says ∷ meant es

-- every line says what stands beside it
pub lines_say : read examples ≡ meant examples
unfolding reading examples read meant
lines_say = refl

-- ---- lines end in byte 10; a last line without it counts if it has a byte

unfoldable pub cut : List String → List (List (List ℕ))
cut [] = []
cut (t ∷ ts) = lines_of (bytes t) ∷ cut ts

pub texts_cut : cut ("" ∷ "\n" ∷ "n" ∷ "n\n" ∷ "n\n\n" ∷ "\nn" ∷ [])
    ≡ [] ∷ ([] ∷ []) ∷ (bytes "n" ∷ []) ∷ (bytes "n" ∷ []) ∷ (bytes "n" ∷ [] ∷ []) ∷ ([] ∷ bytes "n" ∷ []) ∷ []
unfolding reading cut
texts_cut = refl

-- ---- numbers are written without leading zeros

unfoldable pub written : List ℕ → List (List ℕ)
written [] = []
written (v ∷ vs) = decimal v ∷ written vs

unfoldable pub shown : List String → List (List ℕ)
shown [] = []
shown (t ∷ ts) = bytes t ∷ shown ts

pub numbers_written : written (0 ∷ 9 ∷ 10 ∷ 1024 ∷ 65534 ∷ 1028096 ∷ 4294967295 ∷ [])
    ≡ shown ("0" ∷ "9" ∷ "10" ∷ "1024" ∷ "65534" ∷ "1028096" ∷ "4294967295" ∷ [])
unfolding reading written shown
numbers_written = refl
