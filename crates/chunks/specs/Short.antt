-- A line longer than 64 bytes is bad whatever its bytes, so the first 65 bytes of an unfinished line are enough to keep.
use Rattle.std.specs.Prelude.{◌≡◌, refl, Bool, true, false, List, [], ◌∷◌, ◌++◌, ℕ, eqb, length, take}
use Rattle.std.proofs.Common.{⊎_elim, sym, ◌∙◌, arith, take_all, length-take-le, take-take}
use Rattle.std.proofs.lemmas.Bool.{cases_lt}
use Rattle.std.proofs.lemmas.List.{take-append-le}
use Rattle.rules.specs.Tests.{pick}
use Rattle.rules.specs.Tables.{Store}
use Rattle.rules.specs.Trace.{last_line, lines_from, says, output_of}
use Rattle.lines.specs.Says.{says_long}

-- so many bytes of an unfinished line: the number of the constant ENOUGH
abbrev pub enough : ℕ
enough = 65

-- a line says what its first 65 bytes say
says_short : (l : List ℕ) → says l ≡ says (take enough l)
says_short l =
    ⊎_elim
    (λ s. let n : length (take enough l) ≡ enough = length-take-le enough l (omega arith) in
    says_long l (omega arith) ∙ sym (says_long (take enough l) (omega arith)))
    (λ s. rw (take_all enough l s))
    (cases_lt enough (length l))

short_append : (begun part : List ℕ) → take enough (take enough begun ++ part) ≡ take enough (begun ++ part)
short_append begun part =
    ⊎_elim
    (λ s. let n : length (take enough begun) ≡ enough = length-take-le enough begun (omega arith) in
    take-append-le enough (take enough begun) part (omega arith) ∙ take-take enough enough begun (omega arith) ∙ sym (take-append-le enough begun part (omega arith)))
    (λ s. rw (take_all enough begun s))
    (cases_lt enough (length begun))

-- ---- two unfinished lines with the same first 65 bytes give the same output, whatever follows

alike_says : (x y : List ℕ) → take enough x ≡ take enough y → says x ≡ says y
alike_says x y e = says_short x ∙ rw e (sym (says_short y))

alike_more : (x y part : List ℕ) → take enough x ≡ take enough y → take enough (x ++ part) ≡ take enough (y ++ part)
alike_more x y part e = sym (short_append x part) ∙ rw e (short_append y part)

alike_line : (s : Store) (x y : List ℕ) (ls : List (List ℕ)) → take enough x ≡ take enough y → output_of s (x ∷ ls) ≡ output_of s (y ∷ ls)
unfolding output_of
alike_line s x y ls e = rw (alike_says x y e)

alike_last : (s : Store) (x y : List ℕ) → take enough x ≡ take enough y → output_of s (last_line x) ≡ output_of s (last_line y)
alike_last s [] [] e = refl
alike_last s [] (b ∷ bs) e = let z : ◌≡◌ {A = ℕ} 0 1 = cc in absurd (omega arith)
alike_last s (a ∷ l) [] e = let z : ◌≡◌ {A = ℕ} 0 1 = cc in absurd (omega arith)
alike_last s (a ∷ l) (b ∷ bs) e = alike_line s (a ∷ l) (b ∷ bs) [] e

alike_output : (s : Store) (x y text : List ℕ) → take enough x ≡ take enough y → output_of s (lines_from x text) ≡ output_of s (lines_from y text)
unfolding lines_from
alike_output s x y [] e = alike_last s x y e
alike_output s x y (b ∷ bs) e =
    by_test (alike_output s (x ++ (b ∷ [])) (y ++ (b ∷ [])) bs (alike_more x y (b ∷ []) e)) (eqb b 10)
  where
    by_test : output_of s (lines_from (x ++ (b ∷ [])) bs) ≡ output_of s (lines_from (y ++ (b ∷ [])) bs)
        → (t : Bool)
        → output_of s (pick t (x ∷ lines_from [] bs) (lines_from (x ++ (b ∷ [])) bs))
        ≡ output_of s (pick t (y ∷ lines_from [] bs) (lines_from (y ++ (b ∷ [])) bs))
    by_test f true = alike_line s x y (lines_from [] bs) e
    by_test f false = f

-- so keeping the first 65 bytes of an unfinished line gives the same output
pub output_short : (s : Store) (begun text : List ℕ) → output_of s (lines_from (take enough begun) text) ≡ output_of s (lines_from begun text)
output_short s begun text = alike_output s (take enough begun) begun text (take-take enough enough begun (omega arith))
