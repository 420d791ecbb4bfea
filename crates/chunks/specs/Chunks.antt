-- The lines of a text, part by part: a part in which no line ends, the end of a line, and a last line without its end.
use Rattle.std.specs.Prelude.{◌≡◌, List, [], ◌∷◌, ◌++◌, ℕ, suc, ◌<◌, length}
use Rattle.std.proofs.Common.{sym, ap, ◌∙◌, append_assoc, append-nil, arith, ne_eqb, refl}
use Rattle.rules.specs.Trace.{lines_from}
use Rattle.lines.specs.Ending.{Unended}

pub lines_part : (begun part rest : List ℕ) → Unended part → lines_from begun (part ++ rest) ≡ lines_from (begun ++ part) rest
unfolding lines_from
lines_part begun [] rest h = rw (append-nil begun)
lines_part begun (b ∷ bs) rest h =
    rw (ne_eqb b 10 (h 0 (omega arith)))
    (lines_part (begun ++ (b ∷ [])) bs rest (λ i l. h (suc i) (omega arith)) ∙ rw (append_assoc begun (b ∷ []) bs))

pub lines_end : (begun rest : List ℕ) → lines_from begun (10 ∷ rest) ≡ begun ∷ lines_from [] rest
unfolding lines_from
lines_end begun rest = refl

-- a text in which no line ends is one line
lines-one : (text : List ℕ) → Unended text → lines_from [] text ≡ lines_from text []
lines-one text u = ap (lines_from []) (sym (append-nil text)) ∙ lines_part [] text [] u

-- a last line without its end counts as one with it
pub lines_last : (text : List ℕ) → Unended text → 0 < length text → lines_from [] (text ++ (10 ∷ [])) ≡ lines_from [] text
lines_last text u h = lines_part [] text (10 ∷ []) u ∙ lines_end text [] ∙ only text h ∙ sym (lines-one text u)
  where
    only : (t : List ℕ) → 0 < length t → t ∷ lines_from [] [] ≡ lines_from t []
    only [] p = absurd (omega arith)
    only (b ∷ bs) p = unfold lines_from in refl
