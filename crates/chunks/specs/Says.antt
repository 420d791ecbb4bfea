-- A text that is answered part by part: what is said, the store and the bytes that are left give the whole output, whatever comes after.
use Rattle.std.specs.Prelude.{◌≡◌, refl, List, [], ◌∷◌, ◌++◌, ℕ, ◌-◌, ◌<◌, length, get_or, take}
use Rattle.std.proofs.Common.{sym, ap, ◌∙◌, append_assoc, append-nil, arith, length-append, length-take, get_or-take}
use Rattle.std.proofs.Math.Seq.{get_or-append_seam}
use Rattle.rules.specs.Tables.{Store}
use Rattle.rules.specs.Trace.{lines_from, output_of, end_line}
use Rattle.lines.specs.Ending.{Unended}
use Rattle.chunks.specs.Chunks.{lines_part, lines_last}
use Rattle.chunks.specs.Short.{enough, output_short}

-- the front of a text is answered by `said`, and s' and the bytes that are left go on
pub record Says (s : Store) (text said : List ℕ) (s' : Store) (left : List ℕ) : Type 0 where
  pub exact : (rest : List ℕ) → output_of s (lines_from [] (text ++ rest)) ≡ said ++ output_of s' (lines_from [] (left ++ rest))

-- ---- laws

pub says_none : {s : Store} {text : List ℕ} → Says s text [] s text
says_none = record { exact = λ rest. refl }

module _ {s s' : Store} {text said left : List ℕ} (a : Says s text said s' left) where
  -- what is left is answered in its turn
  pub says-more : {s'' : Store} {said' left' : List ℕ} → Says s' left said' s'' left' → Says s text (said ++ said') s'' left'
  says-more {s''} {said'} {left'} b = record {
    exact = λ rest.
        a.exact rest ∙ ap (λ (t : List ℕ). said ++ t) (b.exact rest)
        ∙ sym (append_assoc said said' (output_of s'' (lines_from [] (left' ++ rest))));
  }

  -- bytes more behind the text
  pub says-behind : (more : List ℕ) → Says s (text ++ more) said s' (left ++ more)
  says-behind more = record {
    exact = λ rest.
        ap (λ (t : List ℕ). output_of s (lines_from [] t)) (append_assoc text more rest) ∙ a.exact (more ++ rest)
        ∙ ap (λ (t : List ℕ). said ++ output_of s' (lines_from [] t)) (sym (append_assoc left more rest));
  }

  -- the end of the text
  pub says_end : output_of s (lines_from [] text) ≡ said ++ output_of s' (lines_from [] left)
  says_end =
      ap (λ (t : List ℕ). output_of s (lines_from [] t)) (sym (append-nil text)) ∙ a.exact []
      ∙ ap (λ (t : List ℕ). said ++ output_of s' (lines_from [] t)) (append-nil left)

-- ---- a line without its end

pub cut_unended : (line : List ℕ) → Unended line → Unended (take enough line)
cut_unended line u i l e =
    u i (omega (arith, length-take enough line)) (sym (get_or-take enough line i 0 (omega (arith, length-take enough line))) ∙ e)

-- its first 65 bytes are enough
pub says-cut : {s : Store} (line : List ℕ) → Unended line → Says s line [] s (take enough line)
says-cut {s} line u = record {
  exact = λ rest.
      ap (output_of s) (lines_part [] line rest u) ∙ sym (output_short s line rest)
      ∙ sym (ap (output_of s) (lines_part [] (take enough line) rest (cut_unended line u)));
}

-- at the end of the text it gets its end, if it has a byte
abbrev pub closing : List ℕ → List ℕ
closing [] = []
closing (b ∷ bs) = (b ∷ bs) ++ (10 ∷ [])

pub closing_some : (line : List ℕ) → 0 < length line → closing line ≡ line ++ (10 ∷ [])
closing_some [] h = absurd (omega arith)
closing_some (b ∷ bs) h = refl

pub closing_same : (s : Store) (line : List ℕ) → Unended line → output_of s (lines_from [] (closing line)) ≡ output_of s (lines_from [] line)
closing_same s [] u = refl
closing_same s (b ∷ bs) u = ap (output_of s) (lines_last (b ∷ bs) u (omega arith))

-- its last byte is 10
pub closing_last : (line : List ℕ) → 0 < length (closing line) → get_or (closing line) (length (closing line) - 1) 0 ≡ 10
closing_last [] h = absurd (omega arith)
closing_last (b ∷ bs) h =
    let e : length ((b ∷ bs) ++ (10 ∷ [])) - 1 ≡ length (b ∷ bs) = omega (arith, length-append (b ∷ bs) (10 ∷ [])) in
    ap (λ (k : ℕ). get_or ((b ∷ bs) ++ (10 ∷ [])) k 0) e ∙ get_or-append_seam (b ∷ bs) 10 [] 0

none_left : (s : Store) → output_of s (lines_from [] []) ≡ end_line s.tables
unfolding output_of lines_from
none_left s = refl

-- and then only the last line of the output is left
pub says_over : {s s' : Store} {said : List ℕ} (line : List ℕ) → Unended line → Says s (closing line) said s' []
    → output_of s (lines_from [] line) ≡ said ++ end_line s'.tables
says_over {s} {s'} {said} line u a =
    sym (closing_same s line u) ∙ says_end a ∙ ap (λ (t : List ℕ). said ++ t) (none_left s')
