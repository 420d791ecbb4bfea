-- A whole lent trace in the room: its whole lines, then what is left of it as a line; only the last line of the output is left.
use Rattle.std.specs.Prelude.{◌≡◌, refl, Option, None, Some, List, [], ◌∷◌, ◌++◌, ℕ, ◌+◌, ◌-◌, ◌≤◌, ◌<◌, min, length, take, drop, set}
use Rattle.std.proofs.Common.{sym, ap, ◌∙◌, subst, arith, add-one}
use Rattle.std.proofs.Common.{append-nil, append_assoc, length-append, length-take, length-drop, length-set, take-append-drop, length-take-le, get_or-drop, take_all, take-take, take-suc-set}
use Rattle.std.proofs.Math.Seq.{take-length}
use Rattle.rules.specs.Tables.{Store}
use Rattle.rules.specs.Trace.{lines_from, output_of, end_line}
use Rattle.lines.specs.Ending.{Unended, Closed}
use Rattle.chunks.specs.Short.{enough}
use Rattle.chunks.specs.Says.{says-behind, says_end, cut_unended, says-cut, closing, closing_some, closing_same, closing_last, says_over}
use Rattle.obeying.specs.Standing.{Standing}
use Rattle.reader.specs.Answered.{Stands}
use Rattle.reader.specs.Lines.{Whole, closed_last}
use Rattle.lending.specs.Poured.{Holds, Pours, Poured}

-- the first r bytes of a buffer are a line that gets its end, or as much of it as is enough
pub record Ends (line last : List ℕ) (r : ℕ) : Type 0 where
  pub inside : r ≤ length last
  pub is : take r last ≡ closing (take enough line)

-- the room is too small for the output of the text, or all is answered but for the last line, and the store stands
abbrev pub Fills : Store → List ℕ → List ℕ → Standing → List ℕ → Option ℕ → Type 0
Fills s₀ text room₀ a room None = length room₀ < length (output_of s₀ (lines_from [] text))
Fills s₀ text room₀ a room (Some size) =
    (size ≤ length room) × Stands a.store.tables.base.n a.store a.list a.work a.from
    × (output_of s₀ (lines_from [] text) ≡ take size room ++ end_line a.store.tables)

pub record Filled (s₀ : Store) (text room₀ : List ℕ) (a : Standing) (room : List ℕ) (r : Option ℕ) : Type 0 where
  pub is : Fills s₀ text room₀ a room r

-- ---- laws

pub ends-none : {line last : List ℕ} → length line ≡ 0 → Ends line last 0
ends-none {line} e = record { inside = omega arith; is = none line e }
  where
    none : (t : List ℕ) → length t ≡ 0 → [] ≡ closing (take enough t)
    none [] x = refl
    none (b ∷ bs) x = absurd (omega arith)

-- as many bytes as the line has, or as are enough, and byte 10
pub ends_some : (line last buf : List ℕ) {size : ℕ} → 0 < length line → enough < length last → size ≡ min (length line) enough
    → length buf ≡ length last → take size buf ≡ take size line → Ends line (set buf size 10) (size + 1)
ends_some line last buf {size} some room few same e = record {
  inside = omega (arith, length-set buf size 10);
  is = ap (λ (k : ℕ). take k (set buf size 10)) (add-one size) ∙ take-suc-set buf size 10 (omega arith)
      ∙ ap (λ (t : List ℕ). t ++ (10 ∷ [])) (e ∙ cut)
      ∙ sym (closing_some (take enough line) (omega (arith, length-take enough line)));
}
  where
    cut : take size line ≡ take enough line
    cut =
        sym (take-take size enough line (omega arith)) ∙ ap (λ (k : ℕ). take k (take enough line)) (let k : size ≡ min enough (length line) = omega arith in k ∙ sym (length-take enough line))
        ∙ take-length (take enough line)

pub ends_closed : {line last : List ℕ} {r : ℕ} → Ends line last r → Closed (take r last)
ends_closed {line} x = subst Closed (sym x.is) (closed_last (closing (take enough line)) (closing_last (take enough line)))

-- what is left of a text behind its whole lines
abbrev pub left_of : List ℕ → ℕ → List ℕ
left_of text at = take (length text - at) (drop at text)

module _ {text : List ℕ} {at : ℕ} (w : Whole text at) where
  left_is : left_of text at ≡ drop at text
  left_is = take_all (length text - at) (drop at text) (omega (arith, length-drop at text))

  left_unended : Unended (left_of text at)
  left_unended = subst Unended (sym left_is)
      (λ i l e. w.after (at + i) (omega arith) (omega (arith, length-drop at text, w.inside)) (sym (get_or-drop at text i 0) ∙ e))

  text_is : take at text ++ left_of text at ≡ text
  text_is = ap (λ (t : List ℕ). take at text ++ t) left_is ∙ take-append-drop at text

  -- the whole lines do not fit
  pub filled_early : {s₀ : Store} {room : List ℕ} {a₁ : Standing} {room₁ : List ℕ} → Poured s₀ (take at text) room 0 a₁ room₁ None
      → {a : Standing} {room' : List ℕ} → Filled s₀ text room a room' None
  filled_early {s₀} {room} p = record {
    is = omega (arith, subst (λ (t : List ℕ). length room < 0 + length (output_of s₀ (lines_from [] t))) text_is (p.is (left_of text at)));
  }

  module _ {s₀ : Store} {room : List ℕ} {a₁ : Standing} {room₁ : List ℕ} {size : ℕ} (p : Poured s₀ (take at text) room 0 a₁ room₁ (Some size)) where
    said : Holds s₀ (take at text) room 0 a₁.store [] room₁ size
    said = p.is.1

    pub filled_place : size ≤ length room₁
    filled_place = said.place

    -- what stands in the room, then what answers the rest
    whole : output_of s₀ (lines_from [] text) ≡ take size room₁ ++ output_of a₁.store (lines_from [] (take enough (left_of text at)))
    whole =
        ap (λ (t : List ℕ). output_of s₀ (lines_from [] t)) (sym text_is) ∙ says_end (says-behind said.says (left_of text at))
        ∙ ap (λ (t : List ℕ). said.said ++ t) (says_end (says-cut (left_of text at) left_unended))
        ∙ ap (λ (t : List ℕ). t ++ output_of a₁.store (lines_from [] (take enough (left_of text at)))) (sym said.is)

    -- the rest does not fit, or does
    pub filled : {last : List ℕ} {end : ℕ} → Ends (left_of text at) last end → length room₁ ≡ length room
        → {a : Standing} {room' : List ℕ} {r : Option ℕ} → Poured a₁.store (take end last) room₁ size a room' r → Filled s₀ text room a room' r
    filled {last} {end} x same {a} {room'} {r} q = record { is = go r (subst (λ (t : List ℕ). Pours a₁.store t room₁ size a room' r) x.is q.is) }
      where
        rest : List ℕ
        rest = take enough (left_of text at)

        go : (r : Option ℕ) → Pours a₁.store (closing rest) room₁ size a room' r → Fills s₀ text room a room' r
        go None f = omega (
          arith,
          subst (λ (t : List ℕ). length room₁ < size + length t)
              (ap (λ (t : List ℕ). output_of a₁.store (lines_from [] t)) (append-nil (closing rest)) ∙ closing_same a₁.store rest (cut_unended (left_of text at) left_unended)) (f []),
          same,
          ap length whole,
          length-append (take size room₁) (output_of a₁.store (lines_from [] rest)),
          length-take-le size room₁ filled_place,
        )
        go (Some k) (st, h) = (
          h.place,
          st,
          whole ∙ ap (λ (t : List ℕ). take size room₁ ++ t) (says_over rest (cut_unended (left_of text at) left_unended) h.says)
              ∙ sym (append_assoc (take size room₁) h.said (end_line a.store.tables)) ∙ ap (λ (t : List ℕ). t ++ end_line a.store.tables) (sym h.is),
        )
