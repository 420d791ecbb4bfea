-- A text that is read line by line: what is written and what is left give the whole output, whatever comes after.
use Rattle.std.specs.Prelude.{◌≡◌, refl, ◌⊎◌, List, [], ◌∷◌, ◌++◌, ℕ, ◌+◌, ◌≤◌, ◌<◌, length, take, drop, Some, None}
use Rattle.std.proofs.Common.{sym, ap, ◌∙◌, subst, ⊎_elim, append_assoc, arith, length-append, length-take-le}
use Rattle.std.proofs.lemmas.List.Edits.{sets-eq}
use Rattle.std.proofs.Math.Seq.{take-append_seam}
use Rattle.rules.specs.Tables.{Store}
use Rattle.laws.specs.Numbers.{lt_or}
use Rattle.rules.specs.Trace.{lines_from, says, answer_to, store_after, output_of, bad_line}
use Rattle.rules.specs.declared.Command.{Command}
use Rattle.lines.specs.Ending.{Found, Reads}
use Rattle.chunks.specs.Chunks.{lines_part, lines_end}
use Rattle.answers.specs.Wrote.{longest, Wrote}
use Rattle.reader.specs.Answered.{Stands, Answered, bad_answered}
use Rattle.reader.specs.Lines.{LineEnd, OneLine, RightLine, line_at, bad_at}
use Rattle.rules.specs.Replies.{Line}

-- the bytes of the text from `start` up to `at` are answered by the first `written` bytes of out, and the store stands
pub record Feeding (n : ℕ) (s : Store) (text : List ℕ) (start : ℕ) (s' : Store) (l' w' out' : List ℕ) (at written from : ℕ) : Type 0 where
  pub after : start ≤ at
  pub inside : at ≤ length text
  pub room : written ≤ length out'
  pub none : at ≡ start → written ≡ 0
  pub stands : Stands n s' l' w' from
  pub exact : (rest : List ℕ)
      → output_of s (lines_from [] (drop start text ++ rest)) ≡ take written out' ++ output_of s' (lines_from [] (drop at text ++ rest))

-- the whole text is answered, or there is no room for the longest line
abbrev pub Stopped : List ℕ → List ℕ → ℕ → ℕ → Type 0
Stopped text out at written = (at ≡ length text) ⊎ (length out < written + longest)

-- ---- laws

pub feeding_none : {n : ℕ} {s : Store} {text l w out : List ℕ} {start from : ℕ} → start ≤ length text → Stands n s l w from
    → Feeding n s text start s l w out start 0 from
feeding_none h stands = record { after = omega arith; inside = h; room = omega arith; none = λ _. refl; stands = stands; exact = λ rest. refl }

-- what was written before stands in front of the bytes that are written
pub wrote_front : {out bytes out' : List ℕ} {at next : ℕ} → Wrote out at bytes out' next → next ≤ length out → take next out' ≡ take at out ++ bytes
wrote_front {out} {bytes} {out'} {at} {next} w h =
    let p = w.place in
    let k : at + length bytes ≤ length out = omega arith in
    ap (take next) (w.room ∙ sets-eq bytes out at k)
    ∙ ap (λ (m : ℕ). take m ((take at out ++ bytes) ++ drop (at + length bytes) out)) size
    ∙ take-append_seam (take at out ++ bytes) (drop (at + length bytes) out)
  where
    size : next ≡ length (take at out ++ bytes)
    size =
        let p = w.place in
        let t : length (take at out) ≡ at = length-take-le at out (omega arith) in
        omega (arith, length-append (take at out) bytes)

-- a line at a place of the text
one_line : {text line : List ℕ} {at next : ℕ} → OneLine text at next line → (s : Store) (rest : List ℕ)
    → output_of s (lines_from [] (drop at text ++ rest))
    ≡ answer_to s (says line) ++ output_of (store_after s (says line)) (lines_from [] (drop next text ++ rest))
unfolding output_of
one_line {text} {line} {at} {next} o s rest =
    ap (λ (t : List ℕ). output_of s (lines_from [] (t ++ rest))) o.is
    ∙ ap (λ (t : List ℕ). output_of s (lines_from [] t)) (append_assoc line (10 ∷ drop next text) rest)
    ∙ ap (output_of s) (lines_part [] line (10 ∷ (drop next text ++ rest)) o.unended ∙ lines_end line (drop next text ++ rest))

-- one line more
feeding_more : {text line : List ℕ} {start at next : ℕ} {n : ℕ} {s₀ s s' : Store} {l l' w w' out out' : List ℕ} {written written' from from' : ℕ} {said : Line}
    → OneLine text at next line → says line ≡ said → Feeding n s₀ text start s l w out at written from → written + longest ≤ length out
    → length out' ≡ length out → Answered n s said out written s' l' w' out' written' from'
    → Feeding n s₀ text start s' l' w' out' next written' from'
feeding_more {text} {line} {start} {next = next} {n} {s = s} {s'} {l' = l'} {w' = w'} {out} {out'} {written} {written'} {from' = from'} o e f room len b =
    record {
      after = omega (arith, f.after, o.less);
      inside = o.inside;
      room = let x = a.few in omega arith;
      none = λ x. absurd (omega (arith, f.after, o.less));
      stands = a.stands;
      exact = λ rest.
          f.exact rest ∙ ap (λ (t : List ℕ). take written out ++ t) (one_line o s rest)
          ∙ sym (append_assoc (take written out) (answer_to s (says line)) (later (store_after s (says line)) rest))
          ∙ ap (λ (t : List ℕ). t ++ later (store_after s (says line)) rest) (sym (wrote_front a.wrote (let x = a.few in omega arith)))
          ∙ ap (λ (t : Store). take written' out' ++ later t rest) (sym a.store);
    }
  where
    a : Answered n s (says line) out written s' l' w' out' written' from'
    a = subst (λ (x : Line). Answered n s x out written s' l' w' out' written' from') (sym e) b

    later : Store → List ℕ → List ℕ
    later t rest = output_of t (lines_from [] (drop next text ++ rest))

-- a right line more, or a bad one
module _ {n : ℕ} {s₀ s : Store} {text l w out : List ℕ} {start at written from : ℕ} (f : Feeding n s₀ text start s l w out at written from) (room : written + longest ≤ length out) where
  pub feeding_right : {c : Command} {s' : Store} {l' w' out' : List ℕ} {next written' from' : ℕ} → RightLine text at next c → length out' ≡ length out
      → Answered n s (Some c) out written s' l' w' out' written' from' → Feeding n s₀ text start s' l' w' out' next written' from'
  feeding_right x len a = feeding_more x.one x.says_is f room len a

  pub feeding_bad : {r : Found} {out' : List ℕ} {end written' : ℕ} → Reads text at r → r ≡ None → LineEnd text at end → length out' ≡ length out
      → Wrote out written bad_line out' written' → Feeding n s₀ text start s l w out' (end + 1) written' from
  feeding_bad h x e len b = feeding_more (line_at e) (bad_at e h x) f room len (bad_answered f.stands b)

-- each time some of the text is taken
pub fed_on : {n : ℕ} {s s' : Store} {text l' w' out : List ℕ} {start at written from : ℕ} → Feeding n s text start s' l' w' out at written from
    → start < length text → longest ≤ length out → Stopped text out at written → start < at
fed_on {start = start} {at} {written} f l room stop =
    ⊎_elim (λ e. omega arith) (λ e. ⊎_elim (λ h. h) (λ h. absurd (omega (arith, f.none (omega (arith, f.after))))) (lt_or start at)) stop
