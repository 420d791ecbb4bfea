-- A trace that comes in chunks: what is written, the store and the bytes that are kept give the whole output, whatever comes after.
use Rattle.std.specs.Prelude.{◌≡◌, ℕ}
use Rattle.std.proofs.Math.Path.{sym, ap}
use Rattle.std.proofs.Common.{◌∙◌}
use mathlib.Core.List.{List, [], ◌++◌, append_assoc}
use Rattle.rules.specs.Tables.{Store, empty}
use Rattle.rules.specs.Trace.{lines_from, lines_of, output_of, end_line, trace_at}
use Rattle.lines.specs.Ending.{Unended}
use Rattle.chunks.specs.Says.{Says, says_none, says-more, says-behind, says_end, closing, says_over}

-- some text was read at capacity n, and what was written answers it but for the bytes that are kept
pub record Sofar (n : ℕ) (s : Store) (kept : List ℕ) : Type 0 where
  pub all : List ℕ
  pub said : List ℕ
  pub says : Says (empty n) all said s kept

-- one turn: a chunk is read, and the front of what is kept is answered
pub record Went (s : Store) (before : List ℕ) (s' : Store) (kept : List ℕ) : Type 0 where
  pub chunk : List ℕ
  pub said : List ℕ
  pub says : Says s (before ++ chunk) said s' kept

-- the end of the input: what was kept is answered, and only the last line of the output is left
pub record Over (s : Store) (kept : List ℕ) (s' : Store) : Type 0 where
  pub said : List ℕ
  pub is : output_of s (lines_from [] kept) ≡ said ++ end_line s'.tables

-- all that was read is answered by what was written, but for the last line
pub record Finished (n : ℕ) (s : Store) : Type 0 where
  pub all : List ℕ
  pub said : List ℕ
  pub is : trace_at n all ≡ said ++ end_line s.tables

-- ---- laws

pub sofar_none : (n : ℕ) → Sofar n (empty n) []
sofar_none n = record { all = []; said = []; says = says_none }

pub over_is : {s s' : Store} {said : List ℕ} (kept : List ℕ) → Unended kept → Says s (closing kept) said s' [] → Over s kept s'
over_is {s} {s'} {said} kept u a = record { said = said; is = says_over kept u a }

module _ {n : ℕ} {s s' : Store} {before : List ℕ} (o : Sofar n s before) where
  pub sofar_more : {kept : List ℕ} → Went s before s' kept → Sofar n s' kept
  sofar_more w = record {
    all = o.all ++ w.chunk;
    said = o.said ++ w.said;
    says = says-more (says-behind o.says w.chunk) w.says;
  }

  pub sofar_over : Over s before s' → Finished n s'
  unfolding trace_at lines_of
  sofar_over v = record {
    all = o.all;
    said = o.said ++ v.said;
    is = says_end o.says ∙ ap (λ (t : List ℕ). o.said ++ t) v.is ∙ sym (append_assoc o.said v.said (end_line s'.tables));
  }
