-- `digits` writes the last k digits of a number: writing the digits that are left of what is left of the number gives the same bytes as writing all k of the number at the start.
use Rattle.std.proofs.Common.{◌≡◌, length}
use Rattle.std.proofs.lemmas.List.Edits.{sets}
use Rattle.answers.specs.Wrote.{digits_of}
use Rattle.answers.proofs.Page.digits.Given as goal

abbrev pub invariant-loop-i : goal.invariant-loop-i
invariant-loop-i l =
    record {
      bytes : sets l.self.out.now l.at (digits_of l.i l.left) ≡ sets l.fn.self.out.now l.at (digits_of l.k l.v);
      same : l.self.out.ghost_name ≡ l.fn.self.out.ghost_name;
      long : length l.self.out.now ≡ length l.fn.self.out.now;
    }
