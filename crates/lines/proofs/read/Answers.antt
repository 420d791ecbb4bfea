-- `read` says what the line at a place says: the first byte chooses the command, and what is behind it is read word by word.
use Rattle.std.proofs.Common.{refl, sym, arith}
use Rattle.lines.specs.Fronts.{no_freeze, no_acquire, no_release, reads_new, reads_set, reads_freeze, reads_acquire, reads_release, reads_bin, reads_look, reads_other}
use Rattle.lines.proofs.read.Goals as goal

pub returns-in-110 : goal.returns-in-110
returns-in-110 c = reads_new c.requires.0 c.in-110.is c.new_line.ensures

pub returns-in-115 : goal.returns-in-115
returns-in-115 c = reads_set c.requires.0 c.in-115.is c.set_line.ensures

pub returns-in_default-word : goal.returns-in_default-word
returns-in_default-word c = no_freeze c.requires.0 (sym c.in_default-word.ensures.0) c.in-102.is

pub returns-in_default-seat_line : goal.returns-in_default-seat_line
returns-in_default-seat_line c = reads_freeze c.requires.0 (sym c.in-Some.ensures.0) c.in_default-seat_line.ensures c.in-102.is refl

pub returns-in-Some-seat_line : goal.returns-in-Some-seat_line
returns-in-Some-seat_line c = reads_freeze c.requires.0 (sym c.in-Some.ensures.0) c.in-Some-seat_line.ensures c.in-102.is refl

pub returns-in_default-word-2 : goal.returns-in_default-word-2
returns-in_default-word-2 c = no_acquire c.requires.0 (sym c.in_default-word-2.ensures.0) c.in-97.is

pub returns-in_default-seat_line-2 : goal.returns-in_default-seat_line-2
returns-in_default-seat_line-2 c = reads_acquire c.requires.0 (sym c.in-Some-word.ensures.0) c.in_default-seat_line-2.ensures c.in-97.is refl

pub returns-in-Some-seat_line-2 : goal.returns-in-Some-seat_line-2
returns-in-Some-seat_line-2 c = reads_acquire c.requires.0 (sym c.in-Some-word.ensures.0) c.in-Some-seat_line-2.ensures c.in-97.is refl

pub returns-in_default-word-3 : goal.returns-in_default-word-3
returns-in_default-word-3 c = no_release c.requires.0 (sym c.in_default-word-3.ensures.0) c.in-114.is

pub returns-in_default-seat_line-3 : goal.returns-in_default-seat_line-3
returns-in_default-seat_line-3 c = reads_release c.requires.0 (sym c.in-Some-word-2.ensures.0) c.in_default-seat_line-3.ensures c.in-114.is refl

pub returns-in-Some-seat_line-3 : goal.returns-in-Some-seat_line-3
returns-in-Some-seat_line-3 c = reads_release c.requires.0 (sym c.in-Some-word-2.ensures.0) c.in-Some-seat_line-3.ensures c.in-114.is refl

pub returns-in_default-name_line : goal.returns-in_default-name_line
returns-in_default-name_line c = reads_bin c.requires.0 c.in-98.is c.in_default-name_line.ensures refl

pub returns-in-Some-name_line : goal.returns-in-Some-name_line
returns-in-Some-name_line c = reads_bin c.requires.0 c.in-98.is c.in-Some-name_line.ensures refl

pub returns-in_default-name_line-2 : goal.returns-in_default-name_line-2
returns-in_default-name_line-2 c = reads_look c.requires.0 c.in-108.is c.in_default-name_line-2.ensures refl

pub returns-in-Some-name_line-2 : goal.returns-in-Some-name_line-2
returns-in-Some-name_line-2 c = reads_look c.requires.0 c.in-108.is c.in-Some-name_line-2.ensures refl

pub returns-in_default : goal.returns-in_default
returns-in_default c =
    reads_other c.requires.0
    (λ e. omega arith)
    (λ e. omega arith)
    (λ e. omega arith)
    (λ e. omega arith)
    (λ e. omega arith)
    (λ e. omega arith)
    (λ e. omega arith)
