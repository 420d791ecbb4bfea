-- `register::point` meets its contract: the lines that are halved have all used ones among them.
use Rattle.std.proofs.Common.{arith}
use Rattle.register.specs.Points.{point_said}
use Rattle.register.proofs.point.Goals as goal

pub returns-then-lines-eq0-clause-said : goal.returns-then-lines-eq0-clause-said
returns-then-lines-eq0-clause-said g c = λ p k f.
    let x = c.partition_point.ensures in
    point_said c.lines-lines.ensures 1 (omega arith) c.requires.0 (λ _. c.if-lines-eq0.true) x.bound (x.partitioned p k) f

pub returns-then-lines-eq0-2-clause-said : goal.returns-then-lines-eq0-2-clause-said
returns-then-lines-eq0-2-clause-said g c = λ p k f.
    let x = c.partition_point-then-lines-eq0-2.ensures in
    point_said c.lines-lines.ensures 7 (omega arith) c.requires.0 (λ _. c.if-lines-eq0-2.true) x.bound (x.partitioned p k) f

pub returns-then-lines-eq0-3-clause-said : goal.returns-then-lines-eq0-3-clause-said
returns-then-lines-eq0-3-clause-said g c = λ p k f.
    let x = c.partition_point-then-lines-eq0-3.ensures in
    point_said c.lines-lines.ensures 31 (omega arith) c.requires.0 (λ _. c.if-lines-eq0-3.true) x.bound (x.partitioned p k) f

pub returns-then-lines-eq0-4-clause-said : goal.returns-then-lines-eq0-4-clause-said
returns-then-lines-eq0-4-clause-said g c = λ p k f.
    let x = c.partition_point-then-lines-eq0-4.ensures in
    point_said c.lines-lines.ensures 127 (omega arith) c.requires.0 (λ _. c.if-lines-eq0-4.true) x.bound (x.partitioned p k) f

pub returns-clause-said : goal.returns-clause-said
returns-clause-said g c = λ p k f.
    let x = c.partition_point-2.ensures in
    point_said c.lines-lines.ensures 1023 (omega arith) c.requires.0 (λ h. absurd (omega arith)) x.bound (x.partitioned p k) f
