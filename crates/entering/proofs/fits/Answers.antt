-- `entering::fits` multiplies where every size of the store is right.
use Rattle.std.proofs.Common.{arith, ap, not}
use Rattle.entering.specs.Judged.{sizes}
use Rattle.entering.proofs.fits.Goals as goal

pub overflow_mul-tables : goal.overflow_mul-tables
overflow_mul-tables c = omega (arith, (sizes (ap not c.if-sized.true) c.sized.ensures).1.tables.base.most)
