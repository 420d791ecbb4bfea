-- "The limits stand in one place": the numbers of the store type's associated constants.
use Rattle.std.specs.Prelude.{ℕ}

-- capacity N from 1 to 1,024
abbrev pub most : ℕ
most = 1024

-- 1,000 holds a piece
abbrev pub most_holds : ℕ
most_holds = 1000

-- 65,536 bytes for a trace lent in memory
abbrev pub most_trace : ℕ
most_trace = 65536

-- the mark for none is 65,535
abbrev pub none : ℕ
none = 65535

-- seats 0 to 31
abbrev pub seats : ℕ
seats = 32

-- 1,024 lines of the register
abbrev pub lines : ℕ
lines = 1024

-- of three entries each
abbrev pub entries : ℕ
entries = 3072
