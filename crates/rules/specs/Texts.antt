-- Texts as lists of bytes, so that lines of a trace can be written as they are.
use Rattle.std.specs.Prelude.{List, [], ◌∷◌, ℕ}
use Prim.Native.Char.{code}
use Prim.Native.String.{String}
use Prim.Native.String as string

-- the bytes of a text of plain letters, digits and signs
unfoldable pub bytes : String → List ℕ
bytes string.[] = []
bytes (string.◌∷◌ c s) = code c ∷ bytes s
