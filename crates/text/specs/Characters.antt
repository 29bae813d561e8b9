-- Texts as the specification prints them, for worked cases: nothing here reads or writes a digit. Definitions only.
use Rattle.std.specs.Prelude.{List, [], ◌∷◌, ℕ}
use Prim.Native.Char.{code}
use Prim.Native.String.{String, [] as []ˢ, ◌∷◌ as ◌∷ˢ◌}

-- Characters by their codes, and then bytes.
unfoldable pub characters : String → List ℕ → List ℕ
characters []ˢ bytes = bytes
characters (c ∷ˢ cs) bytes = code c ∷ characters cs bytes

-- Lines of characters, each closed by 0a.
unfoldable pub lines : List String → List ℕ
lines [] = []
lines (l ∷ ls) = characters l (0x0a ∷ lines ls)
