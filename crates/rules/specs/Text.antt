-- Texts as octets: what the listing prints, and what its examples compare.
use Rattle.std.specs.Prelude.{ℕ, List, [], ◌∷◌}
use Prim.Native.Char.{code}
use Prim.Native.String.{String}
use Prim.Native.String as string

-- the octets of a text of ASCII characters
abbrev pub text : String → List ℕ
text string.[] = []
text (string.◌∷◌ c cs) = code c ∷ text cs
