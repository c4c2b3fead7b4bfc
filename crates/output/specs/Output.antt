-- Octets put into an output.
use Rattle.std.specs.Prelude.{ℕ, ◌+◌, List, cond, length, leb}
use Rattle.std.proofs.lemmas.List.Edits.{sets}

-- octets from a place on, where they all have room; else the output as it was
unfoldable pub put_at : List ℕ → ℕ → List ℕ → List ℕ
put_at out at xs = cond (leb (at + length xs) (length out)) (sets out at xs) out
