-- Laws of the record: places filled one by one.
use mathlib.Core.Path.{◌≡◌, sym, ap, ◌∙◌}
use mathlib.Core.List.{List, ◌++◌}
use Prim.Native.Nat.{ℕ, suc, ◌+◌, ◌-◌, ◌≤◌, ◌<◌}
use native.Mathlib.Numerals.{add-one}
use native.Mathlib.Omega.{arith}
use lib.ListN.{length, set, take, replicate}
use lib.Seq.{take-suc, take-length, length-take-le, set_at, append_snoc}
use Rattle.rules.specs.declared.Avp.{Avp}
use Rattle.rules.specs.Search.{blank, avp_in}
use Rattle.rules.specs.Record.{in_room}

-- ---- places filled one by one

-- the first i AVPs in room for 256
abbrev pub filled : List Avp → ℕ → List Avp
filled xs i = take i xs ++ replicate (256 - i) blank

pub filled_next : (xs : List Avp) (i : ℕ) → i < length xs → length xs ≤ 256 → set (filled xs i) i (avp_in xs i) ≡ filled xs (i + 1)
filled_next xs i h k =
    let more : 256 - i ≡ suc (255 - i) = omega arith in
    let rest : 256 - suc i ≡ 255 - i = omega arith in
    let many : length (take i xs) ≡ i = length-take-le i xs (omega arith) in
    ap (λ (n : ℕ). set (take i xs ++ replicate n blank) i (avp_in xs i)) more
    ∙ set_at (take i xs) blank (replicate (255 - i) blank) (avp_in xs i) i many
    ∙ sym (append_snoc (take i xs) (avp_in xs i) (replicate (255 - i) blank))
    ∙ rw (add-one i, take-suc xs i blank h, rest)

pub filled_all : (xs : List Avp) (n : ℕ) → length xs ≡ n → filled xs n ≡ in_room xs
filled_all xs n e = rw (← e, take-length xs)
