-- 01, The book and its listing: the lines of a listing that are not fixed text. Book puts them in order. A stream (02,
-- [7]) has the same lines, and one more where it stops.
use Rattle.std.specs.Prelude.{ℕ, zero, suc, ◌+◌, ◌/◌, ◌%◌, List, [], ◌∷◌, ◌++◌, cond, ltb}
use Rattle.rules.specs.declared.Verdict.{Verdict}
use Rattle.rules.specs.Text.{text}

-- a number in decimal; the first argument bounds its digits
unfoldable pub digits : ℕ → ℕ → List ℕ
digits zero n = []
digits (suc k) n = cond (ltb n 10) ((48 + n) ∷ []) (digits k (n / 10) ++ ((48 + n % 10) ∷ []))

-- every number of a line has at most twenty digits: offsets in a stream are 64-bit numbers
abbrev pub decimal : ℕ → List ℕ
decimal n = digits 20 n

-- the octets between numbers and behind a line
abbrev pub space : ℕ
space = 32

abbrev pub newline : ℕ
newline = 10

-- numbers in decimal, each behind one space
abbrev pub spaced : List ℕ → List ℕ
spaced [] = []
spaced (n ∷ ns) = space ∷ decimal n ++ spaced ns

-- the words of the last line, of a cut, and of a stream that stops
abbrev pub end_word : List ℕ
end_word = text "end"

abbrev pub cut_word : List ℕ
cut_word = text "cut"

abbrev pub stopped_word : List ℕ
stopped_word = text "stopped"

-- ordinal, offset, number, place, vendor, code
abbrev pub command_line : ℕ → ℕ → Verdict → List ℕ
command_line ordinal offset v =
    decimal ordinal ++ (spaced (offset ∷ v.number ∷ v.place ∷ v.vendor ∷ v.code ∷ []) ++ (newline ∷ []))

-- ordinal, offset and `cut`
abbrev pub cut_line : ℕ → ℕ → List ℕ
cut_line ordinal offset = decimal ordinal ++ (spaced (offset ∷ []) ++ (space ∷ cut_word ++ (newline ∷ [])))

-- ordinal, offset and `stopped` with number and place
abbrev pub stopped_line : ℕ → ℕ → Verdict → List ℕ
stopped_line ordinal offset v =
    decimal ordinal
    ++ (spaced (offset ∷ [])
    ++ (space ∷ stopped_word ++ (spaced (v.number ∷ v.place ∷ []) ++ (newline ∷ []))))

-- `end` with commands and acceptances
abbrev pub end_line : ℕ → ℕ → List ℕ
end_line commands accepted = end_word ++ (spaced (commands ∷ accepted ∷ []) ++ (newline ∷ []))
