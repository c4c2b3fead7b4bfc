-- Octets and numbers: what a list of octets stands for, and what stands at a place of it. Definitions only;
-- their laws are in proofs/Octets.
use Rattle.std.specs.Prelude.{◌≡◌, ℕ, zero, suc, ◌+◌, ◌*◌, ◌/◌, ◌%◌, ◌^◌, ◌≤◌, ◌<◌, List, [], ◌∷◌, Bool, cond, length, take, drop, get_or, leb, eqb}

-- each number of a list is an octet; true of every slice of u8, so it asks nothing of a caller
abbrev pub AreOctets : List ℕ → Type 0
AreOctets s = (i : ℕ) → get_or s i 0 < 256

-- the number that octets stand for, big-endian
abbrev pub number : List ℕ → ℕ
number [] = 0
number (x ∷ xs) = x * 256 ^ length xs + number xs

-- the w octets of a number, big-endian
unfoldable pub octets : ℕ → ℕ → List ℕ
octets zero n = []
octets (suc w) n = n / 256 ^ w % 256 ∷ octets w n

-- the number in the w octets at a place of s; 0 where they do not all lie in s
unfoldable pub number_at : ℕ → List ℕ → ℕ → ℕ
number_at w s at = cond (leb (at + w) (length s)) (number (take w (drop at s))) 0

-- what a reading of a number of w octets gives
pub record IsNumber (w n r : ℕ) : Type 0 where
  pub is : r ≡ n
  pub below : r < 256 ^ w

-- whether the flag of this value is set in an octet
abbrev pub flag : ℕ → ℕ → Bool
flag value octet = eqb (octet / value % 2) 1

-- 02 [4], the padding rule of RFC 6733: with its padding a length n is m, the least multiple of four that is no smaller
pub record IsPadded (n m : ℕ) : Type 0 where
  pub multiple : m % 4 ≡ 0
  pub no_smaller : n ≤ m
  pub least : (k : ℕ) → k % 4 ≡ 0 → n ≤ k → m ≤ k

-- 01, AVP: a length with its padding. It follows the rule above, and no other number does (proofs/Octets: padded_rule,
-- padded_unique).
unfoldable pub padded : ℕ → ℕ
padded n = (n + 3) / 4 * 4
