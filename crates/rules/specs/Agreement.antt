-- 01, The record and the writer, "For demand 3": padding, and the agreement of two commands, as a claim (`Agree`) and
-- as a test that computes (`agree`). That they say the same is agree_tells (proofs/demands/agreement/Tested).
use Rattle.std.specs.Prelude.{◌≡◌, ℕ, zero, suc, ◌+◌, ◌-◌, ◌/◌, ◌<◌, List, [], ◌∷◌, Bool, true, false, cond, ◌&&◌, ◌||◌, length, get_or, ltb, leb, eqb}
use Rattle.rules.specs.declared.Avp.{Avp}
use Rattle.rules.specs.Octets.{padded}
use Rattle.rules.specs.Header.{command_flags}
use Rattle.rules.specs.Avp.{place_of, end_of}
use Rattle.rules.specs.Walk.{avps_of}
use Rattle.rules.specs.Command.{walk_of}

-- an AVP's length, which counts header and data
abbrev pub avp_length : Avp → ℕ
avp_length a = end_of a - place_of a

-- where it ends with its padding
abbrev pub filled_end : Avp → ℕ
filled_end a = place_of a + padded (avp_length a)

-- an octet follows an AVP to fill its length so
abbrev pub fills : Avp → ℕ → Bool
fills a i = leb (end_of a) i && ltb i (filled_end a)

-- it follows one of these AVPs to fill its length
unfoldable pub fills_one : List Avp → ℕ → Bool
fills_one [] i = false
fills_one (a ∷ xs) i = fills a i || fills_one xs i

-- padding is what follows an AVP of the walk to fill its length to a multiple of four
abbrev pub is_padding : List ℕ → ℕ → Bool
is_padding s i = fills_one (avps_of (walk_of s)) i

-- what is compared at a place: the octet, of the flags octet only R, P, E, T, its upper four bits
abbrev pub compared : List ℕ → ℕ → ℕ
compared s i = cond (eqb i 4) (command_flags s / 16) (get_or s i 0)

-- two commands agree if they are equally long and each octet that is padding in neither is the same in both
pub record Agree (a b : List ℕ) : Type 0 where
  pub long : length a ≡ length b
  pub same : (i : ℕ) → i < length a → is_padding a i ≡ false → is_padding b i ≡ false → compared a i ≡ compared b i

-- a place is padding in one of two commands, or what is compared there is the same
abbrev pub agrees_at : List ℕ → List ℕ → ℕ → Bool
agrees_at a b i = is_padding a i || is_padding b i || eqb (compared a i) (compared b i)

-- so at each place below n
unfoldable pub agrees_below : List ℕ → List ℕ → ℕ → Bool
agrees_below a b zero = true
agrees_below a b (suc n) = agrees_at a b n && agrees_below a b n

-- the test: equally long, and so at each place
unfoldable pub agree : List ℕ → List ℕ → Bool
agree a b = eqb (length a) (length b) && agrees_below a b (length a)
