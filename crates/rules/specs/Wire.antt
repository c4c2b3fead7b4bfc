-- 01, The record and the writer: the octets that the writer gives to a meaning. V is set exactly when the vendor is not
-- 0; padding and reserved bits are 0.
use Rattle.std.specs.Prelude.{ℕ, ◌+◌, ◌-◌, List, [], ◌∷◌, ◌++◌, Bool, cond, length, replicate}
use Rattle.rules.specs.Octets.{octets, padded}
use Rattle.rules.specs.Header.{header_size, application_nt, code_background_data_transfer}
use Rattle.rules.specs.Avp.{header_of, has_v}
use Rattle.rules.specs.Meaning.{Cell, Meaning}

-- V is set exactly when the vendor is not 0
abbrev pub has_vendor : Cell → Bool
has_vendor c = has_v c.vendor

-- the AVP flags from the top: V, M, P; reserved bits are 0
unfoldable pub avp_flags : Cell → ℕ
avp_flags c = cond (has_vendor c) 128 0 + cond c.m 64 0 + cond c.p 32 0

abbrev pub vendor_octets : Cell → List ℕ
vendor_octets c = cond (has_vendor c) (octets 4 c.vendor) []

-- an AVP's header
unfoldable pub avp_header : Cell → List ℕ
avp_header c =
    octets 4 c.code ++ (avp_flags c ∷ (octets 3 (header_of (has_vendor c) + c.length) ++ vendor_octets c))

-- an AVP's octets, with padding of zeros; of a read group its header, the members follow
unfoldable pub avp_octets : Cell → List ℕ
avp_octets c = avp_header c ++ (c.octets ++ replicate (padded c.length - c.length) 0)

unfoldable pub list_octets : List Cell → List ℕ
list_octets [] = []
list_octets (c ∷ cs) = avp_octets c ++ list_octets cs

-- the command flags from the top: R, P, E, T; reserved bits are 0
unfoldable pub flags_octet : Meaning → ℕ
flags_octet m = cond m.r 128 0 + cond m.p 64 0 + cond m.e 32 0 + cond m.t 16 0

-- the command's header, before AVPs of this many octets
unfoldable pub command_header : Meaning → ℕ → List ℕ
command_header m size =
    1 ∷ (octets 3 (header_size + size) ++ (flags_octet m ∷ (octets 3 code_background_data_transfer ++ (octets 4 application_nt
    ++ (octets 4 m.hop_by_hop ++ octets 4 m.end_to_end)))))

-- the octets that the writer gives to a meaning
unfoldable pub command_octets : Meaning → List ℕ
command_octets m = command_header m (length (list_octets m.cells)) ++ list_octets m.cells
