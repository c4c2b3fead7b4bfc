-- 01, Header: its fields, and the header's checks in their order.
use Rattle.std.specs.Prelude.{ℕ, ◌%◌, List, Bool, not, ◌&&◌, ◌||◌, length, get_or, ltb, eqb}
use Rattle.rules.specs.Octets.{number_at, flag}
use Rattle.rules.specs.Verdict.{refused, refuse_if, or_else, Outcome, no_refusal}

-- the header's octets
abbrev pub header_size : ℕ
header_size = 20

-- version 1 octet, length 3, flags 1, command code 3, application 4, two identifiers of 4
abbrev pub version : List ℕ → ℕ
version s = get_or s 0 0

abbrev pub length_field : List ℕ → ℕ
length_field s = number_at 3 s 1

abbrev pub command_flags : List ℕ → ℕ
command_flags s = get_or s 4 0

abbrev pub command_code : List ℕ → ℕ
command_code s = number_at 3 s 5

abbrev pub application : List ℕ → ℕ
application s = number_at 4 s 8

abbrev pub hop_by_hop : List ℕ → ℕ
hop_by_hop s = number_at 4 s 12

abbrev pub end_to_end : List ℕ → ℕ
end_to_end s = number_at 4 s 16

-- command flags from the top: R, P, E, T; four reserved bits, which are ignored
abbrev pub is_request : ℕ → Bool
is_request = flag 128

abbrev pub is_proxiable : ℕ → Bool
is_proxiable = flag 64

abbrev pub is_error : ℕ → Bool
is_error = flag 32

abbrev pub is_retransmitted : ℕ → Bool
is_retransmitted = flag 16

-- the command code, the Nt application, and the vendor 3GPP
abbrev pub code_background_data_transfer : ℕ
code_background_data_transfer = 8388723

abbrev pub application_nt : ℕ
application_nt = 16777348

abbrev pub vendor_3gpp : ℕ
vendor_3gpp = 10415

-- the longest command
abbrev pub longest_command : ℕ
longest_command = 16384

-- Order of checks, Header: length and version; vendor and code are 0 in each refusal
unfoldable pub length_outcome : List ℕ → Outcome
length_outcome s =
    refuse_if (ltb (length s) header_size) (refused 5015 0 0 0)
    (refuse_if (not (eqb (version s) 1)) (refused 5011 0 0 0)
    (refuse_if (ltb (length_field s) header_size || not (eqb (length_field s % 4) 0) || not (eqb (length_field s) (length s)))
    (refused 5015 1 0 0)
    (refuse_if (ltb longest_command (length_field s)) (refused 7001 1 0 0)
    no_refusal)))

-- application, then command code
unfoldable pub application_outcome : List ℕ → Outcome
application_outcome s =
    refuse_if (not (eqb (application s) application_nt)) (refused 3007 8 0 0)
    (refuse_if (not (eqb (command_code s) code_background_data_transfer)) (refused 3001 5 0 0)
    no_refusal)

-- R and E both set; or P clear, without E or with R (02, [1]): in an answer with E it may be clear
unfoldable pub flags_outcome : ℕ → Outcome
flags_outcome flags =
    refuse_if (is_request flags && is_error flags || not (is_proxiable flags) && (not (is_error flags) || is_request flags))
    (refused 3008 4 0 0)
    no_refusal

-- the header's checks together
unfoldable pub header_outcome : List ℕ → Outcome
header_outcome s = or_else (length_outcome s) (or_else (application_outcome s) (flags_outcome (command_flags s)))
