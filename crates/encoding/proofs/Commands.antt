-- The octets of a command: its header part by part, then its AVPs.
use mathlib.Core.Path.{◌≡◌, refl, sym, ap, ◌∙◌}
use mathlib.Core.List.{List}
use Prim.Native.Nat.{ℕ, ◌+◌}
use lib.ListN.{length, set}
use lib.Seq.{sets}
use Rattle.rules.specs.Octets.{octets}
use Rattle.rules.specs.Header.{header_size, application_nt, code_background_data_transfer}
use Rattle.rules.specs.Meaning.{Meaning}
use Rattle.rules.specs.Wire.{flags_octet, command_header, command_octets}
use Rattle.rules.specs.Draft.{draft_of, draft_meaning}
use Rattle.octets.proofs.Puts.{sets-append}
use Rattle.numbers.specs.declared.Head.{Head}
use Rattle.numbers.specs.Numbers.{numbered_record, numbered_head}
use Rattle.encoding.specs.Promise.{numbered_list, numbered_command, IsStart, identified}

-- seven parts, each where the ones before it end
header_parts : (out : List ℕ) (m : Meaning) (n : ℕ)
    → sets out 0 (command_header m n)
    ≡ sets (sets (sets (sets (set (sets (set out 0 1) 1 (octets 3 (header_size + n))) 4 (flags_octet m)) 5 (octets 3 code_background_data_transfer)) 8
    (octets 4 application_nt)) 12 (octets 4 m.hop_by_hop)) 16 (octets 4 m.end_to_end)
unfolding command_header octets
header_parts out m n = refl

length_command_header : (m : Meaning) (n : ℕ) → length (command_header m n) ≡ header_size
unfolding command_header octets
length_command_header m n = refl

-- application and identifiers, one after the other
pub identifiers_put : (before numbers : List ℕ) (head : Head) → head ≡ numbered_head numbers
    → (first : List ℕ) → first ≡ sets before 8 (octets 4 application_nt)
    → (second : List ℕ) → second ≡ sets first 12 (octets 4 head.hop_by_hop)
    → (third : List ℕ) → third ≡ sets second 16 (octets 4 head.end_to_end)
    → third ≡ identified before (numbered_record numbers)
identifiers_put before numbers head h first a second b third c = rw (c, b, a, h)

pub command_put : (numbers s out : List ℕ) (size : ℕ) → size ≡ header_size + length (numbered_list numbers s)
    → (first : List ℕ) → IsStart out numbers size first
    → (second : List ℕ) → second ≡ identified first (numbered_record numbers)
    → (third : List ℕ) → third ≡ sets second header_size (numbered_list numbers s)
    → third ≡ sets out 0 (numbered_command numbers s)
unfolding command_octets
command_put numbers s out size z first h second i third e =
    let m = draft_meaning (draft_of (numbered_record numbers) s) in
    let xs = numbered_list numbers s in
    let header = command_header m (length xs) in
    let twenty = length_command_header m (length xs) in
    e
    ∙ ap (λ (l : List ℕ). sets l header_size xs) (i ∙ rw (h.is s, z) (sym (header_parts out m (length xs))))
    ∙ sym (sets-append out 0 header xs ∙ ap (λ (n : ℕ). sets (sets out 0 header) (0 + n) xs) twenty)
