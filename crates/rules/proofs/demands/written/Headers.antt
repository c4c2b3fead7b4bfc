-- The command's header: what the writer puts there is what the reader finds there.
use mathlib.Core.Path.{◌≡◌, refl, ap, ◌∙◌}
use mathlib.Core.List.{List, [], ◌∷◌, ◌++◌, append_assoc}
use Prim.Native.Nat.{ℕ, ◌+◌, ◌^◌, ◌≤◌, ◌<◌}
use native.Mathlib.Omega.{arith}
use lib.Dec.{lit<}
use lib.ListN.{length, drop, length-append}
use Rattle.rules.specs.Header.{header_size, version, length_field, command_flags, command_code, application, hop_by_hop, end_to_end, application_nt, code_background_data_transfer, longest_command}
use Rattle.rules.specs.Meaning.{Meaning}
use Rattle.rules.specs.Octets.{octets}
use Rattle.rules.specs.Wire.{list_octets, flags_octet, command_header, command_octets}
use Rattle.rules.proofs.demands.octets.Flags.{flags_by, ReadFlags, read_flags}
use Rattle.rules.proofs.demands.octets.Numbers.{length-octets, drop-on, octet_at, number_at_lem}

module _ (m : Meaning) where
  -- the octets, field by field
  header_is : (rest : List ℕ) (size : ℕ) → command_header m size ++ rest
      ≡ 1 ∷ (octets 3 (header_size + size) ++ (flags_octet m ∷ (octets 3 code_background_data_transfer
      ++ (octets 4 application_nt ++ (octets 4 m.hop_by_hop ++ (octets 4 m.end_to_end ++ rest))))))
  unfolding command_header
  header_is rest size = simp append_assoc

  header_long : (size : ℕ) → length (command_header m size) ≡ header_size
  unfolding command_header
  header_long size = simp (length-append, length-octets)

  command_is : command_octets m ≡ command_header m (length (list_octets m.cells)) ++ list_octets m.cells
  unfolding command_octets
  command_is = refl

  pub command_long : length (command_octets m) ≡ header_size + length (list_octets m.cells)
  command_long =
      let size = length (list_octets m.cells) in
      ap length command_is ∙ length-append (command_header m size) (list_octets m.cells) ∙ rw (header_long size)

  pub command_list : drop header_size (command_octets m) ≡ list_octets m.cells
  command_list =
      let list = list_octets m.cells in
      let front = command_header m (length list) in
      drop-on (command_octets m) front list 0 header_size (rw (header_long (length list))) command_is

  flags_by_lem : flags_octet m ≡ flags_by m.r m.p m.e m.t
  unfolding flags_octet
  flags_by_lem = refl

  -- what the reader finds in the header
  pub record Head (s : List ℕ) : Type 0 where
    pub version_is : version s ≡ 1
    pub length-is : length_field s ≡ length s
    pub octet_is : command_flags s ≡ flags_octet m
    pub flags_are : ReadFlags (command_flags s) m.r m.p m.e m.t
    pub code_is : command_code s ≡ code_background_data_transfer
    pub application_is : application s ≡ application_nt
    pub hop_is : hop_by_hop s ≡ m.hop_by_hop
    pub end_is : end_to_end s ≡ m.end_to_end

  pub head_of : m.hop_by_hop < 2 ^ 32 → m.end_to_end < 2 ^ 32 → length (command_octets m) ≤ longest_command
      → Head (command_octets m)
  head_of hop end long =
      let s = command_octets m in
      let list = list_octets m.cells in
      let l = command_long in
      let size = header_size + length list in
      let at0 = command_is ∙ header_is list (length list) in
      let at1 = drop-on s (1 ∷ []) _ 0 1 refl at0 in
      let at4 : drop 4 s ≡ flags_octet m ∷ (octets 3 code_background_data_transfer ++ (octets 4 application_nt
      ++ (octets 4 m.hop_by_hop ++ (octets 4 m.end_to_end ++ list)))) =
      drop-on s (octets 3 size) _ 1 4 (rw (length-octets 3 size)) at1 in
      let octet : command_flags s ≡ flags_octet m = octet_at s _ 4 (flags_octet m) at4 in
      let at5 = drop-on s (flags_octet m ∷ []) _ 4 5 refl at4 in
      let at8 =
      drop-on s (octets 3 code_background_data_transfer) _ 5 8 (rw (length-octets 3 code_background_data_transfer)) at5 in
      let at12 = drop-on s (octets 4 application_nt) _ 8 12 (rw (length-octets 4 application_nt)) at8 in
      let at16 = drop-on s (octets 4 m.hop_by_hop) _ 12 16 (rw (length-octets 4 m.hop_by_hop)) at12 in
      record {
        version_is = octet_at s _ 0 1 at0;
        length-is = number_at_lem 3 s _ 1 size at1 (omega arith) ∙ rw l;
        octet_is = octet;
        flags_are = rw (octet, flags_by_lem) (read_flags m.r m.p m.e m.t);
        code_is = number_at_lem 3 s _ 5 code_background_data_transfer at5 (lit< tt);
        application_is = number_at_lem 4 s _ 8 application_nt at8 (lit< tt);
        hop_is = number_at_lem 4 s _ 12 m.hop_by_hop at12 hop;
        end_is = number_at_lem 4 s _ 16 m.end_to_end at16 end;
      }
