-- The definitions of lists of calls and of agreement, computed on document 01's command S.
use mathlib.Core.Path.{◌≡◌, refl}
use mathlib.Core.List.{List, [], ◌∷◌, ◌++◌, map}
use mathlib.Core.Bool.{Bool, true, false}
use Prim.Native.Nat.{ℕ, ◌+◌}
use lib.ListN.{length, take, drop, replicate}
use Rattle.rules.specs.declared.Written.{Written}
use Rattle.rules.specs.Octets.{number_at, padded, octets}
use Rattle.rules.specs.Verdict.{verdict}
use Rattle.rules.specs.Header.{length_outcome, application_outcome, flags_outcome, header_outcome}
use Rattle.rules.specs.Avp.{avp_at}
use Rattle.rules.specs.Rows.{rows_of, admits_others}
use Rattle.rules.specs.Dictionary.{dictionary, find}
use Rattle.rules.specs.Walk.{framing, wrong_flags, unsupported, wrong_width, wrong_value, too_deep, contents, checked, walk_avp, walk_list}
use Rattle.rules.specs.RowChecks.{admission_from, member_outcome, missing_from, members_outcome, members_at, groups_outcome, rows_outcome}
use Rattle.rules.specs.Search.{positions_from}
use Rattle.rules.specs.Exchange.{volume, first_request, later_request, request_outcome, result_outcome, policies_outcome, policy_in, policies_at, answer_outcome, window_in, each_window, exchange_by}
use Rattle.rules.specs.Command.{rules_by, walk_of, lists_outcome, command_outcome, command_verdict}
use Rattle.rules.specs.Record.{record_of, empty_record, reading}
use Rattle.rules.specs.Agreement.{fills_one, agrees_below, agree}
use Rattle.rules.specs.Wire.{avp_flags, avp_header, avp_octets, list_octets, flags_octet, command_header, command_octets}
use Rattle.rules.specs.Draft.{is_blank, all_blank, is_placed, all_placed, is_tree, members_size, has_sizes, identifiers_fit, name_fits, names_fit, is_well_formed, Draft, own_draft}
use Rattle.rules.specs.Writer.{own_outcome, draft_outcome, octets_written, writing, output_after}
use Rattle.rules.specs.Calls.{rest, output_after_all, accepted_drafts}
use Rattle.rules.specs.Edges.{header, avp, avp_of_3gpp, s_begins, vendor_id, s_goes_on, s_ends, s_front, s}
use Rattle.rules.specs.ErrorAnswers.{with_flags, error_answer, session, host, realm, result, three}

-- other octets from a place on
abbrev pub changed : List ℕ → ℕ → List ℕ → List ℕ
changed c at octets = take at c ++ (octets ++ drop (at + length octets) c)

-- S with the four reserved command bits set, and its first AVP, a Session-Id of one octet, padded with FF
unfoldable pub altered : List ℕ
altered = changed (changed s 4 (0xCF ∷ [])) 29 (0xFF ∷ 0xFF ∷ 0xFF ∷ [])

-- ---- lists of calls

-- commands, each of whose own record is written over its octets; the output before and afterwards, the answers, and the
-- commands whose drafts were accepted
pub record Example : Type 0 where
  pub commands : List (List ℕ)
  pub before : List ℕ
  pub answers : List Written
  pub output : List ℕ
  pub accepted : List (List ℕ)

abbrev pub answer : ℕ → ℕ → ℕ → Written
answer number place length = record { verdict = verdict number place 0 0; length = length }

unfoldable pub examples : List Example
examples =
    -- S is written as it is, and what is behind it stays
    record {
      commands = s ∷ [];
      before = replicate 162 0xEE;
      answers = answer 0 0 160 ∷ [];
      output = s ++ (0xEE ∷ 0xEE ∷ []);
      accepted = s ∷ [];
    }
    -- with an octet less room nothing is written
    ∷ record {
      commands = s ∷ [];
      before = replicate 159 0xEE;
      answers = answer 7004 0 0 ∷ [];
      output = replicate 159 0xEE;
      accepted = [];
    }
    -- S with other padding and reserved bits is written as S; between the two a call is refused, since P is clear in
    -- the empty record, and the next call gets the same part
    ∷ record {
      commands = s ∷ [] ∷ altered ∷ [];
      before = replicate 323 0xEE;
      answers = answer 0 0 160 ∷ answer 3008 4 0 ∷ answer 0 0 160 ∷ [];
      output = s ++ (s ++ (0xEE ∷ 0xEE ∷ 0xEE ∷ []));
      accepted = s ∷ altered ∷ [];
    }
    -- request [1]: an answer with E, and one with P clear, are written as they are
    ∷ record {
      commands = error_answer 68 (session ++ three) ∷ with_flags 0x20 56 three ∷ [];
      before = replicate 125 0xEE;
      answers = answer 0 0 68 ∷ answer 0 0 56 ∷ [];
      output = error_answer 68 (session ++ three) ++ (with_flags 0x20 56 three ++ (0xEE ∷ []));
      accepted = error_answer 68 (session ++ three) ∷ with_flags 0x20 56 three ∷ [];
    }
    ∷ []

-- what comes of the calls
abbrev pub drafts : Example → List Draft
drafts x = map own_draft x.commands

unfoldable pub answers_of : List Draft → List ℕ → List Written
answers_of [] out = []
answers_of (d ∷ ds) out = writing d out ∷ answers_of ds (rest d out)

abbrev pub worked : Example → Example
worked x = record {
  commands = x.commands;
  before = x.before;
  answers = answers_of (drafts x) x.before;
  output = output_after_all (drafts x) x.before;
  accepted = map (λ d. d.octets) (accepted_drafts (drafts x) x.before);
}

-- each example has its answers, its output and its accepted drafts
pub worked_calls : map worked examples ≡ examples
unfolding examples with_flags session host realm result three s altered header avp avp_of_3gpp s_begins vendor_id s_goes_on s_ends s_front answers_of output_after_all accepted_drafts number_at padded length_outcome application_outcome flags_outcome header_outcome avp_at rows_of admits_others dictionary find framing wrong_flags unsupported wrong_width wrong_value too_deep contents checked walk_avp walk_list admission_from member_outcome missing_from members_outcome members_at groups_outcome rows_outcome positions_from volume first_request later_request request_outcome result_outcome policies_outcome policy_in policies_at answer_outcome window_in each_window exchange_by rules_by walk_of lists_outcome command_outcome command_verdict record_of empty_record reading octets avp_flags avp_header avp_octets list_octets flags_octet command_header command_octets is_blank all_blank is_placed all_placed is_tree members_size has_sizes identifiers_fit name_fits names_fit is_well_formed own_outcome draft_outcome octets_written writing output_after
worked_calls = refl

-- ---- agreement

-- another command, and whether S agrees with it
pub record Compared : Type 0 where
  pub other : List ℕ
  pub agrees : Bool

abbrev pub compare : List ℕ → Bool → Compared
compare other agrees = record { other = other; agrees = agrees }

unfoldable pub comparisons : List Compared
comparisons =
    -- S itself, and with other padding and reserved bits
    compare s true ∷ compare altered true
    -- its Session-Id changed, T set, R clear, E set, P clear, the last AVP left out
    ∷ compare (changed s 28 (0x74 ∷ [])) false ∷ compare (changed s 4 (0xD0 ∷ [])) false
    ∷ compare (changed s 4 (0x40 ∷ [])) false ∷ compare (changed s 4 (0xE0 ∷ [])) false
    ∷ compare (changed s 4 (0x80 ∷ [])) false ∷ compare (take 144 s) false ∷ []

pub worked_agreement : map (λ x. agree s x.other) comparisons ≡ map (λ x. x.agrees) comparisons
unfolding comparisons s altered header avp avp_of_3gpp s_begins vendor_id s_goes_on s_ends s_front fills_one agrees_below agree number_at padded avp_at dictionary find framing wrong_flags unsupported wrong_width wrong_value too_deep contents checked walk_avp walk_list walk_of octets
worked_agreement = refl
