-- Answers with E, commands of the flags beside theirs, and what request [1] leaves as it is (specs/ErrorAnswers),
-- computed from the definitions.
use Rattle.std.proofs.Common.{◌≡◌, refl, [], ◌∷◌}
use Rattle.rules.specs.Octets.{octets, number_at, padded}
use Rattle.rules.specs.Header.{length_outcome, application_outcome, flags_outcome, header_outcome}
use Rattle.rules.specs.Avp.{avp_at}
use Rattle.rules.specs.Dictionary.{dictionary, find}
use Rattle.rules.specs.Rows.{rows_of, admits_others}
use Rattle.rules.specs.Walk.{framing, wrong_flags, unsupported, wrong_width, wrong_value, too_deep, contents, checked, walk_avp, walk_list}
use Rattle.rules.specs.RowChecks.{admission_from, member_outcome, missing_from, members_outcome, members_at, groups_outcome, rows_outcome}
use Rattle.rules.specs.Times.{moment, is_before}
use Rattle.rules.specs.Exchange.{result_outcome, policies_outcome, policies_at, answer_outcome, window_in, each_window, exchange_by}
use Rattle.rules.specs.Search.{positions_from}
use Rattle.rules.specs.Command.{rules_by, walk_of, lists_outcome, command_outcome, command_verdict}
use Rattle.rules.specs.Edges.{header, avp, avp_of_3gpp, vendor_id, answer_begins, window_of, policy_of, proxy_of, case, answers, verdicts}
use Rattle.rules.specs.ErrorAnswers.{with_flags, session, host, realm, result, three, state, message, reporter, failed, experimental, erred, codes_with_row, unmoved}

-- the names with a row in the general form: these ten; every other name is one of the others, in any number
pub rows_of_general_form : codes_with_row dictionary
    ≡ (268 ∷ 278 ∷ 263 ∷ 264 ∷ 296 ∷ 279 ∷ 281 ∷ 294 ∷ 297 ∷ 284 ∷ [])
unfolding codes_with_row dictionary rows_of admission_from
rows_of_general_form = refl

-- each has its answer
computed : (verdicts erred ≡ answers erred) × (verdicts unmoved ≡ answers unmoved)
unfolding verdicts answers case header avp avp_of_3gpp vendor_id answer_begins window_of policy_of proxy_of with_flags session host realm result three state message reporter failed experimental erred unmoved octets number_at padded length_outcome application_outcome flags_outcome header_outcome avp_at rows_of admits_others dictionary find framing wrong_flags unsupported wrong_width wrong_value too_deep contents checked walk_avp walk_list admission_from member_outcome missing_from members_outcome members_at groups_outcome rows_outcome positions_from result_outcome policies_outcome policies_at answer_outcome moment is_before window_in each_window exchange_by rules_by walk_of lists_outcome command_outcome command_verdict
computed = (refl, refl)

pub error_edges : verdicts erred ≡ answers erred
error_edges = computed.0

pub unmoved_edges : verdicts unmoved ≡ answers unmoved
unmoved_edges = computed.1
