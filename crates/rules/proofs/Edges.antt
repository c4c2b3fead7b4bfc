-- Commands at the edges (specs/Edges), computed from the definitions: the cases that 01 marks (p) as one theorem over a
-- list, the listing of the book that it works out, and further cases.
use Rattle.std.proofs.Common.{◌≡◌, refl, map, pos}
use Rattle.std.specs.Int.Signed.{lt_z}
use Rattle.rules.specs.Octets.{number_at, padded, octets}
use Rattle.rules.specs.Header.{length_outcome, application_outcome, flags_outcome, header_outcome}
use Rattle.rules.specs.Avp.{avp_at}
use Rattle.rules.specs.Rows.{rows_of, admits_others}
use Rattle.rules.specs.Dictionary.{dictionary, find}
use Rattle.rules.specs.Walk.{framing, wrong_flags, unsupported, wrong_width, wrong_value, too_deep, contents, checked, walk_avp, walk_list}
use Rattle.rules.specs.RowChecks.{admission_from, member_outcome, missing_from, members_outcome, members_at, groups_outcome, rows_outcome}
use Rattle.rules.specs.Search.{positions_from}
use Rattle.rules.specs.Times.{moment, is_before, seconds}
use Rattle.rules.specs.Exchange.{direction, volume, total_alone, first_request, later_request, request_outcome, result_outcome, policies_outcome, policy_in, policies_at, answer_outcome, window_in, each_window, exchange_by}
use Rattle.rules.specs.Command.{rules_by, walk_of, lists_outcome, command_outcome, command_verdict}
use Rattle.rules.specs.Lines.{digits}
use Rattle.rules.specs.Book.{is_cut, lines_from, is_book, listing}
use Rattle.rules.specs.Edges.{header, h, avp, avp_of_3gpp, s_begins, vendor_id, s_goes_on, s_ends, s_front, s, case, cases, provider, number_of_ues, volume_of, window_of, first_request_of, answer_begins, further, totals, windowed, answer_of, reference, address, policy_of, rating, policy, proxy_of, policied, Span, span, spans, answers, verdicts, head_of_book, book, book_listing, book_case, further_books, expected, listings}

-- all of it, computed
computed : (verdicts cases ≡ answers cases) × (verdicts further ≡ answers further) × (verdicts totals ≡ answers totals)
    × (verdicts windowed ≡ answers windowed) × (verdicts policied ≡ answers policied)
    × (listing book ≡ book_listing) × (listings further_books ≡ expected further_books)
unfolding head_of_book book_case further_books expected listings verdicts answers cases case header h avp avp_of_3gpp s_begins vendor_id s_goes_on s_ends s_front s further totals windowed window_of provider number_of_ues volume_of first_request_of answer_begins answer_of reference address policy_of rating policy proxy_of policied book book_listing octets number_at padded length_outcome application_outcome flags_outcome header_outcome avp_at rows_of admits_others dictionary find framing wrong_flags unsupported wrong_width wrong_value too_deep contents checked walk_avp walk_list admission_from member_outcome missing_from members_outcome members_at groups_outcome rows_outcome positions_from direction volume total_alone first_request later_request request_outcome result_outcome policies_outcome policy_in policies_at answer_outcome moment is_before window_in each_window exchange_by rules_by walk_of lists_outcome command_outcome command_verdict digits is_cut lines_from is_book listing
computed = (refl, refl, refl, refl, refl, refl, refl)

-- each marked case has its answer
pub edges : verdicts cases ≡ answers cases
edges = computed.0

-- and so has each further case
pub further_edges : verdicts further ≡ answers further
further_edges = computed.1

-- and each case of request [2]
pub total_edges : verdicts totals ≡ answers totals
total_edges = computed.2

-- and each case of request [5]
pub window_edges : verdicts windowed ≡ answers windowed
window_edges = computed.3

-- and each case of the number of policies
pub policy_edges : verdicts policied ≡ answers policied
policy_edges = computed.4

-- and each two Time values have their seconds
pub span_edges : map (λ (x : Span). seconds x.start x.end) spans ≡ map (λ (x : Span). x.number) spans
unfolding spans span seconds moment
span_edges = refl

-- and a window of two of them is right exactly where that is above 0
pub right_spans : map (λ (x : Span). is_before x.start x.end) spans
    ≡ map (λ (x : Span). lt_z (pos 0) x.number) spans
unfolding spans span is_before moment
right_spans = refl

-- and the book its listing
pub worked_book : listing book ≡ book_listing
worked_book = computed.5

-- and each further book
pub further_books_lem : listings further_books ≡ expected further_books
further_books_lem = computed.6
