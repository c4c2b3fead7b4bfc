-- 01, Commands at the edges: the cases that it marks (p), the book that it works out, with its listing, and further
-- cases, of requests, answers and groups, whose answers follow from its rules. That the definitions give these answers
-- is computed in proofs/Edges. Numbers stand as 01 prints them.
use Rattle.std.specs.Prelude.{ℕ, List, [], ◌∷◌, ◌++◌, map, ℤ, pos, neg_ℤ, take, replicate}
use Prim.Native.String.{String}
use Rattle.rules.specs.declared.Verdict.{Verdict}
use Rattle.rules.specs.Octets.{octets}
use Rattle.rules.specs.Text.{text}
use Rattle.rules.specs.Verdict.{verdict}
use Rattle.rules.specs.Header.{application_nt, code_background_data_transfer, vendor_3gpp}
use Rattle.rules.specs.Command.{command_verdict}
use Rattle.rules.specs.Book.{listing}

-- a header with this version, length field, command flags and application; the identifiers are 1 and 2
unfoldable pub header : ℕ → ℕ → ℕ → ℕ → List ℕ
header version length flags application =
    version ∷ octets 3 length ++ (flags ∷ octets 3 code_background_data_transfer) ++ octets 4 application ++ octets 4 1 ++ octets 4 2

-- H, and H's header for a request and for an answer of another length
unfoldable pub h : List ℕ
h = header 1 20 0xC0 application_nt

abbrev pub request_header : ℕ → List ℕ
request_header length = header 1 length 0xC0 application_nt

abbrev pub answer_header : ℕ → List ℕ
answer_header length = header 1 length 0x40 application_nt

-- an AVP without vendor: its code, flags and length field, and the octets behind its header, padding included
unfoldable pub avp : ℕ → ℕ → ℕ → List ℕ → List ℕ
avp code flags length behind = octets 4 code ++ (flags ∷ octets 3 length) ++ behind

-- an AVP of 3GPP, likewise
unfoldable pub avp_of_3gpp : ℕ → ℕ → ℕ → List ℕ → List ℕ
avp_of_3gpp code flags length behind = octets 4 code ++ (flags ∷ octets 3 length) ++ octets 4 vendor_3gpp ++ behind

-- a string of one octet, with its padding
abbrev pub letter : ℕ → List ℕ
letter octet = octet ∷ 0 ∷ 0 ∷ 0 ∷ []

-- the AVPs with which S begins: 263, 260 with what it holds, 277, 264, 296, 283
unfoldable pub s_begins : List ℕ → ℕ → List ℕ
s_begins members length =
    avp 263 0x40 9 (letter 0x73)
    ++ avp 260 0x40 length members
    ++ avp 277 0x40 12 (octets 4 1)
    ++ avp 264 0x40 9 (letter 0x68)
    ++ avp 296 0x40 9 (letter 0x72)
    ++ avp 283 0x40 9 (letter 0x64)

-- 260's one required member
unfoldable pub vendor_id : List ℕ
vendor_id = avp 266 0x40 12 (octets 4 vendor_3gpp)

-- with which S goes on: 4203 of this value, 293, 4202
unfoldable pub s_goes_on : ℕ → List ℕ
s_goes_on type =
    avp_of_3gpp 4203 0xC0 16 (octets 4 type) ++ avp 293 0x40 9 (letter 0x65) ++ avp_of_3gpp 4202 0xC0 13 (letter 0x66)

-- and ends: 4208, at 144
unfoldable pub s_ends : List ℕ
s_ends = avp_of_3gpp 4208 0xC0 16 (octets 4 7)

-- the AVPs of S without 4208, and S
unfoldable pub s_front : List ℕ
s_front = s_begins vendor_id 20 ++ s_goes_on 1

unfoldable pub s : List ℕ
s = request_header 160 ++ s_front ++ s_ends

-- octets and the answer that they have
pub record Case : Type 0 where
  pub octets : List ℕ
  pub answer : Verdict

-- octets, then number, place, vendor and code
unfoldable pub case : List ℕ → ℕ → ℕ → ℕ → ℕ → Case
case octets number place vendor code = record { octets = octets; answer = verdict number place vendor code }

-- the cases that 01 marks (p), in its order
unfoldable pub cases : List Case
cases =
    case [] 5015 0 0 0
    ∷ case h 5005 20 0 263
    ∷ case (header 2 20 0xC0 application_nt) 5011 0 0 0
    ∷ case (header 1 24 0xC0 application_nt) 5015 1 0 0
    ∷ case (header 1 20 0xC0 16777346) 3007 8 0 0
    ∷ case (header 1 20 0xE0 application_nt) 3008 4 0 0
    -- 01 has 7005 at 4 here; 02, [1] reads an answer with E by the general form, whose first missing row is 264
    ∷ case (header 1 20 0x60 application_nt) 5005 20 0 264
    ∷ case (request_header 28 ++ avp 263 0x40 7 []) 5014 20 0 263
    ∷ case (request_header 28 ++ avp 263 0x41 8 []) 3009 20 0 263
    ∷ case (request_header 28 ++ avp 9999 0x40 8 []) 5001 20 0 9999
    ∷ case (request_header 28 ++ avp 9999 0x00 8 []) 5005 28 0 263
    ∷ case s 0 0 0 0
    ∷ case (request_header 144 ++ s_front) 5005 144 vendor_3gpp 4208
    ∷ []

-- 532 and 4209 of a first request, and a volume
unfoldable pub provider : List ℕ
provider = avp_of_3gpp 532 0x80 13 (letter 0x61)

unfoldable pub number_of_ues : List ℕ
number_of_ues = avp_of_3gpp 4209 0xC0 16 (octets 4 3)

unfoldable pub volume_of : ℕ → List ℕ
volume_of code = avp code 0x40 16 (octets 8 1000)

-- a window of these times
unfoldable pub window_of : ℕ → ℕ → List ℕ
window_of start end =
    avp_of_3gpp 4204 0xC0 44 (avp_of_3gpp 4206 0xC0 16 (octets 4 start) ++ avp_of_3gpp 4205 0xC0 16 (octets 4 end))

-- a first request, 4203 = 0, of this length: these AVPs, which stand at 116, and a window from 10 to this time
unfoldable pub first_request_of : ℕ → List ℕ → ℕ → List ℕ
first_request_of length avps end =
    request_header length
    ++ s_begins vendor_id 20
    ++ avp_of_3gpp 4203 0xC0 16 (octets 4 0)
    ++ avps
    ++ window_of 10 end

-- with one volume
abbrev pub first_request_to : ℕ → List ℕ
first_request_to end = first_request_of 208 (provider ++ volume_of 414 ++ number_of_ues) end

-- the AVPs of an answer before its result
unfoldable pub answer_begins : List ℕ
answer_begins =
    avp 263 0x40 9 (letter 0x73)
    ++ avp 260 0x40 20 vendor_id
    ++ avp 277 0x40 12 (octets 4 1)
    ++ avp 264 0x40 9 (letter 0x68)
    ++ avp 296 0x40 9 (letter 0x72)

-- further cases: 01's S with 4203 = 2 and its windows; an accepted first request, one without a volume, and an accepted
-- answer; an answer without a result and one with both; rows missing, not admitted and exceeded, in the command's own
-- list and in a group
unfoldable pub further : List Case
further =
    case (request_header 160 ++ s_begins vendor_id 20 ++ s_goes_on 2 ++ s_ends) 5004 100 vendor_3gpp 4203
    ∷ case (first_request_to 11) 0 0 0 0
    ∷ case (first_request_to 10) 5004 192 vendor_3gpp 4205
    ∷ case (first_request_of 192 (provider ++ number_of_ues) 11) 5005 192 0 414
    ∷ case (answer_header 100 ++ answer_begins ++ avp 268 0x40 12 (octets 4 2001)) 0 0 0 0
    ∷ case (answer_header 88 ++ answer_begins) 5005 88 0 268
    ∷ case (answer_header 132 ++ answer_begins ++ avp 268 0x40 12 (octets 4 2001)
    ++ avp 297 0x40 32 (vendor_id ++ avp 298 0x40 12 (octets 4 1))) 5008 100 0 297
    ∷ case (request_header 148 ++ s_begins [] 8 ++ s_goes_on 1 ++ s_ends) 5005 40 0 266
    ∷ case (request_header 172 ++ s_begins (vendor_id ++ avp 263 0x40 9 (letter 0x73)) 32 ++ s_goes_on 1 ++ s_ends) 5008 52 0 263
    ∷ case (request_header 172 ++ s_begins (vendor_id ++ vendor_id) 32 ++ s_goes_on 1 ++ s_ends) 5009 52 0 266
    ∷ case (request_header 44 ++ avp 264 0x40 9 (letter 0x68) ++ avp 263 0x40 9 (letter 0x73)) 5008 32 0 263
    ∷ case (request_header 172 ++ s_front ++ s_ends ++ avp 264 0x40 9 (letter 0x68)) 5009 160 0 264
    ∷ []

-- request [2]: 421 behind 414; 421 before 412; 421 behind 414 with 532 missing, which is asked for before, and with
-- 4209 missing, which is asked for later; 414 in a group; all three with 4203 = 1; an answer
unfoldable pub totals : List Case
totals =
    case (first_request_of 224 (provider ++ volume_of 414 ++ volume_of 421 ++ number_of_ues) 11) 5008 148 0 421
    ∷ case (first_request_of 224 (provider ++ volume_of 421 ++ volume_of 412 ++ number_of_ues) 11) 5008 132 0 421
    ∷ case (first_request_of 208 (volume_of 414 ++ volume_of 421 ++ number_of_ues) 11) 5005 208 vendor_3gpp 532
    ∷ case (first_request_of 208 (provider ++ volume_of 414 ++ volume_of 421) 11) 5008 148 0 421
    ∷ case (first_request_of 256 (provider ++ volume_of 421 ++ number_of_ues
    ++ avp 284 0x40 48 (avp 280 0x40 9 (letter 0x68) ++ avp 33 0x40 9 (letter 0x73) ++ volume_of 414)) 11) 0 0 0 0
    ∷ case (request_header 208 ++ s_front ++ s_ends ++ volume_of 412 ++ volume_of 414 ++ volume_of 421) 0 0 0 0
    ∷ case (answer_header 132 ++ answer_begins ++ avp 268 0x40 12 (octets 4 2001) ++ volume_of 414 ++ volume_of 421) 0 0 0 0
    ∷ []

-- request [5]: S with a window of 7 February 2036, from midnight to midnight, and with its reverse; with one from
-- 4294967295 to 0 and, in a group, one from 0 to 4294967295
unfoldable pub windowed : List Case
windowed =
    case (request_header 204 ++ s_front ++ s_ends ++ window_of 4294944000 63104) 0 0 0 0
    ∷ case (request_header 204 ++ s_front ++ s_ends ++ window_of 63104 4294944000) 5004 188 vendor_3gpp 4205
    ∷ case (request_header 280 ++ s_front ++ s_ends ++ window_of 4294967295 0
    ++ avp 284 0x40 76 (avp 280 0x40 9 (letter 0x68) ++ avp 33 0x40 9 (letter 0x73) ++ window_of 0 4294967295))
    5004 264 vendor_3gpp 4205
    ∷ []

-- an answer of this length with a result: these AVPs stand at 100
unfoldable pub answer_of : ℕ → List ℕ → List ℕ
answer_of length avps = answer_header length ++ answer_begins ++ avp 268 0x40 12 (octets 4 2001) ++ avps

-- its 4202 and its 2207
unfoldable pub reference : List ℕ
reference = avp_of_3gpp 4202 0xC0 13 (letter 0x72)

unfoldable pub address : List ℕ
address = avp_of_3gpp 2207 0x80 13 (letter 0x61)

-- a policy of this length with these AVPs behind its 4208, and a whole one, of 84 octets
unfoldable pub policy_of : ℕ → List ℕ → List ℕ
policy_of length members = avp_of_3gpp 4207 0xC0 length (avp_of_3gpp 4208 0xC0 16 (octets 4 1) ++ members)

unfoldable pub rating : List ℕ
rating = avp 432 0x40 12 (octets 4 1)

unfoldable pub policy : List ℕ
policy = policy_of 84 (window_of 10 11 ++ rating)

-- a 284 of this length with these AVPs behind its own two
unfoldable pub proxy_of : ℕ → List ℕ → List ℕ
proxy_of length members = avp 284 0x40 length (avp 280 0x40 9 (letter 0x68) ++ avp 33 0x40 9 (letter 0x73) ++ members)

-- what the number of policies asks for, which request [9] tells, and each policy in order
unfoldable pub policied : List Case
policied =
    -- one, two and three without 4202, which is asked for before 2207; one with it
    case (answer_of 184 policy) 5005 184 vendor_3gpp 4202
    ∷ case (answer_of 268 (policy ++ policy)) 5005 268 vendor_3gpp 4202
    ∷ case (answer_of 368 (policy ++ policy ++ policy ++ address)) 5005 368 vendor_3gpp 4202
    ∷ case (answer_of 200 (reference ++ policy)) 0 0 0 0
    -- two and three without 2207; three with it
    ∷ case (answer_of 284 (policy ++ reference ++ policy)) 5005 284 vendor_3gpp 2207
    ∷ case (answer_of 368 (reference ++ policy ++ policy ++ policy)) 5005 368 vendor_3gpp 2207
    ∷ case (answer_of 384 (policy ++ reference ++ policy ++ policy ++ address)) 0 0 0 0
    -- one in a group neither counts nor is judged, beside another and alone
    ∷ case (answer_of 316 (reference ++ policy ++ proxy_of 116 policy)) 0 0 0 0
    ∷ case (answer_of 160 (proxy_of 60 (policy_of 28 []))) 0 0 0 0
    -- of the second and the third at fault the second counts; the third alone; 4204 before 432; 4204 in a group
    ∷ case (answer_of 328 (reference ++ address ++ policy ++ policy_of 72 (window_of 10 11) ++ policy_of 40 rating))
    5005 288 0 432
    ∷ case (answer_of 372 (reference ++ address ++ policy ++ policy ++ policy_of 72 (window_of 10 11))) 5005 372 0 432
    ∷ case (answer_of 144 (policy_of 28 [] ++ reference)) 5005 128 vendor_3gpp 4204
    ∷ case (answer_of 232 (reference ++ policy_of 116 (rating ++ proxy_of 76 (window_of 10 11)))) 5005 232 vendor_3gpp 4204
    -- the result is asked for before 4202, and 4202 before what a policy holds
    ∷ case (answer_header 172 ++ answer_begins ++ policy) 5005 172 0 268
    ∷ case (answer_of 172 (policy_of 72 (window_of 10 11))) 5005 172 vendor_3gpp 4202
    ∷ []

-- and two Time values with the seconds from the first to the second
pub record Span : Type 0 where
  pub start : ℕ
  pub end : ℕ
  pub number : ℤ

unfoldable pub span : ℕ → ℕ → ℤ → Span
span start end number = record { start = start; end = end; number = number }

-- 02's two figures; the whole range; 7 February 2036 and its reverse; equal ones
unfoldable pub spans : List Span
spans =
    span 4294967295 0 (pos 1)
    ∷ span 2147483647 2147483648 (neg_ℤ (pos 4294967295))
    ∷ span 2147483648 2147483647 (pos 4294967295)
    ∷ span 4294944000 63104 (pos 86400)
    ∷ span 63104 4294944000 (neg_ℤ (pos 86400))
    ∷ span 0 0 (pos 0)
    ∷ []

-- the answers that cases have, and those that the definitions give
unfoldable pub answers : List Case → List Verdict
answers cs = map (λ c. c.answer) cs

unfoldable pub verdicts : List Case → List Verdict
verdicts cs = map (λ c. command_verdict c.octets) cs

-- the head of a book: the letters NTB and the version 1
unfoldable pub head_of_book : List ℕ
head_of_book = text "NTB" ++ (0 ∷ 1 ∷ [])

-- the book that 01 works out
unfoldable pub book : List ℕ
book = head_of_book ++ h

-- its listing, whole
unfoldable pub book_listing : List ℕ
book_listing = text "NTB 1\n1 5 5005 20 0 263\nend 1 0\n"

-- a book and the listing that it has
pub record BookCase : Type 0 where
  pub octets : List ℕ
  pub expected : List ℕ

unfoldable pub book_case : List ℕ → String → BookCase
book_case octets expected = record { octets = octets; expected = text expected }

-- further books
unfoldable pub further_books : List BookCase
further_books =
    -- S and then H: two commands, one accepted
    book_case (head_of_book ++ s ++ h) "NTB 1\n1 5 0 0 0 0\n2 165 5005 20 0 263\nend 2 1\n"
    -- S with three octets behind it: a cut, and no `end`
    ∷ book_case (head_of_book ++ s ++ (1 ∷ 0 ∷ 0 ∷ [])) "NTB 1\n1 5 0 0 0 0\n2 165 cut\n"
    -- S and then H without its last octet: a length past the end
    ∷ book_case (head_of_book ++ s ++ take 19 h) "NTB 1\n1 5 0 0 0 0\n2 165 cut\n"
    -- a length field of 16 with 20 octets left, which no command has
    ∷ book_case (head_of_book ++ header 1 16 0xC0 application_nt) "NTB 1\n1 5 cut\n"
    -- a command of 16,388 octets: refused, and no cut
    ∷ book_case (head_of_book ++ request_header 16388 ++ replicate 16368 0) "NTB 1\n1 5 7001 1 0 0\nend 1 0\n"
    -- the head alone
    ∷ book_case head_of_book "NTB 1\nend 0 0\n"
    -- a head of version 2, and H
    ∷ book_case (text "NTB" ++ (0 ∷ 2 ∷ h)) "not a book\n"
    -- a head of four octets
    ∷ book_case (text "NTB" ++ (0 ∷ [])) "not a book\n"
    ∷ []

-- the listings that books have, and those that the definitions give
unfoldable pub expected : List BookCase → List (List ℕ)
expected bs = map (λ b. b.expected) bs

unfoldable pub listings : List BookCase → List (List ℕ)
listings bs = map (λ b. listing b.octets) bs
