-- Document 01 as definitions, a file for each of its parts, in its order.

-- octets and numbers, on which all rests, and texts
pub mod Octets
pub mod Text
-- Header; AVP; Dictionary; Rows
pub mod Header
pub mod Avp
pub mod Dictionary
pub mod Rows
-- Order of checks: the header's stand in Header; walk, rows, exchange rules with the order of times, and all of them in
-- order
pub mod Walk
pub mod RowChecks
pub mod Times
pub mod Exchange
pub mod Command
-- What comes back
pub mod Verdict
-- The record and the writer: the record, meaning, data and search; the draft, the call and its octets; agreement and
-- lists of calls; and what the demands claim of them
pub mod Record
pub mod Meaning
pub mod Search
pub mod Draft
pub mod Writer
pub mod Wire
pub mod Agreement
pub mod Calls
pub mod Demands
pub mod Order
-- and what request [2] claims of the volumes in a request, request [5] of the windows, and request [9] of the policies
-- of an answer
pub mod Volumes
pub mod Windows
pub mod Policies
-- beyond 01: the canonical form of a command, which names a state
pub mod Canonical
-- The book and its listing: the lines, and the whole
pub mod Lines
pub mod Book
-- Commands at the edges; and what request [1] claims of answers with E, with such answers
pub mod Edges
pub mod ErrorAnswers
