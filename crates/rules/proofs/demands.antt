-- The demands, and the laws that carry them, one folder a topic. Read Demands first.

-- octets and numbers
pub mod octets
-- AVPs in walk order with their octets
pub mod items
-- what is written is read: the octets of items, of a meaning and of a draft
pub mod written
-- what is read was written: the items behind a walk that ends whole, and an accepted command
pub mod read
-- two accepted commands mean the same exactly when they agree
pub mod agreement
-- the round trip: a command written anew from its record
pub mod again
-- the number that comes back: one of 01's table, and 0 exactly with acceptance
pub mod numbering
-- lists of write calls, and what their answers tell
pub mod calls
-- the demands, each in its own words
pub mod Demands
-- the order of checks in the answers, and the values that go with a number
pub mod Order
-- the name of a state: the canonical form of a command
pub mod States
-- what a search finds (request [9]), and the law on ordinals that carries it
pub mod Nth
pub mod Found
pub mod Recorded
pub mod Policies
-- request [2]: total volume beside a direction
pub mod Volumes
-- request [5]: times and windows
pub mod Times
pub mod Windows
-- request [1]: answers with E
pub mod ErrorAnswers
-- what a listing tells of a book
pub mod Listings
pub mod Examples
