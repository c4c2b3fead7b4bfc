-- The laws behind the proofs of data, which other crates cite, and of the search.
pub mod Positions
mod Searches
