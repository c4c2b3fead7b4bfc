-- What is read from a record as numbers, and what a fragment of a link gives.
pub mod Parts
pub mod Links
