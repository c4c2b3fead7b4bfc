-- The laws that the proofs cite, by topic. They name no code.
pub mod Searches
pub mod Firsts
