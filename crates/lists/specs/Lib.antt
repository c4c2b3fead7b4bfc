-- What the contracts of the lists' checks name.
pub mod ByLog
pub mod Firsts
pub mod Exchanges
pub mod Tables
pub mod Counts
