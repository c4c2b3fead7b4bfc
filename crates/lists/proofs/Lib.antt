-- The laws of the tables of rows, of row counts, of the members of a list, and that the log of a walk is judged as
-- document 01 judges its AVPs. They name no code.
pub mod Tables
pub mod Counts
pub mod Members
pub mod Noted
pub mod Finds
pub mod Walked
pub mod Firsts
pub mod Exchanges
