-- The dictionary's entries by their numbers, and the tables of codes that lead to them.
pub mod Entries
pub mod Table
