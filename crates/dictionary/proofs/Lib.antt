-- The laws of the entries and of the table, without a word of the code.
pub mod Entries
pub mod Table
