-- The laws of what is read of a command as numbers, of the data and the search of the record that numbers stand for,
-- and of a link's answer as numbers.
mod Readings
mod Parts
pub mod Searches
mod Links
