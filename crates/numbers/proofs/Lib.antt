-- The laws of a record as numbers, put and read position by position, of its flags, and of the draft that numbers and
-- octets stand for.
pub mod Numbers
mod Puts
pub mod Positions
mod Flags
pub mod Draft
