-- Octets and numbers.
pub mod Numbers
pub mod Digits
pub mod Flags
