-- The laws of octets that are read one after the other, and of those that are written one part after the other.
pub mod Puts
pub mod Readings
