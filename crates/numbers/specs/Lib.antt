-- A record as numbers, whether its flags are flags, and the draft that numbers and octets stand for.
pub mod Numbers
pub mod Flags
pub mod Draft
