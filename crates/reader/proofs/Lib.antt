-- The laws behind the reader's proofs: a record's places, and a command's checks in order.
mod Places
pub mod Order
