-- What the functions of this crate promise.
pub mod Drafts
pub mod Promise
