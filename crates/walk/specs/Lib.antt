-- What the functions of this crate promise.
pub mod Answer
pub mod Promise
