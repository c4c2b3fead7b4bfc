-- What the lines of a listing promise.
pub mod Promise
