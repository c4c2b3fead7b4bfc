-- What the searches promise.
pub mod Promise
