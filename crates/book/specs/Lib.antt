-- What the listing of a book promises.
pub mod Promise
