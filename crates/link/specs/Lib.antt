-- The listing of a stream, and what the functions of this program promise.
pub mod Listing
pub mod Stream
pub mod Promise
