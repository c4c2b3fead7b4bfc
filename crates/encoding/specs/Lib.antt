-- What encoding a draft gives, and what the functions behind it promise.
pub mod Encoding
pub mod Promise
