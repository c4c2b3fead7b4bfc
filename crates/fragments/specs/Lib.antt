-- Request [7] as definitions, what is claimed of a run, and what the functions of this crate promise.
pub mod Link
pub mod Run
pub mod Promise
