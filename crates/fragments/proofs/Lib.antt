-- The laws of a link. Its bounds:
pub mod Bounds
-- one call:
pub mod Goals
pub mod Usable
pub mod Fronts
mod Stored
pub mod Calls
-- what the functions promise of it:
mod Promises
mod Fills
-- the run uncut:
pub mod Uncut
-- a run in calls, from its middle on:
pub mod Follows
pub mod Middle
pub mod Turns
pub mod Offers
-- and request [7]'s claims as theorems
pub mod Cuttings
pub mod Moments
pub mod Refusals
pub mod Held
pub mod Found
