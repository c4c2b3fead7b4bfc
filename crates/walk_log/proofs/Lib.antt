-- The laws of a log, of what was put into one, of families of AVPs, and of lists with their members. Other crates cite
-- them.
pub mod Log
pub mod Kept
pub mod Families
pub mod Forests
