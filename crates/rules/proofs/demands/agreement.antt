-- Two accepted commands mean the same exactly when they agree.
pub mod Depths
pub mod Paddings
pub mod Places
pub mod Alike
pub mod Agreement
-- the claim of agreement and the test that computes it
pub mod Tested
