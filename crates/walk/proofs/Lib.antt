-- The laws behind the walk's proofs: an AVP's frame, the depths of AVPs, one AVP, the list, and two dictionaries that
-- say the same. They name no code.
mod Framing
mod Checks
mod Depths
mod OneAvp
mod Along
mod OwnList
pub mod Same
