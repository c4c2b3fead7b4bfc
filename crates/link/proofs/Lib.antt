-- The laws of a stream's listing:
-- the answer of a read:
mod Inputs
-- one line, the lines of a piece:
mod Puts
pub mod Steps
mod Pieces
-- the lines of a stream uncut, from its middle on:
pub mod Lines
pub mod Middle
pub mod Left
pub mod Turns
-- and what is claimed of a stream in pieces, as theorems
pub mod Stream
