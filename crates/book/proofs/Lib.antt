-- The laws of the listing: the book that is cut into commands, and the turns of the listing from command to command.
pub mod Cuts
pub mod Turns
