-- What is read was written: the items behind a walk that ends whole, and an accepted command.
pub mod OneItem
pub mod Soundness
pub mod Commands
