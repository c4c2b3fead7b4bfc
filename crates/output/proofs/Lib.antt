-- The laws of octets put into an output.
pub mod Output
