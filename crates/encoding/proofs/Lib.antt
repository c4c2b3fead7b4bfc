-- The laws behind the octets of a draft's command.
mod Putting
mod Listing
mod Commands
mod Whole
mod Encoding
