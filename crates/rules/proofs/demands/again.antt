-- The round trip: a command written anew from its record.
pub mod Contents
pub mod Passes
pub mod Exchanges
pub mod Canonical
pub mod RoundTrip
pub mod OwnForm
