-- AVPs in walk order with their octets.
pub mod Items
pub mod Trees
pub mod Sequences
pub mod Lists
pub mod Members
