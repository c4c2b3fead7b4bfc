-- What an output holds after octets were put into it.
pub mod Output
