-- What the functions promise beside the definitions of document 01.
pub mod Positions
pub mod Firsts
