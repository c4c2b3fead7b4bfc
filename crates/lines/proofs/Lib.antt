-- The laws of lines: text that is put piece by piece, decimals, and lines put together from them.
pub mod Text
pub mod Decimals
pub mod Lines
