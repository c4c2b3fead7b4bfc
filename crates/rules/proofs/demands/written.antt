-- What is written is read: the octets of items, of a meaning and of a draft.
pub mod Fields
pub mod Judged
pub mod Read
pub mod Cells
pub mod Headers
pub mod Writing
pub mod Drafts
