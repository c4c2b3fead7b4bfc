-- The laws behind the tests of a draft.
mod Positions
mod Formed
