-- Each refusal has a number of 01's table, with the place, vendor and code that go with it. It is not 0, so the number
-- that comes back tells acceptance.
pub mod Refusals
pub mod ListRefusals
pub mod Numbering
