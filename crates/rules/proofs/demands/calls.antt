-- Lists of write calls, and what their answers tell.
pub mod Calls
pub mod Answers
