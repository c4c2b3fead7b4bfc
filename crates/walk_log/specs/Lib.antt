-- What a log holds, and families of AVPs.
pub mod Log
pub mod Families
