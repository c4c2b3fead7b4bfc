-- The laws of the definitions, by topic. They name no code.
-- computed: commands at the edges, answers with E, and the writer's drafts and octets at the edges
pub mod Edges
pub mod ErrorEdges
pub mod WriterEdges
pub mod Octets
pub mod Differences
pub mod Tests
pub mod Outcomes
pub mod Fields
pub mod Names
pub mod Walk
pub mod Meanings
pub mod Passed
pub mod Header
pub mod Writer
pub mod Commands
pub mod Steps
pub mod Searches
pub mod BookLines
-- the user's demands as theorems over the definitions
pub mod demands
-- the octets of a well-formed draft, for the writer
pub mod Sizes
