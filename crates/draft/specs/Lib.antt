pub mod Form
pub mod Rows
pub mod Filled
pub mod Adding
pub mod NewRule
pub mod Writing
pub mod Drafting
