pub mod Tests
pub mod StrictOrder
pub mod Values
pub mod Rounds
pub mod Sheets
pub mod Computing
pub mod Chains
