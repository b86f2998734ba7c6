pub mod Tests
pub mod Answer
pub mod Order
pub mod Fault
pub mod Flags
pub mod Rounds
pub mod Computed
