pub mod Literals
pub mod Surveys
pub mod Tables
pub mod Finish
pub mod Forwards
pub mod Backwards
pub mod Outside
