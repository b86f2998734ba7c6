pub mod Puts
pub mod Adds
pub mod Forms
pub mod Drafts
