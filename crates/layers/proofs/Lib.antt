pub mod Pages
pub mod Resting
pub mod Looking
