pub mod Events
pub mod Fates
