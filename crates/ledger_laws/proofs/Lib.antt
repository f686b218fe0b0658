pub mod Serials
pub mod Counts
pub mod Steps
pub mod Owners
pub mod Histories
pub mod Once
