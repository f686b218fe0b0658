pub mod Tables
pub mod Questions
pub mod Runs
