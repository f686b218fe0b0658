pub mod Counts
pub mod Lists
pub mod Marks
pub mod Puts
pub mod Questions
pub mod Runs
pub mod Some
pub mod Sweeps
