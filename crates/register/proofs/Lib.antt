pub mod Counts
pub mod BitWords
pub mod Sweeps
pub mod Lists
pub mod Fine
