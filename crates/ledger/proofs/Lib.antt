pub mod Walks
pub mod Closings
pub mod Draws
pub mod Tables
pub mod Once
