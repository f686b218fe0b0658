pub mod Questions
pub mod Words
pub mod Framing
pub mod Commanded
pub mod Lent
pub mod Tiling
pub mod Alone
pub mod Surveyed
