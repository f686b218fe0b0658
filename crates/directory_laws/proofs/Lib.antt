pub mod Reviews
pub mod Sound
pub mod Continued
pub mod Losses
