pub mod Steps
pub mod Turns
pub mod Soundness
pub mod Texts
