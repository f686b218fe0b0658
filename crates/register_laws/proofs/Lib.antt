pub mod Others
pub mod TakenBack
pub mod Emptied
