pub mod State
pub mod View
pub mod Sessions
pub mod Answers
pub mod Effects
