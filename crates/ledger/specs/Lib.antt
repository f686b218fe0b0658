pub mod Places
pub mod Answers
pub mod States
pub mod Table
