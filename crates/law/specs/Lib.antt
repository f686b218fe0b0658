pub mod Account
pub mod Histories
pub mod Law
pub mod Beside
