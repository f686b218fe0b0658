pub mod Accounts
pub mod Texts
