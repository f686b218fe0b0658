pub mod Told
pub mod State
pub mod Views
pub mod Coverage
pub mod Numbers
pub mod Effects
pub mod Rules
