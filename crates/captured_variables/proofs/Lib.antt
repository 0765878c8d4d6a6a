pub mod Finding
pub mod WalkedForms
pub mod WalkedIs
