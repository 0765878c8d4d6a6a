pub mod Calling
pub mod ClauseEvents
pub mod Distributing
pub mod Going
pub mod LiftedEvents
pub mod WalkedForms
pub mod WalkedIs
pub mod WrittenLengths
