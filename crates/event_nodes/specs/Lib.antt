pub mod EventNodes
pub mod LiftedEvents
pub mod code
