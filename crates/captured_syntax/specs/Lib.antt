pub mod CapturedBy
pub mod Counted
pub mod Gathered
pub mod GatheringLaws
