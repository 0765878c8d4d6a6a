pub mod CapturedLists
pub mod Extraction
pub mod FunctionNumbers
pub mod Lifting
pub mod Programs
