pub mod Found
pub mod Unfinished
pub mod Escapes
pub mod Stepped
pub mod Scanned
pub mod OneLexing
pub mod ScanLoop
