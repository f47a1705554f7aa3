pub mod Checks
pub mod Examples
pub mod Faults
pub mod Layout
pub mod Readers
pub mod RoundTrip
pub mod Writing
