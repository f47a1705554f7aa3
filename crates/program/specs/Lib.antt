pub mod Faults
pub mod Runs
pub mod Lines
pub mod WholeRun
