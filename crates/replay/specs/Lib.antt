pub mod Faults
pub mod Replays
pub mod Reports
pub mod Running
