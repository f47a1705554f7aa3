pub mod Calls
pub mod Kinds
pub mod Meaning
pub mod Pasts
pub mod Refusals
pub mod Totals
