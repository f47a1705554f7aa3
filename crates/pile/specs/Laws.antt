-- Why a pile of locks is a lock: proofs, which the law of the impl cites. Assumes nothing.
pub mod Events
pub mod PileChanges
pub mod PileFormed
pub mod PileKeeps
pub mod PileMade
pub mod PileOutcomes
pub mod Places
pub mod Registers
