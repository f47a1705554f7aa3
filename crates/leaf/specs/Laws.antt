-- Why the locks made of registers keep the meaning of a lock: proofs, which the law of each impl cites. Assumes nothing.
pub mod BoardKeeps
pub mod ByeCorrect
pub mod FirstHolding
pub mod Obligations
pub mod PetersonCorrect
