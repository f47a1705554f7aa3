pub mod Boards
pub mod ByeLines
pub mod PetersonLines
pub mod Laws
