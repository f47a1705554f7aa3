pub mod Finding
pub mod Forms
pub mod Joined
pub mod PileCalls
pub mod PileMeaning
pub mod Laws
