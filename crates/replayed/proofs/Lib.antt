pub mod Laws
pub mod Claimed
