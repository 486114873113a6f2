pub mod Demand
pub mod Leftovers
pub mod Together
pub mod Witnesses
