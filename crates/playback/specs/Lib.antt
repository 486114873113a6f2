pub mod Demand
pub mod Performance
