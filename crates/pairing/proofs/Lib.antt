pub mod Chains
pub mod Firsts
pub mod Grids
pub mod Outcomes
pub mod Pending
pub mod Taking
pub mod Walking
