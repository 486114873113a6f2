pub mod Pass
pub mod Sofar
