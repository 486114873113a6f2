pub mod Bad
