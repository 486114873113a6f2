pub mod Placing
pub mod VoicesIn
