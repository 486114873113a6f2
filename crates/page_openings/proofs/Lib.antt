pub mod PieceOpened
pub mod PartOpened
pub mod Read
pub mod Files
pub mod Turns
pub mod Printed
