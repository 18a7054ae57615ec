pub mod Desk
pub mod Inside
