pub mod Rules
pub mod Right
pub mod Plan
pub mod Serve
pub mod Named
pub mod Inside
