pub mod Table
pub mod Rules
pub mod Kind
pub mod Right
pub mod Take
