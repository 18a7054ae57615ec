pub mod Numbers
pub mod Frame
pub mod Book
pub mod Cut
