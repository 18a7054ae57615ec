pub mod EachLaws
pub mod ShapeLaws
pub mod AddedLaws
pub mod Reordering
pub mod Turned
pub mod TurnedYear
