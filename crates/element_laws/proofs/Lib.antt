pub mod SumLaws
pub mod TallyLaws
pub mod AddLaws
pub mod FileLaws
pub mod Turning
pub mod Joining
pub mod Needed
pub mod Cases
