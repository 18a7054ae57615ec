pub mod Yearly
