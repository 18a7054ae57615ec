pub mod ArriveLaws
