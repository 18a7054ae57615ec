pub mod OneDay
