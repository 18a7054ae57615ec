pub mod Codec
pub mod Fits
pub mod Written
