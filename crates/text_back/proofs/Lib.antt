pub mod NumberBack
pub mod ItemBack
pub mod Written
pub mod LineBack
pub mod RecordBack
pub mod BookBack
pub mod TextBack
pub mod NewlinesBack
