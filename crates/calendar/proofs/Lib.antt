pub mod CalendarLaws
pub mod MonthLaws
pub mod OneOutcome
