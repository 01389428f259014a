pub mod LineLaws
pub mod ScheduleLaws
pub mod WeekLaws
pub mod WordLaws
