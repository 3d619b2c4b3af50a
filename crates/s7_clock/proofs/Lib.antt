pub mod ClockLemmas
pub mod MomentLemmas
pub mod ControlLemmas
pub mod PartsLemmas
pub mod DayLemmas
pub mod AgainLemmas
