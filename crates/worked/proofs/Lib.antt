pub mod ByteSessions
pub mod SixtyFifth
