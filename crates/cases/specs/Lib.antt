pub mod WorkedRun
pub mod Loads
pub mod Tickets
pub mod Texts
pub mod Blanks
