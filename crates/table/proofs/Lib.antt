pub mod ScanSteps
pub mod TallyLaws
pub mod TableLaws
pub mod EditSteps
