pub mod Trails
pub mod Rules
pub mod Firsts
pub mod Visits
pub mod Routes
pub mod BackSearches
pub mod Shifts
