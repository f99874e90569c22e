pub mod Holds
pub mod Members
pub mod Rising
pub mod Rules
