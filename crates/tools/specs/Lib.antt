pub mod Tools
pub mod Stored
pub mod ToolSources
pub mod Laws
