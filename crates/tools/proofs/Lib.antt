pub mod ToolSteps
