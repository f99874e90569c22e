pub mod AliasSteps
