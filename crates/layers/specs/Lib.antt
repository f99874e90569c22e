pub mod Tables
pub mod Held
pub mod Strikes
pub mod Aliases
pub mod Piles
pub mod Laws
