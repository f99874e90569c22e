pub mod Shops
