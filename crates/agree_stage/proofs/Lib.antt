pub mod Tables
pub mod Stands
pub mod Labels
pub mod Offers
