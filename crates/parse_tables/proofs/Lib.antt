pub mod Laid
pub mod Laws
pub mod Table
pub mod Tables
