pub mod Tables
pub mod Access
pub mod Back
pub mod Trees
pub mod Examples
