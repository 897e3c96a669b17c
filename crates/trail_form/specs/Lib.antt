pub mod Records
pub mod Forms
pub mod Examples
