pub mod Fitting
pub mod Grows
pub mod Numbers
pub mod Queues
pub mod Rows
pub mod Totals
pub mod Units
