pub mod Genuine
