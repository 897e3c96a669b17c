pub mod Overlong
