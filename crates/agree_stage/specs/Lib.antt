pub mod Scenes
pub mod Tables
