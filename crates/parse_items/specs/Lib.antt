pub mod Parse
pub mod Views
