pub mod Laid
pub mod Phrases
pub mod Printed
pub mod Statements
pub mod Units
pub mod Tokens
pub mod Main
