pub mod Showing
pub mod Exchanges
pub mod Servings
pub mod Hearings
