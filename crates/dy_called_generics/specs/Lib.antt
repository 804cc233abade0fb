pub mod Called
pub mod Views
