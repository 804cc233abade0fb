pub mod Within
pub mod Programs
