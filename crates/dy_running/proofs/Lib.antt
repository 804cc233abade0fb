pub mod Bare
pub mod Courses
pub mod Joined
pub mod Lending
pub mod Libraries
pub mod Telling
