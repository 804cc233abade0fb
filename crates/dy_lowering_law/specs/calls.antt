pub mod Belonging
pub mod Calls
pub mod Entering
pub mod Lambdas
pub mod Standing
