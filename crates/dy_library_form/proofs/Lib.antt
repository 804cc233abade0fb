pub mod Firsts
pub mod KindNumbers
pub mod OneMore
