mod Appends
mod Joined
mod Links
mod Statements
mod Wholes
