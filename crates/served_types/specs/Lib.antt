-- States has how a state is named, Roles the names of roles.
pub mod States
pub mod Roles
