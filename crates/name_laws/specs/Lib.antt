pub mod CleanNames
