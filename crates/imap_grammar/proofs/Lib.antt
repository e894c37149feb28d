pub mod DateReadings
pub mod StringReadings
pub mod PassingReadings
pub mod ItemReadings
pub mod FolderReadings
pub mod Readings
pub mod Spellings
pub mod CodeReadings
