-- What scanning means stands in Scan; Fed says what a scanner was fed. What reads spellings back stands in reading, and nobody need believe it.
pub mod Scan
pub mod Fed
pub mod reading
