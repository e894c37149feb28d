-- Which uploads are kept stands in Uploads. What the code's map and queue stand for is in reading.
pub mod Uploads
pub mod reading
