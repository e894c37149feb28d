-- Appends is how many APPENDs an item of a call sends, Ended why a call that changes mail ends with an error, and Lives where the link life of a request ended.
pub mod Appends
pub mod Ended
pub mod Lives
