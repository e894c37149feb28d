-- What commands are stands in imap_types's Commands; how they are put together stands in reading, and nobody need believe it.
pub mod reading
