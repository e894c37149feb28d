-- What values mean stands in imap_types. Here stands how each is read back from the octets at its place, as the public
-- calls say it; that it is what the octets mean is proved in imap_grammar.
pub mod Spans
pub mod Strings
pub mod Dates
pub mod Sets
