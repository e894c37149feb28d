-- What a query asks, read from its arguments. Asked says what is asked, or the first refusal; Filters and Sorts read filters and orders,
-- EmailFilters and MailboxFilters their conditions.
pub mod Asked
pub mod Parts
pub mod Filters
pub mod FilterTrees
pub mod EmailFilters
pub mod MailboxFilters
pub mod Sorts
pub mod Values
pub mod Readings
