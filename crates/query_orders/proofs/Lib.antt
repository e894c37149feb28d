pub mod SortLemmas
pub mod PairLemmas
pub mod KeyLemmas
pub mod OrderLaws
pub mod RowLemmas
pub mod DecidingLemmas
