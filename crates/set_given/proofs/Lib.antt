mod NumberLemmas
mod HistoryLemmas
mod TextLemmas
