-- All of it is of the automaton itself: who believes what scanning means (imap_types's Spells, imap_grammar's Scan) may skip it.
pub mod Keys
pub mod Counts
