-- All of it is of the automaton itself: who believes what a grammar's own definitions say may skip it.
pub mod Automaton
pub mod Run
pub mod Flow
pub mod Lawful
pub mod Symbols
pub mod Answers
pub mod Fed
