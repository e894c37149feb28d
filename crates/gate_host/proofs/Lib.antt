pub mod DialingLemmas
