-- Sent says how many APPENDs an item may send and what made a message; Items, Calls and Runs the same of calls, of requests and of runs; Created what a
-- reply says was created; Reading which plans change nothing; Lives that all APPENDs of a link life are those of items.
pub mod Sent
pub mod Items
pub mod Created
pub mod Calls
pub mod Lives
pub mod Runs
pub mod Reading
