-- How the code reads: what proofs and private clauses use, and no public clause needs.
pub mod ShapeSteps
pub mod ElementSteps
pub mod AngleSteps
pub mod BareSteps
pub mod TornSteps
