-- How the code reads: what proofs and private clauses use, and no public clause needs.
pub mod MimeLexemes
pub mod IdUnits
pub mod PieceSteps
pub mod ParameterSteps
