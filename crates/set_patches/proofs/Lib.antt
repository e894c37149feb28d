mod LengthLemmas
mod TokenLemmas
mod OverlapLemmas
mod NameLemmas
