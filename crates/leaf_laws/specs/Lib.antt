pub mod LeafReading
