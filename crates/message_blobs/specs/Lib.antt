-- The ids stand in BlobIds, the octets that the numbers of an id name in NestedLeaves.
pub mod BlobIds
pub mod NestedLeaves
pub mod reading
