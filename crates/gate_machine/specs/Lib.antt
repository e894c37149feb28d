-- Each module after those that it uses: Beginning has a request's whole way to the mail, Obeying the octets by which the store obeys it, Going that the
-- history goes on, Staying what stays of it then, Sources what it comes of, ServedFolders what of it is told. Fetching has how bodies are asked, Lending the code that asks
-- them, KeptBodies where those that are kept come from.
pub mod History
pub mod Machine
pub mod Kept
pub mod Holding
pub mod Progress
pub mod Fetching
pub mod Lending
pub mod Beginning
pub mod Obeying
pub mod Going
pub mod Staying
pub mod Sources
pub mod ServedFolders
pub mod KeptBodies
