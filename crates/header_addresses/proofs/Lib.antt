pub mod ClassLemmas
pub mod MailboxLemmas
pub mod ElementLemmas
pub mod AddresseeLemmas
pub mod GroupLemmas
pub mod FormLemmas
pub mod PartLemmas
