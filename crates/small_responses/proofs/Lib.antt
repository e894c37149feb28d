pub mod FlagNames
pub mod Lengths
pub mod SeenFlag
pub mod TextsKept
pub mod MailTold
pub mod OwnersTold
pub mod Sent
pub mod AnswersSent
