-- What must hold of the small store's mail, so that each of its responses may be sent, stands in SendableMail and Tellable; the
-- octets of an answer in AnswerTexts.
pub mod SendableMail
pub mod Tellable
pub mod AnswerTexts
