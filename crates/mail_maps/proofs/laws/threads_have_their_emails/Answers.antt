use Rattle.mail_maps.proofs.MemberLemmas.{members_are, pairs_sorted}
use Rattle.mail_maps.proofs.laws.threads_have_their_emails.Goals as goal

pub returns : goal.returns
returns c = record { members = members_are; order = pairs_sorted }
