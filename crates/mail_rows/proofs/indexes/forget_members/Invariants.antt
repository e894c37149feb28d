use Rattle.std.proofs.Common.{◌≡◌, drop}
use Rattle.mail_rows.specs.reading.Indexes.{members_left}
use Rattle.mail_rows.proofs.indexes.forget_members.Given as goal

abbrev pub invariant-loop-email : goal.invariant-loop-email
invariant-loop-email l = members_left (drop l.email-index l.gone) l.book ≡ members_left l.gone l.initial.book
