use Rattle.std.proofs.Common.{◌≡◌, ◌++◌, map, take, drop}
use Rattle.told_mail.specs.reading.Lines.{lined}
use Rattle.told_mail.specs.reading.Numbers.{NumbersGoOn}
use Rattle.told_mail.specs.reading.Rises.{Rises}
use Rattle.told_mail.proofs.mirror.Mirror.list_told.Given as goal

abbrev pub invariant-loop-at : goal.invariant-loop-at
invariant-loop-at l = record {
  mail : l.self.mail ≡ record l.initial.self.mail { folders = map (lined l.responses) (take l.at l.initial.self.mail.folders) ++ drop l.at l.initial.self.mail.folders };
  known : map (lined l.responses) l.initial.self.mail.folders ≡ l.initial.self.mail.folders → l.self.changes ≡ l.initial.self.changes;
  counts : Rises l.initial.self l.self;
  numbers : NumbersGoOn l.initial.self.mail l.self.mail;
}
