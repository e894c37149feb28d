use Rattle.std.proofs.Common.{◌≡◌, drop, []}
use Rattle.told_mail.specs.reading.Numbers.{NumbersGoOn}
use Rattle.told_mail.specs.reading.Rises.{Rises}
use Rattle.told_mail.specs.reading.Names.{AllFree}
use Rattle.told_mail.specs.Lists.{with_new_folders}
use Rattle.told_mail.proofs.mirror.Mirror.add_folders.Given as goal

abbrev pub invariant-loop-name : goal.invariant-loop-name
invariant-loop-name l = record {
  mail : with_new_folders l.responses l.self.mail (drop l.name-index l.names) ≡ with_new_folders l.responses l.initial.self.mail l.names;
  known : l.names ≡ [] → l.self.changes ≡ l.initial.self.changes;
  counts : Rises l.initial.self l.self;
  numbers : NumbersGoOn l.initial.self.mail l.self.mail;
  free : AllFree l.self.mail.folders (drop l.name-index l.names);
}
