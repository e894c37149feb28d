use Rattle.std.proofs.Common.{◌≡◌, drop, find, ◌==◌}
use Rattle.small_mail.proofs.folder.StoredFolder.place_of.Given as goal

abbrev pub invariant-loop-at : goal.invariant-loop-at
invariant-loop-at l = find (λ m. m.uid == l.uid) (drop l.at l.self.messages) ≡ find (λ m. m.uid == l.uid) l.self.messages
