use Rattle.std.proofs.Common.{◌≡◌, drop, find, ◌==◌}
use Rattle.small_mail.proofs.mail.StoredMail.place_numbered.Given as goal

abbrev pub invariant-loop-place : goal.invariant-loop-place
invariant-loop-place l = find (λ f. f.number == l.number) (drop l.place l.self.folders) ≡ find (λ f. f.number == l.number) l.self.folders
