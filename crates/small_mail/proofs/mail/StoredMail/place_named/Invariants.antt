use Rattle.std.proofs.Common.{◌≡◌, drop, find, bytes_eq}
use Rattle.small_mail.proofs.mail.StoredMail.place_named.Given as goal

abbrev pub invariant-loop-place : goal.invariant-loop-place
invariant-loop-place l = find (λ f. bytes_eq f.name l.name) (drop l.place l.self.folders) ≡ find (λ f. bytes_eq f.name l.name) l.self.folders
