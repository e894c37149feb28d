use Rattle.std.proofs.Common.{◌≡◌, ℕ, nat_cmp, None}
use Rattle.std.specs.BTreeMap.{get}
use Rattle.mail_maps.specs.reading.Groups.{keys_at, grouped, pairs_among}
use Rattle.mail_maps.proofs.threads.group_among.Given as goal

abbrev pub invariant-loop-number : goal.invariant-loop-number
invariant-loop-number l =
    (t : ℕ) → grouped (keys_at (get nat_cmp l.groups t)) (pairs_among l.among l.number-iterator t)
    ≡ grouped None (pairs_among l.among l.emails.entries t)
