use Rattle.std.proofs.Common.{nat_cmp}
use Rattle.std.specs.BTreeMap.{get}
use Rattle.mail_maps.proofs.Tallied.{counts_are}
use Rattle.mail_maps.proofs.tally.count_emails.Goals as goal

pub returns : goal.returns
returns c = λ f.
    counts_are c.in_ok-all.all.unread c.args.emails.now.entries f _ (get nat_cmp c.in_ok-all.all.folders f) c.in_ok-all.ensures.unread (c.in_ok-counts.ensures f)
    (c.in_ok-all.ensures.folders f)
