use Rattle.std.proofs.Common.{◌∙◌, ap, nat_cmp, rules, BTreeMap, ℕ}
use Rattle.std.specs.BTreeMap.{get}
use Rattle.mail_maps.specs.declared.row.MailboxRow.{MailboxRow}
use Rattle.mail_state.specs.reading.Recounts.{with_counts}
use Rattle.mail_state.proofs.RecountLemmas.{box_written, box_absent}
use Rattle.mail_state.proofs.recount.set_counts.Goals as goal

pub returns-in-Some : goal.returns-in-Some
returns-in-Some c = λ q.
    let row : MailboxRow = c.in-Some.row.now in
    box_written (get nat_cmp c.args.mailboxes.now) c.args.counts c.args.number row q _ c.in-Some.ensures.value
    (((c.get_mut.follows.holds (with_counts c.args.counts row)).3 (search rules)).0 q)

pub returns-in_default : goal.returns-in_default
returns-in_default c = λ q.
    ap (λ (m : BTreeMap ℕ MailboxRow). get nat_cmp m q) c.get_mut.follows.holds-at-none
    ∙ box_absent (get nat_cmp c.args.mailboxes.now) c.args.counts c.args.number q c.in_default.ensures.value
