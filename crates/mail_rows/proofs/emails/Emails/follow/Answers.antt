use Rattle.std.proofs.Common.{◌∙◌, List, ap, arith}
use Rattle.told_folder.specs.declared.message.NumberedFolder.{NumberedFolder}
use Rattle.mail_rows.specs.NumberedRows.{NumberedRows}
use Rattle.mail_rows.specs.Taking.{TakesMail}
use Rattle.mail_rows.proofs.FollowLemmas.{takes, next_after, touches_between, no_fewer}
use Rattle.mail_rows.proofs.emails.Emails.follow.Goals as goal

pub with_arrivals-requires : goal.with_arrivals-requires
with_arrivals-requires c =
    omega (
      arith,
      ap (λ (n : NumberedRows). n.next) c.in_ok-emails.ensures.emails,
      c.in_ok-arrivals.arrivals.ok.0,
      c.in_ok-arrivals.arrivals.ok.1,
      c.in_ok-arrivals.arrivals.small,
      c.requires,
    )

pub touches_of-requires : goal.touches_of-requires
touches_of-requires c =
    omega (arith, ap (λ (n : NumberedRows). n.next) c.in_ok-emails.ensures.emails, next_after _ _ _ c.in_ok-emails-2.ensures, c.next-first.ensures, c.next-next.ensures)

pub returns : goal.returns
returns c =
    let hs : List NumberedFolder = c.args.mirror.now.mail.folders in
    let after : NumberedRows = c.in_ok-emails-2.emails in
    let t : TakesMail c.args.self hs after =
    takes c.args.self c.in_ok-emails.field-0.emails hs c.in_ok-arrivals.arrivals.items after c.in_ok-emails.ensures.emails c.in_ok-arrivals.ensures c.in_ok-emails-2.ensures in
    record {
      takes = t;
      touches = touches_between c.args.self hs after t c.as_slice.result.now c.as_slice-2.result.now c.in_ok-touches.touches.items c.next-first.result c.next-next.result
          c.are_in_order.ensures.sorted c.are_in_order.ensures.below c.next-first.ensures c.next-next.ensures (c.as_slice.ensures.value ∙ c.in_ok-emails.ensures.gone)
          (c.as_slice-2.ensures.value ∙ c.in_ok-emails.ensures.changed) c.in_ok-touches.ensures;
      counted = no_fewer c.args.self hs after t c.as_slice.result.now c.as_slice-2.result.now c.in_ok-touches.touches.items c.next-first.result c.next-next.result
          c.next-first.ensures c.next-next.ensures c.in_ok-touches.ensures;
    }
