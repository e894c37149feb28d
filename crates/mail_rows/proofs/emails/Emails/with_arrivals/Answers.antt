use Rattle.std.proofs.Common.{◌≡◌, ◌∙◌, ◌∷◌, List, length, ap, sym, subst, arith}
use Rattle.std.specs.Vec.Iter.{into_iter_items}
use Rattle.mail_maps.specs.Visible.{Placed}
use Rattle.mail_rows.specs.NumberedRows.{NumberedRows}
use Rattle.mail_rows.specs.reading.Indexes.{AddsRows}
use Rattle.mail_rows.proofs.TakingLemmas.{adds_none, adds_more}
use Rattle.mail_rows.proofs.emails.Emails.with_arrivals.Goals as goal

pub loop-arrival-init : goal.loop-arrival-init
loop-arrival-init c =
    let all : into_iter_items c.into_iter-arrival-iterator.result ≡ c.args.arrivals.items = c.into_iter-arrival-iterator.ensures.into_iter_gives.0 in
    record {
      room = omega (arith, ap length all, c.requires);
      adds = λ after adds. subst (λ (ps : List Placed). AddsRows c.args.self ps after) all adds;
    }

pub loop-arrival-preserved : goal.loop-arrival-preserved
loop-arrival-preserved c =
    let rest : List Placed = into_iter_items c.next.new.self in
    let more : into_iter_items c.loop-arrival.arrival-iterator ≡ c.in-Some.arrival ∷ rest = c.in-Some.ensures.steps.0 in
    record {
      room = omega (arith, ap length more, ap (λ (n : NumberedRows). n.next) c.in_ok-emails.ensures.after_is, c.loop-arrival.invariant.room);
      adds = λ after adds. c.loop-arrival.invariant.adds after (subst (λ (ps : List Placed). AddsRows c.loop-arrival.emails ps after) (sym more)
          (adds_more c.loop-arrival.emails c.in_ok-emails.emails c.in-Some.arrival rest after c.in_ok-emails.ensures adds));
    }

pub returns : goal.returns
returns c =
    c.loop-arrival.invariant.adds c.loop-arrival.emails
    (adds_none c.loop-arrival.emails (into_iter_items c.loop-arrival.arrival-iterator) (sym c.loop-arrival.arrival-iterator.rest.ok.0 ∙ c.in-None.ensures.steps.0))
