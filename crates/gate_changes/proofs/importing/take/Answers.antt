use Rattle.std.proofs.Common.{◌≡◌, ◌∙◌, [], ◌∷◌, sym, ap, subst}
use Rattle.gate_world.specs.Causes.{Faults}
use Rattle.gate_world.proofs.Joins.{widen}
use Rattle.gate_machine.specs.Lending.{HoldsSource, SourceState}
use Rattle.gate_machine.specs.Progress.{CameTo, Progress}
use Rattle.gate_machine.specs.declared.mail_status.MailStatus.TheVariants.{Stands}
use Rattle.imap_client.specs.LinkLife.{ClientState}
use Rattle.set_calls.specs.reading.Calling.{one_came}
use Rattle.gate_changes.specs.Items.{DoesItemsOver}
use Rattle.gate_changes.proofs.Doing.{in_life, items_done, source_is}
use Rattle.gate_changes.proofs.importing.take.Goals as goal

pub returns-clause-run : goal.returns-clause-run
returns-clause-run g c =
    widen _ c.take_known-came.ensures.tape (λ es run call item before was rules over came.
    let mid : Faults = g.L.Taped.faults c.args.link.now in
    let now : Faults = g.L.Taped.faults c.take_known-came.new.link in
    let lent = c.lend-served.ensures.lent before was mid came in
    let source : SourceState = record { told = c.into_parts-told.result.0; bodies = c.into_parts-told.result.1; client = c.into_parts-told.result.2 } in
    let same : source ≡ c.lend-served.result.1 =
    source_is c.lend-served.result.1 source.told source.bodies source.client c.into_parts-told.ensures.told c.into_parts-told.ensures.bodies c.into_parts-told.ensures.client in
    let holds : HoldsSource before source was mid = subst (λ (s : SourceState). HoldsSource before s was mid) (sym same) lent.3 in
    let life = in_life call before source c.lend-served.result.0 was mid over holds lent.0 lent.1 lent.2 in
    let went = run call over.life item rules life in
    let done =
    items_done call before source c.lend-served.result.0 was mid over holds lent.0 lent.1 lent.2 c.take_known-came.new.mirror c.take_known-came.new.client now c.new.result
    c.take_back-client.new.self came.standing_is
    (record { after = went.0; runs = went.1; stands = went.2; mail_is = went.3; counted = went.4; rose = went.5 })
    c.take_known-came.ensures.counts c.take_known-came.ensures.next c.next_mail_joins.ensures c.take_known-came.ensures.alone c.new.ensures c.take_back-client.ensures.held in
    subst (λ (back : ClientState). (p : Progress) × DoesItemsOver call (item ∷ []) before (one_came item c.take_known-came.result) es p
    × CameTo c.take_back-client.new.self back Stands was now p) (sym (c.take_back-client.ensures.client ∙ ap (λ (s : SourceState). s.client) c.new.ensures)) done)
