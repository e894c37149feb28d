use Rattle.std.proofs.Common.{◌≡◌, ◌∙◌, Some, IfOk, sym, ap, subst}
use Rattle.gate_world.specs.Causes.{Faults}
use Rattle.told_mail.specs.Told.{Told}
use Rattle.imap_client.specs.LinkLife.{ClientState, Stands as StandsIn}
use Rattle.mail_state.specs.State.{IsStateOf, ServedState}
use Rattle.gate_machine.specs.History.{KnownMail}
use Rattle.gate_machine.specs.Kept.{IsSameSince}
use Rattle.gate_machine.specs.Lending.{HoldsSource, IsLentOf, Moment, SourceState}
use Rattle.gate_machine.specs.Progress.{CameTo, Progress}
use Rattle.gate_machine.specs.declared.mail_status.MailStatus.TheVariants.{Stands}
use Rattle.gate_machine.proofs.Asking.{same_on}
use Rattle.set_order.specs.reading.Items.{item_data}
use Rattle.set_calls.specs.Calls.{call_begun, given_at}
use Rattle.gate_changes.specs.Importing.{ChecksItem}
use Rattle.gate_changes.proofs.Doing.{source_is}
use Rattle.gate_changes.proofs.Seeking.{counts_on, keeps_outside, seeks}
use Rattle.gate_changes.proofs.importing.seek.Given as given
use Rattle.gate_changes.proofs.importing.seek.Goals as goal

-- the source and the outside, as bodies are asked
abbrev moment : (g : given.Over) → SourceState × g.row.L.Denot → Moment
moment g s = record { source = s.0; tape = g.L.Taped.tape s.1; faults = g.L.Taped.faults s.1; hidden = g.L.Taped.hidden s.1 }

pub take_back-client-requires : goal.take_back-client-requires
take_back-client-requires g c =
    same_on
    (subst (λ (told : Told). IsSameSince c.lend-served.result.0 told) (sym (ap (λ (s : SourceState). s.told) c.new-fetching.ensures ∙ c.into_parts-told.ensures.told))
    c.lend-served.ensures.same)
    (counts_on (moment g) (c.new-fetching.result, c.args.link.now) (c.find_checked-sought.new.bodies, c.find_checked-sought.new.world) c.state-state.result.now.rows.numbered.rows
    c.args.uploads.now c.check_told-checked.result c.find_checked-sought.result c.find_checked-sought.ensures)

pub returns-clause-run : goal.returns-clause-run
returns-clause-run g c =
    let source : SourceState = record { told = c.into_parts-told.result.0; bodies = c.into_parts-told.result.1; client = c.into_parts-told.result.2 } in
    let same : source ≡ c.lend-served.result.1 =
    source_is c.lend-served.result.1 source.told source.bodies source.client c.into_parts-told.ensures.told c.into_parts-told.ensures.bodies c.into_parts-told.ensures.client in
    let now_is : c.new-fetching.result ≡ c.lend-served.result.1 = c.new-fetching.ensures ∙ same in
    seeks (moment g) c.args.machine.now c.take_back-client.new.self c.args.client c.take_back-client.result c.lend-served.result.0 (c.new-fetching.result, c.args.link.now)
    (c.find_checked-sought.new.bodies, c.find_checked-sought.new.world)
    (subst (λ (s : SourceState). (p : Progress) (was now : Faults) → CameTo c.args.machine.now c.args.client Stands was now p
    → (k : KnownMail) × (p.machine.known ≡ Some k) × IsLentOf k c.lend-served.result.0 × HoldsSource p s was now) (sym now_is) c.lend-served.ensures.lent)
    c.take_back-client.ensures.held c.take_back-client.ensures.client c.args.created.now c.args.making.now c.args.uploads.now (item_data c.args.item.now) c.state-state.result.now
    c.check_told-checked.result c.find_checked-sought.result
    (λ call life created keys state stands.
    subst (λ (told : Told). IfOk c.check_told-checked.result (ChecksItem (given_at call (call_begun told.mail life)) (item_data c.args.item.now)))
    (sym (ap (λ (s : SourceState). s.told) c.new-fetching.ensures))
    (c.check_told-checked.ensures call life created keys (subst (λ (s : ServedState). IsStateOf call.history s) (sym c.state-state.ensures) state)
    (subst (λ (x : ClientState). StandsIn x life) (ap (λ (s : SourceState). s.client) c.new-fetching.ensures) stands)))
    c.state-state.ensures c.find_checked-sought.ensures

pub returns-clause-alone : goal.returns-clause-alone
returns-clause-alone g c =
    (keeps_outside (moment g) (c.new-fetching.result, c.args.link.now) (c.find_checked-sought.new.bodies, c.find_checked-sought.new.world) c.state-state.result.now.rows.numbered.rows
    c.args.uploads.now c.check_told-checked.result c.find_checked-sought.result c.find_checked-sought.ensures).alone

pub returns-clause-hidden : goal.returns-clause-hidden
returns-clause-hidden g c =
    (keeps_outside (moment g) (c.new-fetching.result, c.args.link.now) (c.find_checked-sought.new.bodies, c.find_checked-sought.new.world) c.state-state.result.now.rows.numbered.rows
    c.args.uploads.now c.check_told-checked.result c.find_checked-sought.result c.find_checked-sought.ensures).hidden
