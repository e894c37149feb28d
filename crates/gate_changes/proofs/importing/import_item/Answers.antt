use Rattle.std.proofs.Common.{◌≡◌, ◌∙◌, ℕ, List, Result, Ok, Err, refl, sym, ap, subst}
use Rattle.gate_world.specs.Causes.{Faults}
use Rattle.gate_world.specs.declared.event.Event.{Event}
use Rattle.gate_world.proofs.Joins.{join, widen}
use Rattle.email_bodies.specs.declared.error.BodyError.{BodyError}
use Rattle.email_import.specs.declared.ready.ReadyImport.{ReadyImport}
use Rattle.imap_client.specs.LinkLife.{ClientState}
use Rattle.gate_machine.specs.Progress.{Progress}
use Rattle.gate_machine.specs.declared.machine.Machine.{Machine}
use Rattle.set_jobs.specs.declared.done.SetError.{SetError}
use Rattle.set_order.specs.Ordered.{Item}
use Rattle.set_order.specs.reading.Items.{item_data}
use Rattle.set_calls.specs.Calls.{SetCall}
use Rattle.set_calls.specs.declared.call.CallEnd.{CallEnd}
use Rattle.gate_changes.specs.Importing.{with_known}
use Rattle.gate_changes.specs.reading.Imports.{ImportCame, SeeksTo}
use Rattle.gate_changes.proofs.Taking.{over_known, prepares_over, was_not, was_taken}
use Rattle.gate_changes.proofs.importing.import_item.Goals as goal

abbrev Found : Type 0
Found = Result (ReadyImport × List ℕ) SetError

-- the same of what came of it
along : (call : SetCall) (uploads : List (List ℕ)) (item : Item) (before : Progress) (machine : Machine) (client : ClientState) (was now : Faults) (es : List Event)
    (a b : Result Found BodyError) → a ≡ b → SeeksTo call uploads item before a machine client was now es → SeeksTo call uploads item before b machine client was now es
along call uploads item before machine client was now es a b is seeks = subst (λ (r : Result Found BodyError). SeeksTo call uploads item before r machine client was now es) is seeks

found : (a b : Found) → a ≡ b → (let r : Result Found BodyError = Ok a in r) ≡ Ok b
found a b is = ap (λ (r : Found). let x : Result Found BodyError = Ok r in x) is

pub returns-in-Ok-Ok-clause-run : goal.returns-in-Ok-Ok-clause-run
returns-in-Ok-Ok-clause-run g c =
    join _ c.seek-sought.ensures.run c.append.ensures.run (λ es fs seeks appends call before was created keys over came.
    let s = along call c.args.uploads.now (item_data c.args.item.now) before c.seek-sought.new.machine c.seek-sought.result.1 was (g.L.Taped.faults c.seek-sought.new.link) es _ _
    (c.in-Ok-Ok.is ∙ found _ _ c.in-Ok-Ok.field-0-is) (seeks call before was created keys over came) in
    appends call c.args.uploads.now (item_data c.args.item.now) before s.1 s.0 es was s.2 over s.3)

pub returns-in-Ok-Err-clause-run : goal.returns-in-Ok-Err-clause-run
returns-in-Ok-Err-clause-run g c =
    join _ c.seek-sought.ensures.run c.take.ensures.run (λ es fs seeks takes call before was created keys over came.
    let s = along call c.args.uploads.now (item_data c.args.item.now) before c.seek-sought.new.machine c.seek-sought.result.1 was (g.L.Taped.faults c.seek-sought.new.link) es _ _
    (c.in-Ok-Err.is ∙ found _ _ c.in-Ok-Err.field-0-is) (seeks call before was created keys over came) in
    let t = takes (with_known call (Err c.in-Ok-Err.error)) (item_data c.args.item.now) s.1 was refl (over_known (Err c.in-Ok-Err.error) (prepares_over s.2 over)) s.3 in
    was_taken (Err c.in-Ok-Err.error) c.take.result.0 c.take.new.machine c.take.result.1 was (g.L.Taped.faults c.take.new.link) s.2 t.1 t.2)

pub returns-in-Err-clause-run : goal.returns-in-Err-clause-run
returns-in-Err-clause-run g c =
    widen _ c.seek-sought.ensures.run (λ es seeks call before was created keys over came.
    subst (λ (e : CallEnd). ImportCame call c.args.uploads.now (item_data c.args.item.now) before (Err e) c.seek-sought.new.machine c.seek-sought.result.1 was
    (g.L.Taped.faults c.seek-sought.new.link) es) (sym c.end_of.ensures)
    (was_not call c.args.uploads.now (item_data c.args.item.now) before c.seek-sought.new.machine c.seek-sought.result.1 was (g.L.Taped.faults c.seek-sought.new.link) es c.in-Err.why
    (along call c.args.uploads.now (item_data c.args.item.now) before c.seek-sought.new.machine c.seek-sought.result.1 was (g.L.Taped.faults c.seek-sought.new.link) es _ _
    c.in-Err.is (seeks call before was created keys over came))))
