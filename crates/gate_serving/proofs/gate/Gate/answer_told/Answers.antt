use Rattle.std.proofs.Common.{◌≡◌, ◌∙◌, sym, ap, subst}
use Rattle.std.specs.Option.{option_copied}
use Rattle.std.specs.Prelude.{IsSome}
use Rattle.gate_world.specs.Causes.{Faults}
use Rattle.gate_world.specs.Tape.{Adds}
use Rattle.gate_world.proofs.Joins.{widen}
use Rattle.gate_machine.specs.Progress.{CameTo, Progress}
use Rattle.gate_machine.specs.declared.mail_status.MailStatus.TheVariants.{Stands}
use Rattle.gate_serving.specs.Gates.{account_by}
use Rattle.gate_serving.specs.Requests.{Asking, Download}
use Rattle.gate_serving.specs.reading.Askings.{over_mail_data}
use Rattle.gate_serving.specs.reading.Replying.{Finishes}
use Rattle.gate_serving.proofs.gate.Gate.answer_told.Goals as goal

pub returns-in-Calls-clause-run : goal.returns-in-Calls-clause-run
returns-in-Calls-clause-run g c =
    subst (λ (a : Asking). Adds (g.W.Taped.tape c.args.world.now) (g.W.Taped.tape c.answer_calls.new.world) (λ es. (p : Progress) (was : Faults)
    → CameTo c.args.self.now.machine c.args.client Stands was (g.W.Taped.faults c.args.world.now) p → IsSome p.left
    → Finishes c.args.self.now.door (account_by c.args.self.now (g.W.Taped.hidden c.args.world.now)) c.args.self.now.uploads a p c.answer_calls.new.self.machine was
    (g.W.Taped.faults c.answer_calls.new.world) c.answer_calls.result es)) (sym (ap over_mail_data c.in-Calls.is)) c.answer_calls.ensures.run

pub returns-in-Download-clause-run : goal.returns-in-Download-clause-run
returns-in-Download-clause-run g c =
    let same : Download c.as_slice.result.now (option_copied c.media_of.result) ≡ over_mail_data c.args.asking =
    (λ i. Download (c.as_slice.ensures i) (c.media_of.ensures i)) ∙ sym (ap over_mail_data c.in-Download.is) in
    subst (λ (a : Asking). Adds (g.W.Taped.tape c.args.world.now) (g.W.Taped.tape c.answer_download.new.world) (λ es. (p : Progress) (was : Faults)
    → CameTo c.args.self.now.machine c.args.client Stands was (g.W.Taped.faults c.args.world.now) p → IsSome p.left
    → Finishes c.args.self.now.door (account_by c.args.self.now (g.W.Taped.hidden c.args.world.now)) c.args.self.now.uploads a p c.answer_download.new.self.machine was
    (g.W.Taped.faults c.answer_download.new.world) c.answer_download.result es)) same
    (widen _ c.answer_download.ensures.run (λ es finishes p was came life. finishes p was came))
