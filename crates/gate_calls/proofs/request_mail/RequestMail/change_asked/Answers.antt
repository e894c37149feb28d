use Rattle.std.proofs.Common.{◌∙◌, sym, subst}
use Rattle.gate_world.proofs.Joins.{widen}
use Rattle.imap_client.specs.LinkLife.{ClientState}
use Rattle.gate_machine.specs.Progress.{CameTo}
use Rattle.gate_machine.specs.declared.mail_status.MailStatus.TheVariants.{Stands}
use Rattle.set_arguments.specs.reading.Asked.{asked_data}
use Rattle.gate_calls.specs.RequestMail.{moment_of}
use Rattle.gate_calls.proofs.ChangingMail.{changed}
use Rattle.gate_calls.proofs.request_mail.RequestMail.change_asked.Goals as goal

pub returns : goal.returns
returns g c = record {
  meant = λ d asked.
      changed c.args.uploads.now
      (moment_of c.args.self.now c.args.created.now (g.L.Taped.tape c.args.link.now) (g.L.Taped.faults c.args.link.now) (g.L.Taped.hidden c.args.link.now))
      (moment_of
      (record {
        machine = c.answer_change-answer.new.machine;
        client = c.answer_change-answer.result.client;
        status = c.answer_change-answer.result.status;
      }) c.answer_change-answer.new.created (g.L.Taped.tape c.answer_change-answer.new.link) (g.L.Taped.faults c.answer_change-answer.new.link)
      (g.L.Taped.hidden c.answer_change-answer.new.link))
      c.args.method (asked_data c.args.asked.now) d asked c.requires.stands c.requires.known
      (record { alone = c.answer_change-answer.ensures.alone; hidden = c.answer_change-answer.ensures.hidden })
      c.answer_change-answer.result.answer
      (widen _ c.answer_change-answer.ensures.run (λ es run all h start was is ids served came.
      run all h start was (is ∙ sym c.checks_of.ensures) ids served
      (subst (λ (x : ClientState). CameTo c.args.self.now.machine x Stands was (g.L.Taped.faults c.args.link.now) start.progress) (sym c.replace-client.ensures.value) came)));
  whole = c.answer_change-answer.ensures.whole;
}
