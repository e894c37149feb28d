use Rattle.std.proofs.Common.{subst}
use Rattle.imap_types.specs.declared.command.Command.TheVariants as command
use Rattle.honest_store.specs.Sessions.{StoreSession}
use Rattle.small_answers.specs.Answers.{ok_reply}
use Rattle.small_store.specs.reading.Steps.{Gives, session_of}
use Rattle.small_store.proofs.MachineReplies.{delete_gives}
use Rattle.small_store.proofs.machine.StoredMachine.delete.Goals as goal

pub returns : goal.returns
returns c =
    let s = session_of c.self.inside.mail c.self.inside.selected in
    subst (λ (t : StoreSession). Gives (ok_reply t (command.Delete c.args.name.now)) c.done-2.result (session_of c.delete.new.self c.self.inside.selected)) c.self.view_is
    (delete_gives s c.args.name.now c.in-Some.ensures.0 c.delete.new.self c.done-2.result c.in-Some.ensures.2 (c.delete.ensures c.in-Some.ensures.0 c.in-Some.ensures.1) c.done-2.ensures)
