use Rattle.std.proofs.Common.{◌∙◌, ℕ, ℤ, Option, Some, ap, refl, rules, subst, sym, w64}
use Rattle.std.specs.Prelude.{IfOk}
use mir.Val.{SFits, of_z, to_z}
use Rattle.std.proofs.lemmas.Int.{to_z-of_z}
use Rattle.std.proofs.lemmas.Result.{IfOk-weaker}
use Rattle.imap_types.specs.declared.command.Command.TheVariants as command
use Rattle.honest_store.specs.StoreMail.{StoreFolder, folder_called}
use Rattle.honest_store.specs.MessageCommands.{sent_message}
use Rattle.honest_store.specs.Sessions.{StoreAnswer, StoreSession}
use Rattle.small_answers.specs.Answers.{append_reply, ok_reply}
use Rattle.small_mail.specs.Places.{IsFolderAt}
use Rattle.small_store.specs.reading.Steps.{Gives, session_of}
use Rattle.small_store.proofs.MachineReplies.{answered_as, append_gives, told_gives}
use Rattle.small_store.proofs.machine.StoredMachine.accept.Goals as goal

pub returns-in-Capability-clause-ok : goal.returns-in-Capability-clause-ok
returns-in-Capability-clause-ok c = told_gives c.args.self.now c.args.command.now command.Capability c.capability.result c.in-Capability.is refl c.capability.ensures

pub returns-in-Enable-clause-ok : goal.returns-in-Enable-clause-ok
returns-in-Enable-clause-ok c = told_gives c.args.self.now c.args.command.now command.Enable c.enable.result c.in-Enable.is refl c.enable.ensures

pub returns-in-Some-clause-ok : goal.returns-in-Some-clause-ok
returns-in-Some-clause-ok c =
    let s = session_of c.self.inside.mail c.self.inside.selected in
    let after = session_of c.append.new.mail c.self.inside.selected in
    let place = c.in-Some.place in
    let given = command.Append c.in-Append.name c.in-Append.flags c.in-Append.date c.in-Append.message in
    let found = c.in-Some.ensures in
    let date = to_z w64 (of_z w64 c.in-Append.date) in
    let fits : SFits w64 c.in-Append.date = search rules in
    let called = ap (folder_called s.mail.folders) (sym c.as_slice-in-Append.ensures) ∙ found.2 in
    subst (λ (t : StoreSession). IfOk c.append.result (λ (a : StoreAnswer). Gives (ok_reply t c.args.command.now) a after)) c.self.view_is
    (answered_as s after c.args.command.now given c.append.result c.in-Append.is
    (IfOk-weaker c.append.result
    (λ (a : StoreAnswer). (f : StoreFolder) (selected : Option ℕ) → IsFolderAt s.mail place f
    → Gives (append_reply (session_of s.mail selected) (sent_message c.in-Append.flags date c.in-Append.message 0 0) (Some f)) a (session_of c.append.new.mail selected))
    (λ (a : StoreAnswer). Gives (ok_reply s given) a after)
    (λ a gives. append_gives s after c.in-Append.name c.in-Append.flags c.in-Append.date c.in-Append.message found.0 a called
    (subst (λ (d : ℤ). Gives (append_reply s (sent_message c.in-Append.flags d c.in-Append.message 0 0) (Some found.0)) a after) (to_z-of_z w64 c.in-Append.date fits)
    (gives found.0 s.selected found.1))) c.append.ensures.ok))
