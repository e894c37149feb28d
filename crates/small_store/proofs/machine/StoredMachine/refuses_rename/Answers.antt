use Rattle.std.proofs.Common.{◌≡◌, ◌∙◌, Bool, ap, bytes_eq, false, subst, sym}
use Rattle.std.specs.Prelude.{MatchBool}
use Rattle.std.specs.List.{list_any}
use Rattle.std.proofs.lemmas.Result.{IfOk-weaker}
use Rattle.imap_types.specs.declared.command.Command.TheVariants as command
use Rattle.honest_store.specs.FolderChanges.{inbox_name}
use Rattle.honest_store.specs.Sessions.{StoreSession}
use Rattle.small_answers.specs.Causes.{RefusalCause}
use Rattle.small_store.specs.reading.Names.{is_child_refused, is_name_refused}
use Rattle.small_store.proofs.Naming.{rename_tested}
use Rattle.small_store.proofs.machine.StoredMachine.refuses_rename.Goals as goal

pub returns : goal.returns
returns c =
    let from = c.args.from.now in
    let to = c.args.to.now in
    let told_from = c.told_name-told_from.result.now in
    let told_to = c.told_name-to.result.now in
    let inside : StoreSession = record { mail = c.self.inside.mail; selected = c.self.inside.selected } in
    let other : bytes_eq told_from inbox_name ≡ false = sym (c.eq.ensures ∙ ap (bytes_eq told_from) c.as_slice.ensures) ∙ c.if-eq.false in
    let free : is_name_refused inside.mail told_to ≡ false = sym c.is_name_refused.ensures ∙ c.if-is_name_refused.false in
    IfOk-weaker c.refuses_children.result (λ (b : Bool). b ≡ list_any (is_child_refused inside.mail told_from told_to) inside.mail.folders)
    (λ (b : Bool). MatchBool b (RefusalCause c.args.self.now (command.Rename from to)) (RefusalCause c.args.self.now (command.Rename from to) → ⊥))
    (λ b test. subst (λ (s : StoreSession). MatchBool b (RefusalCause s (command.Rename from to)) (RefusalCause s (command.Rename from to) → ⊥)) c.self.view_is
    (rename_tested inside from to told_from told_to c.in-Some._folder.now c.told_name-told_from.ensures c.told_name-to.ensures other c.in-Some.ensures free b test))
    c.refuses_children.ensures
