use Rattle.std.proofs.Common.{◌≡◌, ◌∙◌, ap, bytes_eq, false, subst, sym}
use Rattle.std.specs.Prelude.{MatchBool}
use Rattle.imap_types.specs.declared.command.Command.TheVariants as command
use Rattle.honest_store.specs.FolderChanges.{inbox_name}
use Rattle.honest_store.specs.Sessions.{StoreSession}
use Rattle.small_answers.specs.Causes.{RefusalCause}
use Rattle.small_store.proofs.Naming.{delete_tested}
use Rattle.small_store.proofs.machine.StoredMachine.refuses_delete.Goals as goal

pub returns : goal.returns
returns c =
    let name = c.args.name.now in
    let told = c.told_name-told.result.now in
    let b = c.has_children.result in
    let inside : StoreSession = record { mail = c.self.inside.mail; selected = c.self.inside.selected } in
    let other : bytes_eq told inbox_name ≡ false = sym (c.eq.ensures ∙ ap (bytes_eq told) c.as_slice.ensures) ∙ c.if-eq.false in
    subst (λ (s : StoreSession). MatchBool b (RefusalCause s (command.Delete name)) (RefusalCause s (command.Delete name) → ⊥)) c.self.view_is
    (delete_tested inside name told c.folders.result.now c.in-Some._folder.now b c.told_name-told.ensures other c.in-Some.ensures c.folders.ensures c.has_children.ensures)
