use Rattle.std.proofs.Common.{◌≡◌, ◌∙◌, None, ap, is_some, not, subst, sym}
use Rattle.std.specs.Prelude.{IfOk, MatchBool}
use Rattle.std.proofs.lemmas.Bool.{false≢true}
use Rattle.imap_types.specs.declared.command.Command.{Command}
use Rattle.imap_types.specs.declared.command.Command.TheVariants as command
use Rattle.honest_store.specs.Sessions.{StoreSession}
use Rattle.small_answers.specs.Causes.{NeedsSelected, RefusalCause}
use Rattle.small_store.proofs.Others.{free_rest}
use Rattle.small_store.proofs.Refusing.{never_by}
use Rattle.small_store.proofs.machine.StoredMachine.refuses.Goals as goal
use Rattle.small_store.proofs.machine.StoredMachine.refuses.Goals.{else-needs_selected-via-then-needs_selected+else-is_none, else-needs_selected-via-else-needs_selected}

pub returns-in-Rename : goal.returns-in-Rename
returns-in-Rename c =
    let same : command.Rename c.as_slice-in-Rename.result.now c.as_slice-in-Rename-2.result.now ≡ c.args.command.now =
    cc (c.in-Rename.is, c.as_slice-in-Rename.ensures, c.as_slice-in-Rename-2.ensures) in
    subst (λ (k : Command). IfOk c.refuses_rename.result (λ refused. MatchBool refused (RefusalCause c.args.self.now k) (RefusalCause c.args.self.now k → ⊥))) same
    c.refuses_rename.ensures

pub returns-in_default : goal.returns-in_default
returns-in_default c =
    let s = c.args.self.now in
    let k = c.args.command.now in
    let selected : NeedsSelected k → s.selected ≡ None → ⊥ =
    elim c.else-needs_selected.branch [
      | else-needs_selected-via-then-needs_selected+else-is_none w ↦ (λ needs none.
          false≢true (ap is_some (sym (ap (λ (t : StoreSession). t.selected) c.self.view_is ∙ none)) ∙ (w.is_none.ensures ∙ ap not w.if-is_none.false)))
      | else-needs_selected-via-else-needs_selected w ↦ (λ needs none. never_by c.needs_selected.result (NeedsSelected k) w.if-needs_selected.false c.needs_selected.ensures needs)
    ] in
    free_rest s k c.in_default.not-Select c.in_default.not-Append c.in_default.not-Create c.in_default.not-Delete c.in_default.not-Rename c.in_default.not-Subscribe
    c.in_default.not-Store c.in_default.not-Move c.in_default.not-Expunge selected
