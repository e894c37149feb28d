use Rattle.std.proofs.Common.{ap, subst, List, drop}
use Rattle.change_list.proofs.FromSeen.{changes_of_kept}
use Rattle.change_list.specs.reading.Answer.{Answers}
use Rattle.change_list.specs.declared.entries.Entry.{Entry}
use Rattle.change_list.proofs.list.ChangeList.since.Goals as goal

pub returns-clause-changes : goal.returns-clause-changes
returns-clause-changes c h of fits =
    let start = c.in_ok-start.start in
    let P : List Entry → Type 0 = λ es. Answers (drop start es) c.args.place c.args.max c.in_ok-changes.changes in
    changes_of_kept c.args.self.now h c.args.place start c.args.max c.in_ok-changes.changes of fits c.in_ok-start.ensures.index c.in_ok-start.ensures.refused.to_last
    (subst P (ap (λ k. k.entries) c.self.view_is) c.in_ok-changes.ensures)
