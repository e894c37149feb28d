use Rattle.std.proofs.Common.{◌∙◌, List, ℕ, ap}
use Rattle.told_mail.specs.Mail.{Mail}
use Rattle.told_mail.specs.Lists as lists
use Rattle.told_mail.specs.reading.Lines.{value_of}
use Rattle.told_mail.proofs.ListLemmas.{list_some_ok}
use Rattle.told_mail.proofs.mirror.Mirror.list_at.Goals as goal

pub returns-in-Some-clause-ok : goal.returns-in-Some-clause-ok
returns-in-Some-clause-ok c =
    let m : Mail = record { folders = c.self.inside.folders.items; next_mark = c.self.inside.next_mark; next_folder = c.self.inside.next_folder } in
    rw (← c.self.view_is) (list_some_ok m c.set_line_at.new.self.mail c.args.responses.now c.args.at c.index.result.now (value_of c.in-Some.line) c.set_line_at.result
    (rw (← c.self.view_is) at c.requires.within) c.index.ensures (c.in-Some.ensures ∙ ap (λ (name : List ℕ). lists.line_for name c.args.responses.now) c.as_slice.ensures)
    (rw (← c.self.view_is) at c.set_line_at.ensures.ok))
