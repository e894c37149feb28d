use Rattle.std.proofs.Common.{◌≡◌, ◌∙◌, ℕ, List, Some, ap, sym}
use Rattle.told_folder.specs.declared.message.Folder.{Folder}
use Rattle.told_mail.specs.Lists as lists
use Rattle.told_mail.specs.Mail.{named}
use Rattle.told_mail.specs.Told.{Told}
use Rattle.told_mail.specs.reading.Lines.{value_of}
use Rattle.told_mail.proofs.LineLemmas.{line_name}
use Rattle.told_mail.proofs.NumberLemmas.{numbers_push}
use Rattle.told_mail.proofs.mirror.Mirror.add_folder.Goals as goal

pub push_folder-requires-clause-free : goal.push_folder-requires-clause-free
push_folder-requires-clause-free c =
    let line : lists.line_for c.args.name.now c.args.responses.now ≡ Some (value_of c.in-Some.line) = sym (rw c.as_slice.ensures at c.in-Some.ensures) in
    let name : c.in_ok-folder.folder.name ≡ c.args.name.now = ap (λ (f : Folder). f.name) c.in_ok-folder.ensures
    ∙ line_name c.args.name.now c.args.responses.now (value_of c.in-Some.line) line in
    ap (λ (q : List ℕ). named c.args.self.now.mail.folders q) name ∙ c.requires.free

pub returns-clause-numbers : goal.returns-clause-numbers
returns-clause-numbers c =
    let number = ap (λ (f : Folder). f.number) c.in_ok-folder.ensures ∙ ap (λ (t : Told). t.mail.next_folder) c.self.view_is in
    numbers_push c.args.self.now c.push_folder.new.self c.in_ok-folder.folder c.push_folder.result number c.push_folder.ensures.ok c.push_folder.ensures.err
