use Rattle.std.proofs.Common.{◌≡◌, ◌∙◌, List, ap, sym, subst, refl, arith, length, filter}
use Rattle.told_folder.specs.declared.message.NumberedFolder.{NumberedFolder}
use Rattle.told_mail.specs.reading.Index.{IsMirror}
use Rattle.told_mail.specs.reading.Lines.{is_listed}
use Rattle.told_mail.proofs.ListLemmas.{all_stay}
use Rattle.told_mail.proofs.ToldLemmas.{mail_same}
use Rattle.told_mail.proofs.mirror.Mirror.cut_ended.Goals as goal

pub invariant_of-self : goal.invariant_of-self
invariant_of-self c =
    subst (λ (zs : List NumberedFolder). IsMirror zs c.clear_ended.new.marks c.clear_ended.new.numbers c.self.inside.next_mark c.self.inside.next_folder) (sym c.keep_told.ensures)
    ((rw c.as_slice.ensures.value at c.clear_ended.ensures) c.self.inside.next_mark c.self.inside.next_folder c.self.invariant)

pub invariant_of-self-else-len-before : goal.invariant_of-self-else-len-before
invariant_of-self-else-len-before c =
    subst (λ (zs : List NumberedFolder). IsMirror zs c.clear_ended.new.marks c.clear_ended.new.numbers c.self.inside.next_mark c.self.inside.next_folder) (sym c.keep_told.ensures)
    ((rw c.as_slice.ensures.value at c.clear_ended.ensures) c.self.inside.next_mark c.self.inside.next_folder c.self.invariant)

pub returns-then-len-before-clause-mail : goal.returns-then-len-before-clause-mail
returns-then-len-before-clause-mail c = rw (← c.self.view_is) (mail_same _ _ _ _ _ _ c.keep_told.ensures refl refl)

pub returns-then-len-before-clause-known : goal.returns-then-len-before-clause-known
returns-then-len-before-clause-known c =
    rw (← c.self.view_is) (λ e. absurd (omega (
      arith,
      ap length (c.keep_told.ensures ∙ e),
      c.if-len-before.true,
      c.len.ensures,
      c.len-before.ensures,
      c.self.inside.folders.ok,
      c.keep_told.new.folders.ok,
    )))

pub returns-else-len-before-clause-mail : goal.returns-else-len-before-clause-mail
returns-else-len-before-clause-mail c = rw (← c.self.view_is) (mail_same _ _ _ _ _ _ c.keep_told.ensures refl refl)

pub returns-else-len-before-clause-counts : goal.returns-else-len-before-clause-counts
returns-else-len-before-clause-counts c =
    let hs : List NumberedFolder = c.self.inside.folders.items in
    let same : length (filter (is_listed c.args.lines.now) hs) ≡ length hs = omega
    (arith, ap length c.keep_told.ensures, c.if-len-before.false, c.len.ensures, c.len-before.ensures, c.self.inside.folders.ok, c.keep_told.new.folders.ok) in
    let stays : c.keep_told.new.folders.items ≡ hs = c.keep_told.ensures ∙ all_stay (is_listed c.args.lines.now) hs same in
    rw (← c.self.view_is) (record { rises = omega arith; stands = λ e l. mail_same _ _ _ _ _ _ stays refl refl })
