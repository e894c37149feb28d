use Rattle.std.proofs.Common.{◌∙◌, subst, sym}
use Rattle.told_mail.specs.Mail.{Mail}
use Rattle.told_mail.specs.reading.Lines.{is_listed}
use Rattle.told_mail.specs.reading.Numbers.{NumbersGoOn}
use Rattle.told_mail.proofs.ListLemmas.{listed_mail, listed_known, listed_lined}
use Rattle.told_mail.proofs.NumberLemmas.{numbers_on, numbers_filter}
use Rattle.told_mail.proofs.mirror.Mirror.list_folders.Goals as goal

pub returns-clause-ok : goal.returns-clause-ok
returns-clause-ok c =
    listed_mail c.args.responses.now c.args.lines.now c.args.self.now.mail c.list_told.new.self.mail c.cut_ended.new.self.mail c.requires c.in_ok-list_told.ensures.ok
    c.cut_ended.ensures.mail

pub returns-clause-known : goal.returns-clause-known
returns-clause-known c = λ e.
    c.cut_ended.ensures.known (listed_known c.args.responses.now c.args.lines.now c.args.self.now.mail c.list_told.new.self.mail c.requires e c.in_ok-list_told.ensures.ok)
    ∙ c.in_ok-list_told.ensures.known (listed_lined c.args.responses.now c.args.self.now.mail.folders e)

pub returns-clause-numbers : goal.returns-clause-numbers
returns-clause-numbers c =
    let told : Mail = c.list_told.new.self.mail in
    let cut : NumbersGoOn told c.cut_ended.new.self.mail =
    subst (λ (m : Mail). NumbersGoOn told m) (sym c.cut_ended.ensures.mail) (numbers_filter told (is_listed c.args.lines.now)) in
    numbers_on _ _ _ c.in_ok-list_told.ensures.numbers cut
