use Rattle.std.proofs.Common.{subst, sym}
use Rattle.told_mail.specs.Mail.{Mail}
use Rattle.told_mail.specs.reading.Numbers.{NumbersGoOn}
use Rattle.told_mail.proofs.NumberLemmas.{next_by}
use Rattle.told_mail.proofs.mirror.Mirror.tell.Goals as goal

pub returns-clause-next : goal.returns-clause-next
returns-clause-next c =
    next_by _ _ c.each_is_mail.ensures (subst (λ (m : Mail). NumbersGoOn c.args.self.now.mail m) (sym c.count_as_one.ensures.mail) c.tell_as-told.ensures.numbers)
