use Rattle.std.proofs.Common.{◌<◌, ◌∙◌, length, arith}
use Rattle.told_mail.specs.Mail.{Mail}
use Rattle.told_mail.proofs.ListLemmas.{lined_more, lined_known, rises_on}
use Rattle.told_mail.proofs.NumberLemmas.{numbers_on}
use Rattle.told_mail.proofs.mirror.Mirror.list_told.Goals as goal

pub loop-at-preserved : goal.loop-at-preserved
loop-at-preserved c =
    let m : Mail = c.args.self.now.mail in
    let within : c.loop-at.at < length m.folders = rw (← c.self.view_is) (omega (arith, c.loop-at-test.true, c.len-at-end.ensures, c.self.inside.folders.ok)) in
    record {
      mail = lined_more c.args.responses.now m c.loop-at.self.mail c.list_at.new.self.mail c.loop-at.at within c.loop-at.invariant.mail c.in_ok-list_at.ensures.ok;
      known = λ k. c.in_ok-list_at.ensures.known (lined_known c.args.responses.now m c.loop-at.self.mail c.loop-at.at within k c.loop-at.invariant.mail)
          ∙ c.loop-at.invariant.known k;
      counts = rises_on _ _ _ c.loop-at.invariant.counts c.in_ok-list_at.ensures.counts;
      numbers = numbers_on _ _ _ c.loop-at.invariant.numbers c.in_ok-list_at.ensures.numbers;
    }
