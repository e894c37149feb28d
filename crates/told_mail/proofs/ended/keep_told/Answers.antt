use Rattle.std.proofs.Common.{rules}
use Rattle.std.proofs.lemmas.Fn.{filter_same}
use Rattle.told_mail.specs.reading.Lines.{is_listed}
use Rattle.told_mail.proofs.ended.keep_told.Goals as goal

pub returns : goal.returns
returns c = filter_same _ (is_listed c.args.lines.now) _ (λ x b q k. search rules) _ _ c.retain.ensures.filtered
