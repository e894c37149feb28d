use Rattle.std.proofs.Common.{◌∙◌, sym}
use Rattle.told_mail.specs.reading.Names.{place_in}
use Rattle.told_mail.proofs.NameLemmas.{changed_place, not_true}
use Rattle.told_mail.proofs.names.change_name.Goals as goal

pub returns-then-ne-clause-ok : goal.returns-then-ne-clause-ok
returns-then-ne-clause-ok c = λ q.
    c.cut_name.ensures q
    ∙ changed_place c.args.old.now c.args.new.now q c.args.number (place_in c.args.numbers.now q) (place_in c.put_name.new.numbers q)
    (not_true _ (sym c.ne.ensures ∙ c.if-ne.true)) (c.in_ok-put_name.ensures.ok q)
