use Rattle.std.proofs.Common.{sym, ◌∙◌}
use Rattle.mail_maps.proofs.FrontLemmas.{no_front}
use Rattle.mail_maps.proofs.hierarchy.front_at.Goals as goal

pub returns-then-not-contains : goal.returns-then-not-contains
returns-then-not-contains c =
    no_front c.args.mirror.now.mail.folders c.args.name.now c.args.delimiter c.args.len c.requires.within
    (sym (c.requires.lengths c.args.len) ∙ sym c.contains.ensures ∙ c.if-not-contains.true)
