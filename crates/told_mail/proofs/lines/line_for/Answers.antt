use Rattle.std.proofs.Common.{◌∙◌}
use Rattle.told_mail.specs.reading.Names.{place_in}
use Rattle.told_mail.proofs.LineLemmas.{found_line, no_line}
use Rattle.told_mail.proofs.lines.line_for.Goals as goal

pub returns-in-Some : goal.returns-in-Some
returns-in-Some c =
    c.line_at.ensures
    ∙ found_line c.args.responses.now c.args.name.now c.in-Some.at.now (place_in c.args.lines.now c.args.name.now) (c.requires.places c.args.name.now) c.in-Some.ensures.value

pub returns-in-None : goal.returns-in-None
returns-in-None c =
    no_line c.args.responses.now c.args.name.now (place_in c.args.lines.now c.args.name.now) (c.requires.places c.args.name.now) c.in-None.ensures.value
