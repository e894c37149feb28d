use Rattle.std.proofs.Common.{Some, None, arith}
use Rattle.std.proofs.lemmas.Str.Pattern.{strip_prefix_char}
use Rattle.result_references.proofs.Segments.{unescape-one, unescape-zero, unescape-neither}
use Rattle.result_references.proofs.path.behind_tilde.Goals as goal

pub returns-in-Some-clause-stands : goal.returns-in-Some-clause-stands
returns-in-Some-clause-stands c =
    unescape-one c.args.text.now c.in-Some.behind.now (strip_prefix_char 49 c.args.text.now (Some c.in-Some.behind) c.in-Some.ensures.cases (omega arith))

pub returns-in-Some-strip_prefix-clause-stands : goal.returns-in-Some-strip_prefix-clause-stands
returns-in-Some-strip_prefix-clause-stands c =
    unescape-zero c.args.text.now c.in-Some-strip_prefix.behind.now
    (strip_prefix_char 48 c.args.text.now (Some c.in-Some-strip_prefix.behind) c.in-Some-strip_prefix.ensures.cases (omega arith))

pub returns-in-None-clause-stands : goal.returns-in-None-clause-stands
returns-in-None-clause-stands c =
    unescape-neither c.args.text.now (strip_prefix_char 49 c.args.text.now None c.in_default.ensures.cases (omega arith))
    (strip_prefix_char 48 c.args.text.now None c.in-None.ensures.cases (omega arith))
