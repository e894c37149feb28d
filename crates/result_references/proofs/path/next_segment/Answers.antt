use Rattle.std.proofs.Common.{None, arith}
use Rattle.std.proofs.lemmas.Str.Pattern.{split_parts}
use Rattle.result_references.proofs.Segments.{first_octet, cuts-last, cuts-at}
use Rattle.result_references.proofs.path.next_segment.Goals as goal

pub returns-in-None : goal.returns-in-None
returns-in-None c =
    let path = c.args.path.now in
    let after = c.in-Some.after.now in
    cuts-last path after (first_octet 47 path after c.in-Some.ensures) (split_parts 47 after None c.in-None.ensures.cases (omega arith))

pub returns-in-Some-split_once : goal.returns-in-Some-split_once
returns-in-Some-split_once c =
    let path = c.args.path.now in
    let after = c.in-Some.after.now in
    let cut = rw c.in-Some-split_once.is at (split_parts 47 after c.split_once.result c.split_once.ensures.cases (omega arith)) in
    cuts-at path after c.in-Some-split_once.token.now c.in-Some-split_once.field-0-1.now c.split_at.result.0.now c.split_at.result.1.now (first_octet 47 path after c.in-Some.ensures) cut.0 cut.1
    c.split_at.ensures.front c.split_at.ensures.back
