use Rattle.http_service.proofs.CutTargetLemmas.{cut_incomplete}
use Rattle.http_service.proofs.head.parse_head.Goals as goal

pub returns-then-ends_in_target : goal.returns-then-ends_in_target
returns-then-ends_in_target c =
    let refused = rw c.in-Err-BadHead.field-0-is at c.in-Err-BadHead.ensures in
    cut_incomplete c.args.octets.now refused (c.ends_in_target.ensures.0 c.if-ends_in_target.true)
