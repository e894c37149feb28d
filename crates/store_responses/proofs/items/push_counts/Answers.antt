use Rattle.store_responses.proofs.Written.{writes_join}
use Rattle.store_responses.proofs.items.push_counts.Goals as goal

pub returns : goal.returns
returns c =
    let first = rw c.wide.ensures at c.in_ok-first.ensures in
    let second = rw c.wide-2.ensures at c.in_ok-first-2.ensures in
    let third = rw c.wide-3.ensures at c.in_ok-first-3.ensures in
    (writes_join _ _ _ _ _ _ _ _ first (writes_join _ _ _ _ _ _ _ _ second (writes_join _ _ _ _ _ _ _ _ third c.in_ok-_first.ensures))).text
