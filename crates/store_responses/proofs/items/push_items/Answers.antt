use Rattle.store_responses.proofs.Written.{writes_join}
use Rattle.store_responses.proofs.items.push_items.Goals as goal

pub returns : goal.returns
returns c =
    let uid = rw c.wide.ensures at c.in_ok-first.ensures in
    (writes_join _ _ _ _ _ _ _ _ uid (writes_join _ _ _ _ _ _ _ _ c.in_ok-first-2.ensures (writes_join _ _ _ _ _ _ _ _ c.in_ok-first-3.ensures
    (writes_join _ _ _ _ _ _ _ _ c.in_ok-first-4.ensures (writes_join _ _ _ _ _ _ _ _ c.in_ok-first-5.ensures
    (writes_join _ _ _ _ _ _ _ _ c.in_ok-first-6.ensures c.in_ok-_first.ensures)))))).text
