use Rattle.query_orders.proofs.DecidingLemmas.{kept_same, kept_seen, left_same, left_seen, not_new}
use Rattle.query_orders.proofs.deciding.keep.Goals as goal

pub returns-then-new-clause-seen : goal.returns-then-new-clause-seen
returns-then-new-clause-seen c =
    rw (c.in_ok-push.ensures.items, c.in_ok-new.ensures.keys)
    (kept_seen c.args.kept.now.items c.args.comparator c.args.seen.now.keys c.args.key c.requires.key c.requires.seen)

pub returns-then-new-clause-same : goal.returns-then-new-clause-same
returns-then-new-clause-same c = λ emails rest a b. rw c.in_ok-push.ensures.items (kept_same c.args.kept.now.items c.args.comparator emails rest a b)

pub returns-clause-seen : goal.returns-clause-seen
returns-clause-seen c =
    rw c.in_ok-new.ensures.keys
    (left_seen c.args.kept.now.items c.args.comparator c.args.seen.now.keys c.args.key c.requires.seen (not_new _ _ c.in_ok-new.ensures.added c.if-new.false))

pub returns-clause-same : goal.returns-clause-same
returns-clause-same c =
    left_same c.args.kept.now.items c.args.comparator c.args.seen.now.keys c.args.key c.requires.key c.requires.seen (not_new _ _ c.in_ok-new.ensures.added c.if-new.false)
