use Rattle.std.proofs.Common.{◌<◌, false, map, set, length, subst, arith}
use Rattle.thread_rule.specs.reading.Index.{EntryLists, SetsOne}
use Rattle.thread_rule.proofs.IndexLemmas.{tree_changed}
use Rattle.thread_rule.proofs.index.KeyIndex.remove.Goals as goal

pub returns-then-front-len : goal.returns-then-front-len
returns-then-front-len c =
    let trees = c.self.inside.trees.items in
    let room : c.front_of-front.result < length trees = omega (arith, c.if-front-len.true, c.len.ensures) in
    let Sets : EntryLists → Type 0 = λ old. SetsOne old (map (λ t. t.keys) (set trees c.front_of-front.result c.remove.new.self)) c.args.key c.args.email false in
    subst Sets c.self.view_is
    (tree_changed trees c.front_of-front.result c.index_mut.result.now c.remove.new.self c.args.key c.args.email false c.front_of-front.ensures room c.index_mut.ensures.value
    c.remove.ensures.updates)
