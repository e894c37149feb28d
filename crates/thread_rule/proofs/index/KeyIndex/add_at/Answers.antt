use Rattle.std.proofs.Common.{◌<◌, true, map, set, length, ap, subst, arith}
use Rattle.std.proofs.lemmas.List.{length-map}
use Rattle.thread_rule.specs.reading.Index.{EntryLists, SameIndex, SetsOne}
use Rattle.thread_rule.proofs.IndexLemmas.{on_err, tree_changed, tree_kept}
use Rattle.thread_rule.proofs.index.KeyIndex.add_at.Goals as goal

pub returns-in_err-insert-clause-err : goal.returns-in_err-insert-clause-err
returns-in_err-insert-clause-err c =
    let trees = c.self.inside.trees.items in
    let room : c.args.front < length trees = omega (arith, c.requires.room, ap length c.self.view_is, length-map trees (λ t. t.keys)) in
    let Same : EntryLists → Type 0 = λ old. SameIndex old (map (λ t. t.keys) (set trees c.args.front c.insert.new.self)) in
    on_err c.from_residual.result
    (subst Same c.self.view_is
    (tree_kept trees c.args.front c.index_mut.result.now c.insert.new.self c.args.key c.requires.front room c.index_mut.ensures.value c.in_err-insert.ensures.err))

pub returns-clause-ok : goal.returns-clause-ok
returns-clause-ok c =
    let trees = c.self.inside.trees.items in
    let room : c.args.front < length trees = omega (arith, c.requires.room, ap length c.self.view_is, length-map trees (λ t. t.keys)) in
    let Sets : EntryLists → Type 0 = λ old. SetsOne old (map (λ t. t.keys) (set trees c.args.front c.insert.new.self)) c.args.key c.args.email true in
    subst Sets c.self.view_is
    (tree_changed trees c.args.front c.index_mut.result.now c.insert.new.self c.args.key c.args.email true c.requires.front room c.index_mut.ensures.value
    c.in_ok-insert.ensures.updates)
