use Rattle.std.proofs.Common.{List, ℕ, ap, ◌∙◌}
use Rattle.thread_rule.specs.reading.Index.{first_thread, numbers_up_to_other}
use Rattle.thread_rule.proofs.IndexLemmas.{numbers_from}
use Rattle.thread_rule.proofs.search.shared_in.Goals as goal

pub loop-entry-init : goal.loop-entry-init
loop-entry-init c =
    ap (λ (ns : List ℕ). first_thread c.args.members.now.entries c.args.base.now c.args.id.now ns)
    (ap (numbers_up_to_other c.args.key) (c.into_iter-entry-iterator.ensures.into_iter_gives ∙ c.range-entry-items.ensures.between tt)
    ∙ numbers_from c.args.key c.args.entries.now.keys c.range-entry-items.ensures.ordered)
