use Rattle.std.proofs.Common.{◌≡◌, ℕ, List, true, ◌∙◌, sym, ap, subst}
use Rattle.std.specs.declared.hash.DefaultHasher.{DefaultHasher}
use Rattle.thread_rule.specs.Threads.{IsThreadOf}
use Rattle.thread_rule.specs.reading.Keys.{base_hasher, key_under}
use Rattle.thread_rule.proofs.IndexLemmas.{on_err, none_set, keys_turn, all_set, apart_of}
use Rattle.thread_rule.proofs.SearchLemmas.{one_thread}
use Rattle.thread_rule.proofs.JoiningLemmas.{finds_none, finds_turn, finds_all}
use Rattle.thread_rule.proofs.joining.add_each.Goals as goal

pub loop-id-init : goal.loop-id-init
loop-id-init c = record {
  sets = none_set c.args.index.now (base_hasher c.args.secret c.args.named.now.base) c.args.named.now.ids c.as_text-rest.result.now c.args.named.now.email true c.as_text-rest.ensures;
  finds = finds_none c.args.members.now.entries c.args.named.now.base c.args.named.now.email c.args.named.now.ids c.as_text-rest.result.now c.as_text-rest.ensures;
}

pub loop-id-preserved : goal.loop-id-preserved
loop-id-preserved c =
    let base = c.args.named.now.base in
    let id = c.in-Some.id.now in
    let hasher : c.base_hasher-base.result ≡ base_hasher c.args.secret base = c.base_hasher-base.ensures ∙ ap (base_hasher c.args.secret) c.as_slice.ensures in
    let key : c.key_under-key.result ≡ key_under (base_hasher c.args.secret base) id = c.key_under-key.ensures ∙ ap (λ (h : DefaultHasher). key_under h id) hasher in
    record {
      sets =
          keys_turn c.args.index.now c.loop-id.index c.add.new.self (base_hasher c.args.secret base) c.args.named.now.ids c.loop-id.rest.now id c.in-Some.more.now
          c.key_under-key.result c.args.named.now.email true c.loop-id.invariant.sets c.in-Some.ensures.ids key c.in_ok-add.ensures.ok;
      finds =
          finds_turn c.args.secret c.args.index.now c.loop-id.index c.args.members.now.entries base c.args.named.now.email c.args.named.now.ids c.loop-id.rest.now id
          c.in-Some.more.now c.as_slice-in-Some.result.now c.key_under-key.result c.loop-id.found c.found_or_shared-found.result c.requires c.loop-id.invariant
          c.in-Some.ensures.ids c.as_slice-in-Some.ensures key c.found_or_shared-found.ensures.found c.found_or_shared-found.ensures.ordered;
    }

pub returns-clause-ok : goal.returns-clause-ok
returns-clause-ok c =
    all_set c.args.index.now c.loop-id.index (base_hasher c.args.secret c.args.named.now.base) c.args.named.now.ids c.loop-id.rest.now c.args.named.now.email true
    c.loop-id.invariant.sets c.in_default.ensures.ids

pub returns-clause-is : goal.returns-clause-is
returns-clause-is c =
    let P : ℕ → Type 0 = λ t. IsThreadOf c.args.members.now.entries c.args.named.now.base c.args.named.now.email c.args.named.now.ids t in
    subst P (sym c.unwrap_or.ensures)
    (finds_all c.args.members.now.entries c.args.named.now.base c.args.named.now.email c.args.named.now.ids c.loop-id.rest.now c.loop-id.found c.loop-id.invariant.finds
    c.in_default.ensures.ids)

pub returns-clause-only : goal.returns-clause-only
returns-clause-only c = λ t other.
    one_thread c.args.members.now.entries c.args.named.now.base c.args.named.now.email c.args.named.now.ids t c.unwrap_or.result other (returns-clause-is c)

pub returns-in_err-add-clause-err : goal.returns-in_err-add-clause-err
returns-in_err-add-clause-err c =
    on_err c.from_residual.result
    (apart_of c.args.index.now c.loop-id.index c.add.new.self (base_hasher c.args.secret c.args.named.now.base) c.args.named.now.ids c.loop-id.rest.now c.args.named.now.email true
    c.loop-id.invariant.sets c.in_err-add.ensures.err)
