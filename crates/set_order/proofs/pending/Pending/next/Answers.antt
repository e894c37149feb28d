use Rattle.std.proofs.Common.{◌≡◌, ◌||◌, true, false, List, ℕ, Option, Bor, String, Global, BTreeMap, option_map, sym, ap, ◌∙◌}
use Rattle.serde_json.specs.Data.{Members}
use Rattle.serde_json.specs.View.{members_view}
use Rattle.serde_json.specs.declared.value.Value.{Value}
use Rattle.jmap_arguments.specs.Arguments.{is_among}
use Rattle.set_order.proofs.NextLemmas.{left_then, next_is, nows, none_ready}
use Rattle.set_order.proofs.pending.Pending.next.Goals as goal

-- the object of a key, as it is looked up
abbrev object_at : Bor (List ℕ) → Option (Bor (BTreeMap (String Global) Value)) → Option (List ℕ × Members)
object_at key found = option_map (λ (o : Bor (BTreeMap (String Global) Value)). (key.now, members_view o.now.entries)) found

pub returns-in_default-clause-first : goal.returns-in_default-clause-first
returns-in_default-clause-first c = λ pending is.
    none_ready c.args.self.now pending is (λ some. absurd (let no : false ≡ true = c.in_default.ensures.variant.1 some in cc))

pub returns-in_default-remove-clause-first : goal.returns-in_default-remove-clause-first
returns-in_default-remove-clause-first c = λ pending is.
    ap (object_at c.in-Some.key) c.in_default-remove.ensures.value
    ∙ sym (next_is c.args.self.now pending is c.in-Some.key c.pop_first.new.self.keys c.in-Some.ensures.removal c.in-Some.ensures.all_above)

pub returns-clause-first : goal.returns-clause-first
returns-clause-first c = λ pending is.
    ap (object_at c.in-Some.key) c.in-Some-remove.ensures.value
    ∙ sym (next_is c.args.self.now pending is c.in-Some.key c.pop_first.new.self.keys c.in-Some.ensures.removal c.in-Some.ensures.all_above)

pub returns-clause-left : goal.returns-clause-left
returns-clause-left c = λ pending is.
    left_then c.args.self.now pending is c.in-Some.key c.pop_first.new.self.keys c.in-Some.ensures.removal c.in-Some.ensures.all_above
    (record { left = c.remove.new.self; ready = c.put_all.new.set; waiting = c.take_waiting-waiters.new.waiting })
    c.in-Some-remove.ensures.entries
    (λ other. c.in_ok-put_all.ensures other ∙ ap (λ (waiters : List (List ℕ)). is_among other waiters || is_among other (nows c.pop_first.new.self.keys)) c.take_waiting-waiters.ensures.taken)
    c.take_waiting-waiters.ensures.others
