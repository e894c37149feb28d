use Rattle.std.proofs.Common.{List, ℕ, Option, ap, sym, ◌∙◌}
use Rattle.std.specs.List.{list_any}
use Rattle.set_order.specs.Ordered.{is_key}
use Rattle.set_order.specs.reading.Waiting.{left_in}
use Rattle.set_order.proofs.PendingLemmas.{none_is}
use Rattle.set_order.proofs.WaitingLemmas.{any_is}
use Rattle.set_order.proofs.pending.Pending.parent_left.Goals as goal

pub returns-in_err-parent-clause-waits : goal.returns-in_err-parent-clause-waits
returns-in_err-parent-clause-waits c =
    rw c.from_residual.ensures
    (sym (none_is (left_in c.args.self.now)) ∙ ap (λ (o : Option (List ℕ)). list_any (is_key o) (left_in c.args.self.now)) c.in_err-parent.ensures)

pub returns-then-contains_key-clause-waits : goal.returns-then-contains_key-clause-waits
returns-then-contains_key-clause-waits c =
    sym c.if-contains_key.true ∙ c.contains_key.ensures ∙ any_is c.in_ok-parent.parent.now c.args.self.now.left.entries
    ∙ ap (λ (o : Option (List ℕ)). list_any (is_key o) (left_in c.args.self.now)) c.in_ok-parent.ensures

pub returns-else-contains_key-clause-waits : goal.returns-else-contains_key-clause-waits
returns-else-contains_key-clause-waits c =
    sym c.if-contains_key.false ∙ c.contains_key.ensures ∙ any_is c.in_ok-parent.parent.now c.args.self.now.left.entries
    ∙ ap (λ (o : Option (List ℕ)). list_any (is_key o) (left_in c.args.self.now)) c.in_ok-parent.ensures
