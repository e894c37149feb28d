use Rattle.std.proofs.Common.{sym, ◌∙◌}
use Rattle.loose_addresses.proofs.ElementLemmas.{next_here, last_here, tell_next}
use Rattle.loose_addresses.proofs.elements.next_element.Goals as goal

pub returns-in-None-clause-element : goal.returns-in-None-clause-element
returns-in-None-clause-element c =
    last_here c.args.text.now c.split_at.result.0.now c.element_len.result c.split_at.ensures.front (sym c.split_at.ensures.back ∙ c.in-None.ensures) c.element_len.ensures.element

pub returns-in-Some-clause-element : goal.returns-in-Some-clause-element
returns-in-Some-clause-element c =
    next_here c.args.text.now c.split_at.result.0.now c.in-Some.more.now _ c.element_len.result c.split_at.ensures.front (sym c.split_at.ensures.back ∙ c.in-Some.ensures)
    c.element_len.ensures.element c.element_len.ensures.ends

pub returns-in-Some-clause-closings : goal.returns-in-Some-clause-closings
returns-in-Some-clause-closings c =
    tell_next c.args.closed.now c.args.text.now c.in-Some.more.now _ c.element_len.result (sym c.split_at.ensures.back ∙ c.in-Some.ensures) c.requires
