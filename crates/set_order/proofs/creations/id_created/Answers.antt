use Rattle.std.proofs.Common.{◌≡◌, true, false, ap, sym, ◌∙◌, option_and_then}
use Rattle.jmap_arguments.specs.Arguments.{is_among}
use Rattle.jmap_arguments.proofs.OnceLemmas.{any_key}
use Rattle.set_order.specs.Creations.{no_creation}
use Rattle.set_order.proofs.creations.id_created.Goals as goal

pub returns-then-contains : goal.returns-then-contains
returns-then-contains c = λ keys has.
    let there : is_among c.args.creation.now keys ≡ true =
    sym (has c.args.creation.now) ∙ sym (any_key c.args.creation.now c.args.making.now.keys) ∙ sym c.contains.ensures ∙ c.if-contains.true in
    rw there

pub returns : goal.returns
returns c = λ keys has.
    let apart : is_among c.args.creation.now keys ≡ false =
    sym (has c.args.creation.now) ∙ sym (any_key c.args.creation.now c.args.making.now.keys) ∙ sym c.contains.ensures ∙ c.if-contains.false in
    rw apart (c.no_creation.ensures ∙ ap (option_and_then no_creation) c.in_ok-get.ensures)
