use Rattle.std.proofs.Common.{◌≡◌, true, false, sym, ap, ◌∙◌, option_and_then}
use Rattle.jmap_arguments.specs.Arguments.{is_among}
use Rattle.jmap_arguments.proofs.OnceLemmas.{any_key}
use Rattle.set_given.specs.Given.{folder_by_id}
use Rattle.jmap_core.specs.CreatedIds.{id_of}
use Rattle.set_given.proofs.given.folder_created.Goals as goal

pub returns-then-contains : goal.returns-then-contains
returns-then-contains c g is =
    let there : is_among c.args.creation.now g.making ≡ true =
    sym (is.making c.args.creation.now) ∙ sym (any_key c.args.creation.now c.args.given.now.making.now.keys) ∙ sym c.contains.ensures ∙ c.if-contains.true in
    rw there (c.folder_made.ensures g is)

pub returns-in-None : goal.returns-in-None
returns-in-None c g is =
    let apart : is_among c.args.creation.now g.making ≡ false =
    sym (is.making c.args.creation.now) ∙ sym (any_key c.args.creation.now c.args.given.now.making.now.keys) ∙ sym c.contains.ensures ∙ c.if-contains.false in
    rw apart (ap (option_and_then (folder_by_id g)) (c.in-None.ensures ∙ ap (id_of c.args.creation.now) (sym is.created)))

pub returns-in-Some : goal.returns-in-Some
returns-in-Some c g is =
    let apart : is_among c.args.creation.now g.making ≡ false =
    sym (is.making c.args.creation.now) ∙ sym (any_key c.args.creation.now c.args.given.now.making.now.keys) ∙ sym c.contains.ensures ∙ c.if-contains.false in
    rw apart (c.folder_by_id.ensures g is ∙ ap (option_and_then (folder_by_id g)) (c.in-Some.ensures ∙ ap (id_of c.args.creation.now) (sym is.created)))
