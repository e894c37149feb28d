use Rattle.std.proofs.Common.{ℕ, List, refl, sym, ap, ◌∙◌, arith}
use Rattle.jmap_arguments.specs.Ids.{mailbox_letter}
use Rattle.set_given.specs.Given.{folder_by_id}
use Rattle.set_given.specs.reading.Givens.{has_number}
use Rattle.set_given.proofs.NumberLemmas.{folder_found, folder_missed}
use Rattle.set_given.proofs.given.folder_by_id.Goals as goal

pub returns-in-None : goal.returns-in-None
returns-in-None c g is =
    sym (folder_missed mailbox_letter (has_number g) (c.numbers_are_small.ensures g is) c.args.id.now g.mail.folders (λ n fits. c.in-None.ensures.none refl n fits))

pub returns-in-Some : goal.returns-in-Some
returns-in-Some c g is =
    c.folder_numbered.ensures g is
    ∙ sym (folder_found mailbox_letter (has_number g) (c.numbers_are_small.ensures g is) c.in-Some.number g.mail.folders (omega arith))
    ∙ sym (ap (λ (id : List ℕ). folder_by_id g id) c.in-Some.ensures.some)
