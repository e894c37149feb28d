use Rattle.std.proofs.Common.{◌∙◌, ap, ℕ, List, length}
use Rattle.mail_maps.specs.reading.Fronts.{front_below}
use Rattle.mail_maps.proofs.FrontLemmas.{parent_found, no_parent}
use Rattle.mail_maps.proofs.hierarchy.parent_in.Goals as goal

pub returns-in-Some : goal.returns-in-Some
returns-in-Some c =
    c.parent_below.ensures
    ∙ ap (λ (name : List ℕ). front_below c.args.mirror.now.mail.folders name c.in-Some.delimiter (length name)) c.as_slice.ensures
    ∙ parent_found c.args.mirror.now.mail.folders c.args.child.now c.in-Some.delimiter c.each_is_mail.ensures.numbers c.each_is_mail.ensures.names c.in-Some.is

pub returns-in-None : goal.returns-in-None
returns-in-None c = no_parent _ c.args.child.now c.in-None.is
