use Rattle.std.proofs.Common.{◌∙◌, ◌∷◌, ◌++◌, [], append_assoc, ap, ℕ, Option}
use Rattle.mailbox_names.specs.FullNames.{prefix_by}
use Rattle.mailbox_names.proofs.ServedLemmas.{under_is, top_is}
use Rattle.mailbox_names.proofs.laws.names_are_served_as_given.Goals as goal

pub returns-clause-under : goal.returns-clause-under
returns-clause-under c = λ fs parent f name d differ there delimiter own fit made.
    under_is fs parent f name d (λ g. c.parents_are_longest.ensures.some fs f g) (c.parents_are_longest.ensures.none fs f)
    (λ g a b. c.a_folder_has_one_parent.ensures fs f g parent differ a b) there own
    (made ∙ ap (λ (o : Option ℕ). prefix_by o parent.name ++ name) delimiter ∙ append_assoc parent.name (d ∷ []) name) fit

pub returns-clause-top : goal.returns-clause-top
returns-clause-top c = λ fs f name fit made. top_is fs f name fit made
