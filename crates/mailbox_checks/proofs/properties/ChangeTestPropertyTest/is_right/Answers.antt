use Rattle.std.proofs.Common.{◌∙◌, sym, ap}
use Rattle.std.specs.Option.{option_map}
use Rattle.serde_json.specs.View.{view}
use Rattle.mailbox_checks.proofs.ServedLemmas.{right_by, made_by, served_by}
use Rattle.mailbox_checks.proofs.properties.ChangeTestPropertyTest.is_right.Goals as goal

pub returns-in-None : goal.returns-in-None
returns-in-None c = λ test t.
    let f = c.args.self.now.folder.now in
    let p = c.as_str-property.result.now in
    let d = view c.args.value.now in
    right_by t.facts f test c.args.pointer.now c.in-Whole.property p d c.can_be_made.result t.same c.in-Whole.is c.as_str-property.ensures
    (c.can_be_made.ensures t.facts t.given_is
    ∙ made_by t.facts c.args.self.now.given.state.now f p d t.given_is.state (sym (ap (option_map view) c.in-None.is) ∙ t.served_is)
    (sym c.if-can_be_set.false ∙ c.can_be_set.ensures t.facts t.given_is))

pub returns-in-Some : goal.returns-in-Some
returns-in-Some c = λ test t.
    let f = c.args.self.now.folder.now in
    let p = c.as_str-property.result.now in
    let d = view c.args.value.now in
    right_by t.facts f test c.args.pointer.now c.in-Whole.property p d c.is_value_of.result t.same c.in-Whole.is c.as_str-property.ensures
    (c.is_value_of.ensures
    ∙ served_by t.facts c.args.self.now.given.state.now f p d (view c.in-Some.served) t.given_is.state (sym (ap (option_map view) c.in-Some.is) ∙ t.served_is)
    (sym c.if-can_be_set.false ∙ c.can_be_set.ensures t.facts t.given_is))
