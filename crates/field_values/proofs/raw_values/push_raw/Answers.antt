use Rattle.std.proofs.Common.{sym, ap, ◌∙◌, ◌∷◌, [], List, Bor, ℕ}
use Rattle.std.proofs.lemmas.List.{map-append}
use Rattle.mail_header.specs.Fields.{field_view, names_and_raws}
use Rattle.field_values.proofs.IndexLemmas.{texts}
use Rattle.field_values.proofs.PropertyLemmas.{no_raw, no_raw_of_other, raw_of_named}
use Rattle.field_values.proofs.raw_values.push_raw.Goals as goal

pub returns-in_default : goal.returns-in_default
returns-in_default c = no_raw c.args.name.now (names_and_raws c.args.fields.now) c.args.at (texts c.args.raws.now.items) c.in_default.ensures

pub returns-then-not-same_text : goal.returns-then-not-same_text
returns-then-not-same_text c =
    no_raw_of_other c.args.name.now (names_and_raws c.args.fields.now) c.args.at (field_view c.in-Some.field) (texts c.args.raws.now.items) c.in-Some.ensures
    (sym c.same_text.ensures.test ∙ c.if-not-same_text.true)

pub returns : goal.returns
returns c =
    ap texts c.in_ok-push.ensures.items ∙ map-append (λ (r : Bor (List ℕ)). r.now) c.args.raws.now.items (c.in-Some.field.raw ∷ [])
    ∙ raw_of_named c.args.name.now (names_and_raws c.args.fields.now) c.args.at (field_view c.in-Some.field) (texts c.args.raws.now.items) c.in-Some.ensures
    (sym c.same_text.ensures.test ∙ c.if-not-same_text.false)
