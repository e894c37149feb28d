use Rattle.std.proofs.Common.{◌≡◌, ◌∙◌, ℕ, List, [], Bor, Option, Some, None, ap, subst, sym}
use Rattle.std.specs.Prelude.{MatchOption}
use Rattle.mail_header.specs.Fields.{NameAndRaw, last_named, names_and_raws}
use Rattle.field_values.specs.reading.Gathering.{last_raw}
use Rattle.field_values.proofs.IndexLemmas.{last_found, texts}
use Rattle.field_values.proofs.named_fields.NamedFields.last.Goals as goal

pub returns-in-None-2 : goal.returns-in-None-2
returns-in-None-2 c =
    let name = c.args.name.now in
    let fields = names_and_raws c.self.inside.fields in
    let shown : c.args.self.now ≡ fields = cc in
    let none = rw c.in-None-2.is at c.in_ok-raws_of-in-Some.ensures in
    ap (λ (fs : List NameAndRaw). last_named name fs) shown ∙ last_found c.in-Some.index fields name [] (c.self.invariant c.in-Some.index c.in-Some.is) none

pub returns-in-Some-2 : goal.returns-in-Some-2
returns-in-Some-2 c =
    let name = c.args.name.now in
    let fields = names_and_raws c.self.inside.fields in
    let shown : c.args.self.now ≡ fields = cc in
    let some = rw c.in-Some-2.is at c.in_ok-raws_of-in-Some.ensures in
    let last : last_named name c.args.self.now ≡ last_raw (texts c.as_slice.result.now) =
    ap (λ (fs : List NameAndRaw). last_named name fs) shown
    ∙ last_found c.in-Some.index fields name (texts c.in-Some-2.raws.now.items) (c.self.invariant c.in-Some.index c.in-Some.is) some
    ∙ ap (λ (raws : List (Bor (List ℕ))). last_raw (texts raws)) (sym c.as_slice.ensures.value) in
    subst (λ (o : Option (List ℕ)). MatchOption c.last_of.result (o ≡ None) (λ r. o ≡ Some r.now)) (sym last) c.last_of.ensures
