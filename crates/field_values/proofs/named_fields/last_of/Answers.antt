use Rattle.std.proofs.Common.{◌≡◌, ◌∙◌, List, ℕ, Bor, Option, Some, None, map, sym, subst}
use Rattle.std.specs.Prelude.{MatchOption}
use Rattle.field_values.specs.reading.Gathering.{last_raw}
use Rattle.field_values.proofs.PropertyLemmas.{last_lent}
use Rattle.field_values.proofs.named_fields.last_of.Goals as goal

pub returns : goal.returns
returns c =
    let last = last_raw (map (λ (r : Bor (List ℕ)). r.now) c.args.raws.now) in
    subst (λ (o : Option (Bor (List ℕ))). MatchOption o (last ≡ None) (λ r. last ≡ Some r.now)) (sym (c.copied.ensures ∙ c.last.ensures.value)) (last_lent c.args.raws.now)
