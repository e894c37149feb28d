use Rattle.std.proofs.Common.{◌≡◌, ◌∙◌, ℕ, List, ap}
use Rattle.std.specs.Map.{lookup, remove_entry}
use Rattle.field_values.proofs.IndexLemmas.{at, raw_added}
use Rattle.field_values.proofs.field_index.add_raw.Goals as goal

pub returns : goal.returns
returns c =
    let es = c.args.index.now.entries in
    let same : c.as_slice.result.now ≡ c.args.name.items = c.as_slice.ensures.value in
    raw_added es c.remove.new.self.entries c.insert.new.self.entries c.args.name c.remove.result c.list_or_new-raws.result c.push.new.self c.args.raw
    (c.remove.ensures.entries ∙ ap (λ (q : List ℕ). remove_entry (at q) es) same) (c.remove.ensures.value ∙ ap (λ (q : List ℕ). lookup (at q) es) same)
    c.list_or_new-raws.ensures c.in_ok-push.ensures.items c.in_ok-insert.ensures.entries
