use Rattle.std.proofs.Common.{◌≤◌, List, Option, length, sym, ap, ◌∙◌, subst}
use Rattle.std.specs.Prelude.{option_and_then}
use Rattle.serde_json.specs.Data.{Items}
use Rattle.serde_json.specs.View.{members_view}
use Rattle.serde_json.specs.declared.value.Value.{Value}
use Rattle.draft_reading.specs.Parts.{one_at_most, text_list_in, text_part_in}
use Rattle.draft_reading.specs.Values.{each_in}
use Rattle.draft_reading.proofs.PartLemmas.{long_list}
use Rattle.draft_reading.proofs.parts.text_list_in.Goals as goal

pub returns-in-len2-up : goal.returns-in-len2-up
unfolding text_list_in
returns-in-len2-up c =
    let read = text_part_in (members_view c.args.all.now.entries) c.args.wanted.now in
    let vs = c.in_ok-items.items.now.items in
    let long = subst (λ (xs : List Value). 2 ≤ length xs) c.as_slice.ensures.value c.in-len2-up.len_at_least in
    sym (ap (λ (o : Option Items). option_and_then one_at_most (option_and_then (each_in read) o)) (sym c.in_ok-items.ensures) ∙ long_list read vs long)
