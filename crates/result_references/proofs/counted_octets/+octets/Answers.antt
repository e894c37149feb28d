use Rattle.std.proofs.Common.{◌≡◌, ℕ, suc, ◌+◌, max, length, sym, ap, subst, ◌∙◌}
use Rattle.serde_json.specs.Data.{Data}
use Rattle.serde_json.specs.View.{view, items_view, members_view}
use Rattle.serde_json.specs.Written.{compact_text}
use Rattle.serde_json.specs.declared.value.Value.{Value}
use Rattle.serde_json.proofs.Views.{view-Array, view-Object}
use Rattle.result_references.specs.reading.Counting.{Counts, item_octets, member_octets}
use Rattle.result_references.proofs.TextLengths.{array_octets, object_octets}
use Rattle.result_references.proofs.counted_octets.+octets.Goals as goal

pub value_octets-returns-in-Array : goal.value_octets-returns-in-Array
value_octets-returns-in-Array t c =
    let inner : ℕ = item_octets (items_view c.in-Array.items.items) in
    let whole : length (compact_text (view c.args.value.now)) ≡ suc (max 1 inner) =
    ap (λ (v : Value). length (compact_text (view v))) c.in-Array.is
    ∙ ap (λ (d : Data). length (compact_text d)) (view-Array c.in-Array.items)
    ∙ array_octets (items_view c.in-Array.items.items) in
    let P : ℕ → Type 0 = λ n. Counts c.in_brackets.result (c.args.so_far + n) in
    subst P (sym whole) (c.in_brackets.ensures inner c.items_octets.ensures)

pub value_octets-returns-in-Object : goal.value_octets-returns-in-Object
value_octets-returns-in-Object t c =
    let inner : ℕ = member_octets (members_view c.in-Object.members.entries) in
    let whole : length (compact_text (view c.args.value.now)) ≡ suc (max 1 inner) =
    ap (λ (v : Value). length (compact_text (view v))) c.in-Object.is
    ∙ ap (λ (d : Data). length (compact_text d)) (view-Object c.in-Object.members)
    ∙ object_octets (members_view c.in-Object.members.entries) in
    let P : ℕ → Type 0 = λ n. Counts c.in_brackets-in-Object.result (c.args.so_far + n) in
    subst P (sym whole) (c.in_brackets-in-Object.ensures inner c.members_octets.ensures)
