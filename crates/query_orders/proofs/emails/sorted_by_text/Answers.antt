use Rattle.std.proofs.Common.{ℕ, List, Option, IfOk, map, nat_cmp, ap, subst, ◌∙◌}
use Rattle.std.specs.Cmp.Lexicographic.{slice_cmp}
use Rattle.std.specs.Option.{option_cmp, option_copied, option_map}
use Rattle.std.proofs.lemmas.Simd.{map-map}
use Rattle.query_conditions.specs.Entries.{email_at}
use Rattle.query_conditions.specs.declared.entry.EmailEntry.{EmailEntry}
use Rattle.query_orders.specs.Texts.{folded}
use Rattle.query_orders.specs.reading.Keys.{IsSortedByKeys}
use Rattle.query_orders.specs.reading.Rows.{sorted_text}
use Rattle.query_orders.proofs.emails.sorted_by_text.Goals as goal

pub returns : goal.returns
returns g c =
    let text : EmailEntry → Option (List ℕ) = λ e. sorted_text c.args.text (email_at e) in
    subst (λ (keys : List (Option (List ℕ))). IfOk c.sorted_by_texts.result (λ v. IsSortedByKeys c.args.is_ascending (option_cmp (slice_cmp nat_cmp)) keys c.args.values.now v.items))
    (ap (map (option_map folded)) (ap (map option_copied) c.as_slice.ensures.value ∙ c.in_ok-texts.ensures) ∙ map-map (option_map folded) text c.args.rows.now)
    c.sorted_by_texts.ensures
