use Rattle.std.proofs.Common.{map, option_map}
use Rattle.jmap_arguments.specs.Ids.{email_letter}
use Rattle.email_get.proofs.NumberLemmas.{asked_have_rows}
use Rattle.email_get.proofs.emails.asked_emails.Goals as goal

pub returns-clause-there : goal.returns-clause-there
returns-clause-there c =
    let asked = c.in_ok-asked.asked in
    asked_have_rows email_letter c.args.state.now.rows.numbered.rows (option_map (λ v. map (λ t. t.now) v.items) c.in_ok-ids.field-0.ids)
    (record { numbers = asked.numbers.items; missing = map (λ t. t.now) asked.missing.items }) c.in_ok-asked.ensures.asked
