use Rattle.std.proofs.Common.{arith, ap, sym, ◌∙◌, ◌++◌, List, ℕ}
use Rattle.std.specs.Prelude.{option_to_list}
use Rattle.mail_header.specs.Fields.{names_and_raws}
use Rattle.field_values.specs.reading.Gathering.{raw_at}
use Rattle.field_values.proofs.PropertyLemmas.{raws_more}
use Rattle.field_values.proofs.raw_values.raws_in.Goals as goal

pub loop-at-preserved : goal.loop-at-preserved
loop-at-preserved c =
    let fs = names_and_raws c.args.fields.now in
    let at = c.loop-at.at in
    c.in_ok-push_raw.ensures ∙ ap (λ (l : List (List ℕ)). l ++ option_to_list (raw_at c.args.name.now fs at)) c.loop-at.invariant ∙ sym (raws_more c.args.name.now fs at (omega arith))
