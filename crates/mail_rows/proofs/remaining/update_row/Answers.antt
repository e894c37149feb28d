use Rattle.std.proofs.Common.{◌∙◌, ap, nat_cmp, rules, BTreeMap, ℕ}
use Rattle.std.specs.BTreeMap.{get}
use Rattle.mail_maps.specs.declared.row.EmailRow.{EmailRow}
use Rattle.mail_rows.specs.reading.RowPass.{with_update}
use Rattle.mail_rows.proofs.UpdateLemmas.{row_written, row_absent}
use Rattle.mail_rows.proofs.remaining.update_row.Goals as goal

pub returns-in-Some : goal.returns-in-Some
returns-in-Some c = λ q.
    let row : EmailRow = c.in-Some.row.now in
    row_written (get nat_cmp c.args.rows.now) c.args.update row q _ c.in-Some.ensures.value
    (((c.get_mut.follows.holds (with_update c.args.update row)).3 (search rules)).0 q)

pub returns-in_default : goal.returns-in_default
returns-in_default c = λ q.
    ap (λ (m : BTreeMap ℕ EmailRow). get nat_cmp m q) c.get_mut.follows.holds-at-none ∙ row_absent (get nat_cmp c.args.rows.now) c.args.update q c.in_default.ensures.value
