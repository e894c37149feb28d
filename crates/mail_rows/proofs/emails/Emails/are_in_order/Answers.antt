use Rattle.std.proofs.Common.{subst, nat_cmp}
use Rattle.std.specs.List.Sorted.{IsStrictlySortedBy}
use Rattle.std.specs.Map.{keys_of}
use Rattle.mail_rows.specs.NumberedRows.{NumberedRows, AreBelow}
use Rattle.mail_rows.proofs.emails.Emails.are_in_order.Goals as goal

pub returns-clause-sorted : goal.returns-clause-sorted
returns-clause-sorted c =
    let P : NumberedRows → Type 0 = λ n. IsStrictlySortedBy nat_cmp (keys_of n.rows) in subst P c.self.view_is c.len-count.ensures.ordered

pub returns-clause-below : goal.returns-clause-below
returns-clause-below c =
    let P : NumberedRows → Type 0 = λ n. AreBelow n.next n.rows in subst P c.self.view_is c.self.invariant.below
