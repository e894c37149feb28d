use Rattle.std.proofs.Common.{◌∙◌, sym, arith}
use Rattle.mail_batches.specs.Stored.{tables_of}
use Rattle.mail_batches.proofs.ItemSteps.{item_not_made, item_not_next, item_not_read, item_taken}
use Rattle.mail_batches.proofs.batch_reading.read_item.Goals as goal

pub returns-in_default : goal.returns-in_default
returns-in_default c = item_not_read (tables_of c.args.tables.now) c.args.last c.args.octets.now (rw c.in_default.is at c.in_ok-read.ensures)

pub returns-then-not-follows : goal.returns-then-not-follows
returns-then-not-follows c =
    item_not_next (tables_of c.args.tables.now) c.args.last c.args.octets.now c.in-Some.item c.in-Some.rest.now c.place_of-place.result (rw c.in-Some.is at c.in_ok-read.ensures)
    c.place_of-place.ensures (sym c.may_follow-follows.ensures ∙ c.if-not-follows.true)

pub returns-then-not-right : goal.returns-then-not-right
returns-then-not-right c =
    item_not_made (tables_of c.args.tables.now) c.args.last c.args.octets.now c.in-Some.item c.in-Some.rest.now _ _ (rw c.in-Some.is at c.in_ok-read.ensures) c.in_ok-right.ensures
    c.if-not-right.true

pub returns : goal.returns
returns c =
    item_taken (tables_of c.args.tables.now) c.args.last c.args.octets.now c.in-Some.item c.in-Some.rest.now _ c.place_of-place.result _
    (record { small = λ k. let fits = c.type_inv.octets k in omega arith }) (rw c.in-Some.is at c.in_ok-read.ensures) c.place_of-place.ensures
    (sym c.may_follow-follows.ensures ∙ c.if-not-follows.false) c.in_ok-right.ensures c.if-not-right.false
