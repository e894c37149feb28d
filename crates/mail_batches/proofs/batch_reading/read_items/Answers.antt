use Rattle.std.proofs.Common.{◌∙◌, eqb-true, length, sym, arith}
use Rattle.mail_batches.specs.Stored.{tables_of}
use Rattle.mail_batches.proofs.ReadLemmas.{fewer_left, left_le, none_read, read_done, read_more, read_wrong, some_left}
use Rattle.mail_batches.proofs.batch_reading.read_items.Goals as goal

pub loop-rest-init : goal.loop-rest-init
loop-rest-init c = none_read (tables_of c.args.tables.now) c.args.octets.now

pub loop-rest-preserved : goal.loop-rest-preserved
loop-rest-preserved c =
    read_more (tables_of c.args.tables.now) c.args.octets.now c.loop-rest.last (tables_of c.loop-rest.tables) _ c.in-Some.place c.loop-rest.rest.now c.in-Some.more.now
    c.loop-rest.invariant (rw c.in-Some.is at c.in_ok-read.ensures)

pub loop-rest-smaller : goal.loop-rest-smaller
loop-rest-smaller c =
    fewer_left (tables_of c.loop-rest.tables) c.loop-rest.last c.loop-rest.rest.now _ c.in-Some.place c.in-Some.more.now (rw c.in-Some.is at c.in_ok-read.ensures)

pub overflow_sub-at : goal.overflow_sub-at
overflow_sub-at c =
    let le = left_le (tables_of c.args.tables.now) c.args.octets.now c.loop-rest.last (tables_of c.loop-rest.tables) c.loop-rest.rest.now c.loop-rest.invariant in
    omega (arith, le)

pub returns-in_default : goal.returns-in_default
returns-in_default c =
    read_wrong (tables_of c.args.tables.now) c.args.octets.now c.loop-rest.last (tables_of c.loop-rest.tables) c.loop-rest.rest.now _ c.loop-rest.invariant
    (some_left (length c.loop-rest.rest.now) (sym c.is_empty.ensures ∙ c.loop-rest-test.true)) (rw c.in_default.is at c.in_ok-read.ensures) (omega arith)

pub returns : goal.returns
returns c =
    read_done (tables_of c.args.tables.now) c.args.octets.now c.loop-rest.last (tables_of c.loop-rest.tables) c.loop-rest.rest.now
    (eqb-true (length c.loop-rest.rest.now) 0 (sym c.is_empty.ensures ∙ c.loop-rest-test.false)) c.loop-rest.invariant
