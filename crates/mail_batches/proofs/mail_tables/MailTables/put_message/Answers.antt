use Rattle.std.proofs.Common.{arith}
use Rattle.mail_batches.specs.Stored.{tables_of}
use Rattle.mail_batches.proofs.RuleLemmas.{false_true}
use Rattle.mail_batches.proofs.TableLemmas.{message_put}
use Rattle.mail_batches.proofs.mail_tables.MailTables.put_message.Goals as goal

pub returns-then-mark-self : goal.returns-then-mark-self
returns-then-mark-self c = λ any makes. let le = makes.1 in omega (arith, le)

pub returns-then-not-right : goal.returns-then-not-right
returns-then-not-right c = λ any makes. false_true _ c.if-not-right.true (c.in_ok-right.ensures.1 makes.0)

pub overflow_add-self : goal.overflow_add-self
overflow_add-self c = let right = c.in_ok-right.ensures.0 c.if-not-right.false in let small = right.well_formed.mark in omega (arith, small)

pub returns : goal.returns
returns c =
    message_put (tables_of c.args.self.now) _ c.args.folder c.args.message (c.in_ok-right.ensures.0 c.if-not-right.false) (omega arith) c.in_ok-insert.ensures
