use Rattle.std.proofs.Common.{arith}
use Rattle.mail_batches.specs.Stored.{tables_of}
use Rattle.mail_batches.proofs.RuleLemmas.{false_true}
use Rattle.mail_batches.proofs.TableLemmas.{set_told}
use Rattle.mail_batches.proofs.mail_tables.MailTables.set_message.Goals as goal

pub returns-then-uid-eq0 : goal.returns-then-uid-eq0
returns-then-uid-eq0 c = λ any makes. let some = makes.1 in omega (arith, some)

pub returns-then-not-right : goal.returns-then-not-right
returns-then-not-right c = λ any makes. false_true _ c.if-not-right.true (c.in_ok-right.ensures.1 makes.0)

pub returns : goal.returns
returns c =
    set_told (tables_of c.args.self.now) _ c.args.mark c.args.folder c.args.uid c.args.flags c.set_placed.result (c.in_ok-right.ensures.0 c.if-not-right.false) (omega arith)
    c.set_placed.ensures.there c.set_placed.ensures.set
