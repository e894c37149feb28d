use Rattle.std.proofs.Common.{◌∙◌, sym, arith}
use Rattle.mail_batches.specs.Stored.{tables_of}
use Rattle.mail_batches.proofs.RuleLemmas.{false_true}
use Rattle.mail_batches.proofs.TableLemmas.{folder_put, not_put, there_or_new}
use Rattle.mail_batches.proofs.mail_tables.MailTables.put_folder.Goals as goal

pub returns-then-not-right : goal.returns-then-not-right
returns-then-not-right c = λ any makes. false_true _ c.if-not-right.true (c.in_ok-right.ensures.1 makes.0)

pub returns-then-not-free : goal.returns-then-not-free
returns-then-not-free c = λ any makes. not_put (tables_of c.args.self.now) c.args.folder (sym c.may_put-free.ensures ∙ c.if-not-free.true) any makes

pub overflow_add-number : goal.overflow_add-number
overflow_add-number c = let right = c.in_ok-right.ensures.0 c.if-not-right.false in let small = right.well_formed.number in omega (arith, small)

pub returns : goal.returns
returns c =
    folder_put (tables_of c.args.self.now) _ c.args.folder _ (c.in_ok-right.ensures.0 c.if-not-right.false)
    (there_or_new (tables_of c.args.self.now) c.args.folder.number (sym c.may_put-free.ensures ∙ c.if-not-free.false)) c.in_ok-insert.ensures c.max-self.ensures
