use Rattle.std.proofs.Common.{◌∙◌, ap, is_some}
use Rattle.mail_batches.specs.Stored.{tables_of}
use Rattle.mail_batches.proofs.TableLemmas.{folder_cut_told}
use Rattle.mail_batches.proofs.mail_tables.MailTables.cut_folder.Goals as goal

pub returns : goal.returns
returns c =
    folder_cut_told (tables_of c.args.self.now) _ c.args.number c.is_some.result (c.is_some.ensures ∙ ap is_some c.remove.ensures.value) (λ q. c.remove.ensures.updates.0 q)
