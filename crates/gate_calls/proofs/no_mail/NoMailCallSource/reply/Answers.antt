use Rattle.serde_json.specs.View.{view}
use Rattle.gate_calls.proofs.Sources.{untold_gives}
use Rattle.gate_calls.proofs.no_mail.NoMailCallSource.reply.Goals as goal

pub returns-clause-meant : goal.returns-clause-meant
returns-clause-meant g c =
    untold_gives _ c.args.method (view c.args.arguments) c.args.self.now.error c.args._uploads.now c.reply_without.result
    (c.reply_without.ensures.meant c.args._uploads.now)
