use Rattle.std.proofs.Common.{◌≡◌, map, string_bytes, ap, ◌∙◌}
use Rattle.clap.specs.Words.{app_of}
use Rattle.gate_words.specs.reading.Commands.{check_app, with_account}
use Rattle.gate_words.proofs.ClapTasks.{check-is, check-simple, refused-by, rows-by}
use Rattle.gate_words.proofs.commands.check_matches.Goals as goal

pub returns : goal.returns
returns c =
    let words = map string_bytes c.args.words.now in
    let is : app_of c.in_ok-command.command ≡ check_app = c.in_ok-command.ensures ∙ ap with_account c.new.ensures.app ∙ check-is in
    record {
      found = rows-by c.found.result (app_of c.in_ok-command.command) check_app words is check-simple c.found.ensures.matches;
      refused = refused-by c.found.result (app_of c.in_ok-command.command) check_app words is c.found.ensures.refused;
    }
