use Rattle.std.proofs.Common.{◌≡◌, map, string_bytes, ap, ◌∙◌}
use Rattle.clap.specs.Words.{app_of}
use Rattle.gate_words.specs.reading.Commands.{once_app, with_place}
use Rattle.gate_words.proofs.ClapTasks.{once-is, once-simple, refused-by, rows-by}
use Rattle.gate_words.proofs.commands.once_matches.Goals as goal

pub returns : goal.returns
returns c =
    let words = map string_bytes c.args.words.now in
    let is : app_of c.in_ok-command.command ≡ once_app = c.in_ok-command.ensures ∙ ap with_place c.new.ensures.app ∙ once-is in
    record {
      found = rows-by c.found.result (app_of c.in_ok-command.command) once_app words is once-simple c.found.ensures.matches;
      refused = refused-by c.found.result (app_of c.in_ok-command.command) once_app words is c.found.ensures.refused;
    }
