use Rattle.std.proofs.Common.{◌≡◌, map, string_bytes, ap, ◌∙◌}
use Rattle.clap.specs.Words.{app_of}
use Rattle.gate_words.specs.reading.Commands.{store_app, with_listening}
use Rattle.gate_words.proofs.ClapTasks.{refused-by, rows-by, store-is, store-simple}
use Rattle.gate_words.proofs.commands.store_matches.Goals as goal

pub returns : goal.returns
returns c =
    let words = map string_bytes c.args.words.now in
    let is : app_of c.in_ok-command.command ≡ store_app = c.in_ok-command.ensures ∙ ap with_listening c.new.ensures.app ∙ store-is in
    record {
      found = rows-by c.found.result (app_of c.in_ok-command.command) store_app words is store-simple c.found.ensures.matches;
      refused = refused-by c.found.result (app_of c.in_ok-command.command) store_app words is c.found.ensures.refused;
    }
