use Rattle.std.proofs.Common.{◌≡◌, map, string_bytes, ap, ◌∙◌}
use Rattle.clap.specs.Words.{app_of}
use Rattle.gate_words.specs.reading.Commands.{serve_app, with_listening, with_place}
use Rattle.gate_words.proofs.ClapTasks.{refused-by, rows-by, serve-is, serve-simple}
use Rattle.gate_words.proofs.commands.serve_matches.Goals as goal

pub returns : goal.returns
returns c =
    let words = map string_bytes c.args.words.now in
    let placed = c.in_ok-placed.ensures ∙ ap with_place c.new.ensures.app in
    let is : app_of c.in_ok-command.command ≡ serve_app = c.in_ok-command.ensures ∙ ap with_listening placed ∙ serve-is in
    record {
      found = rows-by c.found.result (app_of c.in_ok-command.command) serve_app words is serve-simple c.found.ensures.matches;
      refused = refused-by c.found.result (app_of c.in_ok-command.command) serve_app words is c.found.ensures.refused;
    }
