use Rattle.std.proofs.Common.{map, string_bytes, ◌∙◌}
use Rattle.clap.specs.Words.{app_of}
use Rattle.gate_words.specs.reading.Commands.{show_app}
use Rattle.gate_words.proofs.ClapTasks.{refused-by, show-is}
use Rattle.gate_words.proofs.commands.show_matches.Goals as goal

pub returns : goal.returns
returns c = record {
  refused = refused-by c.found.result (app_of c.new.result) show_app (map string_bytes c.args.words.now) (c.new.ensures.app ∙ show-is) c.found.ensures.refused;
}
