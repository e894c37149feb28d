use Rattle.std.proofs.Common.{map, string_bytes, ◌∙◌}
use Rattle.gate_words.proofs.ClapTasks.{show-takes}
use Rattle.gate_words.proofs.reading.show.Goals.{in-Ok, in-Err}
use Rattle.gate_words.proofs.reading.show.Goals as goal

pub returns-clause-refused : goal.returns-clause-refused
returns-clause-refused c =
    elim c.match-show_matches.branch [
      | in-Ok w ↦ rw w.result-is tt
      | in-Err w ↦ rw w.result-is (λ is none. w.in-Err.ensures.refused is (show-takes (map string_bytes c.args.words.now) (c.requires.words ∙ none)))
    ]
