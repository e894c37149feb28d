use Rattle.std.proofs.Common.{take, drop, sym, ap, ◌∙◌}
use Rattle.std.proofs.lemmas.List.{take-append-drop}
use Rattle.http_service.specs.declared.lines.Place.{Place}
use Rattle.http_service.specs.reading.LineEnds.{start, run}
use Rattle.http_service.proofs.LineEndLemmas.{run-append}
use Rattle.http_service.proofs.lines.Lines.place_after.Goals as goal

pub returns : goal.returns
returns c =
    c.run.ensures
    ∙ ap (λ (p : Place). run p c.split_at.result.1.now) c.requires.place
    ∙ ap (run (run (start c.args.self) (take c.args.seen c.args.octets.now))) c.split_at.ensures.back
    ∙ sym (run-append (start c.args.self) (take c.args.seen c.args.octets.now) (drop c.args.seen c.args.octets.now))
    ∙ ap (run (start c.args.self)) (take-append-drop c.args.seen c.args.octets.now)
