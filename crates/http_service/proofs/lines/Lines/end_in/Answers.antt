use Rattle.std.proofs.Common.{arith, sym, ap, ◌∙◌, get_or}
use Rattle.http_service.specs.declared.lines.Place.{Place}
use Rattle.http_service.specs.reading.LineEnds.{start, step}
use Rattle.http_service.proofs.LineEndLemmas.{run_more}
use Rattle.http_service.proofs.lines.Lines.end_in.Goals as goal

pub loop-at-preserved : goal.loop-at-preserved
loop-at-preserved c =
    c.step-place.ensures ∙ ap (λ (p : Place). step p (get_or c.args.octets.now c.loop-at.at 0)) c.loop-at.invariant
    ∙ sym (run_more (start c.args.self) c.args.octets.now c.loop-at.at (omega arith))
