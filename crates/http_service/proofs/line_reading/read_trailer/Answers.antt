use Rattle.std.proofs.Common.{ap, sym, subst, ◌∙◌, List, ℕ, Option, Ok, Err, Some, None, ◌++◌}
use Rattle.std.proofs.lemmas.Result.{err_from_is_err_and}
use Rattle.gate_world.proofs.Joins.{widen}
use Rattle.http_service.specs.declared.lines.Lines.TheVariants as lines
use Rattle.http_service.specs.declared.line_reading.Stop.{Stop}
use Rattle.http_service.specs.Taking.{window}
use Rattle.http_service.specs.reading.Parses.{ParsesTrailer}
use Rattle.http_service.specs.reading.Steps.{IsStopped, ReadsLines}
use Rattle.http_service.proofs.LineEndLemmas.{trailer_open}
use Rattle.http_service.proofs.LineReadingLemmas.{lines_read, trailer_found, trailer_outside, trailer_not_read, trailer_full, trailer_short}
use Rattle.http_service.proofs.line_reading.read_trailer.Goals as goal

pub returns-in_err-stop-clause-tape : goal.returns-in_err-stop-clause-tape
returns-in_err-stop-clause-tape g c =
    let is = err_from_is_err_and c.from_residual.result c.from_residual.ensures.1 in
    rw (is.1, is.2) (widen _ c.in_err-stop.ensures.tape (λ es reads. trailer_outside es c.in_err-stop.field-0.0 reads))

pub returns-in_err-length-clause-tape : goal.returns-in_err-length-clause-tape
returns-in_err-length-clause-tape g c =
    let is = err_from_is_err_and c.from_residual-in_err-length.result c.from_residual-in_err-length.ensures.1 in
    let here = c.window.ensures ∙ ap window c.as_slice.ensures in
    let parses = subst (λ (l : List ℕ). ParsesTrailer l (Err c.in_err-length.field-0.0)) here c.in_err-length.ensures in
    rw (is.1, is.2) (widen _ c.in_ok-stop.ensures.tape (λ es reads. trailer_not_read es c.in_ok-stop.stop c.in_err-length.field-0.0 c.in_ok-stop.ensures.stop reads parses))

pub skip-requires : goal.skip-requires
skip-requires g c =
    let here = c.window.ensures ∙ ap window c.as_slice.ensures in
    let parses = subst (λ (l : List ℕ). ParsesTrailer l (Ok (Some c.in-Some.length))) here
    (subst (λ (r : Option (ℕ)). ParsesTrailer c.window.result.now (Ok r)) c.in-Some.is c.in_ok-length.ensures) in
    (trailer_found c.read_lines.new.spare c.in-Some.length parses).3

pub unreachable-requires : goal.unreachable-requires
unreachable-requires g c =
    let here = c.window.ensures ∙ ap window c.as_slice.ensures in
    let none = subst (λ (l : List ℕ). ParsesTrailer l (Ok None)) here (subst (λ (r : Option (ℕ)). ParsesTrailer c.window.result.now (Ok r)) c.in-None.is c.in_ok-length.ensures) in
    let ended = subst (λ (s : Stop). IsStopped lines.Trailer s c.read_lines.new.spare) c.in-Ended.is c.in_ok-stop.ensures.stop in
    trailer_open (window c.read_lines.new.spare) none.0 none.1 ended

pub returns-in-Some-clause-tape : goal.returns-in-Some-clause-tape
returns-in-Some-clause-tape g c =
    let here = c.window.ensures ∙ ap window c.as_slice.ensures in
    let parses = subst (λ (l : List ℕ). ParsesTrailer l (Ok (Some c.in-Some.length))) here
    (subst (λ (r : Option (ℕ)). ParsesTrailer c.window.result.now (Ok r)) c.in-Some.is c.in_ok-length.ensures) in
    let found = trailer_found c.read_lines.new.spare c.in-Some.length parses in
    let whole = found.1 ∙ ap (λ (l : List ℕ). found.0 ++ l) (sym c.skip.ensures) in
    widen _ c.in_ok-stop.ensures.tape (λ es reads. (found.0, lines_read lines.Trailer c.in_ok-stop.stop found.0 c.skip.new.self reads whole found.4, found.2))

pub returns-in-Full-clause-tape : goal.returns-in-Full-clause-tape
returns-in-Full-clause-tape g c =
    let here = c.window.ensures ∙ ap window c.as_slice.ensures in
    let none = subst (λ (l : List ℕ). ParsesTrailer l (Ok None)) here (subst (λ (r : Option (ℕ)). ParsesTrailer c.window.result.now (Ok r)) c.in-None.is c.in_ok-length.ensures) in
    let full = subst (λ (s : Stop). IsStopped lines.Trailer s c.read_lines.new.spare) c.in-Full.is c.in_ok-stop.ensures.stop in
    widen _ c.in_ok-stop.ensures.tape (λ es reads. trailer_full full
    (subst (λ (s : Stop). ReadsLines lines.Trailer c.args.spare.now c.read_lines.new.spare (Ok s) es) c.in-Full.is reads) none.0)

pub returns-in-Closed-clause-tape : goal.returns-in-Closed-clause-tape
returns-in-Closed-clause-tape g c =
    let here = c.window.ensures ∙ ap window c.as_slice.ensures in
    let none = subst (λ (l : List ℕ). ParsesTrailer l (Ok None)) here (subst (λ (r : Option (ℕ)). ParsesTrailer c.window.result.now (Ok r)) c.in-None.is c.in_ok-length.ensures) in
    widen _ c.in_ok-stop.ensures.tape (λ es reads. trailer_short
    (subst (λ (s : Stop). ReadsLines lines.Trailer c.args.spare.now c.read_lines.new.spare (Ok s) es) c.in-Closed.is reads) none)
