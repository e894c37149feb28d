use Rattle.std.proofs.Common.{ap, sym, subst, arith, ◌∙◌, List, ℕ, Option, Ok, Err, Some, None, ◌++◌}
use Rattle.std.proofs.lemmas.Result.{err_from_is_err_and}
use Rattle.gate_world.proofs.Joins.{widen}
use Rattle.http_service.specs.declared.lines.Lines.TheVariants as lines
use Rattle.http_service.specs.declared.line_reading.Stop.{Stop}
use Rattle.http_service.specs.Taking.{window}
use Rattle.http_service.specs.reading.Parses.{ParsesLine}
use Rattle.http_service.specs.reading.Steps.{IsStopped, ReadsLines}
use Rattle.http_service.proofs.LineEndLemmas.{line_open}
use Rattle.http_service.proofs.LineReadingLemmas.{lines_read, line_found, line_outside, line_refused, line_full, line_short}
use Rattle.http_service.proofs.line_reading.read_line.Goals as goal

pub returns-in_err-stop-clause-tape : goal.returns-in_err-stop-clause-tape
returns-in_err-stop-clause-tape g c =
    let is = err_from_is_err_and c.from_residual.result c.from_residual.ensures.1 in
    rw (is.1, is.2) (widen _ c.in_err-stop.ensures.tape (λ es reads. line_outside es c.in_err-stop.field-0.0 reads))

pub returns-in_err-length-clause-tape : goal.returns-in_err-length-clause-tape
returns-in_err-length-clause-tape g c =
    let is = err_from_is_err_and c.from_residual-in_err-length.result c.from_residual-in_err-length.ensures.1 in
    let here = c.window.ensures ∙ ap window c.as_slice.ensures in
    let parses = subst (λ (l : List ℕ). ParsesLine l (Err c.in_err-length.field-0.0)) here c.in_err-length.ensures in
    rw (is.1, is.2) (widen _ c.in_ok-stop.ensures.tape (λ es reads. line_refused es c.in_ok-stop.stop c.in_err-length.field-0.0 c.in_ok-stop.ensures.stop reads parses))

pub skip-requires : goal.skip-requires
skip-requires g c =
    let here = c.window.ensures ∙ ap window c.as_slice.ensures in
    let parses = subst (λ (l : List ℕ). ParsesLine l (Ok (Some (c.in-Some.length, c.in-Some.size)))) here
    (subst (λ (r : Option (ℕ × ℕ)). ParsesLine c.window.result.now (Ok r)) c.in-Some.is c.in_ok-length.ensures) in
    (line_found c.read_lines.new.spare c.in-Some.length c.in-Some.size parses).3

pub unreachable-requires : goal.unreachable-requires
unreachable-requires g c =
    let here = c.window.ensures ∙ ap window c.as_slice.ensures in
    let none = subst (λ (l : List ℕ). ParsesLine l (Ok None)) here (subst (λ (r : Option (ℕ × ℕ)). ParsesLine c.window.result.now (Ok r)) c.in-None.is c.in_ok-length.ensures) in
    let ended = subst (λ (s : Stop). IsStopped lines.ChunkLine s c.read_lines.new.spare) c.in-Ended.is c.in_ok-stop.ensures.stop in
    line_open (window c.read_lines.new.spare) none.0 none.1 ended

pub returns-in-Some-clause-tape : goal.returns-in-Some-clause-tape
returns-in-Some-clause-tape g c =
    let here = c.window.ensures ∙ ap window c.as_slice.ensures in
    let parses = subst (λ (l : List ℕ). ParsesLine l (Ok (Some (c.in-Some.length, c.in-Some.size)))) here
    (subst (λ (r : Option (ℕ × ℕ)). ParsesLine c.window.result.now (Ok r)) c.in-Some.is c.in_ok-length.ensures) in
    let found = line_found c.read_lines.new.spare c.in-Some.length c.in-Some.size parses in
    let whole = found.1 ∙ ap (λ (l : List ℕ). found.0 ++ l) (sym c.skip.ensures) in
    widen _ c.in_ok-stop.ensures.tape (λ es reads. (found.0, lines_read lines.ChunkLine c.in_ok-stop.stop found.0 c.skip.new.self reads whole found.4, found.2, found.5))

pub returns-in-Some-clause-short : goal.returns-in-Some-clause-short
returns-in-Some-clause-short g c =
    let here = c.window.ensures ∙ ap window c.as_slice.ensures in
    let parses = subst (λ (l : List ℕ). ParsesLine l (Ok (Some (c.in-Some.length, c.in-Some.size)))) here
    (subst (λ (r : Option (ℕ × ℕ)). ParsesLine c.window.result.now (Ok r)) c.in-Some.is c.in_ok-length.ensures) in
    let found = line_found c.read_lines.new.spare c.in-Some.length c.in-Some.size parses in
    omega (arith, found.5, found.2.4)

pub returns-in-Full-clause-tape : goal.returns-in-Full-clause-tape
returns-in-Full-clause-tape g c =
    let here = c.window.ensures ∙ ap window c.as_slice.ensures in
    let none = subst (λ (l : List ℕ). ParsesLine l (Ok None)) here (subst (λ (r : Option (ℕ × ℕ)). ParsesLine c.window.result.now (Ok r)) c.in-None.is c.in_ok-length.ensures) in
    let full = subst (λ (s : Stop). IsStopped lines.ChunkLine s c.read_lines.new.spare) c.in-Full.is c.in_ok-stop.ensures.stop in
    widen _ c.in_ok-stop.ensures.tape (λ es reads. line_full full (subst
    (λ (s : Stop). ReadsLines lines.ChunkLine c.args.spare.now c.read_lines.new.spare (Ok s) es) c.in-Full.is reads) none.0)

pub returns-in-Closed-clause-tape : goal.returns-in-Closed-clause-tape
returns-in-Closed-clause-tape g c =
    let here = c.window.ensures ∙ ap window c.as_slice.ensures in
    let none = subst (λ (l : List ℕ). ParsesLine l (Ok None)) here (subst (λ (r : Option (ℕ × ℕ)). ParsesLine c.window.result.now (Ok r)) c.in-None.is c.in_ok-length.ensures) in
    widen _ c.in_ok-stop.ensures.tape (λ es reads. line_short
    (subst (λ (s : Stop). ReadsLines lines.ChunkLine c.args.spare.now c.read_lines.new.spare (Ok s) es) c.in-Closed.is reads) none)
