use Rattle.std.proofs.Common.{◌≡◌, ◌<◌, ◌≤◌, ◌+◌, ◌-◌, ℕ, List, length, subst, sym, arith, rules, Ok}
use Rattle.std.proofs.lemmas.Result.{err_from_is_err_and}
use Rattle.gate_world.proofs.Joins.{join, widen}
use Rattle.http_service.specs.declared.chunks.TheConstants.{FREE_LINE_OCTETS, MAX_EXCESS_OCTETS}
use Rattle.http_service.specs.ReadChunked.{ReadsChunks}
use Rattle.http_service.proofs.ChunkLemmas.{Gathered, LineRead, after_line, line_stops, excess_stops, limit_stops, trailer_stops, chunk_stops, chunk_read, body_read}
use Rattle.http_service.proofs.ChunkLemmas.{body_memory}
use Rattle.http_service.proofs.chunks.read_chunks.Goals as goal

pub returns-in_err-line-clause-tape : goal.returns-in_err-line-clause-tape
returns-in_err-line-clause-tape g c =
    let is = err_from_is_err_and c.from_residual.result c.from_residual.ensures.1 in
    rw (is.1, is.2) (join _ c.chunks.invariant.tape c.in_err-line.ensures.tape
    (λ x y gathered reads. line_stops c.args.limit c.chunks.body.items c.chunks.excess c.read_line.new.spare c.in_err-line.field-0.0 y c.chunks.invariant.keeps gathered reads))

pub returns-in_err-read_trailer-clause-tape : goal.returns-in_err-read_trailer-clause-tape
returns-in_err-read_trailer-clause-tape g c =
    let is = err_from_is_err_and c.from_residual-in_err-read_trailer.result c.from_residual-in_err-read_trailer.ensures.1 in
    let line = join (LineRead c.args.spare.now c.read_line.new.spare c.chunks.body.items c.chunks.excess c.in_ok-line.line c.in_ok-line.size) c.chunks.invariant.tape
    c.in_ok-line.ensures.tape
    (λ x y gathered reads. after_line c.chunks.body.items c.chunks.excess c.read_line.new.spare c.in_ok-line.line c.in_ok-line.size y gathered reads) in
    rw (is.1, is.2) (join _ line c.in_err-read_trailer.ensures.tape
    (λ x y so reads. trailer_stops c.args.limit c.chunks.body.items c.chunks.excess c.in_ok-line.line c.read_trailer.new.spare c.in_err-read_trailer.field-0.0 y
    c.chunks.invariant.keeps
    (subst (λ (n : ℕ). LineRead c.args.spare.now c.read_line.new.spare c.chunks.body.items c.chunks.excess c.in_ok-line.line n x) c.if-size-eq0.true so) reads))

pub returns-in_err-from_vec-clause-tape : goal.returns-in_err-from_vec-clause-tape
returns-in_err-from_vec-clause-tape g c =
    let is = err_from_is_err_and c.from_residual-in_err-from_vec.result c.from_residual-in_err-from_vec.ensures.1 in
    let line = join (LineRead c.args.spare.now c.read_line.new.spare c.chunks.body.items c.chunks.excess c.in_ok-line.line c.in_ok-line.size) c.chunks.invariant.tape
    c.in_ok-line.ensures.tape
    (λ x y gathered reads. after_line c.chunks.body.items c.chunks.excess c.read_line.new.spare c.in_ok-line.line c.in_ok-line.size y gathered reads) in
    rw (is.1, is.2) (join _ line c.in_ok-read_trailer.ensures.tape
    (λ x y so reads. body_memory c.args.limit c.chunks.body.items c.chunks.excess c.in_ok-line.line c.read_trailer.new.spare y c.chunks.invariant.keeps
    (subst (λ (n : ℕ). LineRead c.args.spare.now c.read_line.new.spare c.chunks.body.items c.chunks.excess c.in_ok-line.line n x) c.if-size-eq0.true so) reads))

pub returns-then-size-eq0-clause-tape : goal.returns-then-size-eq0-clause-tape
returns-then-size-eq0-clause-tape g c =
    let line = join (LineRead c.args.spare.now c.read_line.new.spare c.chunks.body.items c.chunks.excess c.in_ok-line.line c.in_ok-line.size) c.chunks.invariant.tape
    c.in_ok-line.ensures.tape
    (λ x y gathered reads. after_line c.chunks.body.items c.chunks.excess c.read_line.new.spare c.in_ok-line.line c.in_ok-line.size y gathered reads) in
    let whole = join (ReadsChunks c.args.limit c.args.spare.now c.read_trailer.new.spare (Ok c.chunks.body.items)) line c.in_ok-read_trailer.ensures.tape
    (λ x y so reads. body_read c.args.limit c.chunks.body.items c.chunks.excess c.in_ok-line.line c.read_trailer.new.spare y c.chunks.invariant.keeps
    (subst (λ (n : ℕ). LineRead c.args.spare.now c.read_line.new.spare c.chunks.body.items c.chunks.excess c.in_ok-line.line n x) c.if-size-eq0.true so) reads) in
    widen _ whole (λ x so. subst (λ (l : List ℕ). ReadsChunks c.args.limit c.args.spare.now c.read_trailer.new.spare (Ok l) x) (sym c.in_ok-from_vec.ensures) so)

pub returns-then-excess-gt-MAX_EXCESS_OCTETS-clause-tape : goal.returns-then-excess-gt-MAX_EXCESS_OCTETS-clause-tape
returns-then-excess-gt-MAX_EXCESS_OCTETS-clause-tape g c =
    let line = join (LineRead c.args.spare.now c.read_line.new.spare c.chunks.body.items c.chunks.excess c.in_ok-line.line c.in_ok-line.size) c.chunks.invariant.tape
    c.in_ok-line.ensures.tape
    (λ x y gathered reads. after_line c.chunks.body.items c.chunks.excess c.read_line.new.spare c.in_ok-line.line c.in_ok-line.size y gathered reads) in
    let passes : MAX_EXCESS_OCTETS < c.chunks.excess + (c.in_ok-line.line - FREE_LINE_OCTETS) =
    omega (arith, c.if-excess-gt-MAX_EXCESS_OCTETS.true, c.saturating_sub.ensures) in
    widen _ line (λ x so. excess_stops c.args.limit c.chunks.body.items c.chunks.excess c.in_ok-line.line c.in_ok-line.size c.chunks.invariant.keeps c.if-size-eq0.false passes so)

pub returns-then-limit-len-clause-tape : goal.returns-then-limit-len-clause-tape
returns-then-limit-len-clause-tape g c =
    let line = join (LineRead c.args.spare.now c.read_line.new.spare c.chunks.body.items c.chunks.excess c.in_ok-line.line c.in_ok-line.size) c.chunks.invariant.tape
    c.in_ok-line.ensures.tape
    (λ x y gathered reads. after_line c.chunks.body.items c.chunks.excess c.read_line.new.spare c.in_ok-line.line c.in_ok-line.size y gathered reads) in
    let few : c.chunks.excess + (c.in_ok-line.line - FREE_LINE_OCTETS) ≤ MAX_EXCESS_OCTETS = omega (arith, c.if-excess-gt-MAX_EXCESS_OCTETS.false, c.saturating_sub.ensures) in
    let over : c.args.limit < length c.chunks.body.items + c.in_ok-line.size = omega (arith, c.if-limit-len.true, c.len.ensures, c.chunks.body.ok.0) in
    widen _ line (λ x so. limit_stops c.args.limit c.chunks.body.items c.chunks.excess c.in_ok-line.line c.in_ok-line.size c.chunks.invariant.keeps few over so)

pub returns-in_err-read_chunk-clause-tape : goal.returns-in_err-read_chunk-clause-tape
returns-in_err-read_chunk-clause-tape g c =
    let is = err_from_is_err_and c.from_residual-in_err-read_chunk.result c.from_residual-in_err-read_chunk.ensures.1 in
    let line = join (LineRead c.args.spare.now c.read_line.new.spare c.chunks.body.items c.chunks.excess c.in_ok-line.line c.in_ok-line.size) c.chunks.invariant.tape
    c.in_ok-line.ensures.tape
    (λ x y gathered reads. after_line c.chunks.body.items c.chunks.excess c.read_line.new.spare c.in_ok-line.line c.in_ok-line.size y gathered reads) in
    let few : c.chunks.excess + (c.in_ok-line.line - FREE_LINE_OCTETS) ≤ MAX_EXCESS_OCTETS = omega (arith, c.if-excess-gt-MAX_EXCESS_OCTETS.false, c.saturating_sub.ensures) in
    let fits : length c.chunks.body.items + c.in_ok-line.size ≤ c.args.limit =
    omega (arith, c.if-limit-len.false, c.len.ensures, c.chunks.invariant.keeps.octets, c.chunks.body.ok.0) in
    rw (is.1, is.2) (join _ line c.in_err-read_chunk.ensures.tape
    (λ x y so reads. chunk_stops c.args.limit c.chunks.body.items c.read_chunk.new.body.items c.chunks.excess c.in_ok-line.line c.read_chunk.new.spare c.in_ok-line.size
    c.in_err-read_chunk.field-0.0 y c.chunks.invariant.keeps few fits c.if-size-eq0.false so reads))

pub chunks-preserved : goal.chunks-preserved
chunks-preserved g c =
    let line = join (LineRead c.args.spare.now c.read_line.new.spare c.chunks.body.items c.chunks.excess c.in_ok-line.line c.in_ok-line.size) c.chunks.invariant.tape
    c.in_ok-line.ensures.tape
    (λ x y gathered reads. after_line c.chunks.body.items c.chunks.excess c.read_line.new.spare c.in_ok-line.line c.in_ok-line.size y gathered reads) in
    let few : c.chunks.excess + (c.in_ok-line.line - FREE_LINE_OCTETS) ≤ MAX_EXCESS_OCTETS = omega (arith, c.if-excess-gt-MAX_EXCESS_OCTETS.false, c.saturating_sub.ensures) in
    let longer : c.read_chunk.new.body.len ≡ c.chunks.body.len + c.in_ok-line.size = c.in_ok-read_chunk.ensures.grows in
    let more = join (Gathered c.args.spare.now c.read_chunk.new.spare c.read_chunk.new.body.items (c.chunks.excess + (c.in_ok-line.line - FREE_LINE_OCTETS))) line
    c.in_ok-read_chunk.ensures.tape
    (λ x y so reads. chunk_read c.chunks.body.items c.read_chunk.new.body.items c.chunks.excess c.in_ok-line.line c.read_chunk.new.spare c.in_ok-line.size y c.if-size-eq0.false
    so reads) in
    record {
      tape = widen _ more (λ x so. subst (λ (n : ℕ). Gathered c.args.spare.now c.read_chunk.new.spare c.read_chunk.new.body.items (c.chunks.excess + n) x)
          (sym c.saturating_sub.ensures) so);
      keeps = record {
        octets = omega (arith, c.if-limit-len.false, c.len.ensures, longer, c.chunks.invariant.keeps.octets, c.chunks.body.ok.0, c.read_chunk.new.body.ok.0);
        lines = omega (arith, c.if-excess-gt-MAX_EXCESS_OCTETS.false);
      };
      alone = search rules;
      hidden = search rules;
    }
