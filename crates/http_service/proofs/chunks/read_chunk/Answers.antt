use Rattle.std.proofs.lemmas.Result.{err_from_is_err_and}
use Rattle.gate_world.proofs.Joins.{join}
use Rattle.http_service.proofs.ChunkLemmas.{return_stops, returned, chunk_end, Returned}
use Rattle.http_service.proofs.chunks.read_chunk.Goals as goal

pub returns-in_err-read_octet-clause-tape : goal.returns-in_err-read_octet-clause-tape
returns-in_err-read_octet-clause-tape g c =
    let is = err_from_is_err_and c.from_residual-in_err-read_octet.result c.from_residual-in_err-read_octet.ensures.1 in
    rw (is.1, is.2) (join _ c.in_ok-read_data.ensures.tape c.in_err-read_octet.ensures.tape (λ x y so breaks. return_stops y c.args.size so.1 so.2 breaks))

pub returns-clause-tape : goal.returns-clause-tape
returns-clause-tape g c =
    let both = join
    (Returned c.args.size c.args.body.now.items c.read_data.new.body.items c.args.spare.now c.read_octet.new.spare) c.in_ok-read_data.ensures.tape
    c.in_ok-read_octet.ensures.tape (λ x y so back. returned c.args.body.now.items c.read_data.new.body.items c.read_octet.new.spare y c.args.size so back) in
    join _ both c.read_octet-2.ensures.tape
    (λ x y so feed. chunk_end c.args.body.now.items c.read_data.new.body.items c.read_octet-2.new.spare y c.args.size c.read_octet-2.result so feed)
