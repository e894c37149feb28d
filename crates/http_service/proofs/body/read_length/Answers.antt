use Rattle.std.proofs.Common.{◌∙◌}
use Rattle.std.proofs.lemmas.Result.{err_from_is_err_and}
use Rattle.gate_world.proofs.Joins.{widen}
use Rattle.http_service.proofs.ChunkLemmas.{length_memory, length_read}
use Rattle.http_service.proofs.body.read_length.Goals as goal

pub returns-in_err-from_vec-clause-tape : goal.returns-in_err-from_vec-clause-tape
returns-in_err-from_vec-clause-tape g c =
    let is = err_from_is_err_and c.from_residual-in_err-from_vec.result c.from_residual-in_err-from_vec.ensures.1 in
    rw (is.1, is.2) (widen _ c.in_ok-fill_to.ensures.tape (λ es fills. length_memory es c.args.size c.take_octets.new.spare fills c.in_ok-body.ensures.rest))

pub returns-clause-tape : goal.returns-clause-tape
returns-clause-tape g c =
    widen _ c.in_ok-fill_to.ensures.tape (λ es fills. length_read es c.args.size c.take_octets.new.spare c.in_ok-from_vec.field-0 fills c.in_ok-body.ensures.rest
    (c.in_ok-from_vec.ensures ∙ c.in_ok-body.ensures.taken))
