use Rattle.std.proofs.Common.{take, ap, ◌∙◌}
use Rattle.gate_world.proofs.Joins.{widen}
use Rattle.http_service.proofs.ChunkLemmas.{data_read}
use Rattle.http_service.proofs.chunks.read_data.Goals as goal

pub returns-clause-tape : goal.returns-clause-tape
returns-clause-tape g c =
    widen _ c.in_ok-fill_to.ensures.tape (λ es fills.
    data_read es c.args.size c.args.body.now.items c.extend_from_slice.new.self.items c.split_at.result.0.now c.skip.new.self fills c.skip.ensures
    (c.split_at.ensures.front ∙ ap (take c.args.size) c.as_slice.ensures) c.in_ok-extend_from_slice.ensures.items)
