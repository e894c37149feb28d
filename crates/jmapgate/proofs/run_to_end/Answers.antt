use Rattle.jmapgate.proofs.run_to_end.Goals as goal

pub returns : goal.returns
returns g c = (_, c.end.ensures.ends)
