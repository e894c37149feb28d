use Rattle.std.proofs.Common.{◌∙◌}
use Rattle.gate_serving.proofs.Asked.{kept_upload, large_upload}
use Rattle.gate_serving.proofs.reading.asking_of_upload.Goals as goal

pub returns-in-Some : goal.returns-in-Some
returns-in-Some c = kept_upload c.args.media c.args.octets c.in-Some.upload.media c.in-Some.upload.octets c.in-Some.ensures.0 c.in-Some.ensures.1 c.in-Some.ensures.2

pub returns-in-None : goal.returns-in-None
returns-in-None c = c.too_large.ensures ∙ large_upload c.args.media c.args.octets c.in-None.ensures
