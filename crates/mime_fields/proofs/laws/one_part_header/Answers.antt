use Rattle.mime_fields.proofs.OneHeader as lemmas
use Rattle.mime_fields.proofs.laws.one_part_header.Goals as goal

pub returns : goal.returns
returns c = λ fields one other g h. lemmas.one_part_header fields one other g h
