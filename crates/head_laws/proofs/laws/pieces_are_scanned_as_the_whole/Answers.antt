use Rattle.head_laws.proofs.Looking as lemmas
use Rattle.head_laws.proofs.laws.pieces_are_scanned_as_the_whole.Goals as goal

pub returns : goal.returns
returns c = λ octets more. lemmas.looked_through octets more
