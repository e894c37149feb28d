use Rattle.std.proofs.Common.{◌∙◌, ap}
use Rattle.honest_store.specs.Headers.{header_section}
use Rattle.small_mail.proofs.HeaderFronts.{header_of_front}
use Rattle.small_mail.proofs.headers.header_told.Goals as goal

pub returns : goal.returns
returns c = c.header_section.ensures ∙ (ap header_section c.front.ensures ∙ header_of_front 32768 c.args.octets.now)
