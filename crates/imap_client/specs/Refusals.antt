-- The ends that refusals are answered with.
use Rattle.imap_exchange.specs.declared.link_end.LinkEnd.{LinkEnd}
use Rattle.imap_exchange.specs.declared.link_end.LinkEnd.TheVariants as end
use Rattle.imap_client.specs.declared.plan.Refusal.{Refusal}
use Rattle.imap_client.specs.declared.plan.Refusal.TheVariants as refusal

abbrev pub refusal_end : Refusal → LinkEnd
refusal_end refusal.Refused = end.Refused
refusal_end refusal.NoQresync = end.NoQresync
refusal_end refusal.Lacks = end.Lacks
