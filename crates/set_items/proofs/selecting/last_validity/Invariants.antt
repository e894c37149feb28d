use Rattle.std.proofs.Common.{◌≡◌, drop}
use Rattle.std.specs.List.{filter_map}
use Rattle.told_folder.specs.Keyed.{last_of}
use Rattle.told_mail.specs.Exchanges.{validity_in}
use Rattle.set_items.proofs.Lasts.{later}
use Rattle.set_items.proofs.selecting.last_validity.Given as goal

abbrev pub invariant-loop-response : goal.invariant-loop-response
invariant-loop-response l = later l.last (last_of (filter_map validity_in (drop l.response-index l.responses))) ≡ last_of (filter_map validity_in l.responses)
