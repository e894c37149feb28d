use Rattle.std.proofs.Common.{◌∙◌, List, ap, sym}
use Rattle.std.specs.List.{filter_map}
use Rattle.imap_types.specs.declared.command.Command.{Command}
use Rattle.imap_types.specs.declared.response.Response.{Response}
use Rattle.told_changes.specs.Landings as landings
use Rattle.told_changes.specs.Landings.{codes_told, copied_to, first_of_all}
use Rattle.told_changes.proofs.landings.landed_uid.Goals as goal

pub returns-in-Move : goal.returns-in-Move
returns-in-Move c =
    c.moved_uid.ensures
    ∙ (ap (λ (rs : List Response). first_of_all (filter_map (copied_to c.args.validity c.in-Move.uid) (codes_told rs c.args.exchange.now.code))) c.as_slice.ensures
    ∙ ap (λ (k : Command). landings.landed_uid c.args.next_mark c.args.validity k c.args.exchange.now.responses c.args.exchange.now.code) (sym c.in-Move.is))
