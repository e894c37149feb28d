use Rattle.std.proofs.Common.{◌∙◌, ap}
use Rattle.std.specs.Option.{option_map}
use Rattle.mail_maps.proofs.GroupLemmas.{seconds, among_is}
use Rattle.mail_maps.proofs.threads.threads_among.Goals as goal

pub returns : goal.returns
returns c = λ t.
    c.in_ok-threads.ensures t ∙ ap (option_map seconds) (c.in_ok-groups.ensures t) ∙ among_is c.args.among.now c.args.emails.now.entries t
