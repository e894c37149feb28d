use Rattle.std.proofs.Common.{sym, ◌∙◌}
use Rattle.loose_addresses.proofs.OutsideLemmas.{not_less, less_told}
use Rattle.loose_addresses.proofs.outside.angle_in.Goals as goal

pub returns-then-first_octet-ne60 : goal.returns-then-first_octet-ne60
returns-then-first_octet-ne60 c = not_less c.args.lump.now (λ e. c.if-first_octet-ne60.true (c.first_octet.ensures ∙ e))

pub returns : goal.returns
returns c = less_told c.args.lump.now c.last_angle.result (sym c.first_octet.ensures ∙ c.if-first_octet-ne60.false) c.last_angle.ensures
