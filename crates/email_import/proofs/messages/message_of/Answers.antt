use Rattle.std.proofs.Common.{◌≡◌, ◌∙◌, false, sym, ap}
use Rattle.email_import.specs.reading.Found.{has_bare_lf}
use Rattle.email_import.proofs.FindLemmas.{same_lines}
use Rattle.email_import.proofs.messages.message_of.Goals as goal

pub returns-then-not-has_bare_lf : goal.returns-then-not-has_bare_lf
returns-then-not-has_bare_lf c =
    let none : has_bare_lf c.args.octets ≡ false = ap has_bare_lf (sym c.as_slice.ensures) ∙ sym c.has_bare_lf.ensures ∙ c.if-not-has_bare_lf.true in
    sym (same_lines c.args.octets none)
