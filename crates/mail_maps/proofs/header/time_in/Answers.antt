use Rattle.std.proofs.Common.{ℤ, sym, subst, Option, Some}
use Rattle.mail_maps.specs.Envelope.{IsTimeOf}
use Rattle.mail_maps.specs.Envelope.IsTimeOf.{Date}
use Rattle.mail_maps.proofs.header.time_in.Goals as goal

pub returns : goal.returns
returns c =
    let P : Option ℤ → Type 0 = λ t. IsTimeOf (Some c.args.raw.now) t in
    subst P (sym c.seconds_in.ensures) (Date c.args.raw.now c.in_ok-moment.moment c.in_ok-moment.ensures)
