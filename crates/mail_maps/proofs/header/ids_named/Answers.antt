use Rattle.std.proofs.Common.{ℕ, List, [], sym, subst, Option}
use Rattle.mail_header.specs.Fields.{last_named, names_and_raws}
use Rattle.mail_maps.specs.Envelope.{AreIdsOf}
use Rattle.mail_maps.specs.Envelope.AreIdsOf.{NoIds}
use Rattle.mail_maps.proofs.header.ids_named.Goals as goal

pub returns-in-None : goal.returns-in-None
returns-in-None c =
    let P : Option (List ℕ) → Type 0 = λ r. AreIdsOf r [] in
    let Q : List (List ℕ) → Type 0 = λ ids. AreIdsOf (last_named c.args.name.now (names_and_raws c.args.fields.now)) ids in
    subst Q (sym c.new.ensures) (subst P (sym c.in-None.ensures) NoIds)
