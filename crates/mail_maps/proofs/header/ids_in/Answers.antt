use Rattle.std.proofs.Common.{ℕ, List, [], sym, subst, Option, Some}
use Rattle.std.specs.Option.{unwrap_or}
use Rattle.mail_maps.specs.Envelope.{AreIdsOf}
use Rattle.mail_maps.specs.Envelope.AreIdsOf.{Ids}
use Rattle.mail_maps.proofs.header.ids_in.Goals as goal

pub returns-in-None : goal.returns-in-None
returns-in-None c =
    let P : Option (List (List ℕ)) → Type 0 = λ r. AreIdsOf (Some c.args.raw.now) (unwrap_or r []) in
    let Q : List (List ℕ) → Type 0 = λ ids. AreIdsOf (Some c.args.raw.now) ids in
    subst Q (sym c.new.ensures) (subst P c.in-None.is (Ids c.args.raw.now c.in_ok-ids.ids c.in_ok-ids.ensures))

pub returns-in-Some : goal.returns-in-Some
returns-in-Some c =
    let P : Option (List (List ℕ)) → Type 0 = λ r. AreIdsOf (Some c.args.raw.now) (unwrap_or r []) in
    subst P c.in-Some.is (Ids c.args.raw.now c.in_ok-ids.ids c.in_ok-ids.ensures)
