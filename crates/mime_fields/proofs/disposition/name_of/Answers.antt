use Rattle.std.proofs.Common.{ℕ, List, Option, Some, sym, subst}
use Rattle.mime_fields.specs.Dispositions.{IsFileName, Extended}
use Rattle.mime_fields.proofs.disposition.name_of.Goals as goal

pub returns-in-Some : goal.returns-in-Some
returns-in-Some c =
    subst (λ (u : Option (List ℕ)). IsFileName u c.args.file c.args.type_name (Some c.in-Some.name)) (sym c.in-Some.is)
    (Extended c.in-Some.name c.args.file c.args.type_name)
