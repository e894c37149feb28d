use Rattle.std.proofs.Common.{ℕ, List, Option, subst}
use Rattle.std.proofs.lemmas.Result.{IfOk-weaker}
use Rattle.mime_fields.specs.Dispositions.{IsWrittenName, OfFile, OfType}
use Rattle.mime_fields.proofs.disposition.name_as_written.Goals as goal

pub returns-in-Some : goal.returns-in-Some
returns-in-Some c =
    OfFile c.in-Some.name c.args.file c.args.type_name (subst (λ (u : Option (List ℕ)). IsWrittenName c.args.file u) c.in-Some.is c.in_ok-name.ensures)

pub returns-in-None : goal.returns-in-None
returns-in-None c =
    let n = subst (λ (u : Option (List ℕ)). IsWrittenName c.args.file u) c.in-None.is c.in_ok-name.ensures in
    IfOk-weaker c.written_name-in-None.result _ _ (λ name w. OfType c.args.file c.args.type_name name n w) c.written_name-in-None.ensures
