use Rattle.std.proofs.Common.{◌≡◌, ℤ, ap, ◌∙◌, unwrap_or, w64, to_z, of_z}
use Rattle.std.proofs.lemmas.Int.{to_z-of_z}
use Rattle.std.proofs.lemmas.Result.{IfOk-weaker}
use Rattle.email_creation.specs.Appends.{append_of}
use Rattle.email_import.proofs.messages.import_job.Goals as goal

-- the seconds fit, so the values that are passed are these themselves
pub returns : goal.returns
returns c =
    let now_is : to_z w64 (of_z w64 c.args.now) ≡ c.args.now = to_z-of_z w64 c.args.now c.ranges.now in
    let date_is : to_z w64 (of_z w64 c.unwrap_or.result) ≡ unwrap_or c.args.ready.date c.args.now =
    to_z-of_z w64 c.unwrap_or.result (record { sfits = c.unwrap_or.type_inv }) ∙ c.unwrap_or.ensures ∙ ap (λ (z : ℤ). unwrap_or c.args.ready.date z) now_is in
    IfOk-weaker c.append_job.result _ _ (λ job is. is ∙ ap (λ (z : ℤ). append_of c.args.ready.name c.args.ready.flags z c.args.message) date_is) c.append_job.ensures
