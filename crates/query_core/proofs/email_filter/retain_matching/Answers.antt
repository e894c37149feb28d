use Rattle.std.proofs.Common.{ℕ, rules}
use Rattle.mail_maps.specs.Serve.{Email}
use Rattle.query_conditions.specs.Entries.{email_at}
use Rattle.query_conditions.specs.Records.{RecordMatches}
use Rattle.query_conditions.specs.declared.entry.EmailEntry.{EmailEntry}
use Rattle.query_core.proofs.NarrowLemmas.{keeps_retained}
use Rattle.query_core.proofs.email_filter.retain_matching.Goals as goal

pub returns : goal.returns
returns c =
    keeps_retained _ (λ (e : ℕ × Email). RecordMatches e.1 c.args.condition.now) (λ (e : EmailEntry). let p : ℕ × Email = (e.number, email_at e) in p) _
    (λ x b q called. search rules) _ _ c.retain.ensures.filtered
