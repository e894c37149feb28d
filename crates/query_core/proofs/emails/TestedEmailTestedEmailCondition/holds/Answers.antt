use Rattle.std.proofs.Common.{List, ℕ, IsTrue, ◌↔◌, IfOk, sym, subst}
use Rattle.std.proofs.lemmas.Result.{IfOk-weaker}
use Rattle.query_conditions.specs.Entries.{email_at, emails_at}
use Rattle.query_arguments.specs.declared.email_condition.EmailCondition.{EmailCondition}
use Rattle.query_core.specs.Headers.{HeaderMatches}
use Rattle.query_core.specs.Lists.{EmailMatches}
use Rattle.query_core.proofs.emails.TestedEmailTestedEmailCondition.holds.Goals as goal

pub returns-in-Header : goal.returns-in-Header
returns-in-Header c = λ known.
    let t = c.args.self.now in
    subst (λ (asked : EmailCondition). IfOk c.header_matches.result (λ b. IsTrue b ↔ EmailMatches (emails_at t.emails.now) (email_at t.email) asked)) (sym c.in-Header.is)
    (IfOk-weaker c.header_matches.result _ _ (λ b same.
    subst (λ (header : List ℕ). IsTrue b ↔ HeaderMatches header c.in-Header.name c.in-Header.words) c.as_slice-header.ensures
    (subst (λ (name : List ℕ). IsTrue b ↔ HeaderMatches c.as_slice-header.result.now name c.in-Header.words) c.as_slice.ensures same)) c.header_matches.ensures)
