use Rattle.std.proofs.Common.{◌≡◌, ℕ, sym, ◌∙◌}
use Rattle.std.proofs.lemmas.Result.{IfOk-weaker}
use Rattle.mail_maps.specs.Serve.{Email}
use Rattle.query_conditions.specs.Entries.{emails_at}
use Rattle.query_core.specs.Lists.{EmailMatches}
use Rattle.query_core.specs.reading.ConditionsRead.{reads_text}
use Rattle.query_core.proofs.KeptLemmas.{keeps_same}
use Rattle.query_core.proofs.NarrowLemmas.{keeps_all, other_if, same_if}
use Rattle.query_core.proofs.email_filter.narrowed_if.Goals as goal

pub returns-then-reads_text-of_texts : goal.returns-then-reads_text-of_texts
returns-then-reads_text-of_texts c = λ knows.
    let all = emails_at c.args.emails.now in
    let condition = c.args.condition.now in
    let is : reads_text condition ≡ c.args.of_texts = sym c.reads_text.ensures ∙ same_if c.reads_text.result c.args.of_texts c.if-reads_text-of_texts.true in
    IfOk-weaker c.satisfying.result _ _
    (λ v keeps.
    keeps_same (λ (e : ℕ × Email). EmailMatches all e.1 condition) (λ (e : ℕ × Email). reads_text condition ≡ c.args.of_texts → EmailMatches all e.1 condition)
    (emails_at c.args.rows.items) (emails_at v.items) (λ e. ((λ holds so. holds), (λ holds. holds is)))
    keeps)
    (c.satisfying.ensures knows)

pub returns-else-reads_text-of_texts : goal.returns-else-reads_text-of_texts
returns-else-reads_text-of_texts c = λ knows.
    let all = emails_at c.args.emails.now in
    let condition = c.args.condition.now in
    keeps_all (λ (e : ℕ × Email). reads_text condition ≡ c.args.of_texts → EmailMatches all e.1 condition) (emails_at c.args.rows.items)
    (λ e so. absurd (other_if c.reads_text.result c.args.of_texts c.if-reads_text-of_texts.false (c.reads_text.ensures ∙ so)))
