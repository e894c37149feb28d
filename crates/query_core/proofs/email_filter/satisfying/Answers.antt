use Rattle.std.proofs.Common.{ℕ, List, IfOk, ap, sym, subst, ◌∙◌}
use Rattle.std.proofs.lemmas.Result.{IfOk-weaker}
use Rattle.mail_maps.specs.Serve.{Email}
use Rattle.query_conditions.specs.Entries.{emails_at}
use Rattle.query_conditions.specs.Records.{field_text}
use Rattle.query_conditions.specs.Words.{HasWords}
use Rattle.query_conditions.specs.declared.entry.EmailEntry.{EmailEntry}
use Rattle.query_conditions.specs.declared.email_condition.RecordCondition.{RecordCondition}
use Rattle.query_arguments.specs.declared.email_condition.EmailCondition.{EmailCondition}
use Rattle.query_arguments.specs.declared.email_condition.EmailCondition.TheVariants.{Record}
use Rattle.query_core.specs.Lists.{EmailMatches}
use Rattle.query_core.specs.reading.Kept.{Keeps}
use Rattle.query_core.proofs.email_filter.satisfying.Goals as goal

pub returns-in-InField : goal.returns-in-InField
returns-in-InField c = λ knows.
    let found = c.in-InField in
    let all = emails_at c.args.emails.now in
    let rows = emails_at c.args.rows.items in
    IfOk-weaker c.having_words.result _ _
    (λ v keeps.
    subst (λ (asked : EmailCondition). Keeps (λ (e : ℕ × Email). EmailMatches all e.1 asked) rows (emails_at v.items))
    (sym (c.in-Record.is ∙ ap (λ (r : RecordCondition). Record r) found.is)) keeps)
    (subst (λ (es : List EmailEntry). IfOk c.having_words.result (λ v. Keeps (λ (e : ℕ × Email). HasWords found.words (field_text found.field e.1.immutable.envelope))
    (emails_at es) (emails_at v.items))) c.deref.ensures.value c.having_words.ensures)

pub returns-in-Record : goal.returns-in-Record
returns-in-Record c = λ knows.
    subst (λ (asked : EmailCondition). Keeps (λ (e : ℕ × Email). EmailMatches (emails_at c.args.emails.now) e.1 asked) (emails_at c.args.rows.items)
    (emails_at c.retain_matching.new.rows.items)) (sym c.in-Record.is) c.retain_matching.ensures

pub returns : goal.returns
returns c = λ knows.
    subst (λ (es : List EmailEntry). IfOk c.matching.result (λ v. Keeps (λ (e : ℕ × Email). EmailMatches (emails_at c.args.emails.now) e.1 c.args.condition.now)
    (emails_at es) (emails_at v.items))) c.deref-2.ensures.value (c.matching.ensures knows)
