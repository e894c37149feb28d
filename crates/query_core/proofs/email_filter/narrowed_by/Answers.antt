use Rattle.std.proofs.Common.{◌≡◌, ◌<◌, ◌≤◌, ℕ, List, Bool, get_or, length, refl, subst}
use Rattle.mail_maps.specs.Serve.{Email}
use Rattle.query_conditions.specs.Entries.{emails_at}
use Rattle.query_arguments.specs.declared.email_condition.EmailCondition.{EmailCondition}
use Rattle.query_core.specs.Lists.{EmailMatches}
use Rattle.query_core.specs.reading.ConditionsRead.{reads_text}
use Rattle.query_core.specs.reading.Found.{KnowsThreads}
use Rattle.query_core.proofs.NarrowLemmas.{all_begin, all_end, all_on}
use Rattle.query_core.proofs.email_filter.narrowed_by.Goals as goal

-- what a condition of this kind says of an Email of these
abbrev Says : List (ℕ × Email) → Bool → ℕ × Email → EmailCondition → Type 0
Says all of_texts e c = reads_text c ≡ of_texts → EmailMatches all e.1 c

pub loop-condition-init : goal.loop-condition-init
loop-condition-init c =
    let all = emails_at c.args.emails.now in
    all_begin (KnowsThreads all c.args.found.now) (Says all c.args.of_texts) (emails_at c.args.rows.items) c.args.conditions.now.items (emails_at c.args.rows.items) refl

pub loop-condition-preserved : goal.loop-condition-preserved
loop-condition-preserved c =
    let l = c.loop-condition in
    let all = emails_at c.args.emails.now in
    let given = c.deref-condition-items.ensures.value in
    let condition = c.condition-item.result in
    all_on (KnowsThreads all c.args.found.now) (Says all c.args.of_texts) (emails_at c.args.rows.items) c.args.conditions.now.items l.condition-index (emails_at l.rows.items)
    (emails_at c.in_ok-rows.rows.items) condition
    (subst (λ (cs : List EmailCondition). l.condition-index < length cs) given c.loop-condition-test.true)
    (subst (λ (cs : List EmailCondition). condition ≡ get_or cs l.condition-index condition) given c.condition-item.is)
    c.in_ok-rows.ensures l.invariant

pub returns : goal.returns
returns c =
    let l = c.loop-condition in
    let all = emails_at c.args.emails.now in
    all_end (KnowsThreads all c.args.found.now) (Says all c.args.of_texts) (emails_at c.args.rows.items) c.args.conditions.now.items l.condition-index (emails_at l.rows.items)
    (subst (λ (cs : List EmailCondition). length cs ≤ l.condition-index) c.deref-condition-items.ensures.value c.loop-condition-test.false) l.invariant
