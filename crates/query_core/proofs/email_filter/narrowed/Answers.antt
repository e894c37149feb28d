use Rattle.std.proofs.Common.{◌≡◌, ℕ, List, true, false}
use Rattle.std.specs.List.{AllByRecursion}
use Rattle.std.proofs.lemmas.Result.{IfOk-weaker}
use Rattle.mail_maps.specs.Serve.{Email}
use Rattle.query_conditions.specs.Entries.{emails_at}
use Rattle.query_arguments.specs.declared.email_condition.EmailCondition.{EmailCondition}
use Rattle.query_core.specs.Lists.{EmailMatches}
use Rattle.query_core.specs.reading.ConditionsRead.{reads_text}
use Rattle.query_core.proofs.KeptLemmas.{keeps_same}
use Rattle.query_core.proofs.NarrowLemmas.{each_of_both, keeps_twice}
use Rattle.query_core.proofs.email_filter.narrowed.Goals as goal

pub returns : goal.returns
returns c = λ knows.
    let all = emails_at c.args.emails.now in
    let cs : List EmailCondition = c.args.conditions.now.items in
    let First : ℕ × Email → Type 0 = λ e. AllByRecursion (λ (c : EmailCondition). reads_text c ≡ false → EmailMatches all e.1 c) cs in
    let Last : ℕ × Email → Type 0 = λ e. AllByRecursion (λ (c : EmailCondition). reads_text c ≡ true → EmailMatches all e.1 c) cs in
    let given = emails_at c.args.rows.items in
    let some = emails_at c.in_ok-rows.rows.items in
    IfOk-weaker c.narrowed_by-2.result _ _
    (λ v keeps.
    keeps_same (λ (e : ℕ × Email). First e × Last e) (λ (e : ℕ × Email). AllByRecursion (EmailMatches all e.1) cs) given (emails_at v.items)
    (λ e. each_of_both reads_text (EmailMatches all e.1) cs) (keeps_twice First Last given some (emails_at v.items) (c.in_ok-rows.ensures knows) keeps))
    (c.narrowed_by-2.ensures knows)
