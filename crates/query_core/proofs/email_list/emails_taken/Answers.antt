use Rattle.std.proofs.Common.{◌≡◌, ℕ, List, [], ◌∷◌, Some, sym, subst}
use Rattle.std.proofs.lemmas.Bool.{eq-eqb, eqb-true}
use Rattle.std.proofs.lemmas.Result.{IfOk-weaker}
use Rattle.served_maps.specs.Past.{served}
use Rattle.mail_maps.specs.Serve.{Email, email_of}
use Rattle.query_conditions.specs.Entries.{emails_at}
use Rattle.query_conditions.specs.declared.email_condition.RecordCondition.TheVariants.{InMailbox}
use Rattle.query_conditions.specs.declared.entry.EmailEntry.{EmailEntry}
use Rattle.query_arguments.specs.FilterTrees.{filter_tree}
use Rattle.query_arguments.specs.declared.email_condition.EmailCondition.{EmailCondition}
use Rattle.query_arguments.specs.declared.email_condition.EmailCondition.TheVariants.{Record}
use Rattle.query_lists.specs.Filters.{FilterTree, PassesFilter, conditions}
use Rattle.query_lists.specs.Ordered.{AscendByNumber}
use Rattle.query_core.specs.Lists.{EmailMatches}
use Rattle.query_core.specs.reading.Kept.{Keeps}
use Rattle.query_core.proofs.KeptLemmas.{keeps_same}
use Rattle.query_core.proofs.email_list.emails_taken.Goals as goal

-- what is kept by a filter of these Emails
abbrev KeepsBy : List (ℕ × Email) → FilterTree EmailCondition → List EmailEntry → Type 0
KeepsBy emails filter kept = Keeps (λ (e : ℕ × Email). PassesFilter (EmailMatches emails e.1) filter) emails (emails_at kept)

pub returns-in-Some-clause-rows : goal.returns-in-Some-clause-rows
returns-in-Some-clause-rows c =
    let all : List (ℕ × Email) = served email_of c.args.state.now.rows.numbered.rows in
    let asked : FilterTree EmailCondition = conditions (Record (InMailbox (Some c.in-Some.mailbox)) ∷ []) in
    IfOk-weaker c.in_mailbox.result _ _
    (λ v keeps.
    subst (λ (f : FilterTree EmailCondition). KeepsBy all f v.items) (sym c.in-Some.ensures)
    (keeps_same (λ (e : ℕ × Email). c.in-Some.mailbox ≡ e.1.folder) (λ (e : ℕ × Email). PassesFilter (EmailMatches all e.1) asked) all (emails_at v.items)
    (λ e. (λ is. (eq-eqb c.in-Some.mailbox e.1.folder is, tt), λ holds. eqb-true c.in-Some.mailbox e.1.folder holds.0)) keeps))
    c.in_mailbox.ensures.rows

pub returns-in_ok-emails-in-None-clause-rows : goal.returns-in_ok-emails-in-None-clause-rows
returns-in_ok-emails-in-None-clause-rows c =
    let filter = filter_tree c.args.filter.now in
    IfOk-weaker c.taken.result _ _
    (λ v keeps.
    subst (λ (all : List (ℕ × Email)). KeepsBy all filter v.items) c.in_ok-emails-in-None.ensures.rows
    (subst (λ (es : List EmailEntry). KeepsBy (emails_at es) filter v.items) c.deref.ensures.value keeps))
    c.taken.ensures

pub returns-in_ok-emails-in-None-clause-ascending : goal.returns-in_ok-emails-in-None-clause-ascending
returns-in_ok-emails-in-None-clause-ascending c =
    IfOk-weaker c.taken.result _ _ (λ v keeps. subst AscendByNumber c.in_ok-emails-in-None.ensures.rows c.in_ok-emails-in-None.ensures.ascending) c.taken.ensures
