use Rattle.std.proofs.Common.{◌≡◌, ℕ, rules, refl, sym, ap, subst, ◌∙◌}
use Rattle.std.proofs.lemmas.List.{map-append}
use Rattle.served_maps.specs.Past.{served}
use Rattle.mail_maps.specs.Serve.{Email, email_of}
use Rattle.mail_maps.specs.declared.row.EmailRow.{EmailRow}
use Rattle.query_conditions.specs.Entries.{email_at, emails_at}
use Rattle.query_conditions.specs.declared.entry.EmailEntry.{EmailEntry}
use Rattle.query_core.proofs.EntryLemmas.{entries_in_order}
use Rattle.query_core.proofs.KeptLemmas.{KeepsOnward, onward_begins, onward_ends, onward_kept, onward_left}
use Rattle.query_core.proofs.email_list.in_mailbox.Goals as goal

abbrev IsIn : ℕ → ℕ × Email → Type 0
IsIn mailbox e = mailbox ≡ e.1.folder

pub loop-number-init : goal.loop-number-init
loop-number-init c =
    let rows = c.args.state.now.rows.numbered.rows in
    let left = c.into_iter-number-iterator.result in
    let same : left ≡ rows = search rules in
    onward_begins (IsIn c.args.mailbox) email_of left rows (emails_at c.in_ok-entries.entries.items) same (ap emails_at c.in_ok-entries.ensures.items)

pub loop-number-preserved-in-Continue-branch-2 : goal.loop-number-preserved-in-Continue-branch-2
loop-number-preserved-in-Continue-branch-2 c =
    let l = c.loop-number in
    let e : ℕ × EmailRow = (c.in-Some.number.now, c.in-Some.row.now) in
    let left = c.next.new.self in
    let all = c.args.state.now.rows.numbered.rows in
    let more = ap emails_at c.in_ok-push.ensures.items ∙ map-append (λ (x : EmailEntry). (x.number, email_at x)) l.entries.items _ in
    subst (KeepsOnward (IsIn c.args.mailbox) email_of all left) (sym more)
    (onward_kept (IsIn c.args.mailbox) email_of e left l.number-iterator all (emails_at l.entries.items) c.in-Some.ensures.steps c.if-mailbox-row.true l.invariant)

pub loop-number-preserved : goal.loop-number-preserved
loop-number-preserved c =
    let l = c.loop-number in
    let e : ℕ × EmailRow = (c.in-Some.number.now, c.in-Some.row.now) in
    onward_left (IsIn c.args.mailbox) email_of e c.next.new.self l.number-iterator c.args.state.now.rows.numbered.rows (emails_at l.entries.items)
    c.in-Some.ensures.steps c.if-mailbox-row.false l.invariant

pub returns-clause-rows : goal.returns-clause-rows
returns-clause-rows c =
    let l = c.loop-number in
    onward_ends (IsIn c.args.mailbox) email_of l.number-iterator c.args.state.now.rows.numbered.rows (emails_at l.entries.items) c.in-None.ensures.steps.0 l.invariant

pub returns-clause-ascending : goal.returns-clause-ascending
returns-clause-ascending c =
    let rows = c.args.state.now.rows.numbered.rows in
    entries_in_order email_of rows (served email_of rows) c.count-count.ensures.ascending refl
