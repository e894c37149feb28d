use Rattle.std.proofs.Common.{◌∙◌, ◌++◌, ℕ, ℤ, List, sym, ap, subst, nat_cmp, append-nil}
use Rattle.std.specs.List.Sorted.{IsStrictlySortedBy}
use Rattle.std.specs.BTreeMap.{insert_entry}
use Rattle.std.specs.BTreeSet.{BTreeSet}
use Rattle.change_list.specs.Advance.{row_at}
use Rattle.mail_maps.proofs.InOrder.{put_next}
use Rattle.mail_maps.proofs.GroupLemmas.{seconds, thread_rows, keys_of-thread_rows, thread_row_at}
use Rattle.mail_maps.proofs.threads.threads_in.Goals as goal

pub loop-number-preserved : goal.loop-number-preserved
loop-number-preserved c =
    let S : List ℕ → Type 0 = λ ks. IsStrictlySortedBy nat_cmp ks in
    put_next (thread_rows c.args.groups.now.entries) c.loop-number.threads.entries c.in-Some.number.now (seconds c.in-Some.group.now.keys) (thread_rows c.next.new.self)
    c.insert.new.self.entries (subst S (sym (keys_of-thread_rows c.args.groups.now.entries)) c.len-count.ensures.ordered)
    (ap (λ (es : List (ℕ × BTreeSet (ℤ × ℕ))). c.loop-number.threads.entries ++ thread_rows es) (sym c.in-Some.ensures.steps) ∙ c.loop-number.invariant)
    (c.in_ok-insert.ensures.entries ∙ ap (insert_entry nat_cmp c.loop-number.threads.entries c.in-Some.number.now) c.in_ok-thread.ensures)

pub loop-number-preserved-in_ok-insert : goal.loop-number-preserved-in_ok-insert
loop-number-preserved-in_ok-insert c =
    let S : List ℕ → Type 0 = λ ks. IsStrictlySortedBy nat_cmp ks in
    put_next (thread_rows c.args.groups.now.entries) c.loop-number.threads.entries c.in-Some.number.now (seconds c.in-Some.group.now.keys) (thread_rows c.next.new.self)
    c.insert.new.self.entries (subst S (sym (keys_of-thread_rows c.args.groups.now.entries)) c.len-count.ensures.ordered)
    (ap (λ (es : List (ℕ × BTreeSet (ℤ × ℕ))). c.loop-number.threads.entries ++ thread_rows es) (sym c.in-Some.ensures.steps) ∙ c.loop-number.invariant)
    (c.in_ok-insert.ensures.entries ∙ ap (insert_entry nat_cmp c.loop-number.threads.entries c.in-Some.number.now) c.in_ok-thread.ensures)

pub returns : goal.returns
returns c = λ t.
    ap (λ (es : List (ℕ × List ℕ)). row_at es t)
    (sym (append-nil c.loop-number.threads.entries)
    ∙ ap (λ (es : List (ℕ × BTreeSet (ℤ × ℕ))). c.loop-number.threads.entries ++ thread_rows es) (sym c.in-None.ensures.steps.0) ∙ c.loop-number.invariant)
    ∙ thread_row_at c.args.groups.now.entries t
