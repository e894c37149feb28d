use Rattle.std.proofs.Common.{◌∙◌, ◌++◌, ℕ, List, sym, ap, subst, nat_cmp, append-nil}
use Rattle.std.specs.List.Sorted.{IsStrictlySortedBy}
use Rattle.std.specs.BTreeMap.{insert_entry}
use Rattle.change_list.specs.Advance.{row_at}
use Rattle.mail_maps.specs.reading.Tallies.{Tallied, counts_told}
use Rattle.mail_maps.specs.declared.tally.FolderCounts.{FolderCounts}
use Rattle.mail_maps.proofs.InOrder.{put_next}
use Rattle.mail_maps.proofs.Tallied.{told_rows, keys_of-told_rows, told_row_at}
use Rattle.mail_maps.proofs.tally.told_counts.Goals as goal

pub loop-folder-preserved : goal.loop-folder-preserved
loop-folder-preserved c =
    let S : List ℕ → Type 0 = λ ks. IsStrictlySortedBy nat_cmp ks in
    put_next (told_rows c.args.unread.now c.args.folders.now.entries) c.loop-folder.counts.entries c.in-Some.folder.now (counts_told c.args.unread.now c.in-Some.tally.now)
    (told_rows c.args.unread.now c.next.new.self)
    c.insert.new.self.entries (subst S (sym (keys_of-told_rows c.args.unread.now c.args.folders.now.entries)) c.len-count.ensures.ordered)
    (ap (λ (es : List (ℕ × Tallied)). c.loop-folder.counts.entries ++ told_rows c.args.unread.now es) (sym c.in-Some.ensures.steps) ∙ c.loop-folder.invariant)
    (c.in_ok-insert.ensures.entries ∙ ap (insert_entry nat_cmp c.loop-folder.counts.entries c.in-Some.folder.now) c.counts.ensures)

pub returns : goal.returns
returns c = λ f.
    ap (λ (es : List (ℕ × FolderCounts)). row_at es f)
    (sym (append-nil c.loop-folder.counts.entries)
    ∙ ap (λ (es : List (ℕ × Tallied)). c.loop-folder.counts.entries ++ told_rows c.args.unread.now es) (sym c.in-None.ensures.steps.0) ∙ c.loop-folder.invariant)
    ∙ told_row_at c.args.unread.now c.args.folders.now.entries f
