use Rattle.std.proofs.Common.{◌≡◌, ◌+◌, ◌<◌, ◌∷◌, ◌++◌, List, Option, sym, ap, ◌∙◌, subst, nat_cmp, drop, length, arith, add-one, suc}
use Rattle.std.specs.BTreeMap.{insert_entry}
use Rattle.std.proofs.Math.Seq.{drop-cons}
use Rattle.told_folder.specs.declared.message.Folder.{Folder}
use Rattle.told_folder.specs.declared.message.NumberedFolder.{NumberedFolder}
use Rattle.mail_maps.specs.declared.row.MailboxRow.{MailboxRow}
use Rattle.mail_maps.specs.declared.row.Role.{Role}
use Rattle.mail_maps.specs.Mailboxes.{folders_of, mailbox_row, mailboxes_of, row_as, row_with}
use Rattle.mail_maps.specs.reading.Fronts.{AreLengths}
use Rattle.mail_maps.proofs.InOrder.{put_next}
use Rattle.mail_maps.proofs.Ordered.{by_number, sorted_by_number}
use Rattle.mail_maps.proofs.RoleLemmas.{role_known, taken_more}
use Rattle.mail_maps.proofs.mailboxes.rows_for.Goals as goal

pub row_of-requires : goal.row_of-requires
row_of-requires c =
    let S : List NumberedFolder → Type 0 = λ hs. AreLengths c.in_ok-lengths.lengths hs in
    subst S c.requires.folders c.in_ok-lengths.ensures

pub loop-held-preserved : goal.loop-held-preserved
loop-held-preserved c =
    let rows = c.args.emails.now.entries in
    let hs : List NumberedFolder = c.args.folders.now in
    let i = c.loop-held.held-index in
    let held : NumberedFolder = c.held-item.result in
    let F : Folder → MailboxRow = mailbox_row (folders_of hs) rows in
    let k = held.folder.number in
    let within : i < length hs = omega (arith, c.loop-held-test.true) in
    let next : drop i hs ≡ held ∷ drop (i + 1) hs = rw add-one (drop-cons hs i held within ∙ ap (λ (x : NumberedFolder). x ∷ drop (suc i) hs) (sym c.held-item.is)) in
    let value : c.in_ok-row.row ≡ F held.folder =
    c.in_ok-row.ensures
    ∙ ap (λ (xs : List NumberedFolder). row_as (folders_of xs) held.folder c.in_ok-role.role c.counts_of-counts.result) (sym c.requires.folders)
    ∙ ap (λ (role : Option Role). row_as (folders_of hs) held.folder role c.counts_of-counts.result)
    (c.in_ok-role.ensures.role ∙ role_known hs i held (drop (i + 1) hs) c.loop-held.taken c.requires.ascend next c.loop-held.invariant.taken)
    ∙ ap (row_with (folders_of hs) held.folder) (c.counts_of-counts.ensures ∙ c.in_ok-counted.ensures k) in
    record {
      rows = put_next (mailboxes_of hs rows) c.loop-held.rows.entries k (F held.folder) (by_number F (drop (i + 1) hs)) c.insert.new.self.entries
          (sorted_by_number F hs c.requires.ascend)
          (ap (λ (xs : List NumberedFolder). c.loop-held.rows.entries ++ by_number F xs) (sym next) ∙ c.loop-held.invariant.rows)
          (c.in_ok-insert.ensures.entries ∙ ap (insert_entry nat_cmp c.loop-held.rows.entries k) value);
      taken = taken_more hs i held (drop (i + 1) hs) c.loop-held.taken c.take_role.new.taken next c.in_ok-role.ensures.taken c.loop-held.invariant.taken;
    }
