use Rattle.std.proofs.Common.{◌∙◌, ◌++◌, ℕ, ℤ, [], List, length, ap, w64, to_z, of_z}
use Rattle.std.proofs.lemmas.Int.{to_z-of_z}
use Rattle.std.proofs.lemmas.List.{append-nil}
use Rattle.imap_types.specs.Items as items
use Rattle.told_folder.specs.Tell.{kept_header}
use Rattle.told_changes.specs.Changes.{appended_message}
use Rattle.told_changes.specs.Headers.{header_of}
use Rattle.told_changes.proofs.Appending.{message_is}
use Rattle.told_changes.proofs.appends.appended_message.Goals as goal

pub returns : goal.returns
returns c = message_is c.args.mark c.args.uid c.args.flags.now (to_z w64 (of_z w64 c.args.date)) c.args.message.now c.in_ok-flags.flags (length c.as_slice-3.result.now) c.in_ok-header.header
    (c.in_ok-flags.ensures ∙ (ap (λ (fs : List (List ℕ)). items.kept (fs ++ [])) c.as_slice.ensures ∙ ap items.kept (append-nil c.args.flags.now)))
    (ap length c.as_slice-3.ensures)
    (c.in_ok-header.ensures ∙ ap (λ (t : List ℕ). kept_header (header_of t)) c.as_slice-2.ensures)
    ∙ ap (λ (d : ℤ). appended_message c.args.mark c.args.uid c.args.flags.now d c.args.message.now) (to_z-of_z w64 c.args.date c.ranges.date)
