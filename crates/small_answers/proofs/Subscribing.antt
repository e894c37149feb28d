-- Answers to SUBSCRIBE and UNSUBSCRIBE are honest, and leave the small store's mail.
use Rattle.std.proofs.Common.{◌≡◌, ℕ, Bool, true, false, List, [], bytes_eq, refl, sym, append-nil, if◌then◌else◌}
use Rattle.std.proofs.lemmas.List.Elements.{recursion_from_All}
use Rattle.imap_types.specs.declared.code.Code.TheVariants as code
use Rattle.imap_types.specs.declared.command.Command.TheVariants as command
use Rattle.imap_types.specs.Folders.{folder_name}
use Rattle.honest_store.specs.StoreMail.{StoreFolder, StoreMail}
use Rattle.honest_store.specs.WellFormed.{IsStoreFolder, use_of}
use Rattle.honest_store.specs.Attributes.{subscribed}
use Rattle.honest_store.specs.FolderChanges.{with_subscription}
use Rattle.honest_store.specs.Sessions.{StoreSession}
use Rattle.small_answers.specs.Changes.{mail_subscribed}
use Rattle.small_answers.specs.Answers.{over_mail}
use Rattle.small_answers.specs.SmallMail.{IsSmallFolder, IsSmallMail}
use Rattle.small_answers.proofs.Elements.{each_of, each_weaker}
use Rattle.small_answers.proofs.Reading.{late_answer}
use Rattle.small_answers.proofs.Attributes.{subscribed_kept, subscribed_selectable}
use Rattle.small_answers.proofs.FoldersKept.{named_is}
use Rattle.small_answers.proofs.MailKept.{mapped_small}
use Rattle.small_answers.proofs.Replies.{IsOkGood}

module _ (on : Bool) (x : StoreFolder) where
  same_use : (b : Bool) → use_of (if b then record x { attributes = subscribed on x.attributes } else x) ≡ use_of x
  same_use true = refl
  same_use false = refl

  store_folder : IsStoreFolder x → (b : Bool) → IsStoreFolder (if b then record x { attributes = subscribed on x.attributes } else x)
  store_folder is true =
      named_is x x.name (subscribed on x.attributes) is is.name (subscribed_kept on x.attributes is.attributes)
      (subscribed_selectable on x.attributes is.attributes is.selectable)
  store_folder is false = is

  small_folder : IsSmallFolder x → (b : Bool) → IsSmallFolder (if b then record x { attributes = subscribed on x.attributes } else x)
  small_folder is true = record { modseqs = is.modseqs; delimiter = is.delimiter; uid_next = is.uid_next }
  small_folder is false = is

subscribed_small : (mail : StoreMail) (name : List ℕ) (on : Bool) → IsSmallMail mail → IsSmallMail (mail_subscribed mail name on)
subscribed_small mail name on small =
    mapped_small mail (with_subscription name on) small
    (each_of (λ x. use_of (with_subscription name on x) ≡ use_of x) (λ x. same_use on x (bytes_eq x.name name)) mail.folders)
    (each_weaker IsStoreFolder (λ x. IsStoreFolder (with_subscription name on x)) (λ x is. store_folder on x is (bytes_eq x.name name)) mail.folders
    (recursion_from_All IsStoreFolder mail.folders small.well_formed.folders))
    (each_weaker IsSmallFolder (λ x. IsSmallFolder (with_subscription name on x)) (λ x is. small_folder on x is (bytes_eq x.name name)) mail.folders
    (recursion_from_All IsSmallFolder mail.folders small.folders))

pub subscribe_good : (s : StoreSession) (name : List ℕ) (on : Bool) → IsSmallMail s.mail → IsOkGood s (command.Subscribe name on)
subscribe_good s name on small =
    let after : StoreMail = mail_subscribed s.mail (folder_name name) on in
    let after_small : IsSmallMail after = subscribed_small s.mail (folder_name name) on small in
    record {
      honest = late_answer s (over_mail s after) (command.Subscribe name on) [] code.Absent after_small.well_formed tt tt
          (refl, record { folders_are = refl; uses_are = sym (append-nil s.mail.uses) });
      small = after_small;
    }
