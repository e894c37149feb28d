-- Whether the message of a mark is served.
use Rattle.std.proofs.Common.{◌≡◌, ℕ, Bool, true, false, Option, Some, None, is_some, refl, ◌∙◌, ap, if◌then◌else◌}
use Rattle.told_folder.specs.Folders.{mark_in, message_in}
use Rattle.told_folder.specs.declared.message.Message.{Message}
use Rattle.told_mail.specs.Mail.{Mail, IsMail}
use Rattle.mail_maps.specs.Visible.{Placed, is_served}
use Rattle.mail_rows.specs.reading.RowPass.{served_if}
use Rattle.mail_rows.proofs.VisibleLemmas.{shown_at}
use Rattle.set_items.specs.Items.{shows}

some_if : (b : Bool) (p : Placed) → b ≡ is_some (if b then Some p else None)
some_if true p = refl
some_if false p = refl

-- a message at the place of the mark is shown where it is served
pub shows_message : (m : Mail) (mark folder uid : ℕ) (x : Message) → IsMail m → mark_in m.folders (folder, uid) ≡ Some mark → Some x ≡ message_in m.folders folder uid
    → is_served x ≡ shows m mark
shows_message m mark folder uid x is at held =
    some_if (is_served x) (record { folder = folder; message = x })
    ∙ (ap (λ (o : Option Message). is_some (served_if folder o)) held ∙ ap (λ (o : Option Placed). is_some o) (shown_at m mark (folder, uid) is at))
