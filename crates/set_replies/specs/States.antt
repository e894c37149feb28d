-- The state that a call names, and the one that there is (RFC 8620 section 5.3).
use Rattle.std.specs.Prelude.{ℕ, Bool, true, List, bytes_eq, Option, Some, None}
use Rattle.jmap_arguments.specs.State.{state_text}
use Rattle.mail_state.specs.History.{MailHistory}
use Rattle.served_maps.specs.Past.{place_now}
use Rattle.set_arguments.specs.declared.set_method.SetMethod.{SetMethod}
use Rattle.set_arguments.specs.declared.set_method.SetMethod.TheVariants.{EmailSet, MailboxSet, EmailImport}

-- the place of the method's type
abbrev pub place_of : SetMethod → MailHistory → ℕ
place_of EmailSet h = place_now h.emails
place_of MailboxSet h = place_now h.mailboxes
place_of EmailImport h = place_now h.emails

abbrev pub state_at : ℕ → ℕ → List ℕ
state_at epoch place = state_text (record { epoch = epoch; place = place })

abbrev pub state_of : SetMethod → MailHistory → List ℕ
state_of m h = state_at h.epoch (place_of m h)

abbrev pub is_text : List ℕ → List ℕ → Bool
is_text now text = bytes_eq text now

-- where a call names no state, any is right
abbrev pub is_state : List ℕ → Option (List ℕ) → Bool
is_state now None = true
is_state now (Some text) = is_text now text
