-- What the properties of an Email that is to be created ask besides its message: its Mailbox, its flags and its date (RFC 8621 sections 4.1.1 and 4.6).
use Rattle.std.specs.Prelude.{ℕ, ℤ, ◌==◌, if◌then◌else◌, List, [], ◌∷◌, map, codes, Option, option_and_then, Result, Ok, Err}
use Rattle.std.specs.List.{list_all, filter_map}
use Rattle.std.specs.Option.{option_map_or}
use Rattle.serde_json.specs.Data.{Data, Members}
use Rattle.serde_json.specs.Find.{get_member, as_str}
use Rattle.jmap_values.specs.Dates.{utc_seconds_in}
use Rattle.told_folder.specs.declared.message.Folder.{Folder}
use Rattle.set_jobs.specs.declared.done.SetError.{SetError}
use Rattle.set_jobs.specs.declared.done.SetError.TheVariants.{TooManyMailboxes}
use Rattle.set_given.specs.Given.{Given, folder_named}
use Rattle.email_checks.specs.Asked.{keys_of, names_folder}
use Rattle.email_checks.specs.Emails.{no_folder}
use Rattle.email_checks.specs.Keywords.{flag_of, keyword_in, sorted_names}

-- the members of the object at this property; none where it isn't there, or null
abbrev pub keys_at : List ℕ → Members → List (List ℕ)
keys_at property ms = option_map_or keys_of (get_member property ms) []

-- ---- the Mailbox

-- an Email is in a Mailbox at least, and here in no two
abbrev pub one_mailbox : List Folder → Result Folder SetError
one_mailbox [] = Err no_folder
one_mailbox (f ∷ fs) = if list_all (λ (other : Folder). other.number == f.number) fs then Ok f else Err TooManyMailboxes

-- the one Mailbox that texts name: each names one that there is, and all of them the same
abbrev pub mailbox_named : Given → List (List ℕ) → Result Folder SetError
mailbox_named g texts = if list_all (names_folder g) texts then one_mailbox (filter_map (folder_named g) texts) else Err no_folder

abbrev pub mailbox_asked : Given → Members → Result Folder SetError
mailbox_asked g ms = mailbox_named g (keys_at (codes "mailboxIds") ms)

-- ---- flags and date

-- the flags of the keywords, in the order of these
abbrev pub flags_asked : Members → List (List ℕ)
flags_asked ms = map flag_of (sorted_names (map keyword_in (keys_at (codes "keywords") ms)))

-- the second of receivedAt; None where it isn't there, or null
abbrev pub date_asked : Members → Option ℤ
date_asked ms = option_and_then utc_seconds_in (option_and_then as_str (get_member (codes "receivedAt") ms))
