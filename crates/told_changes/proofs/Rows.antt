-- Worked rows, by computation (RFC 9051 sections 6.3.6, 6.3.7, 6.4.6 and 6.4.8).
use Rattle.std.proofs.Common.{true, false, ◌≡◌, ℕ, pos, List, [], ◌∷◌, Option, Some, None, refl, codes}
use Rattle.imap_types.specs.declared.code.Code.{Code}
use Rattle.imap_types.specs.declared.code.Code.TheVariants as code
use Rattle.imap_types.specs.declared.command.Command.{Command}
use Rattle.imap_types.specs.declared.command.Command.TheVariants as command
use Rattle.imap_types.specs.declared.response.Response.{Response}
use Rattle.imap_types.specs.declared.response.Response.TheVariants as response
use Rattle.imap_types.specs.declared.response.Status.{Status}
use Rattle.imap_types.specs.declared.response.Status.TheVariants as status
use Rattle.imap_types.specs.declared.uid_set.UidRange.{UidRange}
use Rattle.told_folder.specs.declared.exchange.Exchange.{Exchange}
use Rattle.told_folder.specs.declared.message.NumberedFolder.{NumberedFolder}
use Rattle.told_folder.specs.declared.message.Message.{Message}
use Rattle.told_mail.specs.Mail.{Mail, message_in}
use Rattle.told_changes.specs.Landings.{contradiction, told_landing}
use Rattle.told_changes.specs.Told.{told}

abbrev a_message : ℕ → ℕ → List (List ℕ) → Message
a_message uid mark flags = record { uid = uid; mark = mark; flags = flags; date = pos 0; size = 40; header = [] }

abbrev a_folder : ℕ → List ℕ → Option ℕ → List (List ℕ) → List Message → NumberedFolder
a_folder n name delimiter attributes messages = record {
  folder = record { number = n; name = name; delimiter = delimiter; attributes = attributes; validity = n; modseq = 3; next = 4 };
  messages = messages;
}

abbrev slash : Option ℕ
slash = Some 47

-- INBOX with UID 1 and UID 3, and Archive, empty
abbrev mail : Mail
mail = record {
  folders = a_folder 1 (codes "INBOX") slash [] (a_message 1 1 [] ∷ a_message 3 2 (codes "\\seen" ∷ []) ∷ []) ∷ a_folder 2 (codes "Archive") slash [] [] ∷ [];
  next_mark = 3;
  next_folder = 3;
}

abbrev answer : Command → List Response → Status → Code → Exchange
answer c rs s k = record { command = c; selected = Some (codes "INBOX"); responses = rs; status = s; code = k }

abbrev range : ℕ → ℕ → UidRange
range first last = record { first = first; last = last }

-- ---- MOVE

abbrev copied : ℕ → ℕ → ℕ → Code
copied validity from to = code.CopyUid validity (record { ranges = range from from ∷ [] }) (record { ranges = range to to ∷ [] })

abbrev moves : List Response → Code → Exchange
moves rs k = answer (command.Move 3 (codes "Archive")) rs status.Ok k

abbrev moved : Mail
moved = record {
  folders = a_folder 1 (codes "INBOX") slash [] (a_message 1 1 [] ∷ []) ∷ a_folder 2 (codes "Archive") slash [] (a_message 6 2 (codes "\\seen" ∷ []) ∷ []) ∷ [];
  next_mark = 3;
  next_folder = 3;
}

-- the message has its mark and its flags in the other folder
move_told : told mail (moves (response.Untagged status.Ok (copied 2 3 6) ∷ response.Vanished false (record { ranges = range 3 3 ∷ [] }) ∷ []) code.Absent) ≡ moved
move_told = refl

-- a code of another validity, or of another UID, is passed over: VANISHED alone is told
abbrev gone : Mail
gone = record {
  folders = a_folder 1 (codes "INBOX") slash [] (a_message 1 1 [] ∷ []) ∷ a_folder 2 (codes "Archive") slash [] [] ∷ [];
  next_mark = 3;
  next_folder = 3;
}

other_validity : told mail (moves (response.Vanished false (record { ranges = range 3 3 ∷ [] }) ∷ []) (copied 8 3 6)) ≡ gone
other_validity = refl

other_uid : told_landing mail (moves [] (copied 2 1 6)) ≡ None
other_uid = refl

-- a UID below the one before which all is known contradicts, and nothing is told
below_next : contradiction mail (moves [] (copied 2 3 3)) ≡ Some (record { folder = 2; uid = 3 })
below_next = refl

told_nothing : told mail (moves (response.Vanished false (record { ranges = range 3 3 ∷ [] }) ∷ []) (copied 2 3 3)) ≡ mail
told_nothing = refl

-- an exchange that failed tells nothing
refused : told_landing mail (answer (command.Move 3 (codes "Archive")) [] status.No (copied 2 3 6)) ≡ None
refused = refl

-- ---- STORE

abbrev stores : ℕ → List Response → Exchange
stores uid rs = answer (command.Store uid true (codes "\\flagged" ∷ [])) rs status.Ok code.Absent

abbrev flags_told : ℕ → List (List ℕ) → Response
flags_told uid flags =
    response.Fetch uid (record { uid = Some uid; flags = Some flags; modseq = None; date = None; size = None; header = None; body = None })

-- without a FETCH it makes its change
silent_store : message_in (told mail (stores 3 [])).folders 1 3 ≡ Some (a_message 3 2 (codes "\\flagged" ∷ codes "\\seen" ∷ []))
silent_store = refl

-- a FETCH of another message doesn't keep it from that
other_fetch : message_in (told mail (stores 3 (flags_told 1 [] ∷ []))).folders 1 3 ≡ Some (a_message 3 2 (codes "\\flagged" ∷ codes "\\seen" ∷ []))
other_fetch = refl

-- the flags that a FETCH tells count
fetched : message_in (told mail (stores 3 (flags_told 3 (codes "\\answered" ∷ []) ∷ []))).folders 1 3 ≡ Some (a_message 3 2 (codes "\\answered" ∷ []))
fetched = refl

-- ---- folders

abbrev tree : Mail
tree = record {
  folders = a_folder 1 (codes "INBOX") slash [] [] ∷ a_folder 2 (codes "INBOX/a") slash [] [] ∷ a_folder 3 (codes "a") slash [] [] ∷ a_folder 4 (codes "a/x") slash [] []
      ∷ a_folder 5 (codes "a.y") (Some 46) [] [] ∷ a_folder 6 (codes "b/x") slash [] (a_message 1 1 [] ∷ []) ∷ [];
  next_mark = 2;
  next_folder = 7;
}

-- the folder and those below it are renamed, each by its own delimiter; one that had a new name ends
renamed : told tree (answer (command.Rename (codes "a") (codes "b")) [] status.Ok code.Absent) ≡ record {
  folders = a_folder 1 (codes "INBOX") slash [] [] ∷ a_folder 2 (codes "INBOX/a") slash [] [] ∷ a_folder 3 (codes "b") slash [] [] ∷ a_folder 4 (codes "b/x") slash [] []
      ∷ a_folder 5 (codes "b.y") (Some 46) [] [] ∷ [];
  next_mark = 2;
  next_folder = 7;
}
renamed = refl

-- names that pass from one folder to another
shifted : told tree (answer (command.Rename (codes "a") (codes "a/x")) [] status.Ok code.Absent) ≡ record {
  folders = a_folder 1 (codes "INBOX") slash [] [] ∷ a_folder 2 (codes "INBOX/a") slash [] [] ∷ a_folder 3 (codes "a/x") slash [] [] ∷ a_folder 4 (codes "a/x/x") slash [] []
      ∷ a_folder 5 (codes "a/x.y") (Some 46) [] [] ∷ a_folder 6 (codes "b/x") slash [] (a_message 1 1 [] ∷ []) ∷ [];
  next_mark = 2;
  next_folder = 7;
}
shifted = refl

-- of INBOX nothing is told
inbox_renamed : told tree (answer (command.Rename (codes "INBOX") (codes "old")) [] status.Ok code.Absent) ≡ tree
inbox_renamed = refl

-- a folder ends, and those below it stay
deleted : told tree (answer (command.Delete (codes "a")) [] status.Ok code.Absent) ≡ record {
  folders = a_folder 1 (codes "INBOX") slash [] [] ∷ a_folder 2 (codes "INBOX/a") slash [] [] ∷ a_folder 4 (codes "a/x") slash [] [] ∷ a_folder 5 (codes "a.y") (Some 46) [] []
      ∷ a_folder 6 (codes "b/x") slash [] (a_message 1 1 [] ∷ []) ∷ [];
  next_mark = 2;
  next_folder = 7;
}
deleted = refl

abbrev two : List (List ℕ) → Mail
two attributes = record { folders = a_folder 1 (codes "INBOX") slash attributes [] ∷ a_folder 2 (codes "a") slash [] [] ∷ []; next_mark = 1; next_folder = 3 }

-- a subscription comes and goes
subscribed : told (two (codes "\\marked" ∷ [])) (answer (command.Subscribe (codes "INBOX") true) [] status.Ok code.Absent) ≡ two (codes "\\marked" ∷ codes "\\subscribed" ∷ [])
subscribed = refl

unsubscribed : told (two (codes "\\marked" ∷ codes "\\subscribed" ∷ [])) (answer (command.Subscribe (codes "INBOX") false) [] status.Ok code.Absent) ≡ two (codes "\\marked" ∷ [])
unsubscribed = refl
