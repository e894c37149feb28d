-- What OK means to a command that changes messages: STORE, MOVE, EXPUNGE, APPEND. `before` and `after` are the mail at the command's own
-- moment, `n` is the number of the folder that is selected.
use Rattle.std.specs.Prelude.{◌≡◌, ◌⊎◌, ℕ, ℤ, Bool, true, false, not, List, ◌++◌, Option, Some, None, filter, length, codes, bytes_eq, All}
use Rattle.std.specs.List.{Any, list_any}
use Rattle.imap_types.specs.declared.code.Code.{Code}
use Rattle.imap_types.specs.declared.code.Code.TheVariants as code
use Rattle.imap_types.specs.declared.response.FetchItems.{FetchItems}
use Rattle.imap_types.specs.Items.{kept}
use Rattle.imap_types.specs.UidSets.{HoldsOnly}
use Rattle.honest_store.specs.StoreMail.{StoreMessage, StoreFolder, StoreMail, IsFolderNamed, has_flag}
use Rattle.honest_store.specs.WellFormed.{nearest_date}
use Rattle.honest_store.specs.MessageChanges.{AddsMessage, EndsMessage, FlagsMessage, MovesMessage}
use Rattle.honest_store.specs.Responses.{IsFetchOf, TellsFlags, IsVanishedOf}
use Rattle.honest_store.specs.Sessions.{CutAnswer, all_responses, all_codes}

-- ---- UID STORE (RFC 9051 section 6.4.6)

-- the flags with those that are asked, or without them
abbrev pub flags_after : Bool → List (List ℕ) → List (List ℕ) → List (List ℕ)
flags_after true asked was = kept (was ++ asked)
flags_after false asked was = filter (λ f. not (list_any (λ g. bytes_eq f g) (kept asked))) was

abbrev pub SaysFlags : List (List ℕ) → FetchItems → Type 0
SaysFlags flags items = items.flags ≡ Some flags

-- The flags are as asked, and no response tells others; or a response behind the change tells them.
abbrev pub TellsStoredFlags : ℕ → List (List ℕ) → List (List ℕ) → CutAnswer → Type 0
TellsStoredFlags u asked flags a =
    ((flags ≡ asked) × All (λ r. IsFetchOf u TellsFlags r → IsFetchOf u (SaysFlags asked) r) (all_responses a))
    ⊎ Any (IsFetchOf u (SaysFlags flags)) a.late

-- the message comes to these flags; where it has them already nothing need change
abbrev pub ComesToFlags : StoreMail → ℕ → StoreMessage → List (List ℕ) → StoreMail → Type 0
ComesToFlags before n m flags after = FlagsMessage before n m.uid flags after ⊎ ((flags ≡ m.flags) × (after ≡ before))

-- of the message where it is there; else nothing is done
abbrev pub StoresFlags : StoreMail → ℕ → Bool → List (List ℕ) → CutAnswer → StoreMail → Option StoreMessage → Type 0
StoresFlags before n add asked a after None = after ≡ before
StoresFlags before n add asked a after (Some m) =
    (flags : List (List ℕ)) × ComesToFlags before n m flags after × TellsStoredFlags m.uid (flags_after add asked m.flags) flags a

-- ---- UID MOVE (RFC 9051 section 6.4.8)

abbrev pub IsCopyUid : Code → Type 0
IsCopyUid (code.CopyUid validity from to) = Unit {0}
IsCopyUid _ = ⊥

-- a COPYUID of one message: the target's UIDVALIDITY, the message's UID and the one that it got (RFC 4315 section 3)
abbrev pub IsCopyUidOf : ℕ → ℕ → ℕ → Code → Type 0
IsCopyUidOf validity u v (code.CopyUid w from to) = (w ≡ validity) × HoldsOnly from.ranges u × HoldsOnly to.ranges v
IsCopyUidOf validity u v _ = ⊥

pub record MovesTo (before : StoreMail) (n : ℕ) (m : StoreMessage) (target : StoreFolder) (a : CutAnswer) (after : StoreMail) : Type 0 where
  pub uid : ℕ
  pub moves : MovesMessage before n m target.number uid after
  pub coded : Any (IsCopyUidOf target.validity m.uid uid) (all_codes a)
  pub no_other : All (λ c. IsCopyUid c → IsCopyUidOf target.validity m.uid uid c) (all_codes a)
  pub vanished : Any (IsVanishedOf false m.uid) a.late

-- of the message where it is there; else nothing is done, and no COPYUID says otherwise
abbrev pub MovesOut : StoreMail → ℕ → List ℕ → CutAnswer → StoreMail → Option StoreMessage → Type 0
MovesOut before n name a after None = (after ≡ before) × All (λ c. IsCopyUid c → ⊥) (all_codes a)
MovesOut before n name a after (Some m) = (target : StoreFolder) × IsFolderNamed before name target × MovesTo before n m target a after

-- ---- UID EXPUNGE (RFC 9051 section 6.4.9, RFC 7162 section 3.2.9)

abbrev pub is_deleted : StoreMessage → Bool
is_deleted m = has_flag m (codes "\\deleted")

-- the message ends where it is there and has `\deleted`; else nothing is done
abbrev pub Expunges : StoreMail → ℕ → CutAnswer → StoreMail → Option StoreMessage → Type 0
Expunges before n a after None = after ≡ before
Expunges before n a after (Some m) =
    ((is_deleted m ≡ true) × EndsMessage before n m after × Any (IsVanishedOf false m.uid) a.late)
    ⊎ ((is_deleted m ≡ false) × (after ≡ before))

-- ---- APPEND (RFC 9051 section 6.3.12, RFC 4315 section 3)

-- a message that is sent, at a UID and a mod-sequence
abbrev pub sent_message : List (List ℕ) → ℤ → List ℕ → ℕ → ℕ → StoreMessage
sent_message flags date octets uid modseq = record {
  uid = uid;
  flags = kept flags;
  modseq = modseq;
  date = nearest_date date;
  size = length octets;
  octets = octets;
}

pub record Appends (before : StoreMail) (name : List ℕ) (sent : ℕ → ℕ → StoreMessage) (a : CutAnswer) (after : StoreMail) : Type 0 where
  pub target : StoreFolder
  pub named : IsFolderNamed before name target
  pub uid : ℕ
  pub modseq : ℕ
  pub adds : AddsMessage before target.number (sent uid modseq) after
  pub coded : a.code ≡ code.AppendUid target.validity uid
