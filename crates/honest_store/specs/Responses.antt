-- Untagged responses: which may come while a command is answered, and what one tells (RFC 9051 section 7, RFC 7162 section 3.2.10).
use Rattle.std.specs.Prelude.{◌≡◌, ℕ, Bool, true, Some, IsSome}
use Rattle.imap_types.specs.declared.code.Code.{Code}
use Rattle.imap_types.specs.declared.code.Code.TheVariants as code
use Rattle.imap_types.specs.declared.command.Command.{Command}
use Rattle.imap_types.specs.declared.command.Command.TheVariants as command
use Rattle.imap_types.specs.declared.response.Response.{Response}
use Rattle.imap_types.specs.declared.response.Response.TheVariants as response
use Rattle.imap_types.specs.declared.response.Status.TheVariants as status
use Rattle.imap_types.specs.declared.response.FetchItems.{FetchItems}
use Rattle.imap_types.specs.UidSets.{Holds}

-- A response that may come while a command is answered: none that has a tag, that ends the link, or that says that the command isn't
-- understood; and no EXPUNGE, for which VANISHED stands once QRESYNC is enabled.
abbrev pub MayCome : Response → Type 0
MayCome (response.Tagged _ _ _) = ⊥
MayCome (response.Untagged status.Bye _) = ⊥
MayCome (response.Untagged status.Bad _) = ⊥
MayCome (response.Untagged status.Preauth _) = ⊥
MayCome (response.Expunge _) = ⊥
MayCome _ = Unit {0}

-- VANISHED (EARLIER) answers SELECT alone (RFC 7162 section 3.2.10): no UID FETCH that is sent asks for it.
abbrev pub MayAnswer : Command → Response → Type 0
MayAnswer (command.Select name known) r = Unit {0}
MayAnswer c (response.Vanished true uids) = ⊥
MayAnswer c _ = Unit {0}

-- a CAPABILITY, and an ENABLED
abbrev pub IsCapability : Response → Type 0
IsCapability (response.Capability words) = Unit {0}
IsCapability _ = ⊥

abbrev pub IsEnabled : Response → Type 0
IsEnabled (response.Enabled words) = Unit {0}
IsEnabled _ = ⊥

-- a FETCH of this UID, of whose items this is so
abbrev pub IsFetchOf : ℕ → (FetchItems → Type 0) → Response → Type 0
IsFetchOf u Has (response.Fetch seq items) = (items.uid ≡ Some u) × Has items
IsFetchOf u Has _ = ⊥

abbrev pub TellsFlags : FetchItems → Type 0
TellsFlags items = IsSome items.flags

-- a VANISHED that names this UID
abbrev pub IsVanishedOf : Bool → ℕ → Response → Type 0
IsVanishedOf earlier u (response.Vanished told uids) = (told ≡ earlier) × Holds uids.ranges u
IsVanishedOf earlier u _ = ⊥

-- an untagged OK with this code
abbrev pub IsCoded : Code → Response → Type 0
IsCoded c r = r ≡ response.Untagged status.Ok c

-- the code of an untagged OK
abbrev pub ok_code : Response → Code
ok_code (response.Untagged status.Ok c) = c
ok_code _ = code.Absent
