-- What of a life stays unread where it can't be read (RFC 9051 section 7).
use Rattle.std.specs.Prelude.{◌≡◌, ◌++◌, ℕ, List, length}
use Rattle.imap_exchange.specs.declared.link_end.LinkEnd.{LinkEnd}
use Rattle.imap_exchange.specs.declared.link_end.LinkEnd.TheVariants as end

-- these are the octets from this offset on of those that the store gave in the life
abbrev pub IsUnreadFrom : ℕ → List ℕ → List ℕ → Type 0
IsUnreadFrom at gave unread = (read : List ℕ) × (gave ≡ read ++ unread) × (length read ≡ at)

-- Where the life ended since no response begins at an offset, these octets stand from there on. Of other ends nothing is said.
abbrev pub LeavesUnread : LinkEnd → List ℕ → List ℕ → Type 0
LeavesUnread (end.Bad at) gave unread = IsUnreadFrom at gave unread
LeavesUnread _ gave unread = Unit {0}
