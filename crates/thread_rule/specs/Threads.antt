-- The Thread of a new Email: a search over all Emails that are there.
use Rattle.std.specs.Prelude.{◌≡◌, ℕ, ◌≤◌, Bool, true, List, [], ◌∷◌, Option, Some}
use Rattle.std.specs.List.{list_any}
use Rattle.std.specs.Map.{lookup}
use Rattle.std.specs.Ordering.{nat_cmp}
use Rattle.std.specs.BTreeMap.{is_at}
use Rattle.std.specs.Str.{bytes_eq}
use Rattle.text_words.specs.Octets.{SameText}
use Rattle.thread_rule.specs.declared.member.Member.{Member}
use Rattle.thread_rule.specs.declared.member.Named.{Named}

-- the Emails that are there, by ascending number
abbrev pub Members : Type 0
Members = List (ℕ × Member)

-- what is kept of an Email that is put under a Thread
abbrev pub member_of : Named → ℕ → Member
member_of named thread = record { ids = named.ids; base = named.base; thread = thread }

-- the Email of this number
abbrev pub member_at : Members → ℕ → Option Member
member_at members email = lookup (is_at (nat_cmp email)) members

-- whether the id is among these
abbrev pub is_among : List (List ℕ) → List ℕ → Bool
is_among ids id = list_any (bytes_eq id) ids

-- an Email that is there names the id in one of its three fields, and has an equal base subject
pub record Shares (members : Members) (base id : List ℕ) (email : ℕ) (member : Member) : Type 0 where
  pub there : member_at members email ≡ Some member
  pub named : is_among member.ids id ≡ true
  pub same : SameText member.base base

-- Of the new Email's ids, the first decides that such an Email names: of those Emails the lowest gives its Thread.
-- Without such an id the Email founds the Thread of its own number.
pub data IsThreadOf (members : Members) (base : List ℕ) (number : ℕ) : List (List ℕ) → ℕ → Type 0 where
  Founds : IsThreadOf members base number [] number
  Joins : (id : List ℕ) (ids : List (List ℕ)) (email : ℕ) (member : Member) → Shares members base id email member
      → ((other : ℕ) (m : Member) → Shares members base id other m → email ≤ other) → IsThreadOf members base number (id ∷ ids) member.thread
  Passes : (id : List ℕ) (ids : List (List ℕ)) (thread : ℕ) → ((other : ℕ) (m : Member) → Shares members base id other m → ⊥)
      → IsThreadOf members base number ids thread → IsThreadOf members base number (id ∷ ids) thread
