-- Emails by their Threads, one after another.
use Rattle.std.specs.Prelude.{ℕ, ℤ, List, [], ◌∷◌, if◌then◌else◌, Option, Some, None}
use Rattle.std.specs.Option.{unwrap_or}
use Rattle.std.specs.BTreeSet.{BTreeSet, contains, insert_key}
use Rattle.std.specs.Ordering.{nat_cmp}
use Rattle.mail_maps.specs.Rows.{Rows}
use Rattle.mail_maps.specs.Threads.{pair_cmp, pairs_in}

-- the keys of a set, none where there is no set
abbrev pub keys_listed : {K : Type 0} → Option (BTreeSet K) → List K
keys_listed None = []
keys_listed (Some s) = s.keys

-- the keys of a set, where there is one
abbrev pub keys_at : {K : Type 0} → Option (BTreeSet K) → Option (List K)
keys_at None = None
keys_at (Some s) = Some s.keys

-- a group with these pairs put in, one after another; the first one makes it
abbrev pub grouped : Option (List (ℤ × ℕ)) → List (ℤ × ℕ) → Option (List (ℤ × ℕ))
grouped group [] = group
grouped group (p ∷ ps) = grouped (Some (insert_key pair_cmp (unwrap_or group []) p)) ps

-- the pairs of a Thread, where it is one of these
abbrev pub pairs_among : BTreeSet ℕ → Rows → ℕ → List (ℤ × ℕ)
pairs_among among rows thread = if contains nat_cmp among thread then pairs_in rows thread else []
