-- The bodies of Emails that are kept, in the words of `lru`: the last ones that were used, the most recent first.
use Rattle.std.specs.Prelude.{ℕ, List, Option, nat_eq}
use Rattle.std.specs.Map.{lookup}
use Rattle.lru.specs.LruCache.{lru_cache, promoted, put_entries}
use Rattle.email_bodies.specs.declared.cache.TheConstants.{MAX_BODIES}

-- by the numbers of Emails
abbrev pub Bodies : Type 0
Bodies = List (ℕ × List ℕ)

abbrev pub body_at : Bodies → ℕ → Option (List ℕ)
body_at bodies email = lookup (nat_eq email) bodies

-- one that is used goes to the front
abbrev pub after_use : ℕ → Bodies → Bodies
after_use email bodies = promoted (nat_eq email) bodies

-- one that is put stands at the front; where there would be too many, the one that was used longest ago goes
abbrev pub with_body : ℕ → List ℕ → Bodies → Bodies
with_body email body bodies = put_entries nat_eq (lru_cache bodies MAX_BODIES) email body
