-- The keys of the index: an id together with a base subject.
use Rattle.std.specs.Prelude.{ℕ, List, length, map}
use Rattle.std.specs.Char.{to_ascii_lowercase}
use Rattle.std.specs.Int.{to_le_bytes, w64}
use Rattle.std.specs.declared.hash.DefaultHasher.{DefaultHasher}
use Rattle.std.specs.Hash.DefaultHasher.{initial, write, finish}

-- SipHash-1-3 with keys of zero, after a secret, the length of a text, and the text
unfoldable pub hasher_after : ℕ → List ℕ → DefaultHasher
hasher_after secret text = write (write (write initial (to_le_bytes w64 secret)) (to_le_bytes w64 (length text))) text

-- the hasher of the ids under a base subject, without regard to the case of its letters
abbrev pub base_hasher : ℕ → List ℕ → DefaultHasher
base_hasher secret base = hasher_after secret (map to_ascii_lowercase base)

-- the key of an id under the base subject of this hasher
unfoldable pub key_under : DefaultHasher → List ℕ → ℕ
key_under base id = finish (write base id)

-- the keys of an Email's ids under its base subject
abbrev pub keys_under : DefaultHasher → List (List ℕ) → List ℕ
keys_under base ids = map (key_under base) ids
