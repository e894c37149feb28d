-- The index from the key of an id and a base subject to the numbers of the Emails that have both.
use Rattle.std.specs.Prelude.{◌≡◌, ℕ, ◌/◌, Bool, false, ◌&&◌, ◌==◌, if◌then◌else◌, List, [], ◌∷◌, Option, Some, None, slice_index_or}
use Rattle.std.specs.List.{list_any}
use Rattle.std.specs.declared.cmp.Ordering.{Ordering}
use Rattle.std.specs.Ordering.{nat_cmp, ordering_then}
use Rattle.std.specs.BTreeMap.{is_at}
use Rattle.text_words.specs.Octets.{is_same_text}
use Rattle.thread_rule.specs.declared.member.Member.{Member}
use Rattle.thread_rule.specs.Threads.{Members, member_at, is_among}
use Rattle.thread_rule.specs.reading.Keys.{base_hasher, keys_under}

abbrev pub Entry : Type 0
Entry = ℕ × ℕ

-- the entries of all keys, in lists by the front of the key
abbrev pub EntryLists : Type 0
EntryLists = List (List Entry)

-- the front of a key: the number of its first 16 bits of 64
abbrev pub front : ℕ → ℕ
front key = key / 281474976710656

-- the list at a front; where there is none, it has no entries
abbrev pub list_at : EntryLists → ℕ → List Entry
list_at index n = slice_index_or index n []

-- the order of the entries: by key, and by number at one key
abbrev pub entry_cmp : Entry → Entry → Ordering
entry_cmp x y = ordering_then (nat_cmp x.0 y.0) (nat_cmp x.1 y.1)

-- the numbers of the entries at the key
abbrev pub numbers_at : ℕ → List Entry → List ℕ
numbers_at key [] = []
numbers_at key (e ∷ es) = if e.0 == key then e.1 ∷ numbers_at key es else numbers_at key es

-- the numbers of the entries at the key up to the first entry at another
abbrev pub numbers_up_to_other : ℕ → List Entry → List ℕ
numbers_up_to_other key [] = []
numbers_up_to_other key (e ∷ es) = if e.0 == key then e.1 ∷ numbers_up_to_other key es else []

-- the Emails of the index at the key, by ascending number
abbrev pub emails_at : EntryLists → ℕ → List ℕ
emails_at index key = numbers_at key (list_at index (front key))

-- whether the index has the Email at the key
abbrev pub has_entry : EntryLists → ℕ → ℕ → Bool
has_entry index key email = list_any (is_at (entry_cmp (key, email))) (list_at index (front key))

-- the keys of an Email's ids under its base subject, with this secret
abbrev pub keys_of : ℕ → Option Member → List ℕ
keys_of secret None = []
keys_of secret (Some member) = keys_under (base_hasher secret member.base) member.ids

-- whether the key is among these
abbrev pub has_key : List ℕ → ℕ → Bool
has_key keys key = list_any (λ k. key == k) keys

-- an Email is in the index at a key exactly where it is one of the Email's keys
abbrev pub IsIndexOf : ℕ → EntryLists → Members → Type 0
IsIndexOf secret index members = (key email : ℕ) → has_entry index key email ≡ has_key (keys_of secret (member_at members email)) key

-- the index has the same Emails at each key
abbrev pub SameIndex : EntryLists → EntryLists → Type 0
SameIndex old new = (key email : ℕ) → has_entry new key email ≡ has_entry old key email

-- the Email is in the index at this key, or isn't, and the rest is as it was
abbrev pub SetsOne : EntryLists → EntryLists → ℕ → ℕ → Bool → Type 0
SetsOne old new at email there = (key e : ℕ) → has_entry new key e ≡ (if (key == at) && (email == e) then there else has_entry old key e)

-- the same at each of these keys
abbrev pub SetsAll : EntryLists → EntryLists → List ℕ → ℕ → Bool → Type 0
SetsAll old new keys email there = (key e : ℕ) → has_entry new key e ≡ (if has_key keys key && (email == e) then there else has_entry old key e)

-- but for the Email at these keys, the rest is as it was
abbrev pub SameApart : EntryLists → EntryLists → List ℕ → ℕ → Type 0
SameApart old new keys email = (key e : ℕ) → (has_key keys key && (email == e)) ≡ false → has_entry new key e ≡ has_entry old key e

-- the Thread of the first of these Emails that names the id and has an equal base subject
abbrev pub thread_if : Option Member → List ℕ → List ℕ → Option ℕ → Option ℕ
thread_if None base id more = more
thread_if (Some member) base id more = if is_among member.ids id && is_same_text member.base base then Some member.thread else more

abbrev pub first_thread : Members → List ℕ → List ℕ → List ℕ → Option ℕ
first_thread members base id [] = None
first_thread members base id (email ∷ emails) = thread_if (member_at members email) base id (first_thread members base id emails)
