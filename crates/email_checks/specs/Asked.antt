-- What the parts of an update of an Email ask, and what is wrong with them (RFC 8620 section 5.3, RFC 8621 section 4.6).
use Rattle.std.specs.Prelude.{ℕ, ◌==◌, ◌&&◌, ◌||◌, Bool, true, false, List, [], ◌∷◌, map, bytes_eq, codes, if◌then◌else◌, is_some, Option, Some, None}
use Rattle.std.specs.BTreeSet.{insert_key}
use Rattle.std.specs.List.{list_all, flat_map}
use Rattle.std.specs.Set.{remove_key}
use Rattle.std.specs.Ordering.{nat_cmp}
use Rattle.serde_json.specs.Data.{Data, null, object, Members}
use Rattle.jmap_arguments.specs.Arguments.{is_among}
use Rattle.told_folder.specs.declared.message.Folder.{Folder}
use Rattle.set_given.specs.Given.{Given, folder_named}
use Rattle.set_patches.specs.Patches.{Patch, patch_in, members_list, member_keys, is_invalid_patch, is_true, is_null}
use Rattle.set_patches.specs.declared.patches.Pointer.{Pointer}
use Rattle.set_patches.specs.declared.patches.Pointer.TheVariants.{Whole, Within, Deeper}
use Rattle.jmap_values.specs.Keywords.{is_keyword}
use Rattle.email_checks.specs.Keywords.{keyword_in, sorted_names, with_name, without_name}

abbrev pub keys_of : Data → List (List ℕ)
keys_of (object ms) = member_keys ms
keys_of _ = []

-- ---- invalid patches

-- the properties of an Email that have members
abbrev pub email_objects : List (List ℕ)
email_objects = codes "bodyStructure" ∷ codes "bodyValues" ∷ codes "keywords" ∷ codes "mailboxIds" ∷ []

-- the keyword that a pointer is of
abbrev pub keyword_pointed : Pointer → List (List ℕ)
keyword_pointed (Whole p) = []
keyword_pointed (Within p key) = if bytes_eq p (codes "keywords") then keyword_in key ∷ [] else []
keyword_pointed (Deeper p) = []

abbrev pub keywords_pointed : Patch → List (List ℕ)
keywords_pointed parts = flat_map (λ (e : Pointer × Data). keyword_pointed e.0) parts

abbrev pub has_repeat : List (List ℕ) → Bool
has_repeat [] = false
has_repeat (k ∷ ks) = is_among k ks || has_repeat ks

-- pointers that overlap or lead nowhere, or two of one keyword, which may differ in case
abbrev pub is_invalid_email_patch : Members → Bool
is_invalid_email_patch ms = is_invalid_patch email_objects ms || has_repeat (keywords_pointed (patch_in ms))

-- ---- values that are right

-- each member is right and true
abbrev pub are_right : (List ℕ → Bool) → Members → Bool
are_right is_right ms = list_all (λ (e : List ℕ × Data). is_right e.0 && is_true e.1) (members_list ms)

-- null is the default, of a set no members
abbrev pub is_map_of : (List ℕ → Bool) → Data → Bool
is_map_of is_right null = true
is_map_of is_right (object ms) = are_right is_right ms
is_map_of is_right _ = false

-- true sets a member, and null takes it away
abbrev pub is_set_or_taken : Data → Bool
is_set_or_taken d = is_null d || is_true d

abbrev pub names_folder : Given → List ℕ → Bool
names_folder g text = is_some (folder_named g text)

abbrev pub is_right_whole : Given → List ℕ → Data → Bool
is_right_whole g p d =
    if bytes_eq p (codes "keywords") then is_map_of is_keyword d
    else if bytes_eq p (codes "mailboxIds") then is_map_of (names_folder g) d
    else false

-- a Mailbox that is taken away need not be there
abbrev pub is_right_within : Given → List ℕ → List ℕ → Data → Bool
is_right_within g p key d =
    if bytes_eq p (codes "keywords") then is_keyword key && is_set_or_taken d
    else if bytes_eq p (codes "mailboxIds") then is_null d || (names_folder g key && is_true d)
    else false

abbrev pub is_right : Given → Pointer → Data → Bool
is_right g (Whole p) d = is_right_whole g p d
is_right g (Within p key) d = is_right_within g p key d
is_right g (Deeper p) d = false

-- ---- keywords that are asked

abbrev pub names_or : Option (List (List ℕ)) → List (List ℕ) → List (List ℕ)
names_or None held = held
names_or (Some names) held = names

abbrev pub patched : List ℕ → Bool → List (List ℕ) → List (List ℕ)
patched keyword taken names = if taken then without_name keyword names else with_name keyword names

-- the keywords after a part, where these were asked before it, or none were and these are held
abbrev pub keywords_after : Pointer → Data → Option (List (List ℕ)) → List (List ℕ) → Option (List (List ℕ))
keywords_after (Whole p) d before held = if bytes_eq p (codes "keywords") then Some (sorted_names (map keyword_in (keys_of d))) else before
keywords_after (Within p key) d before held =
    if bytes_eq p (codes "keywords") then Some (patched (keyword_in key) (is_null d) (names_or before held)) else before
keywords_after (Deeper p) d before held = before

-- the keywords that parts ask one after another, or None where they patch none
abbrev pub asked_keywords : Patch → Option (List (List ℕ)) → List (List ℕ) → Option (List (List ℕ))
asked_keywords [] before held = before
asked_keywords (e ∷ es) before held = asked_keywords es (keywords_after e.0 e.1 before held) held

-- ---- folders that are asked, by ascending number, each once

abbrev pub with_number : Option Folder → List ℕ → List ℕ
with_number None ns = ns
with_number (Some f) ns = insert_key nat_cmp ns f.number

abbrev pub without_number : Option Folder → List ℕ → List ℕ
without_number None ns = ns
without_number (Some f) ns = remove_key (λ n. n == f.number) ns

abbrev pub patched_number : Option Folder → Bool → List ℕ → List ℕ
patched_number f taken ns = if taken then without_number f ns else with_number f ns

-- with those that the texts name
abbrev pub with_named : Given → List (List ℕ) → List ℕ → List ℕ
with_named g [] ns = ns
with_named g (t ∷ ts) ns = with_named g ts (with_number (folder_named g t) ns)

-- the folders after a part
abbrev pub folders_after : Given → Pointer → Data → List ℕ → List ℕ
folders_after g (Whole p) d before = if bytes_eq p (codes "mailboxIds") then with_named g (keys_of d) [] else before
folders_after g (Within p key) d before =
    if bytes_eq p (codes "mailboxIds") then patched_number (folder_named g key) (is_null d) before else before
folders_after g (Deeper p) d before = before

-- the folders that parts ask one after another
abbrev pub asked_folders : Given → Patch → List ℕ → List ℕ
asked_folders g [] before = before
asked_folders g (e ∷ es) before = asked_folders g es (folders_after g e.0 e.1 before)
