-- What a LIST tells of the folders (RFC 9051 section 6.3.9).
use Rattle.std.specs.Prelude.{◌≡◌, ℕ, ◌+◌, ◌==◌, ◌&&◌, nat_le, not, Bool, List}
use Rattle.std.specs.Prelude.{[], ◌∷◌, ◌++◌, Option, Some, None, filter, map, if◌then◌else◌, is_some, codes}
use Rattle.std.specs.List.{list_all, filter_map}
use Rattle.std.specs.BTreeSet.{insert_key}
use Rattle.std.specs.Ordering.{nat_cmp}
use Rattle.std.specs.Cmp.Lexicographic.{slice_cmp}
use Rattle.imap_types.specs.declared.response.Response.{Response}
use Rattle.imap_types.specs.declared.response.Response.TheVariants as response
use Rattle.told_folder.specs.declared.message.NumberedFolder.{NumberedFolder}
use Rattle.told_folder.specs.Keyed.{last_of}
use Rattle.told_mail.specs.declared.mirror.listing.TheConstants.{MAX_FOLDER_NUMBER}
use Rattle.told_mail.specs.Mail.{Mail, is_same, named}

pub record Line : Type 0 where
  pub name : List ℕ
  pub delimiter : Option ℕ
  pub attributes : List (List ℕ)

abbrev pub is_name : List ℕ → Bool
is_name t = list_all (λ c. not (c == 0) && not (c == 10) && not (c == 13)) t

abbrev pub line_of : Response → Option Line
line_of (response.List attributes delimiter name) = if is_name name then Some (record { name = name; delimiter = delimiter; attributes = attributes }) else None
line_of _ = None

-- the last line of the name
abbrev pub line_for : List ℕ → List Response → Option Line
line_for name rs = last_of (filter (λ l. is_same l.name name) (filter_map line_of rs))

abbrev pub with_line : Line → NumberedFolder → NumberedFolder
with_line l h = record { folder = record h.folder { delimiter = l.delimiter; attributes = l.attributes }; messages = h.messages }

abbrev pub put_listed : Option Line → NumberedFolder → List NumberedFolder → List NumberedFolder
put_listed None h hs = hs
put_listed (Some l) h hs = with_line l h ∷ hs

-- folders that are told take what was told of them, the others end with their messages
abbrev pub listed : List Response → List NumberedFolder → List NumberedFolder
listed rs [] = []
listed rs (h ∷ hs) = put_listed (line_for h.folder.name rs) h (listed rs hs)

abbrev pub is_inbox : List ℕ → Bool
is_inbox name = is_same name (codes "INBOX")

-- the names by octets, each once
abbrev pub in_order : List (List ℕ) → List (List ℕ)
in_order [] = []
in_order (name ∷ names) = insert_key (slice_cmp nat_cmp) (in_order names) name

abbrev pub inbox_first : List (List ℕ) → List (List ℕ)
inbox_first names = filter is_inbox names ++ filter (λ name. not (is_inbox name)) names

abbrev pub names_told : List Response → List (List ℕ)
names_told rs = in_order (map (λ l. l.name) (filter_map line_of rs))

-- the names that are told and that no folder has, INBOX first, then by octets
abbrev pub new_names : List NumberedFolder → List Response → List (List ℕ)
new_names hs rs = inbox_first (filter (λ name. not (is_some (named hs name))) (names_told rs))

abbrev pub new_folder : ℕ → Line → NumberedFolder
new_folder n l = record {
  folder = record { number = n; name = l.name; delimiter = l.delimiter; attributes = l.attributes; validity = 0; modseq = 0; next = 1 };
  messages = [];
}

-- a new folder takes the next number, where one is left
abbrev pub with_new_folder : Mail → Option Line → Mail
with_new_folder m None = m
with_new_folder m (Some l) = if nat_le m.next_folder MAX_FOLDER_NUMBER then record {
  folders = m.folders ++ new_folder m.next_folder l ∷ [];
  next_mark = m.next_mark;
  next_folder = m.next_folder + 1;
} else m

abbrev pub with_new_folders : List Response → Mail → List (List ℕ) → Mail
with_new_folders rs m [] = m
with_new_folders rs m (name ∷ names) = with_new_folders rs (with_new_folder m (line_for name rs)) names

abbrev pub tell_list : Mail → List Response → Mail
tell_list m rs = with_new_folders rs (record m { folders = listed rs m.folders }) (new_names m.folders rs)

-- the LIST tells each folder as it is, and no other
pub record ListsKnown (hs : List NumberedFolder) (rs : List Response) : Type 0 where
  pub folders : listed rs hs ≡ hs
  pub names : new_names hs rs ≡ []
