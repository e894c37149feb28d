-- What each symbol of a LIST or a STATUS still reads, in the words of the grammar.
use Rattle.std.specs.Prelude.{◌≡◌, ℕ, ◌<◌, true, ◌||◌, List, [], ◌∷◌, ◌++◌, length, Option}
use Rattle.std.specs.Prelude.{◌==◌}
use Rattle.imap_automaton.specs.declared.sym.Folder.{Folder}
use Rattle.imap_automaton.specs.declared.sym.Folder.TheVariants as folder
use Rattle.imap_automaton.specs.Rests.{LongRest, IsSpaced}
use Rattle.imap_types.specs.Octets.{is_text, is_status_word}
use Rattle.imap_types.specs.Texts.{Each, Then}
use Rattle.imap_types.specs.Strings.{escaped}
use Rattle.imap_types.specs.Values.{IsFlat}
use Rattle.imap_types.specs.Folders.{IsDelimiter, IsListEnd, IsMoreCounts, IsCounts}

-- ---- LIST

abbrev pub AnyDelimiter : List ℕ → Type 0
AnyDelimiter t = (d : Option ℕ) × IsDelimiter d t

-- after the quote
abbrev pub DelimiterRest : List ℕ → Type 0
DelimiterRest t = (c : ℕ) × (is_text c ≡ true) × (t ≡ escaped (c ∷ []) ++ 34 ∷ [])

-- after the `\`
abbrev pub DelimiterPair : List ℕ → Type 0
DelimiterPair t = (c : ℕ) × ((c == 34 || c == 92) ≡ true) × (t ≡ c ∷ 34 ∷ [])

abbrev pub NameLine : List ℕ → Type 0
NameLine t = IsSpaced (Then IsFlat IsListEnd) t

abbrev pub DelimiterLine : List ℕ → Type 0
DelimiterLine t = IsSpaced (Then AnyDelimiter NameLine) t

-- ---- STATUS

abbrev pub AnyCounts : List ℕ → Type 0
AnyCounts t = (cs : List (List ℕ × ℕ)) × IsCounts cs t

abbrev pub MoreCounts : List ℕ → Type 0
MoreCounts t = (cs : List (List ℕ × ℕ)) × IsMoreCounts cs t

abbrev pub IsStatusWord : List ℕ → Type 0
IsStatusWord w = Each is_status_word w × (0 < length w)

-- a word or the rest of one, its number, and more counts
pub record WordCount (Front : List ℕ → Type 0) (t : List ℕ) : Type 0 where
  pub word : List ℕ
  pub digits : List ℕ
  pub rest : List ℕ
  pub whole : t ≡ word ++ (32 ∷ digits ++ rest)
  pub front : Front word
  pub number : LongRest 0 0 digits
  pub more : MoreCounts rest

abbrev pub CountsOpen : List ℕ → Type 0
CountsOpen t = (rest : List ℕ) × (t ≡ 40 ∷ rest) × AnyCounts rest

abbrev pub CountsLine : List ℕ → Type 0
CountsLine t = IsSpaced CountsOpen t

abbrev pub FolderLang : Folder → List ℕ → Type 0
FolderLang folder.Attributes t = DelimiterLine t
FolderLang folder.Delimiter t = AnyDelimiter t
FolderLang folder.DelimiterOctet t = DelimiterRest t
FolderLang folder.DelimiterEscaped t = DelimiterPair t
FolderLang folder.Name t = NameLine t
FolderLang folder.ListEnd t = IsListEnd t
FolderLang folder.Counts t = CountsLine t
FolderLang folder.CountsOpen t = CountsOpen t
FolderLang folder.FirstCount t = AnyCounts t
FolderLang folder.Count t = WordCount IsStatusWord t
FolderLang folder.CountWord t = WordCount (Each is_status_word) t
FolderLang folder.MoreCounts t = MoreCounts t
