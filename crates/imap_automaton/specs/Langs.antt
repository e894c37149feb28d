-- What each symbol of the automaton still reads, in the words of the grammar.
use Rattle.std.specs.Prelude.{◌≡◌, ◌⊎◌, ℕ, zero, suc, ◌+◌, ◌<◌, ◌≤◌, Bool, true, false, List, [], ◌∷◌, ◌++◌, length, map, take, drop, get_or, ℤ}
use Rattle.imap_keywords.specs.declared.key.Key.{Key}
use Rattle.imap_keywords.specs.declared.key.Key.TheVariants as key
use Rattle.imap_keywords.specs.declared.key.WordPlace.{WordPlace}
use Rattle.imap_keywords.specs.declared.key.WordPlace.TheVariants as place
use Rattle.imap_keywords.specs.declared.count.Pending.{Pending}
use Rattle.imap_keywords.specs.declared.count.Pending.TheVariants as pending
use Rattle.imap_automaton.specs.declared.sym.Line.{Line}
use Rattle.imap_automaton.specs.declared.sym.Line.TheVariants as line
use Rattle.imap_automaton.specs.declared.sym.Free.{Free}
use Rattle.imap_automaton.specs.declared.sym.Free.TheVariants as free
use Rattle.imap_automaton.specs.declared.sym.Item.{Item}
use Rattle.imap_automaton.specs.declared.sym.Item.TheVariants as item
use Rattle.imap_automaton.specs.declared.sym.Names.{Names}
use Rattle.imap_automaton.specs.declared.sym.Names.TheVariants as names
use Rattle.imap_automaton.specs.declared.sym.ItemName.TheVariants as name
use Rattle.imap_automaton.specs.declared.sym.Date.{Date}
use Rattle.imap_automaton.specs.declared.sym.Date.TheVariants as date
use Rattle.imap_automaton.specs.declared.sym.Words.{Words}
use Rattle.imap_automaton.specs.declared.sym.Words.TheVariants as words
use Rattle.imap_automaton.specs.declared.sym.Set.{Set}
use Rattle.imap_automaton.specs.declared.sym.Set.TheVariants as set
use Rattle.imap_automaton.specs.declared.sym.Str.TheVariants as str
use Rattle.imap_automaton.specs.declared.sym.Folder.TheVariants as folder
use Rattle.imap_automaton.specs.declared.sym.Sym.{Sym}
use Rattle.imap_automaton.specs.declared.sym.Sym.TheVariants as sym
use Rattle.pushdown.specs.declared.moves.Move.{Move}
use Rattle.pushdown.specs.Automaton as machine
use Rattle.imap_keywords.specs.Counts.{pends}
use Rattle.imap_automaton.specs.DateRules.{day_octet, time_octet}
use Rattle.imap_automaton.specs.ItemNameRules.{name_from}
use Rattle.imap_automaton.specs.ItemNameLangs.{NameRest}
use Rattle.imap_keywords.specs.Keys.{key_text, phrase_text, keys, in_word, Among}
pub use Rattle.imap_automaton.specs.Rests.{OctetsRest, NumberRest, LongRest, IsSpaced}
use Rattle.imap_automaton.specs.StringLangs.{StrLang, ValueLang}
use Rattle.imap_automaton.specs.FolderLangs.{FolderLang}
use Rattle.imap_types.specs.declared.response.Response.{Response}
use Rattle.imap_types.specs.Octets.{is_digit, is_alnum, is_text, is_word, is_atom, is_inside, lower}
use Rattle.imap_types.specs.Texts.{Each, Then, crlf, IsCrlf}
use Rattle.imap_types.specs.Numbers.{value_from}
use Rattle.imap_types.specs.Lines.{IsLine, IsRest, IsPrinted, AllPrinted, spaced, IsWords}
use Rattle.imap_types.specs.declared.uid_set.UidRange.{UidRange}
use Rattle.imap_types.specs.UidSets as sets
use Rattle.imap_types.specs.DateTimes.{IsDateTime}
use Rattle.imap_types.specs.Items as items
use Rattle.imap_types.specs.Spells.{Spells, IsUntagged}

-- ---- text with literals

abbrev pub NoCount : Pending → Type 0
NoCount (pending.Closed v) = ⊥
NoCount _ = Unit {0}

pub record FreeEnd (s : Pending) (t : List ℕ) : Type 0 where
  pub text : List ℕ
  pub whole : t ≡ text ++ crlf
  pub text_is : Each is_text text
  pub no_count : NoCount (pends s text)

pub record FreeLiteral (Rest : List ℕ → Type 0) (s : Pending) (t : List ℕ) : Type 0 where
  pub text : List ℕ
  pub count : ℕ
  pub octets : List ℕ
  pub rest : List ℕ
  pub whole : t ≡ text ++ 13 ∷ 10 ∷ octets ++ rest
  pub text_is : Each is_text text
  pub counted : pends s text ≡ pending.Closed count
  pub most : count ≤ 50000000
  pub length_is : length octets ≡ count
  pub inside : Each is_inside octets
  pub goes_on : Rest rest

-- with n literals, after a text that ends so
abbrev pub IsFreeFrom : ℕ → Pending → List ℕ → Type 0
IsFreeFrom zero s t = FreeEnd s t
IsFreeFrom (suc literals) s t = FreeLiteral (IsFreeFrom literals pending.Nothing) s t

abbrev pub FreeLang : Free → List ℕ → Type 0
FreeLang (free.Text s) t = (literals : ℕ) × IsFreeFrom literals s t
FreeLang (free.Break n) t = (o : List ℕ) × (t ≡ 10 ∷ o) × OctetsRest n o
FreeLang (free.Octets n) t = OctetsRest n t

-- ---- names

abbrev pub NamesLang : Names → List ℕ → Type 0
NamesLang names.Open t = (ns : List (List ℕ)) × items.IsNames ns t
NamesLang names.First t = (ns : List (List ℕ)) × items.AllNames ns × (t ≡ items.joined ns ++ 41 ∷ [])
NamesLang names.More t = (ns : List (List ℕ)) × items.AllNames ns × (t ≡ spaced ns ++ 41 ∷ [])
NamesLang names.Name t = items.IsName t
NamesLang names.Atom t = items.IsAtom t
NamesLang names.AtomRest t = Each is_atom t

-- ---- items

abbrev pub ItemLang : Item → List ℕ → Type 0
ItemLang item.Open t = (is : List items.Item) × (inner : List ℕ) × (t ≡ 40 ∷ inner) × items.IsItems is inner
ItemLang item.More t = (is : List items.Item) × items.IsMore is t
ItemLang (item.Number value digits) t = NumberRest value digits t
ItemLang item.LongOpen t = (digits : List ℕ) × (t ≡ 40 ∷ digits ++ 41 ∷ []) × LongRest 0 0 digits
ItemLang (item.Long value digits) t = LongRest value digits t

-- ---- what stands after the month of a date

-- each octet may stand at its place, of which the first is `at`
abbrev pub Places : (ℕ → ℕ → Bool) → ℕ → List ℕ → Type 0
Places p at [] = Unit {0}
Places p at (c ∷ t) = (p at c ≡ true) × Places p (at + 1) t

pub record TimeRest (at : ℕ) (t : List ℕ) : Type 0 where
  pub each : Places time_octet at t
  pub count : at + length t ≡ 21

-- ---- words up to a line's end

pub record FirstWord (Front : List ℕ → Type 0) (t : List ℕ) : Type 0 where
  pub word : List ℕ
  pub words : List (List ℕ)
  pub whole : t ≡ word ++ spaced words ++ crlf
  pub front : Front word
  pub others : AllPrinted words

abbrev pub WordsLang : Words → List ℕ → Type 0
WordsLang words.More t = (ws : List (List ℕ)) × IsWords ws t
WordsLang words.First t = FirstWord IsPrinted t
WordsLang words.Rest t = FirstWord (Each is_word) t

-- ---- sets of UIDs up to a line's end

abbrev pub SetLine : List ℕ → Type 0
SetLine t = (rs : List UidRange) × sets.IsSetLine rs t

-- after a range
abbrev pub RangeEnds : List ℕ → Type 0
RangeEnds t = IsCrlf t ⊎ ((rest : List ℕ) × (t ≡ 44 ∷ rest) × SetLine rest)

-- after a number, the second of its range or not
abbrev pub NumberEnds : Bool → List ℕ → Type 0
NumberEnds true t = RangeEnds t
NumberEnds false t = RangeEnds t ⊎ ((rest : List ℕ) × (t ≡ 58 ∷ rest) × Then (NumberRest 0 0) RangeEnds rest)

abbrev pub SetLang : Set → List ℕ → Type 0
SetLang set.Open t = (earlier : Bool) × (rs : List UidRange) × sets.IsVanished earlier rs t
SetLang (set.Number value digits second) t = Then (NumberRest value digits) (NumberEnds second) t

-- ---- words

-- what follows a key
abbrev pub IsBehind : WordPlace → Key → List ℕ → Type 0
IsBehind place.Tagged key.Ok t = IsRest t
IsBehind place.Tagged key.No t = IsRest t
IsBehind place.Tagged key.Bad t = IsRest t
IsBehind place.Plain key.Ok t = IsRest t
IsBehind place.Plain key.No t = IsRest t
IsBehind place.Plain key.Bad t = IsRest t
IsBehind place.Plain key.Preauth t = IsRest t
IsBehind place.Plain key.Bye t = IsRest t
IsBehind place.Plain key.Capability t = WordsLang words.More t
IsBehind place.Plain key.Enabled t = WordsLang words.More t
IsBehind place.Plain key.Flags t = IsSpaced (Then (NamesLang names.Open) IsCrlf) t
IsBehind place.Plain key.Vanished t = IsSpaced (SetLang set.Open) t
IsBehind place.Plain key.List t = IsSpaced (Then (NamesLang names.Open) (FolderLang folder.Attributes)) t
IsBehind place.Plain key.Status t = IsSpaced (Then (StrLang str.AString) (FolderLang folder.Counts)) t
IsBehind place.Numbered key.Exists t = IsCrlf t
IsBehind place.Numbered key.Expunge t = IsCrlf t
IsBehind place.Numbered key.Fetch t = IsSpaced (ItemLang item.Open) t
IsBehind place.Item key.Uid t = IsSpaced (ItemLang (item.Number 0 0)) t
IsBehind place.Item key.Flags t = IsSpaced (NamesLang names.Open) t
IsBehind place.Item key.ModSeq t = IsSpaced (ItemLang item.LongOpen) t
IsBehind place.Item key.InternalDate t = IsSpaced (λ u. (s : ℤ) × IsDateTime s u) t
IsBehind place.Item key.Size t = IsSpaced (ItemLang (item.Long 0 0)) t
IsBehind place.Item key.Header t = IsSpaced (StrLang str.NString) t
IsBehind place.Item key.HeaderPart t = IsSpaced (StrLang str.NString) t
IsBehind place.Item key.Body t = IsSpaced (StrLang str.NString) t
IsBehind place.Item key.BodyPart t = IsSpaced (StrLang str.NString) t
IsBehind place.Month k t = TimeRest 0 t
IsBehind _ _ t = ⊥

-- the text of a word that is no key and began so
abbrev pub IsStray : WordPlace → List ℕ → List ℕ → Type 0
IsStray place.Plain begun t = FreeLang (free.Text pending.Nothing) t
IsStray place.Numbered begun t = FreeLang (free.Text pending.Nothing) t
IsStray place.Item begun t = NameRest (name_from name.Plain begun) t
IsStray _ begun t = ⊥

abbrev pub WordSays : WordPlace → List ℕ → List ℕ → List ℕ → List ℕ → Type 0
WordSays place begun word tail t =
    ((k : Key) × Among k (keys place) × (word ≡ key_text k) × IsBehind place k tail)
    ⊎ (((k : Key) → Among k (keys place) → word ≡ key_text k → ⊥) × IsStray place begun t)

-- the rest of a word that began so, and what follows it
pub record WordRest (place : WordPlace) (begun t : List ℕ) : Type 0 where
  pub word : List ℕ
  pub tail : List ℕ
  pub whole : t ≡ word ++ tail
  pub each : Each (in_word place) word
  pub some : 0 < length begun + length word
  pub longest : in_word place (get_or tail 0 0) ≡ false
  pub says : WordSays place begun (begun ++ map lower word) tail t

-- ---- dates

-- what stands after the quote of a date and n octets
pub record DayRest (at : ℕ) (t : List ℕ) : Type 0 where
  pub front : List ℕ
  pub back : List ℕ
  pub whole : t ≡ front ++ back
  pub each : Places day_octet at front
  pub count : at + length front ≡ 3
  pub month : WordRest place.Month [] back

abbrev pub DateLang : Date → List ℕ → Type 0
DateLang date.Open t = (s : ℤ) × IsDateTime s t
DateLang (date.Day at) t = DayRest at t
DateLang (date.Time at) t = TimeRest at t

-- ---- lines

pub record TagRest (n : ℕ) (t : List ℕ) : Type 0 where
  pub tag : List ℕ
  pub after : List ℕ
  pub whole : t ≡ tag ++ 32 ∷ after
  pub tag_is : Each is_alnum tag
  pub few : n + length tag ≤ 32
  pub line : WordRest place.Tagged [] after

-- the rest of a number of which `digits` digits made `value`, a space and a line
pub record NumberedRest (value digits : ℕ) (line t : List ℕ) : Type 0 where
  pub more : List ℕ
  pub whole : t ≡ more ++ 32 ∷ line
  pub each : Each is_digit more
  pub few : digits + length more ≤ 10
  pub most : value_from value more ≤ 4294967295

abbrev pub SequenceRest : ℕ → ℕ → List ℕ → Type 0
SequenceRest value digits t =
    ((line : List ℕ) × NumberedRest value digits line t × WordRest place.Numbered [] line)
    ⊎ (FreeLang (free.Text pending.Nothing) t × ((line : List ℕ) → NumberedRest value digits line t → ⊥))

abbrev pub LineLang : Line → List ℕ → Type 0
LineLang line.Start t = (v : Response) × Spells v t
LineLang (line.Tag n) t = TagRest n t
LineLang line.Untagged t = (v : Response) × IsUntagged v t
LineLang (line.Sequence value digits) t = SequenceRest value digits t
LineLang line.Text t = IsLine t
LineLang (line.Fixed p at) t = t ≡ drop at (phrase_text p)
LineLang (line.Folded p at) t = map lower t ≡ drop at (phrase_text p)

-- ---- symbols

abbrev pub Lang : Sym → List ℕ → Type 0
Lang (sym.Line s) t = LineLang s t
Lang (sym.Word place key at) t = WordRest place (take at (key_text key)) t
Lang (sym.Free s) t = FreeLang s t
Lang (sym.Item s) t = ItemLang s t
Lang (sym.Names s) t = NamesLang s t
Lang (sym.Date s) t = DateLang s t
Lang (sym.ItemName s) t = NameRest s t
Lang (sym.Words s) t = WordsLang s t
Lang (sym.Set s) t = SetLang s t
Lang (sym.Str s) t = StrLang s t
Lang (sym.Value s) t = ValueLang s t
Lang (sym.Folder s) t = FolderLang s t

-- the symbols in turn
abbrev pub InTurn : List Sym → List ℕ → Type 0
InTurn ss t = machine.Langs Lang ss t

-- what is still read after a move
abbrev pub AfterMove : Move Sym → List ℕ → Type 0
AfterMove m t = machine.After Lang m t
