-- The words by which a reader decides, and where they count.
use Rattle.std.specs.Prelude.{◌≡◌, ◌⊎◌, ℕ, Bool, false, not, ◌&&◌, ◌||◌, nat_lt, ◌==◌, List, [], ◌∷◌, length, take, get_or, codes, bytes_eq, find, Option}
use Rattle.imap_keywords.specs.declared.key.Key.{Key}
use Rattle.imap_keywords.specs.declared.key.Key.TheVariants as key
use Rattle.imap_keywords.specs.declared.key.WordPlace.{WordPlace}
use Rattle.imap_keywords.specs.declared.key.WordPlace.TheVariants as place
use Rattle.imap_keywords.specs.declared.phrase.Phrase.{Phrase}
use Rattle.imap_keywords.specs.declared.phrase.Phrase.TheVariants as phrase
use Rattle.imap_types.specs.Octets.{is_word, is_atom}

abbrev pub phrase_text : Phrase → List ℕ
phrase_text phrase.Space = 32 ∷ []
phrase_text phrase.Crlf = 13 ∷ 10 ∷ []
phrase_text phrase.Earlier = codes "(earlier) "
phrase_text phrase.Close = 41 ∷ []
phrase_text phrase.Quote = 34 ∷ []
phrase_text phrase.Nil = codes "nil"

-- in lower case
abbrev pub key_text : Key → List ℕ
key_text key.Ok = codes "ok"
key_text key.No = codes "no"
key_text key.Bad = codes "bad"
key_text key.Preauth = codes "preauth"
key_text key.Bye = codes "bye"
key_text key.Capability = codes "capability"
key_text key.Enabled = codes "enabled"
key_text key.Vanished = codes "vanished"
key_text key.List = codes "list"
key_text key.Status = codes "status"
key_text key.Exists = codes "exists"
key_text key.Expunge = codes "expunge"
key_text key.Fetch = codes "fetch"
key_text key.Uid = codes "uid"
key_text key.Flags = codes "flags"
key_text key.ModSeq = codes "modseq"
key_text key.InternalDate = codes "internaldate"
key_text key.Size = codes "rfc822.size"
key_text key.Header = codes "body[header]"
key_text key.HeaderPart = codes "body[header]<0>"
key_text key.Body = codes "body[]"
key_text key.BodyPart = codes "body[]<0>"
key_text key.Jan = codes "jan"
key_text key.Feb = codes "feb"
key_text key.Mar = codes "mar"
key_text key.Apr = codes "apr"
key_text key.May = codes "may"
key_text key.Jun = codes "jun"
key_text key.Jul = codes "jul"
key_text key.Aug = codes "aug"
key_text key.Sep = codes "sep"
key_text key.Oct = codes "oct"
key_text key.Nov = codes "nov"
key_text key.Dec = codes "dec"

-- the words that count in a place
abbrev pub keys : WordPlace → List Key
keys place.Tagged = key.Ok ∷ key.No ∷ key.Bad ∷ []
keys place.Plain = key.Ok ∷ key.No ∷ key.Bad ∷ key.Preauth ∷ key.Bye ∷ key.Capability ∷ key.Enabled ∷ key.Flags ∷ key.Vanished ∷ key.List ∷ key.Status ∷ []
keys place.Numbered = key.Exists ∷ key.Expunge ∷ key.Fetch ∷ []
keys place.Item = key.Uid ∷ key.Flags ∷ key.ModSeq ∷ key.InternalDate ∷ key.Size ∷ key.Header ∷ key.HeaderPart ∷ key.Body ∷ key.BodyPart ∷ []
keys place.Month = key.Jan ∷ key.Feb ∷ key.Mar ∷ key.Apr ∷ key.May ∷ key.Jun ∷ key.Jul ∷ key.Aug ∷ key.Sep ∷ key.Oct ∷ key.Nov ∷ key.Dec ∷ []

abbrev pub first_key : WordPlace → Key
first_key place.Item = key.Uid
first_key place.Numbered = key.Exists
first_key place.Month = key.Jan
first_key _ = key.Ok

-- the octets of a word
abbrev pub in_word : WordPlace → ℕ → Bool
in_word place.Item c = is_atom c
in_word place.Month c = is_atom c && not (c == 45)
in_word _ c = is_word c

-- the key begins as this one does up to `at`, and goes on with the octet
abbrev pub goes_on : Key → ℕ → ℕ → Key → Bool
goes_on key at c k = nat_lt at (length (key_text k)) && get_or (key_text k) at 0 == c && bytes_eq (take at (key_text k)) (take at (key_text key))

-- the key itself, where it goes on
abbrev pub next_key : WordPlace → Key → ℕ → ℕ → Option Key
next_key place key at c = find (goes_on key at c) (key ∷ keys place)

-- the key is the word so far
abbrev pub is_whole : Key → ℕ → Key → Bool
is_whole key at k = length (key_text k) == at && bytes_eq (take at (key_text k)) (take at (key_text key))

-- the key itself, where it is whole
abbrev pub whole_key : WordPlace → Key → ℕ → Option Key
whole_key place key at = find (is_whole key at) (key ∷ keys place)

-- the key counts in the place
abbrev pub is_among : Key → List Key → Bool
is_among k [] = false
is_among k (x ∷ xs) = bytes_eq (key_text k) (key_text x) || is_among k xs

-- one of the keys
abbrev pub Among : Key → List Key → Type 0
Among k [] = ⊥
Among k (x ∷ xs) = (k ≡ x) ⊎ Among k xs
