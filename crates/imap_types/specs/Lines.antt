-- Status lines: tag SP ("OK" / "NO" / "BAD") rest CRLF, and what follows the word of an untagged one.
use Rattle.std.specs.Prelude.{◌≡◌, ◌⊎◌, ℕ, ◌<◌, ◌≤◌, List, [], ◌∷◌, ◌++◌, length, codes}
use Rattle.imap_types.specs.declared.code.Code.{Code}
use Rattle.imap_types.specs.declared.response.Status.{Status}
use Rattle.imap_types.specs.declared.response.Status.TheVariants as status
use Rattle.imap_types.specs.Octets.{is_alnum, is_text, is_word}
use Rattle.imap_types.specs.Texts.{Each, Then, crlf, IsWord}
use Rattle.imap_types.specs.Codes.{HasCode}

abbrev pub word_of : Status → List ℕ
word_of status.Ok = codes "ok"
word_of status.No = codes "no"
word_of status.Bad = codes "bad"
word_of status.Preauth = codes "preauth"
word_of status.Bye = codes "bye"

-- the statuses that complete a command
abbrev pub Completes : Status → Type 0
Completes status.Ok = Unit {0}
Completes status.No = Unit {0}
Completes status.Bad = Unit {0}
Completes _ = ⊥

-- *text CRLF
pub record IsLine (t : List ℕ) : Type 0 where
  pub text : List ℕ
  pub whole : t ≡ text ++ crlf
  pub text_is : Each is_text text

-- rest = empty / SP *text, and the line's end
abbrev pub IsRest : List ℕ → Type 0
IsRest t = (t ≡ crlf) ⊎ ((line : List ℕ) × (t ≡ 32 ∷ line) × IsLine line)

-- a rest that has this code
abbrev pub IsCodedRest : Code → List ℕ → Type 0
IsCodedRest code t = IsRest t × HasCode code t

pub record IsTagged (tag : List ℕ) (s : Status) (code : Code) (t : List ℕ) : Type 0 where
  pub after : List ℕ
  pub whole : t ≡ tag ++ 32 ∷ after
  pub tag_is : Each is_alnum tag
  pub some : 0 < length tag
  pub few : length tag ≤ 32
  pub completes : Completes s
  pub line : Then (IsWord (word_of s)) (IsCodedRest code) after

-- ---- words

-- word = one or more octets 33 to 126
abbrev pub IsPrinted : List ℕ → Type 0
IsPrinted w = Each is_word w × (0 < length w)

abbrev pub AllPrinted : List (List ℕ) → Type 0
AllPrinted [] = Unit {0}
AllPrinted (w ∷ ws) = IsPrinted w × AllPrinted ws

-- a space before each
abbrev pub spaced : List (List ℕ) → List ℕ
spaced [] = []
spaced (w ∷ ws) = 32 ∷ w ++ spaced ws

-- a space between two
abbrev pub joined : List (List ℕ) → List ℕ
joined [] = []
joined (w ∷ ws) = w ++ spaced ws

-- *(SP word) CRLF
abbrev pub IsWords : List (List ℕ) → List ℕ → Type 0
IsWords ws t = AllPrinted ws × (t ≡ spaced ws ++ crlf)
