-- What a text by itself may be, or begin with: an address, a phrase, a group's beginning (RFC 5322 section 3.4).
use Rattle.std.specs.Prelude.{◌≡◌, ℕ, false, true, List, [], ◌∷◌, ◌++◌}
use Rattle.std.specs.List.{flat_map}
use Rattle.header_words.specs.EncodedWords.{IsText}
use Rattle.header_tokens.specs.declared.token.Alphabet.TheVariants as alphabet
use Rattle.header_tokens.specs.Tokens.{Spelled, AreTokens, AreLeading}
use Rattle.header_tokens.specs.Kinds.{has_mark}
use Rattle.header_addresses.specs.declared.address.Address.{Address}
use Rattle.header_addresses.specs.Mailboxes.{is_phrase, Mailbox}
use Rattle.header_addresses.specs.AddressLists.{One, IsAddressList}
use Rattle.header_addresses.specs.Names.{phrase_text, IsAddress}

-- the text is a list of one mailbox, and of no group
pub record IsOneAddress (a : Address) (t : List ℕ) : Type 0 where
  pub mailbox : Mailbox
  pub is : IsAddressList (One mailbox ∷ []) t
  pub address : IsAddress mailbox a

-- the text is a phrase, and this is the name that it spells
pub record IsPhraseName (name t : List ℕ) : Type 0 where
  pub tokens : List Spelled
  pub are_tokens : AreTokens alphabet.Mail tokens t
  pub phrase : is_phrase tokens ≡ true
  pub text : IsText false (phrase_text tokens) name

abbrev pub spelled_by : List Spelled → List ℕ
spelled_by ts = flat_map (λ (s : Spelled). s.text) ts

-- the text begins with a phrase and ":", and this follows them
pub record HasHead (rest t : List ℕ) : Type 0 where
  pub phrase : List Spelled
  pub colon : Spelled
  pub more : List Spelled
  pub tail : List ℕ
  pub tokens : AreLeading alphabet.Mail (phrase ++ colon ∷ more) tail t
  pub is_phrase : is_phrase phrase ≡ true
  pub is_colon : has_mark 58 colon ≡ true
  pub rest_is : rest ≡ spelled_by more ++ tail
