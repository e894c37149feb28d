-- The commands, and the texts that a store reads as each: of those of RFC 9051 sections 6 and 9 and RFC 7162 section 3.2.5 the ones that
-- have a value as a Command, and LIST with the special uses (RFC 6154 section 2). Words are in letters of any case. No other text is a command.
use Rattle.std.specs.Prelude.{◌≡◌, ◌⊎◌, ℕ, Bool, true, false, List, [], ◌∷◌, ◌++◌, codes, Option, Some, None}
use Rattle.imap_types.specs.declared.command.Command.{Command}
use Rattle.imap_types.specs.declared.command.Command.TheVariants.{Capability, Login, Enable, List as ListFolders, Select, Unselect, FetchFlags, FetchSlice}
use Rattle.imap_types.specs.declared.command.Command.TheVariants.{FetchNew, FetchBody, Store, Move, Expunge, Append, Create, Delete, Rename, Subscribe}
use Rattle.imap_types.specs.Texts.{IsWord, IsCrlf}
use Rattle.imap_types.specs.Strings.{IsCounted}
use Rattle.imap_types.specs.DateTimes.{IsDateTime}
use Rattle.command_parts.specs.Fields.{◌▷◌, greatest_modseq, IsSpace, IsTag, IsPlainNumber, IsUnsigned, IsFolderName, IsCredential, IsFlagList}

-- every name, as a pattern of LIST: "*", in quotes or not
abbrev pub IsAnyName : List ℕ → Type 0
IsAnyName t = (t ≡ codes "\"*\"") ⊎ (t ≡ codes "*")

-- [SP "RETURN" SP "(SUBSCRIBED)"], or SP "RETURN" SP "(SUBSCRIBED SPECIAL-USE)" where the special uses are asked
abbrev pub IsReturn : Bool → List ℕ → Type 0
IsReturn false t = (t ≡ []) ⊎ IsWord (codes " return (subscribed)") t
IsReturn true t = IsWord (codes " return (subscribed special-use)") t

-- [SP "(QRESYNC (" number SP number "))"], the validity and the mod-sequence up to which the folder is known
abbrev pub IsSelectParameter : Option (ℕ × ℕ) → List ℕ → Type 0
IsSelectParameter None t = t ≡ []
IsSelectParameter (Some known) t =
    (IsWord (codes " (qresync (") ▷ IsUnsigned known.0 ▷ IsSpace ▷ IsPlainNumber greatest_modseq known.1 ▷ IsWord (codes "))")) t

-- what a header fetch asks for, of a folder with mod-sequences or without
abbrev pub IsHeaderItems : Bool → List ℕ → Type 0
IsHeaderItems true t = IsWord (codes " (uid flags modseq internaldate rfc822.size body.peek[header]<0.32768>)") t
IsHeaderItems false t = IsWord (codes " (uid flags internaldate rfc822.size body.peek[header]<0.32768>)") t

-- what stands between the tag with its space and the line's end
abbrev pub IsRequest : Command → List ℕ → Type 0
IsRequest Capability t = IsWord (codes "capability") t
IsRequest (Login user password) t = (IsWord (codes "login ") ▷ IsCredential user ▷ IsSpace ▷ IsCredential password) t
IsRequest Enable t = IsWord (codes "enable qresync imap4rev2") t
IsRequest (ListFolders special_use) t = (IsWord (codes "list \"\" ") ▷ IsAnyName ▷ IsReturn special_use) t
IsRequest (Select name known) t = (IsWord (codes "select ") ▷ IsFolderName name ▷ IsSelectParameter known) t
IsRequest Unselect t = IsWord (codes "unselect") t
IsRequest FetchFlags t = IsWord (codes "uid fetch 1:* (uid flags)") t
IsRequest (FetchSlice from to modseq) t =
    (IsWord (codes "uid fetch ") ▷ IsUnsigned from ▷ IsWord (codes ":") ▷ IsUnsigned to ▷ IsHeaderItems modseq) t
IsRequest (FetchNew from modseq) t = (IsWord (codes "uid fetch ") ▷ IsUnsigned from ▷ IsWord (codes ":*") ▷ IsHeaderItems modseq) t
IsRequest (FetchBody uid) t = (IsWord (codes "uid fetch ") ▷ IsUnsigned uid ▷ IsWord (codes " (uid body.peek[]<0.50000000>)")) t
IsRequest (Store uid true flags) t = (IsWord (codes "uid store ") ▷ IsUnsigned uid ▷ IsWord (codes " +flags ") ▷ IsFlagList flags) t
IsRequest (Store uid false flags) t = (IsWord (codes "uid store ") ▷ IsUnsigned uid ▷ IsWord (codes " -flags ") ▷ IsFlagList flags) t
IsRequest (Move uid name) t = (IsWord (codes "uid move ") ▷ IsUnsigned uid ▷ IsSpace ▷ IsFolderName name) t
IsRequest (Expunge uid) t = (IsWord (codes "uid expunge ") ▷ IsUnsigned uid) t
IsRequest (Append name flags date message) t =
    (IsWord (codes "append ") ▷ IsFolderName name ▷ IsSpace ▷ IsFlagList flags ▷ IsSpace ▷ IsDateTime date ▷ IsSpace ▷ IsCounted message) t
IsRequest (Create name) t = (IsWord (codes "create ") ▷ IsFolderName name) t
IsRequest (Delete name) t = (IsWord (codes "delete ") ▷ IsFolderName name) t
IsRequest (Rename from to) t = (IsWord (codes "rename ") ▷ IsFolderName from ▷ IsSpace ▷ IsFolderName to) t
IsRequest (Subscribe name true) t = (IsWord (codes "subscribe ") ▷ IsFolderName name) t
IsRequest (Subscribe name false) t = (IsWord (codes "unsubscribe ") ▷ IsFolderName name) t

-- tag SP request CRLF
pub record IsCommandText (tag : List ℕ) (command : Command) (t : List ℕ) : Type 0 where
  pub rest : List ℕ
  pub whole : t ≡ tag ++ 32 ∷ rest
  pub tag_is : IsTag tag
  pub asks : (IsRequest command ▷ IsCrlf) rest
