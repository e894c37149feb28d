-- What a folder, a message and its flags may be in a batch: what a store can tell of them.
use Rattle.std.specs.Prelude.{ℕ, ◌<◌, ◌^◌, List}
use Rattle.std.specs.List.{AllByRecursion}
use Rattle.imap_types.specs.Items.{AllNames}
use Rattle.imap_types.specs.Octets.{is_text}
use Rattle.imap_types.specs.Texts.{Each}
use Rattle.told_folder.specs.declared.message.Folder.{Folder}
use Rattle.told_folder.specs.declared.message.Message.{Message}
use Rattle.told_folder.specs.declared.message.NumberedFolder.{NumberedFolder}
use Rattle.told_mail.specs.Mail.{Mail, IsKept, IsWellFormedFolder, IsWellFormedMessage}

-- names of RFC 9051's grammar, in lower case, sorted by octets, each once, without `\recent`
pub record AreFlags (flags : List (List ℕ)) : Type 0 where
  pub kept : IsKept flags
  pub names : AllNames flags

-- numbered from 1 to MAX_FOLDER_NUMBER, a name without octets 0, CR and LF, a modseq of RFC 7162
pub record IsRightFolder (f : Folder) : Type 0 where
  pub well_formed : IsWellFormedFolder f
  pub name : Each is_text f.name
  pub attributes : AllNames f.attributes
  pub modseq : f.modseq < 2 ^ 63

-- a mark from 1 to MAX_MARK, a UID other than 0, a size of RFC 9051
pub record IsRightMessage (x : Message) : Type 0 where
  pub well_formed : IsWellFormedMessage x
  pub flags : AllNames x.flags
  pub uid : 0 < x.uid
  pub size : x.size < 2 ^ 63

-- ---- mail that has a batch

pub record IsRightHeld (h : NumberedFolder) : Type 0 where
  pub folder : IsRightFolder h.folder
  pub messages : AllByRecursion IsRightMessage h.messages

abbrev pub IsRightMail : Mail → Type 0
IsRightMail m = AllByRecursion IsRightHeld m.folders
