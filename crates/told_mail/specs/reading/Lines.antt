-- Lines of a LIST as the code reads them, and how far a loop over folders has come.
use Rattle.std.specs.Prelude.{◌≡◌, ◌≢◌, ◌+◌, ◌&&◌, if◌then◌else◌, not, Vec, ℕ, Bool, true, false, List, []}
use Rattle.std.specs.Prelude.{◌∷◌, ◌++◌, Option, Some, None, take, drop, slice_get, Result, OnOk, OnErr, IfOk, is_some}
use Rattle.std.specs.BTreeMap.{BTreeMap}
use Rattle.std.specs.Option.{option_and_then}
use Rattle.std.specs.declared.alloc.Global.{Global}
use Rattle.imap_types.specs.declared.response.Response.{Response}
use Rattle.told_folder.specs.declared.message.NumberedFolder.{NumberedFolder}
use Rattle.told_mail.specs.Lists as lists
use Rattle.told_mail.specs.Lists.{line_of, line_for, names_told, with_line, is_inbox}
use Rattle.told_mail.specs.Mail.{Mail}
use Rattle.told_mail.specs.reading.Names.{names_in, place_in}
use Rattle.told_mail.specs.declared.list.Line.{Line}
use Rattle.told_folder.specs.declared.message.Folder.{Folder}
use Rattle.std.specs.declared.alloc.AllocError.{AllocError}

abbrev pub value_of : Line → lists.Line
value_of l = record { name = l.name.now; delimiter = l.delimiter; attributes = l.attributes.now }

abbrev pub as_listed : Folder → lists.Line → Folder
as_listed f l = record f { delimiter = l.delimiter; attributes = l.attributes }

-- at Ok the folder has what the line tells, and the answer is whether that is new; out of memory it is as it was
pub record IsLined (f g : Folder) (l : lists.Line) (result : Result Bool AllocError) : Type 0 where
  pub ok : OnOk result (g ≡ as_listed f l)
  pub err : OnErr result (g ≡ f)
  pub same : IfOk result (λ b. b ≡ false → g ≡ f)
  pub new : IfOk result (λ b. b ≡ true → as_listed f l ≢ f)

-- the folder with what its line tells, where there is one
abbrev pub lined_by : Option lists.Line → NumberedFolder → NumberedFolder
lined_by None h = h
lined_by (Some l) h = with_line l h

abbrev pub lined : List Response → NumberedFolder → NumberedFolder
lined rs h = lined_by (line_for h.folder.name rs) h

-- the first folder with what its line tells
abbrev pub lined_here : List Response → List NumberedFolder → List NumberedFolder
lined_here rs [] = []
lined_here rs (h ∷ hs) = lined rs h ∷ hs

abbrev pub lined_at : List Response → ℕ → Mail → Mail
lined_at rs at m = record m { folders = take at m.folders ++ lined_here rs (drop at m.folders) }

-- with a folder after the others, which takes the next number
abbrev pub with_pushed : Mail → Folder → Mail
with_pushed m f = record {
  folders = m.folders ++ record { folder = f; messages = [] } ∷ [];
  next_mark = m.next_mark;
  next_folder = m.next_folder + 1;
}

-- ---- places of lines, by their names

-- the line is that of the response at the place
abbrev pub StandsAt : List Response → Option lists.Line → Option ℕ → Type 0
StandsAt rs line None = line ≡ None
StandsAt rs line (Some at) = (l : lists.Line) × (line ≡ Some l) × (option_and_then line_of (slice_get rs at) ≡ Some l)

-- the names of lines from a place on, each with the place of its last line
pub record AreLinesFrom (rs : List Response) (at : ℕ) (lines : BTreeMap (Vec ℕ Global) ℕ) : Type 0 where
  pub names : names_in lines ≡ names_told (drop at rs)
  pub places : (name : List ℕ) → StandsAt rs (line_for name (drop at rs)) (place_in lines name)

-- a line has the folder's name
abbrev pub is_listed : BTreeMap (Vec ℕ Global) ℕ → NumberedFolder → Bool
is_listed lines h = is_some (place_in lines h.folder.name)

-- ---- names that are picked

-- INBOX alone or all but INBOX
abbrev pub is_of : Bool → List ℕ → Bool
is_of inbox name = if inbox then is_inbox name else not (is_inbox name)

-- the same, where the name has no number
abbrev pub is_picked : BTreeMap (Vec ℕ Global) ℕ → Bool → List ℕ → Bool
is_picked numbers inbox name = is_of inbox name && not (is_some (place_in numbers name))
