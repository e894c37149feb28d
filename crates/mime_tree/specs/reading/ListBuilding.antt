-- Lists of leaf numbers that grow while parts are walked.
use Rattle.std.specs.Prelude.{◌≡◌, ℕ, Bool, ◌||◌, false, List, [], ◌++◌, length, map}
use Rattle.std.specs.List.{list_any}
use Rattle.mime_tree.specs.declared.part.Part.{Part}
use Rattle.mime_tree.specs.declared.roles.Walk.{Walk}
use Rattle.mime_tree.specs.declared.lists.BodyLists.{BodyLists}
use Rattle.mime_tree.specs.declared.list_walk.Growing.{Growing}
use Rattle.mime_tree.specs.Parts.{children}
use Rattle.mime_tree.specs.Roles.{leaf_number, is_downloadable}
use Rattle.mime_tree.specs.BodyLists.{PartLists, wanted_part, into, shared, spread, Walks}

-- the lists as they stand
abbrev pub grown : Growing → BodyLists
grown g = record { text = g.text.items; html = g.html.items; attachments = g.attachments.items; has_attachment = g.has_attachment }

abbrev pub no_parts : BodyLists
no_parts = record { text = []; html = []; attachments = []; has_attachment = false }

-- an attachment, where it is wanted
abbrev pub attached : Bool → Part → PartLists
attached wanted p = record { text = []; html = []; attachments = wanted_part wanted p }

-- these parts were added
pub record GainsParts (old new : BodyLists) (a : PartLists) : Type 0 where
  pub text : new.text ≡ old.text ++ map leaf_number a.text
  pub html : new.html ≡ old.html ++ map leaf_number a.html
  pub attachments : new.attachments ≡ old.attachments ++ map leaf_number a.attachments
  pub has_attachment : new.has_attachment ≡ (old.has_attachment || list_any is_downloadable a.attachments)

-- what was added since the lists had these lengths is spread
abbrev pub Spreads : Walk → ℕ → ℕ → BodyLists → BodyLists → Type 0
Spreads inner text html mid new = (old : BodyLists) (a : PartLists) → length old.text ≡ text → length old.html ≡ html → GainsParts old mid a
    → GainsParts old new (spread inner a)

abbrev pub Shares : ℕ → ℕ → BodyLists → BodyLists → Type 0
Shares text html mid new = (old : BodyLists) (a : PartLists) → length old.text ≡ text → length old.html ≡ html → GainsParts old mid a → GainsParts old new
    (shared a)

-- what a walk over these parts adds was added
pub record GainsBy (walk : Walk) (ps : List Part) (old new : BodyLists) : Type 0 where
  pub parts : PartLists
  pub walks : Walks walk ps parts
  pub gains : GainsParts old new parts

-- what the parts of a multipart add was added, and spread
pub record GainsBelow (walk : Walk) (p : Part) (old new : BodyLists) : Type 0 where
  pub parts : PartLists
  pub walks : Walks (into walk p) (children p) parts
  pub gains : GainsParts old new (spread (into walk p) parts)
