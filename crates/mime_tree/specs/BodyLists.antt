-- Body lists (RFC 8621 section 4.1.4): the leaves that are the text, the HTML and the attachments of a message. A walk
-- goes over the parts of a multipart in turn, and adds each leaf to lists, at the end.
use Rattle.std.specs.Prelude.{◌≡◌, Bool, true, false, not, ◌&&◌, ◌||◌, if◌then◌else◌, List, [], ◌∷◌, ◌++◌, map}
use Rattle.std.specs.List.{list_any}
use Rattle.mime_tree.specs.declared.part.Part.{Part}
use Rattle.mime_tree.specs.declared.roles.Multipart.TheVariants as multipart
use Rattle.mime_tree.specs.declared.roles.Walk.{Walk}
use Rattle.mime_tree.specs.declared.lists.BodyLists.{BodyLists}
use Rattle.mime_tree.specs.Parts.{children}
use Rattle.mime_tree.specs.Roles.{media, is_plain_part, is_html, is_media_part, is_downloadable, is_leaf, leaf_number, multipart_of, is_alternative, is_inline}

pub record PartLists : Type 0 where
  pub text : List Part
  pub html : List Part
  pub attachments : List Part

abbrev pub nothing : PartLists
nothing = record { text = []; html = []; attachments = [] }

-- what stands in a, and after it what stands in b
abbrev pub both : PartLists → PartLists → PartLists
both a b = record { text = a.text ++ b.text; html = a.html ++ b.html; attachments = a.attachments ++ b.attachments }

-- the part, where it is wanted
abbrev pub wanted_part : Bool → Part → List Part
wanted_part wanted p = if wanted then p ∷ [] else []

abbrev pub to_text : Part → PartLists
to_text p = record { text = p ∷ []; html = []; attachments = [] }

abbrev pub to_html : Part → PartLists
to_html p = record { text = []; html = p ∷ []; attachments = [] }

abbrev pub to_attachments : Part → PartLists
to_attachments p = record { text = []; html = []; attachments = p ∷ [] }

-- ---- a leaf

-- Directly in an alternative an inline leaf goes to the list of its type, where that is open. Otherwise it is an
-- attachment.
abbrev pub to_its_list : Walk → Part → PartLists
to_its_list walk p =
    if walk.text && is_plain_part p then to_text p
    else if walk.html && is_html p then to_html p
    else to_attachments p

-- Elsewhere it goes to each open list; where both are closed, a text goes nowhere. Where one is closed, an image, audio
-- or video is an attachment too.
abbrev pub to_open_lists : Walk → Part → PartLists
to_open_lists walk p = record {
  text = wanted_part walk.text p;
  html = wanted_part walk.html p;
  attachments = wanted_part (is_media_part p && not (walk.text && walk.html)) p;
}

-- plain text closes the HTML, and HTML the text
abbrev pub closed_lists : Walk → Part → Walk
closed_lists walk p = record walk { text = walk.text && not (is_html p); html = walk.html && not (is_plain_part p) }

-- a part closes a list where it is inline within an alternative, but not directly in it
abbrev pub closes : Walk → Bool → Bool
closes walk inline = inline && (walk.within && not (is_alternative walk.multipart))

abbrev pub at_leaf : Walk → Bool → Part → Walk
at_leaf walk inline p = if closes walk inline then closed_lists walk p else walk

-- The walk as it meets a leaf: a list is closed for the leaf and the rest of the walk.
abbrev pub meeting : Walk → Part → Walk
meeting walk p = at_leaf walk (is_inline walk p) p

-- where the leaf goes; one that isn't inline is an attachment
abbrev pub lists_of : Walk → Bool → Part → PartLists
lists_of walk inline p =
    if not inline then to_attachments p
    else if is_alternative walk.multipart then to_its_list walk p
    else to_open_lists walk p

-- what the walk adds at a leaf
abbrev pub leaf_lists : Walk → Part → PartLists
leaf_lists walk p = lists_of (meeting walk p) (is_inline walk p) p

-- ---- a multipart

-- the walk after a part
abbrev pub next : Walk → Walk
next walk = record walk { first = false }

-- the walk over the parts of a multipart
abbrev pub into : Walk → Part → Walk
into walk p =
    let inner = multipart_of (media p) in
    record { multipart = inner; within = walk.within || is_alternative inner; text = walk.text; html = walk.html; first = true }

-- the first, or the other where the first has nothing
abbrev pub or_else : List Part → List Part → List Part
or_else [] other = other
or_else (p ∷ ps) other = p ∷ ps

-- where one of text and HTML has nothing, it takes the same as the other
abbrev pub shared : PartLists → PartLists
shared a = record { text = or_else a.text a.html; html = or_else a.html a.text; attachments = a.attachments }

-- after an alternative with both lists open
abbrev pub spread : Walk → PartLists → PartLists
spread inner a = if is_alternative inner.multipart && (inner.text && inner.html) then shared a else a

-- ---- the walk

-- what the parts in a multipart add, and what the parts after it add
pub record MultipartLists (p : Part) : Type 0 where
  pub no_leaf : is_leaf p ≡ false
  pub inner : PartLists
  pub behind : PartLists

-- What a walk over parts adds. What is closed in a multipart is open again after it.
pub data Walks : Walk → List Part → PartLists → Type 0 where
  End : (walk : Walk) → Walks walk [] nothing
  Multi : (walk : Walk) (p : Part) (ps : List Part) (adds : MultipartLists p) → Walks (into walk p) (children p) adds.inner
      → Walks (next walk) ps adds.behind → Walks walk (p ∷ ps) (both (spread (into walk p) adds.inner) adds.behind)
  Leaf : (walk : Walk) (p : Part) (ps : List Part) (behind : PartLists) → is_leaf p ≡ true → Walks (next (meeting walk p)) ps behind
      → Walks walk (p ∷ ps) (both (leaf_lists walk p) behind)

-- the walk begins with the root alone, and both lists open
abbrev pub start : Walk
start = record { multipart = multipart.Mixed; within = false; text = true; html = true; first = true }

-- These lists of leaf numbers are the body lists of a tree. There is an attachment where one of the attachments has a
-- disposition other than inline.
pub record AreBodyLists (lists : BodyLists) (root : Part) : Type 0 where
  pub parts : PartLists
  pub walks : Walks start (root ∷ []) parts
  pub text : lists.text ≡ map leaf_number parts.text
  pub html : lists.html ≡ map leaf_number parts.html
  pub attachments : lists.attachments ≡ map leaf_number parts.attachments
  pub has_attachment : lists.has_attachment ≡ list_any is_downloadable parts.attachments
