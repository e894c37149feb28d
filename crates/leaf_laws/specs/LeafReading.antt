-- The parts of a draft, as a reader finds them in its message (RFC 2046, RFC 2183).
use Rattle.std.specs.Prelude.{◌≡◌, ℕ, ◌+◌, false, List, [], ◌∷◌, ◌++◌, length, map, codes, Option, Some, None}
use Rattle.address_laws.specs.MailboxReading.{shown_name}
use Rattle.mail_drafts.specs.declared.attachment.Attachment.{Attachment}
use Rattle.mail_drafts.specs.declared.draft.Draft.{Draft}
use Rattle.message_lines.specs.Bodies.{with_crlf}
use Rattle.message_texts.specs.Parts.{disposition}
use Rattle.mime_fields.specs.ContentTypes.{lower}
use Rattle.mime_tree.specs.declared.part.Part.{Part, out-Part}
use Rattle.mime_tree.specs.Bodies.{HasOctets}
use Rattle.mime_tree.specs.Heads.{leaf_charset}
use Rattle.mime_tree.specs.Parts.{children}

-- what a leaf of a draft has
pub record GivenLeaf : Type 0 where
  pub media : List ℕ
  pub charset : Option (List ℕ)
  pub disposition : Option (List ℕ)
  pub name : Option (List ℕ)
  pub cid : Option (List ℕ)
  pub octets : List ℕ

-- the part of the octets t is that leaf, with this number
pub record IsLeafOf (t : List ℕ) (number : ℕ) (x : GivenLeaf) (p : Part) : Type 0 where
  pub number_is : (out-Part p).number ≡ Some number
  pub media_is : (out-Part p).media ≡ x.media
  pub charset_is : (out-Part p).charset ≡ x.charset
  pub disposition_is : (out-Part p).disposition ≡ x.disposition
  pub name_is : (out-Part p).name ≡ x.name
  pub cid_is : (out-Part p).cid ≡ x.cid
  pub octets_are : HasOctets p t x.octets false
  pub no_children : children p ≡ []

-- leaves one after another, numbered from `first` on
abbrev pub AreLeavesOf : List ℕ → ℕ → List GivenLeaf → List Part → Type 0
AreLeavesOf t first [] ps = ps ≡ []
AreLeavesOf t first (x ∷ xs) [] = ⊥
AreLeavesOf t first (x ∷ xs) (p ∷ ps) = IsLeafOf t first x p × AreLeavesOf t (first + 1) xs ps

-- a multipart of this media type
pub record IsMultipartOf (media : List ℕ) (p : Part) : Type 0 where
  pub number_is : (out-Part p).number ≡ None
  pub media_is : (out-Part p).media ≡ media

-- ---- the leaves of a draft

-- a text in UTF-8, whose lines end in CR LF
abbrev pub given_text : List ℕ → List ℕ → GivenLeaf
given_text media value = record { media = media; charset = Some (codes "utf-8"); disposition = None; name = None; cid = None; octets = with_crlf value }

-- what is attached: media types are told in lower case, and a name of no octet isn't told
abbrev pub given_attachment : Attachment → GivenLeaf
given_attachment a = record {
  media = lower a.media;
  charset = leaf_charset (lower a.media) a.charset;
  disposition = Some (disposition a.inline);
  name = shown_name a.name;
  cid = a.cid;
  octets = a.bytes;
}

-- the leaves of what is shown, the plain text first
abbrev pub shown_leaves : Option (List ℕ) → Option (List ℕ) → List GivenLeaf
shown_leaves None None = []
shown_leaves (Some text) None = given_text (codes "text/plain") text ∷ []
shown_leaves None (Some html) = given_text (codes "text/html") html ∷ []
shown_leaves (Some text) (Some html) = given_text (codes "text/plain") text ∷ given_text (codes "text/html") html ∷ []

-- ---- the tree

-- what is shown: a text, or a multipart/alternative of both; without either, an empty text
abbrev pub IsShown : List ℕ → Option (List ℕ) → Option (List ℕ) → Part → Type 0
IsShown t None None p = IsLeafOf t 1 (given_text (codes "text/plain") []) p
IsShown t (Some text) None p = IsLeafOf t 1 (given_text (codes "text/plain") text) p
IsShown t None (Some html) p = IsLeafOf t 1 (given_text (codes "text/html") html) p
IsShown t (Some text) (Some html) p = IsMultipartOf (codes "multipart/alternative") p × AreLeavesOf t 1 (shown_leaves (Some text) (Some html)) (children p)

-- the same among other parts, where nothing stands for nothing
abbrev pub AreShown : List ℕ → Option (List ℕ) → Option (List ℕ) → List Part → Type 0
AreShown t None None ps = ps ≡ []
AreShown t (Some text) None ps = (p : Part) × (ps ≡ p ∷ []) × IsShown t (Some text) None p
AreShown t None (Some html) ps = (p : Part) × (ps ≡ p ∷ []) × IsShown t None (Some html) p
AreShown t (Some text) (Some html) ps = (p : Part) × (ps ≡ p ∷ []) × IsShown t (Some text) (Some html) p

-- a multipart/mixed of what is shown and, behind it, what is attached
pub record IsMixedOf (t : List ℕ) (text html : Option (List ℕ)) (list : List Attachment) (p : Part) : Type 0 where
  pub multipart : IsMultipartOf (codes "multipart/mixed") p
  pub shown : List Part
  pub attached : List Part
  pub whole : children p ≡ shown ++ attached
  pub are_shown : AreShown t text html shown
  pub are_attached : AreLeavesOf t (length (shown_leaves text html) + 1) (map given_attachment list) attached

-- without anything attached, what is shown stands alone
abbrev pub IsTreeOf : List ℕ → Option (List ℕ) → Option (List ℕ) → List Attachment → Part → Type 0
IsTreeOf t text html [] p = IsShown t text html p
IsTreeOf t text html (a ∷ list) p = IsMixedOf t text html (a ∷ list) p

abbrev pub IsTreeOfDraft : List ℕ → Draft → Part → Type 0
IsTreeOfDraft t d p = IsTreeOf t d.text d.html d.attachments p
