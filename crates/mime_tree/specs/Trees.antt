-- The tree of parts that octets are (RFC 2046 section 5.1).
use Rattle.std.specs.Prelude.{◌≡◌, ◌<◌, ◌≤◌, ◌⊎◌, ℕ, zero, suc, ◌+◌, true, false, List, [], ◌∷◌, length, slice_range, Option, Some, None, unwrap_or}
use Rattle.mime_tree.specs.declared.head.Head.{Head}
use Rattle.mime_tree.specs.declared.split.Piece.{Piece}
use Rattle.mime_tree.specs.declared.part.Part.{Part, out-Part}
use Rattle.mime_tree.specs.declared.tree.TheConstants.{MAX_DEPTH, MAX_PARTS}
use Rattle.mime_tree.specs.Parts.{children, parts_within}
use Rattle.mime_tree.specs.Splits.{IsSplit}
use Rattle.mime_tree.specs.Heads.{IsHead, boundary_of, default_in, leaf_media, leaf_charset, is_multipart, text_plain, seven_bit}

-- the part stands where its head says, and has what its header says
pub record HasHead (h : Head) (p : Part) : Type 0 where
  pub head_start : (out-Part p).head_start ≡ h.start
  pub head_end : (out-Part p).head_end ≡ h.body
  pub start : (out-Part p).start ≡ h.body
  pub end : (out-Part p).end ≡ h.end
  pub disposition : (out-Part p).disposition ≡ h.header.disposition
  pub name : (out-Part p).name ≡ h.header.name
  pub cid : (out-Part p).cid ≡ h.header.cid
  pub language : (out-Part p).language ≡ h.header.language
  pub location : (out-Part p).location ≡ h.header.location
  pub encoding : (out-Part p).encoding ≡ unwrap_or h.header.encoding seven_bit

-- a part with no parts in it, whose number is first
pub record IsLeaf (h : Head) (first : ℕ) (p : Part) (next : ℕ) : Type 0 where
  pub head : HasHead h p
  pub number : (out-Part p).number ≡ Some first
  pub media : (out-Part p).media ≡ leaf_media h.media
  pub charset : (out-Part p).charset ≡ leaf_charset (leaf_media h.media) h.header.charset
  pub children : children p ≡ []
  pub next_is : next ≡ first + 1

-- a multipart
pub record IsNode (h : Head) (p : Part) : Type 0 where
  pub head : HasHead h p
  pub number : (out-Part p).number ≡ None
  pub media : (out-Part p).media ≡ h.media
  pub charset : (out-Part p).charset ≡ h.header.charset

-- from where to where, default media type, first number, part, number after its leaves'
abbrev pub TreeWord : Type 1
TreeWord = ℕ → ℕ → List ℕ → ℕ → Part → ℕ → Type 0

-- a tree for each piece of the body that begins at base, with leaves numbered on
abbrev pub AreTrees : TreeWord → ℕ → List ℕ → List Piece → ℕ → List Part → ℕ → Type 0
AreTrees One base default [] first [] next = next ≡ first
AreTrees One base default [] first (c ∷ cs) next = ⊥
AreTrees One base default (q ∷ qs) first [] next = ⊥
AreTrees One base default (q ∷ qs) first (c ∷ cs) next =
    (mid : ℕ) × One (base + q.start) (base + q.end) default first c mid × AreTrees One base default qs mid cs next

-- the pieces of a body, where it is split by a boundary and a delimiter line comes
abbrev pub ArePieces : Option (List ℕ) → List ℕ → Option (List Piece) → Type 0
ArePieces None body pieces = pieces ≡ None
ArePieces (Some boundary) body pieces = IsSplit body boundary pieces

-- a part with this head is a leaf, or has the trees of its pieces in it
abbrev pub IsPartOf : TreeWord → Head → Option (List Piece) → ℕ → Part → ℕ → Type 0
IsPartOf One h None first p next = IsLeaf h first p next
IsPartOf One h (Some qs) first p next = IsNode h p × AreTrees One h.body (default_in h.media) qs first (children p) next

-- The part p is the octets of b from s to e, with at most n levels below it. Its leaves are numbered from first
-- to before next, in the order of the octets.
unfoldable pub IsTree : ℕ → List ℕ → TreeWord
IsTree zero b s e default first p next = (h : Head) × IsHead b s e default h × IsLeaf h first p next
IsTree (suc more) b s e default first p next =
    (h : Head) × IsHead b s e default h × (qs : Option (List Piece)) × ArePieces (boundary_of h) (slice_range b h.body h.end) qs
    × IsPartOf (IsTree more b) h qs first p next

-- The tree of the octets, of which a part at depth MAX_DEPTH is a leaf, has more than MAX_PARTS parts. Wrong senders alone reach
-- this.
abbrev pub HasTooManyParts : List ℕ → Type 0
HasTooManyParts b = (p : Part) (next : ℕ) → IsTree MAX_DEPTH b 0 (length b) text_plain 1 p next → MAX_PARTS < parts_within MAX_DEPTH p

-- The part is the message b. One with too many parts is one leaf.
pub record IsMessage (b : List ℕ) (p : Part) : Type 0 where
  pub levels : ℕ
  pub next : ℕ
  pub tree : IsTree levels b 0 (length b) text_plain 1 p next
  pub bounded : ((levels ≡ MAX_DEPTH) × (parts_within MAX_DEPTH p ≤ MAX_PARTS)) ⊎ ((levels ≡ 0) × HasTooManyParts b)

-- a part with a number and no parts in it, which is no multipart
pub record IsSingle (p : Part) : Type 0 where
  pub number : ℕ
  pub number_is : (out-Part p).number ≡ Some number
  pub children : children p ≡ []
  pub media : is_multipart (out-Part p).media ≡ false

-- a multipart, which has no number
pub record IsMulti (p : Part) : Type 0 where
  pub number : (out-Part p).number ≡ None
  pub media : is_multipart (out-Part p).media ≡ true
