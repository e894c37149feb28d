-- The objects of parts (RFC 8621 section 4.1.4, EmailBodyPart).
use Rattle.std.specs.Prelude.{◌≡◌, ℕ, true, false, List, [], ◌∷◌, ◌++◌, codes, decimal, slice_range, Option, Some, None}
use Rattle.serde_json.specs.Data.{unsigned, Data, null, number, string, array, object, Members, no_members, put}
use Rattle.serde_json.specs.View.{items_of}
use Rattle.mail_header.specs.Fields.{NameAndRaw, IsHeader}
use Rattle.mime_tree.specs.declared.part.Part.{Part, out-Part}
use Rattle.mime_tree.specs.Bodies.{HasLen}
use Rattle.mime_tree.specs.Parts.{children, part_number}
use Rattle.mime_tree.specs.Roles.{is_leaf, media}
use Rattle.json_texts.specs.Texts.{text_data, optional_text}
use Rattle.message_blobs.specs.BlobIds.{leaf_text}
use Rattle.email_properties.specs.HeaderAsked.{HeaderAsked}
use Rattle.email_properties.specs.PartProperties.{part_key}
use Rattle.email_properties.specs.declared.part_property.PartProperty.{PartProperty}
use Rattle.email_properties.specs.declared.part_property.PartProperty.TheVariants as property
use Rattle.field_values.specs.HeaderProperties.{headers_data, IsHeaderPropertyData}
use Rattle.body_parts.specs.Languages.{IsLanguage}
use Rattle.body_parts.specs.Messages.{MessageData}
use Rattle.body_parts.specs.Steps.{InTurn}

-- ---- one property

-- the number of a leaf as a text; a multipart has none
abbrev pub part_id : Option ℕ → Data
part_id None = null
part_id (Some n) = string (decimal n)

-- the id of the octets of a leaf: that of the message, "-", and the leaf's number
abbrev pub part_blob_id : Option (List ℕ) → Option ℕ → Data
part_blob_id None n = null
part_blob_id (Some id) None = null
part_blob_id (Some id) (Some n) = text_data (id ++ leaf_text n)

-- the fields of the part's own header, which stands at the front of the part; the root's is the header of the message
pub record HasHeader (b : List ℕ) (p : Part) (fields : List NameAndRaw) : Type 0 where
  pub len : ℕ
  pub is_header : IsHeader fields len (slice_range b (out-Part p).head_start (out-Part p).end)

abbrev pub IsSizeData : List ℕ → Part → Data → Type 0
IsSizeData b p d = (n : ℕ) × HasLen p b n × (d ≡ number (unsigned n))

abbrev pub IsHeadersData : List ℕ → Part → Data → Type 0
IsHeadersData b p d = (fields : List NameAndRaw) × HasHeader b p fields × (d ≡ headers_data fields)

abbrev pub IsHeaderData : List ℕ → Part → HeaderAsked → Data → Type 0
IsHeaderData b p asked d = (fields : List NameAndRaw) × HasHeader b p fields × IsHeaderPropertyData asked fields d

-- The data of a property of a part of the message. The size is the number of octets that the part spells, once its transfer encoding is
-- undone; those of a multipart count as they stand. Of a multipart subParts is what with_sub_parts puts, which takes the place of null.
abbrev pub IsPropertyData : MessageData → Part → PartProperty → Data → Type 0
IsPropertyData m p property.PartId d = d ≡ part_id (part_number p)
IsPropertyData m p property.BlobId d = d ≡ part_blob_id m.id (part_number p)
IsPropertyData m p property.Size d = IsSizeData m.octets p d
IsPropertyData m p property.Name d = d ≡ optional_text (out-Part p).name
IsPropertyData m p property.Type d = d ≡ text_data (media p)
IsPropertyData m p property.Charset d = d ≡ optional_text (out-Part p).charset
IsPropertyData m p property.Disposition d = d ≡ optional_text (out-Part p).disposition
IsPropertyData m p property.Cid d = d ≡ optional_text (out-Part p).cid
IsPropertyData m p property.Language d = IsLanguage (out-Part p).language d
IsPropertyData m p property.Location d = d ≡ optional_text (out-Part p).location
IsPropertyData m p property.SubParts d = d ≡ null
IsPropertyData m p property.Headers d = IsHeadersData m.octets p d
IsPropertyData m p (property.Header asked) d = IsHeaderData m.octets p asked d

-- ---- the properties that are asked, each put at its key

abbrev pub PutsProperty : MessageData → Part → PartProperty → Members → Members → Type 0
PutsProperty m p asked before after = (d : Data) × IsPropertyData m p asked d × (after ≡ put (part_key asked) d before)

abbrev pub PutsProperties : MessageData → Part → List PartProperty → Members → Members → Type 0
PutsProperties m p asked before after = InTurn (PutsProperty m p) asked before after

pub record OwnMembers (m : MessageData) (asked : List PartProperty) (p : Part) : Type 0 where
  pub members : Members
  pub are : PutsProperties m p asked no_members members

-- ---- objects

-- the object of a multipart has those of the parts in it, whether they are asked or not
abbrev pub with_sub_parts : List Data → Members → Members
with_sub_parts inner members = put (codes "subParts") (array (items_of inner)) members

-- the members of a multipart's own, and the objects of the parts in it
pub record MultipartMembers (m : MessageData) (asked : List PartProperty) (p : Part) : Type 0 where
  pub no_leaf : is_leaf p ≡ false
  pub own : OwnMembers m asked p
  pub inner : List Data

-- these are the objects of the parts, in their order
pub data AreObjects (m : MessageData) (asked : List PartProperty) : List Part → List Data → Type 0 where
  End : AreObjects m asked [] []
  Leaf : (p : Part) (ps : List Part) (behind : List Data) (own : OwnMembers m asked p) → is_leaf p ≡ true → AreObjects m asked ps behind
      → AreObjects m asked (p ∷ ps) (object own.members ∷ behind)
  Multi : (p : Part) (ps : List Part) (behind : List Data) (x : MultipartMembers m asked p) → AreObjects m asked (children p) x.inner
      → AreObjects m asked ps behind → AreObjects m asked (p ∷ ps) (object (with_sub_parts x.inner x.own.members) ∷ behind)
