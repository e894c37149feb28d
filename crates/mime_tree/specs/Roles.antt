-- What a part is to the body of its message, by media type, disposition and name; and which leaves are inline (RFC 8621
-- section 4.1.4).
use Rattle.std.specs.Prelude.{ℕ, Bool, true, false, not, ◌&&◌, ◌||◌, if◌then◌else◌, List, [], ◌∷◌, codes, Option, Some, None, unwrap_or, is_some}
use Rattle.std.specs.Option.{option_map_or}
use Rattle.text_words.specs.Octets.{is_same_text}
use Rattle.mime_tree.specs.declared.part.Part.{Part, out-Part}
use Rattle.mime_tree.specs.declared.roles.Multipart.{Multipart}
use Rattle.mime_tree.specs.declared.roles.Multipart.TheVariants as multipart
use Rattle.mime_tree.specs.declared.roles.Walk.{Walk}
use Rattle.mime_tree.specs.Parts.{part_number}
use Rattle.mime_tree.specs.Heads.{type_of}

abbrev pub media : Part → List ℕ
media p = (out-Part p).media

abbrev pub is_plain_part : Part → Bool
is_plain_part p = is_same_text (media p) (codes "text/plain")

abbrev pub is_html : Part → Bool
is_html p = is_same_text (media p) (codes "text/html")

abbrev pub is_type : List ℕ → List ℕ → Bool
is_type of_media name = is_same_text (type_of of_media) name

-- an image, audio or video
abbrev pub is_media_part : Part → Bool
is_media_part p = is_type (media p) (codes "image") || is_type (media p) (codes "audio") || is_type (media p) (codes "video")

abbrev pub is_disposed : Part → List ℕ → Bool
is_disposed p name = option_map_or (λ (d : List ℕ). is_same_text d name) (out-Part p).disposition false

-- as an attachment it is to be offered: its disposition is other than inline, or it has none
abbrev pub is_downloadable : Part → Bool
is_downloadable p = not (is_disposed p (codes "inline"))

-- leaves alone have a number
abbrev pub is_leaf : Part → Bool
is_leaf p = is_some (part_number p)

abbrev pub leaf_number : Part → ℕ
leaf_number p = unwrap_or (part_number p) 0

abbrev pub multipart_of : List ℕ → Multipart
multipart_of of_media =
    if is_same_text of_media (codes "multipart/alternative") then multipart.Alternative
    else if is_same_text of_media (codes "multipart/related") then multipart.Related
    else multipart.Mixed

abbrev pub is_alternative : Multipart → Bool
is_alternative multipart.Alternative = true
is_alternative multipart.Related = false
is_alternative multipart.Mixed = false

abbrev pub is_related : Multipart → Bool
is_related multipart.Alternative = false
is_related multipart.Related = true
is_related multipart.Mixed = false

-- ---- which leaves are inline: of the body, and no attachment

-- of a type that a body may show
abbrev pub is_shown : Part → Bool
is_shown p = is_plain_part p || is_html p || is_media_part p

-- an empty name is none
abbrev pub is_unnamed : Option (List ℕ) → Bool
is_unnamed None = true
is_unnamed (Some []) = true
is_unnamed (Some (c ∷ t)) = false

-- a text with a name is a file
abbrev pub is_no_file : Part → Bool
is_no_file p = is_media_part p || is_unnamed (out-Part p).name

-- It is the first part of its multipart. After that no part of a related multipart is inline, and no file.
abbrev pub has_place : Walk → Part → Bool
has_place walk p = walk.first || (not (is_related walk.multipart) && is_no_file p)

abbrev pub is_inline : Walk → Part → Bool
is_inline walk p = not (is_disposed p (codes "attachment")) && (is_shown p && has_place walk p)
