-- Parts that are added to a text, put together.
use Rattle.std.proofs.Common.{◌≡◌, ◌≢◌, ℕ, suc, ◌+◌, ◌<◌, Bool, true, false, List, [], ◌∷◌, ◌++◌, map, length, drop, get_or, Option, Some, None, codes, refl, sym, ap, ◌∙◌, flat_map}
use Rattle.std.proofs.Common.{drop-cons, add-one}
use Rattle.std.specs.Prelude.{is_some, option_to_list}
use Rattle.std.proofs.lemmas.List.{append_assoc, append-nil, map-append}
use Rattle.std.proofs.lemmas.List.Concat.{flat_map-append}
use Rattle.mail_drafts.specs.declared.attachment.Attachment.{Attachment}
use Rattle.message_lines.specs.Bodies.{base64_lines, with_crlf}
use Rattle.message_lines.specs.declared.folding.Line.{Line}
use Rattle.message_lines.specs.Folding.{Field, plain_piece, begun, laid, line_after, crlf, field, field_text, fields_text}
use Rattle.message_lines.specs.Ids.{bracketed}
use Rattle.message_lines.proofs.LineLemmas.{laid-append, AddsPiece}
use Rattle.message_texts.specs.Parts.{Entity, entity_text, base64_field, text_leaf, disposition_pieces, disposition_field, id_fields, charset_parameter, attachment_leaf, delimiter_line, closing_line, delimited, multipart_body}
use Rattle.message_texts.specs.Parts.{mixed_boundary, delimited_parts, alternative_boundary, alternative, shown_part, mixed, alone, whole_part}

-- one text after another
pub then2 : (old a b x y : List ℕ) → a ≡ old ++ x → b ≡ a ++ y → b ≡ old ++ (x ++ y)
then2 old a b x y e f = f ∙ ap (λ (u : List ℕ). u ++ y) e ∙ append_assoc old x y

pub then3 : (old a b c x y z : List ℕ) → a ≡ old ++ x → b ≡ a ++ y → c ≡ b ++ z → c ≡ old ++ (x ++ (y ++ z))
then3 old a b c x y z e f g = then2 old a c x (y ++ z) e (then2 a b c y z f g)

-- ---- entities

-- one field
pub one_field : (old new : List ℕ) (f : Field) → new ≡ old ++ field_text f → new ≡ old ++ fields_text (f ∷ [])
one_field old new f e = e ∙ ap (λ (u : List ℕ). old ++ u) (sym (append-nil (field_text f)))

-- a field, and others behind it
pub field_before : (old text new : List ℕ) (f : Field) (fs : List Field) → text ≡ old ++ field_text f → new ≡ text ++ fields_text fs → new ≡ old ++ fields_text (f ∷ fs)
field_before old text new f fs e g = then2 old text new (field_text f) (fields_text fs) e g

-- fields, the end of a line and a body are an entity
pub entity_written : (old head empty new : List ℕ) (e : Entity) → head ≡ old ++ fields_text e.fields → empty ≡ head ++ crlf → new ≡ empty ++ e.body → new ≡ old ++ entity_text e
entity_written old head empty new e f g h = then3 old head empty new (fields_text e.fields) crlf e.body f g h

-- ---- multiparts

-- the last part, and the line that closes a multipart
pub parts_close : (old new text boundary : List ℕ) (parts : List (List ℕ)) → text ≡ old ++ flat_map (delimited boundary) parts → new ≡ text ++ closing_line boundary
    → new ≡ old ++ multipart_body boundary parts
parts_close old new text boundary parts e f = then2 old text new (flat_map (delimited boundary) parts) (closing_line boundary) e f

-- a part after its delimiter line
pub part_alone : (old line new boundary part : List ℕ) → line ≡ old ++ delimiter_line boundary → new ≡ line ++ part → new ≡ old ++ flat_map (delimited boundary) (part ∷ [])
part_alone old line new boundary part e f = then2 old line new (delimiter_line boundary) part e f ∙ ap (λ (u : List ℕ). old ++ u) (sym (append-nil (delimiter_line boundary ++ part)))

-- parts behind others
pub parts_behind : (old text new boundary : List ℕ) (parts more : List (List ℕ)) → text ≡ old ++ flat_map (delimited boundary) parts → new ≡ text ++ flat_map (delimited boundary) more
    → new ≡ old ++ flat_map (delimited boundary) (parts ++ more)
parts_behind old text new boundary parts more e f =
    then2 old text new (flat_map (delimited boundary) parts) (flat_map (delimited boundary) more) e f
    ∙ ap (λ (u : List ℕ). old ++ u) (sym (flat_map-append (delimited boundary) parts more))

-- the parts of two lists in the outer multipart
pub entities_behind : (old text new : List ℕ) (parts more : List Entity) → text ≡ old ++ delimited_parts parts → new ≡ text ++ delimited_parts more
    → new ≡ old ++ delimited_parts (parts ++ more)
entities_behind old text new parts more e f =
    parts_behind old text new mixed_boundary (map entity_text parts) (map entity_text more) e f
    ∙ ap (λ (ts : List (List ℕ)). old ++ flat_map (delimited mixed_boundary) ts) (sym (map-append entity_text parts more))

-- a part is written in a multipart, and those behind it are left
pub part_written : (old text line new whole : List ℕ) (parts behind : List Entity) (e : Entity) → text ++ delimited_parts parts ≡ whole → parts ≡ e ∷ behind
    → line ≡ text ++ delimiter_line mixed_boundary → new ≡ line ++ entity_text e → new ++ delimited_parts behind ≡ whole
part_written old text line new whole parts behind e w p f g =
    ap (λ (u : List ℕ). u ++ delimited_parts behind) (then2 text line new (delimiter_line mixed_boundary) (entity_text e) f g)
    ∙ append_assoc text (delimiter_line mixed_boundary ++ entity_text e) (delimited_parts behind) ∙ ap (λ (es : List Entity). text ++ delimited_parts es) (sym p) ∙ w

-- ---- leaves

-- a text, in UTF-8
pub text_leaf_written : (old t1 t2 t3 new media value content octets : List ℕ) → content ≡ media ++ codes "; charset=utf-8" → octets ≡ with_crlf value
    → t1 ≡ old ++ field_text (field (codes "Content-Type") (content ∷ [])) → t2 ≡ t1 ++ field_text base64_field → t3 ≡ t2 ++ crlf → new ≡ t3 ++ base64_lines octets
    → new ≡ old ++ entity_text (text_leaf media value)
unfolding text_leaf
text_leaf_written old t1 t2 t3 new media value content octets c o e1 e2 e3 e4 =
    entity_written old t2 t3 new (text_leaf media value)
    (field_before old t1 t2 (field (codes "Content-Type") ((media ++ codes "; charset=utf-8") ∷ [])) (base64_field ∷ [])
    (e1 ∙ ap (λ (t : List ℕ). old ++ field_text (field (codes "Content-Type") (t ∷ []))) c) (one_field t1 t2 base64_field e2)) e3 (e4 ∙ ap (λ (t : List ℕ). t3 ++ base64_lines t) o)

-- two pieces of a value
pub two_pieces : (line mid : Line) (old text new one two : List ℕ) (p q : List ℕ) → one ≡ p → two ≡ q → AddsPiece line (plain_piece one) old text mid
    → new ≡ text ++ laid mid (plain_piece two ∷ []) → new ≡ old ++ laid line (map plain_piece (p ∷ q ∷ []))
unfolding line_after
two_pieces line mid old text new one two p q e f a w =
    w ∙ ap (λ (t : List ℕ). t ++ laid mid (plain_piece two ∷ [])) a.0 ∙ append_assoc old (laid line (plain_piece one ∷ [])) (laid mid (plain_piece two ∷ []))
    ∙ ap (λ (l : Line). old ++ (laid line (plain_piece one ∷ []) ++ laid l (plain_piece two ∷ []))) a.1
    ∙ ap (λ (t : List ℕ). old ++ t) (sym (laid-append line (plain_piece one ∷ []) (plain_piece two ∷ [])))
    ∙ ap (λ (t : List ℕ). old ++ laid line (plain_piece t ∷ plain_piece two ∷ [])) e ∙ ap (λ (t : List ℕ). old ++ laid line (plain_piece p ∷ plain_piece t ∷ [])) f

-- the field that says how a part is to be shown
pub disposition_written : (old t1 t2 new : List ℕ) (line : Line) (inline : Bool) (name : Option (List ℕ)) → t1 ≡ old ++ (codes "Content-Disposition" ++ 58 ∷ [])
    → line ≡ begun (codes "Content-Disposition") → t2 ≡ t1 ++ laid line (map plain_piece (disposition_pieces inline name)) → new ≡ t2 ++ crlf
    → new ≡ old ++ field_text (disposition_field inline name)
unfolding disposition_field
disposition_written old t1 t2 new line inline name e1 l e2 e3 =
    let title = codes "Content-Disposition" in
    let value = laid (begun title) (map plain_piece (disposition_pieces inline name)) in
    then3 old t1 t2 new (title ++ 58 ∷ []) value crlf e1 (e2 ∙ ap (λ (k : Line). t1 ++ laid k (map plain_piece (disposition_pieces inline name))) l) e3

-- the id of a part
pub content_id_written : (old new : List ℕ) (cid : Option (List ℕ)) (id piece : List ℕ) → cid ≡ Some id → piece ≡ bracketed id
    → new ≡ old ++ field_text (field (codes "Content-ID") (piece ∷ [])) → new ≡ old ++ fields_text (id_fields cid)
content_id_written old new cid id piece e f w =
    one_field old new (field (codes "Content-ID") (bracketed id ∷ [])) (w ∙ ap (λ (t : List ℕ). old ++ field_text (field (codes "Content-ID") (t ∷ []))) f)
    ∙ ap (λ (o : Option (List ℕ)). old ++ fields_text (id_fields o)) (sym e)

-- what is attached
pub attachment_written : (old t1 t2 t3 t4 t5 new media octets : List ℕ) (a : Attachment) → media ≡ a.media ++ charset_parameter a.charset → octets ≡ a.bytes
    → t1 ≡ old ++ field_text (field (codes "Content-Type") (media ∷ [])) → t2 ≡ t1 ++ field_text base64_field
    → t3 ≡ t2 ++ field_text (disposition_field a.inline a.name) → t4 ≡ t3 ++ fields_text (id_fields a.cid) → t5 ≡ t4 ++ crlf
    → new ≡ t5 ++ base64_lines octets → new ≡ old ++ entity_text (attachment_leaf a)
unfolding attachment_leaf
attachment_written old t1 t2 t3 t4 t5 new media octets a m o e1 e2 e3 e4 e5 e6 =
    let shown = disposition_field a.inline a.name in
    entity_written old t4 t5 new (attachment_leaf a)
    (field_before old t1 t4 (field (codes "Content-Type") ((a.media ++ charset_parameter a.charset) ∷ [])) (base64_field ∷ shown ∷ id_fields a.cid)
    (e1 ∙ ap (λ (t : List ℕ). old ++ field_text (field (codes "Content-Type") (t ∷ []))) m)
    (field_before t1 t2 t4 base64_field (shown ∷ id_fields a.cid) e2 (field_before t2 t3 t4 shown (id_fields a.cid) e3 e4))) e5 (e6 ∙ ap (λ (t : List ℕ). t5 ++ base64_lines t) o)

-- ---- what is shown

-- a text and an HTML
pub alternative_written : (old t1 t2 t3 t4 t5 t6 new text html : List ℕ)
    → t1 ≡ old ++ field_text (field (codes "Content-Type") (codes "multipart/alternative; boundary=_b" ∷ [])) → t2 ≡ t1 ++ crlf → t3 ≡ t2 ++ delimiter_line alternative_boundary
    → t4 ≡ t3 ++ entity_text (text_leaf (codes "text/plain") text) → t5 ≡ t4 ++ delimiter_line alternative_boundary
    → t6 ≡ t5 ++ entity_text (text_leaf (codes "text/html") html) → new ≡ t6 ++ closing_line alternative_boundary → new ≡ old ++ entity_text (alternative text html)
unfolding alternative
alternative_written old t1 t2 t3 t4 t5 t6 new text html e1 e2 e3 e4 e5 e6 e7 =
    let b = alternative_boundary in
    let plain_text = entity_text (text_leaf (codes "text/plain") text) in
    let html_text = entity_text (text_leaf (codes "text/html") html) in
    entity_written old t1 t2 new (alternative text html) (one_field old t1 (field (codes "Content-Type") (codes "multipart/alternative; boundary=_b" ∷ [])) e1) e2
    (parts_close t2 new t6 b (plain_text ∷ html_text ∷ [])
    (parts_behind t2 t4 t6 b (plain_text ∷ []) (html_text ∷ []) (part_alone t2 t3 t4 b plain_text e3 e4) (part_alone t4 t5 t6 b html_text e5 e6)) e7)

-- the part that is shown, by which values are there
pub shown_is : (old new : List ℕ) (plain html p h : Option (List ℕ)) (e : Entity) → plain ≡ p → html ≡ h → shown_part p h ≡ Some e → new ≡ old ++ entity_text e
    → new ≡ old ++ flat_map entity_text (option_to_list (shown_part plain html))
shown_is old new plain html p h e same_plain same_html is w =
    let shown : shown_part plain html ≡ Some e = ap (λ (o : Option (List ℕ)). shown_part o html) same_plain ∙ ap (λ (o : Option (List ℕ)). shown_part p o) same_html ∙ is in
    w ∙ ap (λ (u : List ℕ). old ++ u) (sym (append-nil (entity_text e)) ∙ ap (λ (o : Option Entity). flat_map entity_text (option_to_list o)) (sym shown))

-- nothing is shown
pub nothing_shown : (old new : List ℕ) (o : Option Entity) → is_some o ≡ false → new ≡ old ++ entity_text (text_leaf (codes "text/plain") []) → new ≡ old ++ entity_text (alone o)
nothing_shown old new None e w = w
nothing_shown old new (Some shown) e w = absurd cc

-- what is shown is a part by itself
pub shown_alone : (old new : List ℕ) (o : Option Entity) → is_some o ≡ true → new ≡ old ++ flat_map entity_text (option_to_list o) → new ≡ old ++ entity_text (alone o)
shown_alone old new None e w = absurd cc
shown_alone old new (Some shown) e w = w ∙ ap (λ (u : List ℕ). old ++ u) (append-nil (entity_text shown))

-- what is shown is the first part of the outer multipart
pub shown_first : (old line new : List ℕ) (o : Option Entity) → is_some o ≡ true → line ≡ old ++ delimiter_line mixed_boundary → new ≡ line ++ flat_map entity_text (option_to_list o)
    → new ≡ old ++ delimited_parts (option_to_list o)
shown_first old line new None e f g = absurd cc
shown_first old line new (Some shown) e f g =
    part_alone old line new mixed_boundary (entity_text shown) f (g ∙ ap (λ (u : List ℕ). line ++ u) (append-nil (entity_text shown)))

-- ---- the whole

-- an attachment of a list, and those behind it
pub attachment_at : (list : List Attachment) (at : ℕ) (a : Attachment) → at < length list → a ≡ get_or list at a
    → map attachment_leaf (drop at list) ≡ attachment_leaf a ∷ map attachment_leaf (drop (at + 1) list)
attachment_at list at a here is =
    ap (map attachment_leaf)
    (drop-cons list at a here ∙ ap (λ (x : Attachment). x ∷ drop (suc at) list) (sym is) ∙ ap (λ (n : ℕ). a ∷ drop n list) (sym (add-one at)))

-- what is shown, and what is attached
pub mixed_written : (old t1 t2 t3 t4 new : List ℕ) (shown : Option Entity) (list : List Attachment) → list ≢ []
    → t1 ≡ old ++ field_text (field (codes "Content-Type") (codes "multipart/mixed; boundary=_a" ∷ [])) → t2 ≡ t1 ++ crlf → t3 ≡ t2 ++ delimited_parts (option_to_list shown)
    → t4 ≡ t3 ++ delimited_parts (map attachment_leaf list) → new ≡ t4 ++ closing_line mixed_boundary → new ≡ old ++ entity_text (whole_part shown list)
unfolding mixed
mixed_written old t1 t2 t3 t4 new shown [] some e1 e2 e3 e4 e5 = absurd (some refl)
mixed_written old t1 t2 t3 t4 new shown (a ∷ list) some e1 e2 e3 e4 e5 =
    let leaves = map attachment_leaf (a ∷ list) in
    entity_written old t1 t2 new (mixed shown (a ∷ list)) (one_field old t1 (field (codes "Content-Type") (codes "multipart/mixed; boundary=_a" ∷ [])) e1) e2
    (parts_close t2 new t4 mixed_boundary (map entity_text (option_to_list shown ++ leaves)) (entities_behind t2 t3 t4 (option_to_list shown) leaves e3 e4) e5)
