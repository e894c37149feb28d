-- Leaves that are written are found in the tree of the message.
use Rattle.std.proofs.Common.{◌≡◌, ◌≢◌, ℕ, zero, suc, ◌+◌, ◌-◌, ◌≤◌, Bool, true, false, List, [], ◌∷◌, ◌++◌, length, map, take, drop, refl, sym, ap, ◌∙◌, subst, arith, append_assoc, cond, Option, Some, None}
use Rattle.std.specs.Prelude.{slice_range, unwrap_or, codes}
use Rattle.std.proofs.lemmas.Bool.{cond-false}
use Rattle.std.proofs.lemmas.List.{drop-take, drop-drop, drop_at, append-nil}
use Rattle.std.proofs.Math.Seq.{drop-append-add}
use Rattle.base64.specs.Engines.{standard}
use Rattle.base64.specs.GeneralPurpose.{encode_of}
use Rattle.text_words.specs.Cuts.{Each}
use Rattle.header_words.specs.Transfer.{encoding_of, IsBody}
use Rattle.header_words.specs.declared.transfer.Encoding.{Encoding}
use Rattle.header_words.specs.declared.transfer.Encoding.TheVariants as encoding
use Rattle.mail_header.specs.Fields.{NameAndRaw, IsHeader}
use Rattle.mail_header.proofs.FieldLemmas.{one_header}
use Rattle.mime_fields.specs.declared.header.PartHeader.{PartHeader}
use Rattle.mime_fields.specs.PartHeaders.{IsPartHeader}
use Rattle.mime_fields.proofs.OneHeader.{one_part_header}
use Rattle.mime_tree.specs.declared.head.Head.{Head}
use Rattle.mime_tree.specs.declared.split.Piece.{Piece}
use Rattle.mime_tree.specs.declared.part.Part.{Part, out-Part}
use Rattle.mime_tree.specs.Parts.{children}
use Rattle.mime_tree.specs.Bodies.{encoding_by, HasOctets}
use Rattle.mime_tree.specs.Heads.{IsHead, boundary_of, leaf_charset, is_multipart, seven_bit}
use Rattle.mime_tree.specs.Trees.{IsLeaf, IsPartOf, ArePieces, IsTree}
use Rattle.mime_tree.proofs.HeadLemmas.{range_len, header_within}
use Rattle.message_lines.specs.Folding.{crlf, Field, fields_text}
use Rattle.message_lines.specs.Bodies.{in_lines, lines_of_76, base64_lines}
use Rattle.message_laws.specs.Headers.{read_field}
use Rattle.message_laws.specs.SafeTexts.{is_octet}
use Rattle.message_laws.proofs.BodyReading.{body_is_read, part_is_read}
use Rattle.message_laws.proofs.Lines.{ArePrintedFields}
use Rattle.message_texts.specs.Parts.{Entity, entity_text}
use Rattle.leaf_laws.specs.LeafReading.{GivenLeaf, IsLeafOf}
use Rattle.leaf_laws.proofs.EntityHeaders.{entity_header, fields_header}
use Rattle.leaf_laws.proofs.SplitTexts.{closed}
use Rattle.leaf_laws.proofs.WrittenHeaders.{SaysLeaf, SayLeaf}

-- what stands behind the first octets of a range
pub range_behind : (b : List ℕ) (s e n : ℕ) (x : List ℕ) → slice_range b s e ≡ x → n ≤ length x → slice_range b (s + n) e ≡ drop n x
range_behind b s e n x h le = by (within h)
  where
    within : slice_range b s e ≡ x → n ≤ e - s
    within h = omega (arith, ap length h, range_len b s e, le)

    by : n ≤ e - s → slice_range b (s + n) e ≡ drop n x
    by m =
        let w : e - s ≡ n + (e - (s + n)) = omega (arith, m) in
        ap (λ (u : List ℕ). take (e - (s + n)) u) (sym (drop-drop n s b))
        ∙ sym (drop-take n (e - (s + n)) (drop s b))
        ∙ ap (λ (k : ℕ). drop n (take k (drop s b))) (sym w)
        ∙ ap (drop n) h

-- octets that are a leaf's: a header that says so, and a body that spells the octets
pub record IsLeafText (fs : List Field) (len : ℕ) (w : GivenLeaf) (x : List ℕ) : Type 0 where
  pub header : IsHeader (map read_field fs) len x
  pub say : SayLeaf fs w
  pub spelled : IsBody encoding.Base64 w.octets false (drop len x)

base64_named : encoding_of (codes "base64") ≡ encoding.Base64
base64_named = refl

-- a part that stands where a leaf was written is that leaf
pub leaf_read : (more : ℕ) (b : List ℕ) (s e : ℕ) (default : List ℕ) (first : ℕ) (p : Part) (next : ℕ) (fs : List Field) (len : ℕ) (w : GivenLeaf) (x : List ℕ)
    → slice_range b s e ≡ x → IsLeafText fs len w x → IsTree (suc more) b s e default first p next → IsLeafOf b first w p × (next ≡ first + 1)
unfolding IsTree
leaf_read more b s e default first p next fs len w x at l t = (written, leaf.next_is)
  where
    h : Head
    h = t.0

    ih : IsHead b s e default h
    ih = t.1

    here : IsHeader ih.fields ih.len x
    here = subst (λ (u : List ℕ). IsHeader ih.fields ih.len u) at ih.is_header

    same : (ih.fields ≡ map read_field fs) × (ih.len ≡ len)
    same = one_header ih.fields (map read_field fs) ih.len len x here l.header

    said : h.header ≡ l.say.header
    said = one_part_header (map read_field fs) h.header l.say.header (subst (λ (u : List NameAndRaw). IsPartHeader u h.header) same.0 ih.is_read) l.say.is

    says : SaysLeaf h.header w
    says = subst (λ (u : PartHeader). SaysLeaf u w) (sym said) l.say.says

    media : h.media ≡ w.media
    media = ih.media_is ∙ ap (λ (m : Option (List ℕ)). unwrap_or m default) says.media

    single : is_multipart h.media ≡ false
    single = ap is_multipart media ∙ says.single

    no_boundary : boundary_of h ≡ None
    no_boundary = cond-false (is_multipart h.media) _ None single

    no_pieces : t.2 ≡ None
    no_pieces = subst (λ (u : Option (List ℕ)). ArePieces u (slice_range b h.body h.end) t.2) no_boundary t.3

    leaf : IsLeaf h first p next
    leaf = subst (λ (u : Option (List Piece)). IsPartOf (IsTree more b) h u first p next) no_pieces t.4

    leaf_type : (out-Part p).media ≡ w.media
    leaf_type = leaf.media ∙ cond-false (is_multipart h.media) _ h.media single ∙ media

    charset : (out-Part p).charset ≡ w.charset
    charset = leaf.charset ∙ ap (λ (m : List ℕ). leaf_charset m h.header.charset) (cond-false (is_multipart h.media) _ h.media single ∙ media) ∙ says.charset

    coded : encoding_by (out-Part p).number (out-Part p).encoding ≡ encoding.Base64
    coded = ap (λ (o : Option ℕ). encoding_by o (out-Part p).encoding) leaf.number
        ∙ ap encoding_of (leaf.head.encoding ∙ ap (λ (o : Option (List ℕ)). unwrap_or o seven_bit) says.encoding) ∙ base64_named

    body : slice_range b (out-Part p).start (out-Part p).end ≡ drop len x
    body = ap (λ (i : ℕ). slice_range b i (out-Part p).end) (leaf.head.start ∙ ih.body_is ∙ ap (λ (n : ℕ). s + n) same.1)
        ∙ ap (λ (j : ℕ). slice_range b (s + len) j) (leaf.head.end ∙ ih.end_is)
        ∙ range_behind b s e len x at (header_within (map read_field fs) len x l.header)

    octets : HasOctets p b w.octets false
    octets =
        subst (λ (c : Encoding). IsBody c w.octets false (slice_range b (out-Part p).start (out-Part p).end)) (sym coded)
        (subst (λ (u : List ℕ). IsBody encoding.Base64 w.octets false u) (sym body) l.spelled)

    written : IsLeafOf b first w p
    written = record {
      number_is = leaf.number;
      media_is = leaf_type;
      charset_is = charset;
      disposition_is = leaf.head.disposition ∙ says.disposition;
      name_is = leaf.head.name ∙ says.name;
      cid_is = leaf.head.cid ∙ says.cid;
      octets_are = octets;
      no_children = leaf.children;
    }

-- ---- a leaf's entity

-- its fields are printed and say the leaf, and its body is its octets in base64
pub record IsLeafEntity (e : Entity) (w : GivenLeaf) : Type 0 where
  pub fields : ArePrintedFields e.fields
  pub say : SayLeaf e.fields w
  pub octets : Each is_octet w.octets
  pub body : e.body ≡ base64_lines w.octets

-- alone
pub leaf_whole : (e : Entity) (w : GivenLeaf) → IsLeafEntity e w → IsLeafText e.fields (length (fields_text e.fields) + 2) w (entity_text e)
leaf_whole e w i = record {
  header = entity_header e i.fields;
  say = i.say;
  spelled = subst (λ (u : List ℕ). IsBody encoding.Base64 w.octets false u) (sym (drop-append-add (fields_text e.fields) (13 ∷ 10 ∷ e.body) 2 ∙ i.body)) (body_is_read w.octets i.octets);
}

-- lines in base64: none, or some, of which the last has an end
pub data HasEnd (t : List ℕ) : Type 0 where
  Nothing : t ≡ [] → HasEnd t
  Ended : (b : List ℕ) → t ≡ b ++ crlf → HasEnd t

lines_end : (room : ℕ) (t : List ℕ) → (b : List ℕ) × (in_lines room t ≡ b ++ crlf)
unfolding in_lines
lines_end room [] = ([], refl)
lines_end zero (c ∷ t) = let r = lines_end 75 t in (13 ∷ 10 ∷ c ∷ r.0, ap (λ (u : List ℕ). 13 ∷ 10 ∷ c ∷ u) r.1)
lines_end (suc room) (c ∷ t) = let r = lines_end room t in (c ∷ r.0, ap (λ (u : List ℕ). c ∷ u) r.1)

has_end : (t : List ℕ) → HasEnd (lines_of_76 t)
unfolding lines_of_76
has_end [] = Nothing refl
has_end (c ∷ t) = let r = lines_end 75 t in Ended (c ∷ r.0) (ap (λ (u : List ℕ). c ∷ u) r.1)

body_end : (octets : List ℕ) → HasEnd (base64_lines octets)
unfolding base64_lines
body_end octets = has_end (encode_of standard octets)

-- the text of a leaf's entity without the end of its last line
pub record LeafPart (e : Entity) (w : GivenLeaf) : Type 0 where
  pub text : List ℕ
  pub whole : closed text ≡ entity_text e
  pub fields : List Field
  pub len : ℕ
  pub is : IsLeafText fields len w text

nothing_behind : (t : List ℕ) → drop (length t) t ≡ []
nothing_behind t = ap (λ (u : List ℕ). drop (length t) u) (sym (append-nil t)) ∙ drop_at t [] (length t) refl

pub leaf_part : (e : Entity) (w : GivenLeaf) → IsLeafEntity e w → LeafPart e w
leaf_part e w i = by (body_end w.octets)
  where
    head : List ℕ
    head = fields_text e.fields

    by : HasEnd (base64_lines w.octets) → LeafPart e w
    by (Nothing n) = record {
      text = head;
      whole = ap (λ (u : List ℕ). head ++ (13 ∷ 10 ∷ u)) (sym (i.body ∙ n));
      fields = e.fields;
      len = length head;
      is = record {
        header = fields_header e.fields i.fields;
        say = i.say;
        spelled = subst (λ (u : List ℕ). IsBody encoding.Base64 w.octets false u) (n ∙ sym (nothing_behind head)) (body_is_read w.octets i.octets);
      };
    }
    by (Ended b n) =
        let f : Entity = record { fields = e.fields; body = b } in
        record {
          text = entity_text f;
          whole = append_assoc head (13 ∷ 10 ∷ b) crlf ∙ ap (λ (u : List ℕ). head ++ (13 ∷ 10 ∷ u)) (sym (i.body ∙ n));
          fields = e.fields;
          len = length head + 2;
          is = record {
            header = entity_header f i.fields;
            say = i.say;
            spelled = subst (λ (u : List ℕ). IsBody encoding.Base64 w.octets false u) (sym (drop-append-add head (13 ∷ 10 ∷ b) 2)) (part_is_read w.octets b i.octets n);
          };
        }
