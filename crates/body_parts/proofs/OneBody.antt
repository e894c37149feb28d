-- No message has two data of one property of its body.
use Rattle.std.proofs.Common.{◌≡◌, ◌∙◌, ℕ, Bool, true, false, cond, ◌||◌, List, [], ◌∷◌, ◌++◌, length, refl, sym, ap, subst, arith, Option, is_some}
use Rattle.std.proofs.Common.{None, Some}
use Rattle.std.specs.Prelude.{slice_range, unwrap_or, codes, decimal, nat_lt, ◌&&◌, ◌==◌}
use Rattle.std.specs.Bool.{MatchBool}
use Rattle.std.specs.List.{filter}
use Rattle.serde_json.specs.Data.{unsigned, Data, number, boolean, array, object, Members, no_members, put}
use Rattle.serde_json.specs.View.{items_of}
use Rattle.text_words.specs.Octets.{is_same_text}
use Rattle.header_words.specs.Charsets.{charset_of, text_in, has_problem_in}
use Rattle.header_words.specs.declared.charset.Charset.{Charset}
use Rattle.header_words.specs.Transfer.{IsBody}
use Rattle.header_words.proofs.PrintableLemmas.{one_body as one_spelling}
use Rattle.header_tokens.specs.declared.token.Alphabet.TheVariants as alphabet
use Rattle.header_tokens.specs.Tokens.{Spelled}
use Rattle.header_tokens.proofs.LeadingLemmas.{one_leading_lexemes}
use Rattle.mail_header.specs.Fields.{NameAndRaw, IsHeader}
use Rattle.mail_header.proofs.FieldLemmas.{one_header}
use Rattle.json_texts.specs.Texts.{optional_text, text_data, text_list}
use Rattle.email_properties.specs.EmailProperties.{email_key, is_of_body}
use Rattle.email_properties.specs.PartProperties.{part_key}
use Rattle.email_properties.specs.Wanted.{BodyAsked, EmailAsked}
use Rattle.email_properties.specs.declared.email_property.EmailProperty.{EmailProperty}
use Rattle.email_properties.specs.declared.email_property.EmailProperty.TheVariants as email
use Rattle.email_properties.specs.declared.part_property.PartProperty.{PartProperty}
use Rattle.email_properties.specs.declared.part_property.PartProperty.TheVariants as property
use Rattle.field_values.specs.HeaderProperties.{headers_data, IsHeaderPropertyData}
use Rattle.field_values.proofs.PropertyLemmas.{one_property}
use Rattle.mime_tree.specs.declared.lists.BodyLists.{BodyLists}
use Rattle.mime_tree.specs.declared.part.Part.{Part, out-Part}
use Rattle.mime_tree.specs.declared.tree.TheConstants.{MAX_DEPTH}
use Rattle.mime_tree.specs.Bodies.{encoding_by, HasLen, HasOctets}
use Rattle.mime_tree.specs.BodyLists.{start}
use Rattle.mime_tree.specs.Heads.{is_text, us_ascii}
use Rattle.mime_tree.specs.Parts.{children}
use Rattle.mime_tree.specs.Roles.{leaf_number, is_plain_part, is_html}
use Rattle.mime_tree.specs.SameTrees.{AllSame}
use Rattle.mime_tree.proofs.OneTree.{one_message}
use Rattle.mime_tree.proofs.SameWalks.{same_lists}
use Rattle.body_parts.specs.BodyProperties.{AddsBodyProperties, AreValuesData, IsBodyProperty, IsDataOf, IsPartListData, PutsBodyProperty, Reading}
use Rattle.body_parts.specs.BodyValues.{has_value, IsValueData, is_listed, is_fetched, PutsValue, value_data}
use Rattle.body_parts.specs.Cuts.{IsBounded, IsCut, IsShortened, outside_tag}
use Rattle.body_parts.specs.Languages.{IsLanguage, tags}
use Rattle.body_parts.specs.Messages.{MessageData}
use Rattle.body_parts.specs.PartObjects as objects
use Rattle.body_parts.specs.PartObjects.{AreObjects, HasHeader, IsPropertyData, PutsProperty, with_sub_parts}
use Rattle.body_parts.specs.Previews.{IsPreview, IsPreviewOf, preview_of}
use Rattle.body_parts.specs.Steps.{InTurn}
use Rattle.body_parts.specs.Texts.{charset_in, HasText, with_lf, without_apostrophes}
use Rattle.body_parts.proofs.KinLemmas.{Kin, Like, children_like, kin_of_like, leaves_like, like_lists}
use Rattle.body_parts.proofs.LeafLemmas.{message_from, walk_inside}
use Rattle.body_parts.proofs.StepLemmas.{one_turn}

-- ---- what the one part has, its kin has

kin_octets : (b : List ℕ) (p q : Part) (o : List ℕ) (x : Bool) → Kin p q → HasOctets p b o x → HasOctets q b o x
kin_octets b p q o x k h =
    subst (λ (n : Option ℕ). IsBody (encoding_by n (out-Part q).encoding) o x (slice_range b (out-Part q).start (out-Part q).end)) k.number
    (subst (λ (e : List ℕ). IsBody (encoding_by (out-Part p).number e) o x (slice_range b (out-Part q).start (out-Part q).end)) k.encoding
    (subst (λ (s : ℕ). IsBody (encoding_by (out-Part p).number (out-Part p).encoding) o x (slice_range b s (out-Part q).end)) k.start
    (subst (λ (e : ℕ). IsBody (encoding_by (out-Part p).number (out-Part p).encoding) o x (slice_range b (out-Part p).start e)) k.end h)))

kin_len : (b : List ℕ) (p q : Part) (n : ℕ) → Kin p q → HasLen p b n → HasLen q b n
kin_len b p q n k h = record { octets = h.octets; problem = h.problem; is = kin_octets b p q h.octets h.problem k h.is; counted = h.counted }

kin_header : (b : List ℕ) (p q : Part) (fs : List NameAndRaw) → Kin p q → HasHeader b p fs → HasHeader b q fs
kin_header b p q fs k h = record {
  len = h.len;
  is_header = subst (λ (s : ℕ). IsHeader fs h.len (slice_range b s (out-Part q).end)) k.head_start
      (subst (λ (e : ℕ). IsHeader fs h.len (slice_range b (out-Part p).head_start e)) k.end h.is_header);
}

kin_property : (m : MessageData) (p q : Part) (a : PartProperty) (d : Data) → Kin p q → IsPropertyData m p a d → IsPropertyData m q a d
kin_property m p q property.PartId d k h = h ∙ ap objects.part_id k.number
kin_property m p q property.BlobId d k h = h ∙ ap (objects.part_blob_id m.id) k.number
kin_property m p q property.Size d k h = (h.0, kin_len m.octets p q h.0 k h.1, h.2)
kin_property m p q property.Name d k h = subst (λ (t : Option (List ℕ)). d ≡ optional_text t) k.name h
kin_property m p q property.Type d k h = subst (λ (t : List ℕ). d ≡ text_data t) k.media h
kin_property m p q property.Charset d k h = subst (λ (t : Option (List ℕ)). d ≡ optional_text t) k.charset h
kin_property m p q property.Disposition d k h = subst (λ (t : Option (List ℕ)). d ≡ optional_text t) k.disposition h
kin_property m p q property.Cid d k h = subst (λ (t : Option (List ℕ)). d ≡ optional_text t) k.cid h
kin_property m p q property.Language d k h = subst (λ (t : Option (List ℕ)). IsLanguage t d) k.language h
kin_property m p q property.Location d k h = subst (λ (t : Option (List ℕ)). d ≡ optional_text t) k.location h
kin_property m p q property.SubParts d k h = h
kin_property m p q property.Headers d k h = (h.0, kin_header m.octets p q h.0 k h.1, h.2)
kin_property m p q (property.Header asked) d k h = (h.0, kin_header m.octets p q h.0 k h.1, h.2)

kin_members : (m : MessageData) (p q : Part) (asked : List PartProperty) (a b : Members) → Kin p q → InTurn (PutsProperty m p) asked a b → InTurn (PutsProperty m q) asked a b
kin_members m p q [] a b k h = h
kin_members m p q (x ∷ asked) a b k h = (h.0, (h.1.0, kin_property m p q x h.1.0 k h.1.1, h.1.2), kin_members m p q asked h.0 b k h.2)

kin_text : (b : List ℕ) (p q : Part) (t : List ℕ) (x : Bool) → Kin p q → HasText p b t x → HasText q b t x
kin_text b p q t x k h =
    let c = ap (λ (n : Option (List ℕ)). charset_of (without_apostrophes (unwrap_or n us_ascii))) k.charset in
    record {
      octets = h.octets;
      misspelled = h.misspelled;
      has_octets = kin_octets b p q h.octets h.misspelled k h.has_octets;
      text_is = h.text_is ∙ ap (λ (s : Charset). with_lf (text_in s h.octets)) c;
      problem_is = h.problem_is ∙ ap (λ (s : Charset). h.misspelled || has_problem_in s h.octets) c;
    }

kin_value : (most : ℕ) (b : List ℕ) (p q : Part) (x y : Members) → Kin p q → PutsValue most b p x y → PutsValue most b q x y
kin_value most b p q x y k h = record {
  text = h.text;
  problem = h.problem;
  has_text = kin_text b p q h.text h.problem k h.has_text;
  value = h.value;
  is_value = subst (λ (t : List ℕ). IsValueData (is_same_text t (codes "text/html")) most h.text h.problem h.value) k.media h.is_value;
  is = h.is ∙ ap (λ (n : Option ℕ). put (decimal (unwrap_or n 0)) h.value x) k.number;
}

-- ---- properties of a part

one_octets : (b : List ℕ) (p : Part) (o u : List ℕ) (x y : Bool) → HasOctets p b o x → HasOctets p b u y → (o ≡ u) × (x ≡ y)
one_octets b p o u x y g h = one_spelling _ o u _ x y g h

one_len : (b : List ℕ) (p : Part) (n k : ℕ) → HasLen p b n → HasLen p b k → n ≡ k
one_len b p n k g h = g.counted ∙ ap (λ (o : List ℕ). length o) (one_octets b p g.octets h.octets g.problem h.problem g.is h.is).0 ∙ sym h.counted

one_language : (o : Option (List ℕ)) (d e : Data) → IsLanguage o d → IsLanguage o e → d ≡ e
one_language None d e g h = g ∙ sym h
one_language (Some t) d e g h = g.2 ∙ ap (λ (ls : List Spelled). text_list (tags ls)) (one_leading_lexemes alphabet.Mime g.0 h.0 t g.1 h.1) ∙ sym h.2

one_fields : (b : List ℕ) (p : Part) (fs gs : List NameAndRaw) → HasHeader b p fs → HasHeader b p gs → fs ≡ gs
one_fields b p fs gs g h = (one_header fs gs g.len h.len _ g.is_header h.is_header).0

one_own : (m : MessageData) (p : Part) (a : PartProperty) (d e : Data) → IsPropertyData m p a d → IsPropertyData m p a e → d ≡ e
one_own m p property.PartId d e g h = g ∙ sym h
one_own m p property.BlobId d e g h = g ∙ sym h
one_own m p property.Size d e g h = g.2 ∙ ap (λ (n : ℕ). number (unsigned n)) (one_len m.octets p g.0 h.0 g.1 h.1) ∙ sym h.2
one_own m p property.Name d e g h = g ∙ sym h
one_own m p property.Type d e g h = g ∙ sym h
one_own m p property.Charset d e g h = g ∙ sym h
one_own m p property.Disposition d e g h = g ∙ sym h
one_own m p property.Cid d e g h = g ∙ sym h
one_own m p property.Language d e g h = one_language (out-Part p).language d e g h
one_own m p property.Location d e g h = g ∙ sym h
one_own m p property.SubParts d e g h = g ∙ sym h
one_own m p property.Headers d e g h = g.2 ∙ ap (λ (fs : List NameAndRaw). headers_data fs) (one_fields m.octets p g.0 h.0 g.1 h.1) ∙ sym h.2
one_own m p (property.Header asked) d e g h =
    one_property asked h.0 d e (subst (λ (fs : List NameAndRaw). IsHeaderPropertyData asked fs d) (one_fields m.octets p g.0 h.0 g.1 h.1) g.2) h.2

one_puts : (m : MessageData) (p : Part) (a : PartProperty) (x y z : Members) → PutsProperty m p a x y → PutsProperty m p a x z → y ≡ z
one_puts m p a x y z g h = g.2 ∙ ap (λ (d : Data). put (part_key a) d x) (one_own m p a g.0 h.0 g.1 h.1) ∙ sym h.2

-- parts that are kin have equal members
one_members : (m : MessageData) (asked : List PartProperty) (p q : Part) → Kin p q → (g : objects.OwnMembers m asked p) (h : objects.OwnMembers m asked q) → g.members ≡ h.members
one_members m asked p q k g h =
    one_turn (PutsProperty m q) (one_puts m q) asked no_members g.members h.members (kin_members m p q asked no_members g.members k g.are) h.are

-- ---- objects

abbrev Ends : List Part → List Data → Type 0
Ends [] es = es ≡ []
Ends (p ∷ ps) es = Unit {0}

ends : (m : MessageData) (asked : List PartProperty) (ps : List Part) (es : List Data) → AreObjects m asked ps es → Ends ps es
ends m asked _ _ objects.End = refl
ends m asked _ _ (objects.Leaf p ps behind own leaf rest) = tt
ends m asked _ _ (objects.Multi p ps behind x kids rest) = tt

-- parts that are alike have equal objects
one_objects : (m : MessageData) (asked : List PartProperty) (ps qs : List Part) (ds es : List Data) → AllSame Like ps qs → AreObjects m asked ps ds
    → AreObjects m asked qs es → ds ≡ es
one_objects m asked _ [] _ es same objects.End other = sym (ends m asked [] es other)
one_objects m asked _ (q ∷ qs) _ es same objects.End other = absurd same
one_objects m asked _ [] _ es same (objects.Leaf p ps behind own leaf rest) other = absurd same
one_objects m asked _ [] _ es same (objects.Multi p ps behind x kids rest) other = absurd same
one_objects m asked _ (q ∷ qs) _ _ same (objects.Leaf p ps behind own leaf rest) (objects.Leaf _ _ behind' own' leaf' rest') =
    let one = one_members m asked p q (kin_of_like p q same.0) own own' in
    let more = one_objects m asked ps qs behind behind' same.1 rest rest' in
    λ i. object (one i) ∷ more i
one_objects m asked _ (q ∷ qs) _ _ same (objects.Leaf p ps behind own leaf rest) (objects.Multi _ _ behind' x' kids' rest') =
    absurd (let e = sym leaf ∙ ap is_some (kin_of_like p q same.0).number ∙ x'.no_leaf in cc)
one_objects m asked _ (q ∷ qs) _ _ same (objects.Multi p ps behind x kids rest) (objects.Leaf _ _ behind' own' leaf' rest') =
    absurd (let e = sym x.no_leaf ∙ ap is_some (kin_of_like p q same.0).number ∙ leaf' in cc)
one_objects m asked _ (q ∷ qs) _ _ same (objects.Multi p ps behind x kids rest) (objects.Multi _ _ behind' x' kids' rest') =
    let one = one_members m asked p q (kin_of_like p q same.0) x.own x'.own in
    let below = one_objects m asked (children p) (children q) x.inner x'.inner (children_like p q same.0) kids kids' in
    let more = one_objects m asked ps qs behind behind' same.1 rest rest' in
    λ i. object (with_sub_parts (below i) (one i)) ∷ more i

first_or : Data → List Data → Data
first_or d [] = d
first_or d (e ∷ es) = e

one_first : (d e : Data) → d ∷ [] ≡ e ∷ [] → d ≡ e
unfolding first_or
one_first d e h = ap (first_or d) h

one_list : (m : MessageData) (asked : List PartProperty) (ps qs : List Part) (d e : Data) → AllSame Like ps qs → IsPartListData m asked ps d → IsPartListData m asked qs e → d ≡ e
one_list m asked ps qs d e same g h = g.2 ∙ ap (λ (ds : List Data). array (items_of ds)) (one_objects m asked ps qs g.0 h.0 same g.1 h.1) ∙ sym h.2

-- ---- texts

one_text : (b : List ℕ) (p : Part) (s t : List ℕ) (x y : Bool) → HasText p b s x → HasText p b t y → (s ≡ t) × (x ≡ y)
one_text b p s t x y g h =
    let same = one_octets b p g.octets h.octets g.misspelled h.misspelled g.has_octets h.has_octets in
    let o = same.0 in
    let z = same.1 in
    let problems : (g.misspelled || has_problem_in (charset_in p) g.octets) ≡ (h.misspelled || has_problem_in (charset_in p) h.octets) =
    λ i. z i || has_problem_in (charset_in p) (o i) in
    (g.text_is ∙ ap (λ (u : List ℕ). with_lf (text_in (charset_in p) u)) o ∙ sym h.text_is, g.problem_is ∙ problems ∙ sym h.problem_is)

one_preview : (b : List ℕ) (ps qs : List Part) (u v : List ℕ) → AllSame Like ps qs → IsPreview b ps u → IsPreview b qs v → u ≡ v
one_preview b [] [] u v same g h = g ∙ sym h
one_preview b [] (q ∷ qs) u v same g h = absurd same
one_preview b (p ∷ ps) [] u v same g h = absurd same
one_preview b (p ∷ ps) (q ∷ qs) u v same g h = by (is_plain_part q) (subst (λ (t : Bool). MatchBool t (IsPreviewOf b p u) (IsPreview b ps u)) plain g) h
    (λ x y. one_preview b ps qs u v same.1 x y)
  where
    k : Kin p q
    k = kin_of_like p q same.0

    plain : is_plain_part p ≡ is_plain_part q
    plain = ap (λ (t : List ℕ). is_same_text t (codes "text/plain")) k.media

    by : (t : Bool) → MatchBool t (IsPreviewOf b p u) (IsPreview b ps u) → MatchBool t (IsPreviewOf b q v) (IsPreview b qs v) → (IsPreview b ps u → IsPreview b qs v → u ≡ v)
        → u ≡ v
    by true x y more = x.is ∙ ap preview_of (one_text b q x.text y.text x.problem y.problem (kin_text b p q x.text x.problem k x.has_text) y.has_text).0 ∙ sym y.is
    by false x y more = more x y

-- ---- values

same_front : (f g r s : List ℕ) → f ++ r ≡ g ++ s → length f ≡ length g → f ≡ g
same_front [] [] r s e n = refl
same_front [] (y ∷ g) r s e n = absurd (omega arith)
same_front (x ∷ f) [] r s e n = absurd (omega arith)
same_front (x ∷ f) (y ∷ g) r s e n =
    let head : x ≡ y = cc in
    let tail : f ++ r ≡ g ++ s = cc in
    let more = same_front f g r s tail (omega arith) in
    λ i. head i ∷ more i

one_cut : (n : ℕ) (text f g : List ℕ) → IsCut n text f → IsCut n text g → f ≡ g
one_cut n text f g x y =
    let some = x.longest g y.is_front in
    let other = y.longest f x.is_front in
    same_front f g x.is_front.rest y.is_front.rest (sym x.is_front.whole ∙ y.is_front.whole) (omega (arith, some, other))

one_front : (html : Bool) (n : ℕ) (text f g : List ℕ) (x y : Bool) → IsBounded html n text f x → IsBounded html n text g y → f ≡ g
one_front html n text f g x y h k = by (n == 0) h.front_is k.front_is
  where
    by : (t : Bool) → MatchBool t (f ≡ text) (IsShortened html n text f) → MatchBool t (g ≡ text) (IsShortened html n text g) → f ≡ g
    by true a b = a ∙ sym b
    by false a b =
        let cut = one_cut n text a.cut b.cut a.is_cut b.is_cut in
        a.front_is ∙ ap (λ (c : List ℕ). cond (html && nat_lt (length c) (length text)) (outside_tag c) c) cut ∙ sym b.front_is

one_value : (html : Bool) (n : ℕ) (text : List ℕ) (problem : Bool) (d e : Data) → IsValueData html n text problem d → IsValueData html n text problem e → d ≡ e
one_value html n text problem d e g h =
    let front = one_front html n text g.front h.front g.truncated h.truncated g.is_bounded h.is_bounded in
    let cut = g.is_bounded.truncated_is ∙ ap (λ (f : List ℕ). nat_lt (length f) (length text)) front ∙ sym h.is_bounded.truncated_is in
    let same : value_data g.front problem g.truncated ≡ value_data h.front problem h.truncated = λ i. value_data (front i) problem (cut i) in
    g.is ∙ same ∙ sym h.is

one_put : (most : ℕ) (b : List ℕ) (p : Part) (x y z : Members) → PutsValue most b p x y → PutsValue most b p x z → y ≡ z
one_put most b p x y z g h =
    let same = one_text b p g.text h.text g.problem h.problem g.has_text h.has_text in
    let P : List ℕ → Type 0 = λ t. IsValueData (is_html p) most t h.problem g.value in
    let Q : Bool → Type 0 = λ t. IsValueData (is_html p) most g.text t g.value in
    let value = one_value (is_html p) most h.text h.problem g.value h.value (subst P same.0 (subst Q same.1 g.is_value)) h.is_value in
    g.is ∙ ap (λ (d : Data). put (decimal (leaf_number p)) d x) value ∙ sym h.is

like_values : (most : ℕ) (b : List ℕ) (ps qs : List Part) (x y : Members) → AllSame Like ps qs → InTurn (PutsValue most b) ps x y → InTurn (PutsValue most b) qs x y
like_values most b [] [] x y same h = h
like_values most b [] (q ∷ qs) x y same h = absurd same
like_values most b (p ∷ ps) [] x y same h = absurd same
like_values most b (p ∷ ps) (q ∷ qs) x y same h = (h.0, kin_value most b p q x h.0 (kin_of_like p q same.0) h.1, like_values most b ps qs h.0 y same.1 h.2)

-- leaves that are alike have values, or have none, alike
like_filter : (asked : BodyAsked) (lists : BodyLists) (ps qs : List Part) → AllSame Like ps qs
    → AllSame Like (filter (has_value asked lists) ps) (filter (has_value asked lists) qs)
like_filter asked lists [] [] same = tt
like_filter asked lists [] (q ∷ qs) same = absurd same
like_filter asked lists (p ∷ ps) [] same = absurd same
like_filter asked lists (p ∷ ps) (q ∷ qs) same = by (has_value asked lists p) (has_value asked lists q) both (like_filter asked lists ps qs same.1)
  where
    k : Kin p q
    k = kin_of_like p q same.0

    fetched : is_fetched asked lists p ≡ is_fetched asked lists q
    fetched = ap
        (λ (n : Option ℕ). asked.all_values || (asked.text_values && is_listed lists.text (unwrap_or n 0) || asked.html_values && is_listed lists.html (unwrap_or n 0))) k.number

    both : has_value asked lists p ≡ has_value asked lists q
    both = let t = ap is_text k.media in let f = fetched in λ i. t i && f i

    by : (s t : Bool) → s ≡ t → AllSame Like (filter (has_value asked lists) ps) (filter (has_value asked lists) qs)
        → AllSame Like (cond s (p ∷ filter (has_value asked lists) ps) (filter (has_value asked lists) ps))
        (cond t (q ∷ filter (has_value asked lists) qs) (filter (has_value asked lists) qs))
    by true true e more = (same.0, more)
    by true false e more = absurd (let x = e in cc)
    by false true e more = absurd (let x = e in cc)
    by false false e more = more

-- ---- properties of the body

-- what is read of the same octets in two ways is alike
record AreAlike {b : List ℕ} (g h : Reading b) : Type 0 where
  root : Like g.root h.root
  leaves : AllSame Like g.leaves h.leaves
  lists : g.lists ≡ h.lists
  text : AllSame Like g.are_lists.parts.text h.are_lists.parts.text
  html : AllSame Like g.are_lists.parts.html h.are_lists.parts.html
  attachments : AllSame Like g.are_lists.parts.attachments h.are_lists.parts.attachments

are_alike : {b : List ℕ} (g h : Reading b) → AreAlike g h
are_alike {b} g h =
    let same = one_message b g.root h.root g.is_message h.is_message in
    let like : Like g.root h.root = (MAX_DEPTH, same) in
    let lists = same_lists MAX_DEPTH g.root h.root g.lists h.lists same g.are_lists h.are_lists in
    let all = leaves_like (g.root ∷ []) (h.root ∷ []) g.leaves h.leaves (like, tt) g.are_leaves h.are_leaves in
    let from = message_from b g.root g.is_message g.leaves g.are_leaves in
    let from' = message_from b h.root h.is_message h.leaves h.are_leaves in
    let inside = walk_inside start (g.root ∷ []) g.are_lists.parts g.are_lists.walks g.leaves g.are_leaves in
    let inside' = walk_inside start (h.root ∷ []) h.are_lists.parts h.are_lists.walks h.leaves h.are_leaves in
    record {
      root = like;
      leaves = all;
      lists = lists;
      text = like_lists g.leaves h.leaves g.is_message.next h.is_message.next all from from' g.are_lists.parts.text h.are_lists.parts.text
          (sym g.are_lists.text ∙ ap (λ (l : BodyLists). l.text) lists ∙ h.are_lists.text) inside.text inside'.text;
      html = like_lists g.leaves h.leaves g.is_message.next h.is_message.next all from from' g.are_lists.parts.html h.are_lists.parts.html
          (sym g.are_lists.html ∙ ap (λ (l : BodyLists). l.html) lists ∙ h.are_lists.html) inside.html inside'.html;
      attachments = like_lists g.leaves h.leaves g.is_message.next h.is_message.next all from from' g.are_lists.parts.attachments h.are_lists.parts.attachments
          (sym g.are_lists.attachments ∙ ap (λ (l : BodyLists). l.attachments) lists ∙ h.are_lists.attachments) inside.attachments inside'.attachments;
    }

one_values : (asked : BodyAsked) (b : List ℕ) (g h : Reading b) (d e : Data) → AreAlike g h → AreValuesData asked g.lists b g.leaves d → AreValuesData asked h.lists b h.leaves e
    → d ≡ e
one_values asked b g h d e alike x y =
    let P : BodyLists → Type 0 = λ l. InTurn (PutsValue asked.max_octets b) (filter (has_value asked l) g.leaves) no_members x.0 in
    let moved = like_values asked.max_octets b _ _ no_members x.0 (like_filter asked h.lists g.leaves h.leaves alike.leaves) (subst P alike.lists x.1) in
    let values = one_turn (PutsValue asked.max_octets b) (one_put asked.max_octets b) (filter (has_value asked h.lists) h.leaves) no_members x.0 y.0 moved y.1 in
    x.2 ∙ ap (λ (ms : Members). object ms) values ∙ sym y.2

one_data : (m : MessageData) (asked : BodyAsked) (g h : Reading m.octets) (p : EmailProperty) (d e : Data) → AreAlike g h → IsDataOf m asked g p d → IsDataOf m asked h p e → d ≡ e
one_data m asked g h email.BodyStructure d e alike x y =
    one_first d e (one_objects m asked.parts (g.root ∷ []) (h.root ∷ []) (d ∷ []) (e ∷ []) (alike.root, tt) x y)
one_data m asked g h email.BodyValues d e alike x y = one_values asked m.octets g h d e alike x y
one_data m asked g h email.TextBody d e alike x y = one_list m asked.parts _ _ d e alike.text x y
one_data m asked g h email.HtmlBody d e alike x y = one_list m asked.parts _ _ d e alike.html x y
one_data m asked g h email.Attachments d e alike x y = one_list m asked.parts _ _ d e alike.attachments x y
one_data m asked g h email.HasAttachment d e alike x y = x ∙ ap (λ (l : BodyLists). boolean l.has_attachment) alike.lists ∙ sym y
one_data m asked g h email.Preview d e alike x y = x.2 ∙ ap (λ (t : List ℕ). text_data t) (one_preview m.octets _ _ x.0 y.0 alike.text x.1 y.1) ∙ sym y.2
one_data m asked g h _ d e alike x y = absurd x

-- a message has at most one data of a property of its body
pub one_body : (m : MessageData) (asked : BodyAsked) (p : EmailProperty) (d e : Data) → IsBodyProperty m asked p d → IsBodyProperty m asked p e → d ≡ e
one_body m asked p d e g h = one_data m asked g.0 h.0 p d e (are_alike g.0 h.0) g.1 h.1

one_body_put : (m : MessageData) (asked : BodyAsked) (p : EmailProperty) (x y z : Members) → PutsBodyProperty m asked p x y → PutsBodyProperty m asked p x z → y ≡ z
one_body_put m asked p x y z g h = g.2 ∙ ap (λ (d : Data). put (email_key p) d x) (one_body m asked p g.0 h.0 g.1 h.1) ∙ sym h.2

-- and so the asked ones are put in one way
pub one_bodies : (m : MessageData) (asked : EmailAsked) (before x y : Members) → AddsBodyProperties m asked before x → AddsBodyProperties m asked before y → x ≡ y
one_bodies m asked before x y g h = one_turn (PutsBodyProperty m asked.body) (one_body_put m asked.body) (filter is_of_body asked.properties) before x y g h
