-- The items of a FETCH spell what they tell.
use Rattle.std.proofs.Common.{◌≡◌, ◌≢◌, ℕ, ◌+◌, ◌<◌, ◌≤◌, ◌^◌, ℤ, List, [], ◌∷◌, ◌++◌, length, map, codes, decimal, Option, Some, None, IfSome, inl, inr, refl, sym, ap}
use Rattle.std.proofs.Common.{◌∙◌, arith, append_assoc, All}
use Rattle.std.proofs.lemmas.List.{map-append, length-map, take_all}
use Rattle.honest_store.specs.WellFormed.{nearest_date}
use Rattle.imap_types.proofs.EachLemmas.{each_append, each_all}
use Rattle.imap_types.specs.declared.response.FetchItems.{FetchItems}
use Rattle.imap_types.specs.Octets.{is_digit}
use Rattle.imap_types.specs.Texts.{Each, crlf, literal_limit}
use Rattle.imap_types.specs.Lines.{spaced, joined}
use Rattle.imap_types.specs.Strings.{IsCounted, IsNString}
use Rattle.imap_types.specs.Dates.{date_text}
use Rattle.imap_types.specs.Commands.{literal_head}
use Rattle.imap_types.specs.Items.{Item, IsItemValue, IsItem, IsMore, IsItems, AllNames, told_from, items_of, header_limit, body_limit}
use Rattle.imap_types.specs.Items as item
use Rattle.imap_values.proofs.Cuts.{small, digit_small}
use Rattle.imap_values.proofs.NameReadings.{joined_small}
use Rattle.store_responses.specs.ResponseTexts.{names_text, literal_text, count_text, flags_text, modseq_text, internal_date_text, octets_text, item_texts}
use Rattle.store_responses.specs.Sendable.{IsNonZeroNumber, AreSendableNames, IsSendableLiteral, AreSendableItems, octets_of}
use Rattle.store_responses.proofs.Numerals.{decimal_class, decimal_some, decimal_value, count_few, nonzero_text, long_text}
use Rattle.store_responses.proofs.Marks.{marked, Marks, marks_join, marks_small, marks_front, plain_marked, marks_literal, inside_marked}
use Rattle.store_responses.proofs.DateTexts.{date_spelled, date_small}

-- ---- pieces

-- an item, its text, the text in which its literal shows, and the octets of the literal
record Piece : Type 0 where
  item : Item
  text : List ℕ
  shown : List ℕ
  inside : ℕ

abbrev item_of : Piece → Item
item_of p = p.item

abbrev text_of : Piece → List ℕ
text_of p = p.text

abbrev shown_of : Piece → List ℕ
shown_of p = p.shown

abbrev total : List Piece → ℕ
total [] = 0
total (p ∷ ps) = p.inside + total ps

record IsPiece (p : Piece) : Type 0 where
  item : IsItem p.item p.shown
  marks : Marks p.text p.shown p.inside

abbrev ArePieces : List Piece → Type 0
ArePieces [] = Unit {0}
ArePieces (p ∷ ps) = IsPiece p × ArePieces ps

pieces_join : (x y : List Piece) → ArePieces x → ArePieces y → ArePieces (x ++ y)
pieces_join [] y h g = g
pieces_join (p ∷ x) y h g = (h.0, pieces_join x y h.1 g)

total_join : (x y : List Piece) → total (x ++ y) ≡ total x + total y
total_join [] y = omega arith
total_join (p ∷ x) y = omega (arith, total_join x y)

texts_join : (x y : List Piece) (u w : List (List ℕ)) → map text_of x ≡ u → map text_of y ≡ w → map text_of (x ++ y) ≡ u ++ w
texts_join x y u w e f = map-append text_of x y ∙ ap (λ (z : List (List ℕ)). z ++ map text_of y) e ∙ ap (λ (z : List (List ℕ)). u ++ z) f

-- ---- a line of pieces

spaced_marks : (ps : List Piece) → ArePieces ps → Marks (spaced (map text_of ps)) (spaced (map shown_of ps)) (total ps)
spaced_marks [] h = marks_small [] tt
spaced_marks (p ∷ ps) h =
    marks_join (32 ∷ p.text) (32 ∷ p.shown) p.inside (spaced (map text_of ps)) (spaced (map shown_of ps)) (total ps)
    (marks_front (32 ∷ []) p.text p.shown p.inside (refl, tt) h.0.marks) (spaced_marks ps h.1)

joined_marks : (ps : List Piece) → ArePieces ps → Marks (joined (map text_of ps)) (joined (map shown_of ps)) (total ps)
joined_marks [] h = marks_small [] tt
joined_marks (p ∷ ps) h =
    marks_join p.text p.shown p.inside (spaced (map text_of ps)) (spaced (map shown_of ps)) (total ps) h.0.marks (spaced_marks ps h.1)

more_items : (ps : List Piece) → ArePieces ps → IsMore (map item_of ps) (spaced (map shown_of ps) ++ 41 ∷ crlf)
more_items [] h = refl
more_items (p ∷ ps) h =
    (p.shown, spaced (map shown_of ps) ++ 41 ∷ crlf, append_assoc (32 ∷ p.shown) (spaced (map shown_of ps)) (41 ∷ crlf), h.0.item, more_items ps h.1)

all_items : (ps : List Piece) → ps ≢ [] → ArePieces ps → IsItems (map item_of ps) (joined (map shown_of ps) ++ 41 ∷ crlf)
all_items [] some h = absurd (some refl)
all_items (p ∷ ps) some h = record {
  front = p.shown;
  back = spaced (map shown_of ps) ++ 41 ∷ crlf;
  whole = append_assoc p.shown (spaced (map shown_of ps)) (41 ∷ crlf);
  first = h.0.item;
  second = more_items ps h.1;
}

-- ---- the pieces of items

abbrev plain_piece : Item → List ℕ → Piece
plain_piece i t = record { item = i; text = t; shown = t; inside = 0 }

abbrev counts_piece : (ℕ → Item) → List ℕ → Option ℕ → List Piece
counts_piece make word None = []
counts_piece make word (Some n) = plain_piece (make n) (word ++ 32 ∷ decimal n) ∷ []

abbrev flags_piece : Option (List (List ℕ)) → List Piece
flags_piece None = []
flags_piece (Some flags) = plain_piece (item.Flags flags) (codes "FLAGS " ++ names_text flags) ∷ []

abbrev modseq_piece : Option ℕ → List Piece
modseq_piece None = []
modseq_piece (Some n) = plain_piece (item.ModSeq n) (codes "MODSEQ (" ++ decimal n ++ 41 ∷ []) ∷ []

abbrev date_piece : Option ℤ → List Piece
date_piece None = []
date_piece (Some date) = plain_piece (item.Date date) (codes "INTERNALDATE " ++ date_text date) ∷ []

abbrev octets_piece : (List ℕ → Item) → List ℕ → Option (List ℕ) → List Piece
octets_piece make word None = []
octets_piece make word (Some s) = record { item = make s; text = word ++ 32 ∷ literal_text s; shown = word ++ (32 ∷ literal_head s ++ marked s); inside = length s } ∷ []

abbrev uid_pieces : Option ℕ → List Piece
uid_pieces o = counts_piece (λ n. item.Uid n) (codes "UID") o

abbrev size_pieces : Option ℕ → List Piece
size_pieces o = counts_piece (λ n. item.Size n) (codes "RFC822.SIZE") o

abbrev header_pieces : Option (List ℕ) → List Piece
header_pieces o = octets_piece (λ s. item.Header s) (codes "BODY[HEADER]<0>") o

abbrev body_pieces : Option (List ℕ) → List Piece
body_pieces o = octets_piece (λ s. item.Body s) (codes "BODY[]<0>") o

abbrev item_pieces : FetchItems → List Piece
item_pieces items =
    uid_pieces items.uid ++ (flags_piece items.flags ++ (modseq_piece items.modseq ++ (date_piece items.date
    ++ (size_pieces items.size ++ (header_pieces items.header ++ body_pieces items.body)))))

-- ---- each piece spells its item

plain_is : (i : Item) (name value : List ℕ) → IsItemValue i name value → Each small (name ++ 32 ∷ value) → IsPiece (plain_piece i (name ++ 32 ∷ value))
plain_is i name value says low = record {
  item = record { name = name; value = value; whole = refl; item = says };
  marks = marks_small (name ++ 32 ∷ value) low;
}

number_low : (word : List ℕ) (n : ℕ) → Each small word → n < 2 ^ 64 → Each small (word ++ decimal n)
number_low word n h lt = each_append small word (decimal n) h (decimal_class small n digit_small lt)

uid_is : (o : Option ℕ) → IfSome o IsNonZeroNumber → ArePieces (uid_pieces o)
uid_is None h = tt
uid_is (Some n) h =
    (plain_is (item.Uid n) (codes "UID") (decimal n) (refl, nonzero_text n h) (number_low (codes "UID ") n (each_all small (codes "UID ") refl) (omega (arith, h.1))), tt)

-- the octets of names in brackets are below 256
pub names_low : (ns : List (List ℕ)) → AllNames ns → Each small (names_text ns)
names_low ns h = (refl, each_append small (joined ns) (41 ∷ []) (joined_small ns h) (refl, tt))

flags_is : (o : Option (List (List ℕ))) → IfSome o AreSendableNames → ArePieces (flags_piece o)
flags_is None h = tt
flags_is (Some flags) h = (
  plain_is (item.Flags flags) (codes "FLAGS") (names_text flags) (refl, (h.names, refl))
      (each_append small (codes "FLAGS ") (names_text flags) (each_all small (codes "FLAGS ") refl) (names_low flags h.names)),
  tt,
)

modseq_is : (o : Option ℕ) → IfSome o (λ n. n < 2 ^ 63) → ArePieces (modseq_piece o)
modseq_is None h = tt
modseq_is (Some n) h = (
  plain_is (item.ModSeq n) (codes "MODSEQ") (40 ∷ decimal n ++ 41 ∷ []) (refl, (decimal n, refl, long_text n h))
      (each_append small (codes "MODSEQ (" ++ decimal n) (41 ∷ []) (number_low (codes "MODSEQ (") n (each_all small (codes "MODSEQ (") refl) (omega (arith, h))) (refl, tt)),
  tt,
)

date_is : (o : Option ℤ) → IfSome o (λ date. nearest_date date ≡ date) → ArePieces (date_piece o)
date_is None h = tt
date_is (Some date) h = (
  plain_is (item.Date date) (codes "INTERNALDATE") (date_text date) (refl, date_spelled date h)
      (each_append small (codes "INTERNALDATE ") (date_text date) (each_all small (codes "INTERNALDATE ") refl) (date_small date)),
  tt,
)

size_is : (o : Option ℕ) → IfSome o (λ n. n < 2 ^ 63) → ArePieces (size_pieces o)
size_is None h = tt
size_is (Some n) h = (
  plain_is (item.Size n) (codes "RFC822.SIZE") (decimal n) (refl, long_text n h)
      (number_low (codes "RFC822.SIZE ") n (each_all small (codes "RFC822.SIZE ") refl) (omega (arith, h))),
  tt,
)

-- a literal whose octets show
counted : (s : List ℕ) → length s ≤ literal_limit → All (λ c. c < 256) s → IsCounted s (literal_head s ++ marked s)
counted s few octets =
    let fits : length s < 2 ^ 64 = omega arith in
    record {
      digits = decimal (length s);
      octets = marked s;
      whole = ap (λ (x : List ℕ). 123 ∷ x) (append_assoc (decimal (length s)) (125 ∷ crlf) (marked s));
      are_digits = decimal_class is_digit (length s) (λ c e. e) fits;
      some = decimal_some (length s) fits;
      few = count_few (length s) few;
      counted = length-map s (λ c. c + 256) ∙ decimal_value (length s) fits;
      most = omega (arith, few, length-map s (λ c. c + 256));
      inside = inside_marked s octets;
      string = sym (plain_marked s);
    }

head_low : (s : List ℕ) → length s ≤ literal_limit → Each small (literal_head s)
head_low s few =
    (refl, each_append small (decimal (length s)) (125 ∷ crlf) (decimal_class small (length s) digit_small (omega arith)) (refl, (refl, (refl, tt))))

octets_is : (make : List ℕ → Item) (word : List ℕ) (most : ℕ) (o : Option (List ℕ)) → Each small word → most ≤ literal_limit
    → ((s value : List ℕ) → IsNString s value → IsItemValue (make s) word value) → IfSome o (IsSendableLiteral most) → ArePieces (octets_piece make word o)
octets_is make word most None low le says h = tt
octets_is make word most (Some s) low le says h =
    let few : length s ≤ literal_limit = omega (arith, le, h.few) in (
      record {
        item = record { name = word; value = literal_head s ++ marked s; whole = refl; item = says s (literal_head s ++ marked s) (inr (inr (inl (counted s few h.octets)))) };
        marks = marks_front word (32 ∷ literal_text s) (32 ∷ literal_head s ++ marked s) (length s) low
            (marks_front (32 ∷ literal_head s) s (marked s) (length s) (refl, head_low s few) (marks_literal s));
      },
      tt,
    )

header_is : (o : Option (List ℕ)) → IfSome o (IsSendableLiteral header_limit) → ArePieces (header_pieces o)
header_is o h =
    octets_is (λ s. item.Header s) (codes "BODY[HEADER]<0>") header_limit o (each_all small (codes "BODY[HEADER]<0>") refl) (omega arith) (λ s value n. (inr refl, n)) h

body_is : (o : Option (List ℕ)) → IfSome o (IsSendableLiteral body_limit) → ArePieces (body_pieces o)
body_is o h = octets_is (λ s. item.Body s) (codes "BODY[]<0>") body_limit o (each_all small (codes "BODY[]<0>") refl) (omega arith) (λ s value n. (inr refl, n)) h

pieces_are : (items : FetchItems) → AreSendableItems items → ArePieces (item_pieces items)
pieces_are items h =
    pieces_join (uid_pieces items.uid) _ (uid_is items.uid h.uid) (pieces_join (flags_piece items.flags) _ (flags_is items.flags h.flags)
    (pieces_join (modseq_piece items.modseq) _ (modseq_is items.modseq h.modseq) (pieces_join (date_piece items.date) _ (date_is items.date h.date)
    (pieces_join (size_pieces items.size) _ (size_is items.size h.size)
    (pieces_join (header_pieces items.header) (body_pieces items.body) (header_is items.header h.header) (body_is items.body h.body))))))

-- ---- their texts

counts_texts : (make : ℕ → Item) (word : List ℕ) (o : Option ℕ) → map text_of (counts_piece make word o) ≡ count_text word o
counts_texts make word None = refl
counts_texts make word (Some n) = refl

flags_texts : (o : Option (List (List ℕ))) → map text_of (flags_piece o) ≡ flags_text o
flags_texts None = refl
flags_texts (Some flags) = refl

modseq_texts : (o : Option ℕ) → map text_of (modseq_piece o) ≡ modseq_text o
modseq_texts None = refl
modseq_texts (Some n) = refl

date_texts : (o : Option ℤ) → map text_of (date_piece o) ≡ internal_date_text o
date_texts None = refl
date_texts (Some date) = refl

octets_texts : (make : List ℕ → Item) (word : List ℕ) (o : Option (List ℕ)) → map text_of (octets_piece make word o) ≡ octets_text word o
octets_texts make word None = refl
octets_texts make word (Some s) = refl

pieces_texts : (items : FetchItems) → map text_of (item_pieces items) ≡ item_texts items
pieces_texts items =
    texts_join (uid_pieces items.uid) _ _ _ (counts_texts _ (codes "UID") items.uid) (texts_join (flags_piece items.flags) _ _ _ (flags_texts items.flags)
    (texts_join (modseq_piece items.modseq) _ _ _ (modseq_texts items.modseq) (texts_join (date_piece items.date) _ _ _ (date_texts items.date)
    (texts_join (size_pieces items.size) _ _ _ (counts_texts _ (codes "RFC822.SIZE") items.size)
    (texts_join (header_pieces items.header) (body_pieces items.body) _ _ (octets_texts _ (codes "BODY[HEADER]<0>") items.header)
    (octets_texts _ (codes "BODY[]<0>") items.body))))))

-- ---- octets in literals

counts_total : (make : ℕ → Item) (word : List ℕ) (o : Option ℕ) → total (counts_piece make word o) ≡ 0
counts_total make word None = refl
counts_total make word (Some n) = refl

flags_total : (o : Option (List (List ℕ))) → total (flags_piece o) ≡ 0
flags_total None = refl
flags_total (Some flags) = refl

modseq_total : (o : Option ℕ) → total (modseq_piece o) ≡ 0
modseq_total None = refl
modseq_total (Some n) = refl

date_total : (o : Option ℤ) → total (date_piece o) ≡ 0
date_total None = refl
date_total (Some date) = refl

octets_total : (make : List ℕ → Item) (word : List ℕ) (o : Option (List ℕ)) → total (octets_piece make word o) ≡ octets_of o
octets_total make word None = refl
octets_total make word (Some s) = omega arith

none_before : (x y : List Piece) (n : ℕ) → total x ≡ 0 → total y ≡ n → total (x ++ y) ≡ n
none_before x y n e f = omega (arith, total_join x y, e, f)

pieces_total : (items : FetchItems) → total (item_pieces items) ≡ octets_of items.header + octets_of items.body
pieces_total items =
    none_before (uid_pieces items.uid) _ _ (counts_total _ (codes "UID") items.uid) (none_before (flags_piece items.flags) _ _ (flags_total items.flags)
    (none_before (modseq_piece items.modseq) _ _ (modseq_total items.modseq) (none_before (date_piece items.date) _ _ (date_total items.date)
    (none_before (size_pieces items.size) _ _ (counts_total _ (codes "RFC822.SIZE") items.size)
    (let h = octets_total (λ s. item.Header s) (codes "BODY[HEADER]<0>") items.header in
    let b = octets_total (λ s. item.Body s) (codes "BODY[]<0>") items.body in
    omega (arith, total_join (header_pieces items.header) (body_pieces items.body), h, b))))))

-- ---- what they tell together

abbrev tell : FetchItems → List Piece → FetchItems
tell items ps = told_from items (map item_of ps)

tell_join : (items : FetchItems) (x y : List Piece) → tell items (x ++ y) ≡ tell (tell items x) y
tell_join items [] y = refl
tell_join items (p ∷ x) y = tell_join (item.told items p.item) x y

tell_step : (first second third : FetchItems) (x y : List Piece) → tell first x ≡ second → tell second y ≡ third → tell first (x ++ y) ≡ third
tell_step first second third x y e f = tell_join first x y ∙ ap (λ (s : FetchItems). tell s y) e ∙ f

abbrev told_so : Option ℕ → Option (List (List ℕ)) → Option ℕ → Option ℤ → Option ℕ → Option (List ℕ) → Option (List ℕ) → FetchItems
told_so u f m d z h b = record { uid = u; flags = f; modseq = m; date = d; size = z; header = h; body = b }

uid_told : (u : Option ℕ) → tell (told_so None None None None None None None) (uid_pieces u) ≡ told_so u None None None None None None
uid_told None = refl
uid_told (Some n) = refl

flags_told : (u : Option ℕ) (f : Option (List (List ℕ))) → IfSome f AreSendableNames
    → tell (told_so u None None None None None None) (flags_piece f) ≡ told_so u f None None None None None
flags_told u None h = refl
flags_told u (Some flags) h = ap (λ (ns : List (List ℕ)). told_so u (Some ns) None None None None None) h.as_kept

modseq_told : (u : Option ℕ) (f : Option (List (List ℕ))) (m : Option ℕ)
    → tell (told_so u f None None None None None) (modseq_piece m) ≡ told_so u f m None None None None
modseq_told u f None = refl
modseq_told u f (Some n) = refl

date_told : (u : Option ℕ) (f : Option (List (List ℕ))) (m : Option ℕ) (d : Option ℤ)
    → tell (told_so u f m None None None None) (date_piece d) ≡ told_so u f m d None None None
date_told u f m None = refl
date_told u f m (Some date) = refl

size_told : (u : Option ℕ) (f : Option (List (List ℕ))) (m : Option ℕ) (d : Option ℤ) (z : Option ℕ)
    → tell (told_so u f m d None None None) (size_pieces z) ≡ told_so u f m d z None None
size_told u f m d None = refl
size_told u f m d (Some n) = refl

header_told : (u : Option ℕ) (f : Option (List (List ℕ))) (m : Option ℕ) (d : Option ℤ) (z : Option ℕ) (h : Option (List ℕ)) → IfSome h (IsSendableLiteral header_limit)
    → tell (told_so u f m d z None None) (header_pieces h) ≡ told_so u f m d z h None
header_told u f m d z None few = refl
header_told u f m d z (Some s) few = ap (λ (x : List ℕ). told_so u f m d z (Some x) None) (take_all header_limit s few.few)

body_told : (u : Option ℕ) (f : Option (List (List ℕ))) (m : Option ℕ) (d : Option ℤ) (z : Option ℕ) (h b : Option (List ℕ)) → IfSome b (IsSendableLiteral body_limit)
    → tell (told_so u f m d z h None) (body_pieces b) ≡ told_so u f m d z h b
body_told u f m d z h None few = refl
body_told u f m d z h (Some s) few = ap (λ (x : List ℕ). told_so u f m d z h (Some x)) (take_all body_limit s few.few)

pieces_tell : (items : FetchItems) → AreSendableItems items → items_of (map item_of (item_pieces items)) ≡ items
pieces_tell i h =
    tell_step _ _ _ (uid_pieces i.uid) _ (uid_told i.uid) (tell_step _ _ _ (flags_piece i.flags) _ (flags_told i.uid i.flags h.flags)
    (tell_step _ _ _ (modseq_piece i.modseq) _ (modseq_told i.uid i.flags i.modseq) (tell_step _ _ _ (date_piece i.date) _ (date_told i.uid i.flags i.modseq i.date)
    (tell_step _ _ _ (size_pieces i.size) _ (size_told i.uid i.flags i.modseq i.date i.size)
    (tell_step _ _ _ (header_pieces i.header) (body_pieces i.body) (header_told i.uid i.flags i.modseq i.date i.size i.header h.header)
    (body_told i.uid i.flags i.modseq i.date i.size i.header i.body h.body))))))

-- ---- all items

-- a text of the items in which literals show
pub record ShowsItems (items : FetchItems) : Type 0 where
  pub shown : List ℕ
  pub told : List Item
  pub spelled : IsItems told (shown ++ 41 ∷ crlf)
  pub value : items ≡ items_of told
  pub marks : Marks (joined (item_texts items)) shown (octets_of items.header + octets_of items.body)

pub items_shown : (items : FetchItems) → AreSendableItems items → ShowsItems items
items_shown items h =
    let ps = item_pieces items in
    let are = pieces_are items h in
    let some : ps ≢ [] = λ e. h.some (sym (pieces_texts items) ∙ ap (λ (x : List Piece). map text_of x) e) in
    let marks = joined_marks ps are in
    record {
      shown = joined (map shown_of ps);
      told = map item_of ps;
      spelled = all_items ps some are;
      value = sym (pieces_tell items h);
      marks = record {
        octets = marks.octets ∙ ap joined (pieces_texts items);
        count = omega (arith, marks.count, pieces_total items, ap (λ (x : List (List ℕ)). length (joined x)) (pieces_texts items));
      };
    }
