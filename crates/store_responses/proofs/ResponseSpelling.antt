-- The text of each response that may be sent spells it.
use Rattle.std.proofs.Common.{◌≡◌, ℕ, zero, suc, ◌<◌, ◌+◌, ◌^◌, Bool, true, false, cond, List, [], ◌∷◌, ◌++◌, length, map, get_or, codes, bytes_eq, decimal, Option, Some, None, IfSome}
use Rattle.std.proofs.Common.{Contains, inl, inr, refl, sym, ap, subst, ◌∙◌, arith, append_assoc}
use Rattle.std.specs.Prelude.{not, ◌||◌, ◌==◌}
use Rattle.std.specs.List.{list_all}
use Rattle.std.proofs.lemmas.Bool.{false≢true, and_parts}
use Rattle.std.proofs.lemmas.Slice.Eq.{bytes_eq-Decides}
use Rattle.honest_store.specs.WellFormed.{IsToldOctet, IsToldName}
use Rattle.imap_types.proofs.EachLemmas.{each_append, each_all, each_to}
use Rattle.imap_types.proofs.CutLemmas.{other, cut_free, cut_none}
use Rattle.imap_types.specs.declared.code.Code.{Code}
use Rattle.imap_types.specs.declared.response.Status.{Status}
use Rattle.imap_types.specs.declared.response.Status.TheVariants as status
use Rattle.imap_types.specs.declared.response.FetchItems.{FetchItems}
use Rattle.imap_types.specs.declared.response.StatusItems.{StatusItems}
use Rattle.imap_types.specs.declared.response.Response.{Response}
use Rattle.imap_types.specs.declared.response.Response.TheVariants as response
use Rattle.imap_types.specs.declared.uid_set.UidRange.{UidRange}
use Rattle.imap_types.specs.Octets.{is_digit, is_alnum, is_text, is_word, lower}
use Rattle.imap_types.specs.Texts.{Each, IsWord, crlf}
use Rattle.imap_types.specs.Lines.{word_of, Completes, IsTagged, spaced, joined, AllPrinted}
use Rattle.imap_types.specs.Strings.{escaped, quoted}
use Rattle.imap_types.specs.UidSets.{IsSetLine, IsVanished}
use Rattle.imap_types.specs.Folders.{IsDelimiter}
use Rattle.imap_types.specs.Free.{EndsInCount}
use Rattle.imap_types.specs.Spells.{keywords, Says, Numbered, IsUntagged, Spells, IsSpelling}
use Rattle.imap_types.specs.reading.CodeReading.{cut}
use Rattle.imap_values.proofs.Cuts.{small, digit_small, word_small, text_small}
use Rattle.store_responses.specs.ResponseTexts.{ranges_text, status_text, status_line_text, code_text, names_text, count_texts, item_texts, delimiter_text, earlier_text, text_of_response}
use Rattle.store_responses.specs.Sendable.{IsSendableSet, IsSendableCode, IsSendableTag, AreSendableNames, AreSendableCounts, octets_of}
use Rattle.store_responses.specs.Sendable.{literal_octets, IsSendable}
use Rattle.store_responses.proofs.Numerals.{decimal_class, number_text}
use Rattle.store_responses.proofs.Marks.{marks_small, marks_front, marks_back, spelling_of}
use Rattle.store_responses.proofs.SetTexts.{set_text, set_class}
use Rattle.store_responses.proofs.CodeTexts.{line_end, code_spelled, rest_small}
use Rattle.store_responses.proofs.ItemTexts.{items_shown, names_low}
use Rattle.store_responses.proofs.CountTexts.{counts_spelled}

-- ---- lines by their first word

not_numbered : (c : ℕ) (t : List ℕ) → is_digit c ≡ false → (n : ℕ) (line : List ℕ) → Numbered n line (c ∷ t) → ⊥
not_numbered c t plain n line h = by h.0 h.1 h.2.digits h.2.some
  where
    by : (ds : List ℕ) → c ∷ t ≡ ds ++ 32 ∷ line → Each is_digit ds → 0 < length ds → ⊥
    by [] e all some = absurd (omega (arith, some))
    by (d ∷ ds) e all some = let same : c ≡ d = cc in false≢true (sym plain ∙ ap is_digit same ∙ all.0)

-- a line that begins with a word, whose first letter is c
said : (v : Response) (c : ℕ) (w tail : List ℕ) → list_all is_word (c ∷ w) ≡ true → is_digit c ≡ false → is_word (get_or tail 0 0) ≡ false
    → Says None v (map lower (c ∷ w)) tail (c ∷ w ++ tail) → IsUntagged v (c ∷ w ++ tail)
said v c w tail all letter longest says = inr (
  record {
    word = c ∷ w;
    tail = tail;
    whole = refl;
    word_is = each_all is_word (c ∷ w) all;
    some = λ e. absurd cc;
    longest = longest;
    says = says;
  },
  not_numbered c (w ++ tail) letter,
)

-- a number, and a line that begins with a word
said_of : (v : Response) (n c : ℕ) (w tail : List ℕ) → n < 2 ^ 32 → list_all is_word (c ∷ w) ≡ true → is_word (get_or tail 0 0) ≡ false
    → Says (Some n) v (map lower (c ∷ w)) tail (c ∷ w ++ tail) → IsUntagged v (decimal n ++ (32 ∷ c ∷ w ++ tail))
said_of v n c w tail lt all longest says = inl (
  n,
  c ∷ w ++ tail,
  (decimal n, refl, number_text n lt),
  record {
    word = c ∷ w;
    tail = tail;
    whole = refl;
    word_is = each_all is_word (c ∷ w) all;
    some = λ e. absurd cc;
    longest = longest;
    says = says;
  },
)

number_small : (n : ℕ) → n < 2 ^ 32 → Each small (codes "* " ++ decimal n)
number_small n lt = each_append small (codes "* ") (decimal n) (refl, (refl, tt)) (decimal_class small n digit_small (omega arith))

-- a response without literals
plainly : (r : Response) → IsSendable r → literal_octets r ≡ 0 → Spells r (text_of_response r) → Each small (text_of_response r) → IsSpelling r (text_of_response r)
plainly r h none spells low =
    let marks = marks_small (text_of_response r) low in
    spelling_of r (text_of_response r) spells (record { octets = marks.octets; count = omega (arith, marks.count, none) }) h.within

-- ---- status lines

status_word : (s : Status) → IsWord (word_of s) (status_text s)
status_word status.Ok = refl
status_word status.No = refl
status_word status.Bad = refl
status_word status.Preauth = refl
status_word status.Bye = refl

status_small : (s : Status) → Each small (status_text s)
status_small status.Ok = each_all small (codes "OK") refl
status_small status.No = each_all small (codes "NO") refl
status_small status.Bad = each_all small (codes "BAD") refl
status_small status.Preauth = each_all small (codes "PREAUTH") refl
status_small status.Bye = each_all small (codes "BYE") refl

status_line_small : (s : Status) (c : Code) → IsSendableCode c → Each small (status_line_text s c)
status_line_small s c h = each_append small (status_text s) (code_text c ++ line_end) (status_small s) (rest_small (code_text c ++ line_end) (code_spelled c h).rest.0)

tagged : (tag : List ℕ) (s : Status) (c : Code) → IsSendableTag tag → Completes s → IsSendableCode c → IsTagged tag s c (tag ++ 32 ∷ status_line_text s c)
tagged tag s c h completes k = record {
  after = status_line_text s c;
  whole = refl;
  tag_is = h.octets;
  some = h.some;
  few = h.few;
  completes = completes;
  line = record { front = status_text s; back = code_text c ++ line_end; whole = refl; first = status_word s; second = (code_spelled c k).rest };
}

untagged : (s : Status) (c : Code) → IsSendableCode c → IsUntagged (response.Untagged s c) (status_line_text s c)
untagged status.Ok c h = let k = code_spelled c h in said (response.Untagged status.Ok c) 79 (codes "K") (code_text c ++ line_end) refl refl k.octet (refl, k.rest)
untagged status.No c h = let k = code_spelled c h in said (response.Untagged status.No c) 78 (codes "O") (code_text c ++ line_end) refl refl k.octet (refl, k.rest)
untagged status.Bad c h = let k = code_spelled c h in said (response.Untagged status.Bad c) 66 (codes "AD") (code_text c ++ line_end) refl refl k.octet (refl, k.rest)
untagged status.Preauth c h =
    let k = code_spelled c h in said (response.Untagged status.Preauth c) 80 (codes "REAUTH") (code_text c ++ line_end) refl refl k.octet (refl, k.rest)
untagged status.Bye c h = let k = code_spelled c h in said (response.Untagged status.Bye c) 66 (codes "YE") (code_text c ++ line_end) refl refl k.octet (refl, k.rest)

alnum_small : (c : ℕ) → is_alnum c ≡ true → small c ≡ true
alnum_small c e = grind arith

-- ---- words

spaced_octet : (ws : List (List ℕ)) → is_word (get_or (spaced ws ++ crlf) 0 0) ≡ false
spaced_octet [] = refl
spaced_octet (w ∷ ws) = refl

spaced_small : (ws : List (List ℕ)) → AllPrinted ws → Each small (spaced ws ++ crlf)
spaced_small [] h = (refl, (refl, tt))
spaced_small (w ∷ ws) h =
    subst (Each small) (sym (append_assoc (32 ∷ w) (spaced ws) crlf))
    (refl, each_append small w (spaced ws ++ crlf) (each_to is_word small w word_small h.0.0) (spaced_small ws h.1))

-- ---- folders

escaped_small : (t : List ℕ) → Each is_text t → Each small (escaped t)
escaped_small [] h = tt
escaped_small (c ∷ t) h = by (c == 34 || c == 92) (text_small c h.0, escaped_small t h.1)
  where
    by : (b : Bool) → Each small (c ∷ escaped t) → Each small (cond b (92 ∷ c ∷ escaped t) (c ∷ escaped t))
    by true low = (refl, low)
    by false low = low

quoted_small : (t : List ℕ) → Each is_text t → Each small (quoted t)
quoted_small t h = (refl, each_append small (escaped t) (34 ∷ []) (escaped_small t h) (refl, tt))

delimited : (d : Option ℕ) → IfSome d IsToldOctet → IsDelimiter d (delimiter_text d)
delimited None h = refl
delimited (Some c) h = ((h, tt), refl)

delimiter_small : (d : Option ℕ) → IfSome d IsToldOctet → Each small (delimiter_text d)
delimiter_small None h = each_all small (codes "NIL") refl
delimiter_small (Some c) h = quoted_small (c ∷ []) (h, tt)

listed : (attributes : List (List ℕ)) (delimiter : Option ℕ) (name : List ℕ) → AreSendableNames attributes → IfSome delimiter IsToldOctet → IsToldName name
    → Spells (response.List attributes delimiter name) (text_of_response (response.List attributes delimiter name))
listed attributes delimiter name a d n =
    let tail = 32 ∷ names_text attributes ++ (32 ∷ delimiter_text delimiter ++ (32 ∷ quoted name ++ crlf)) in (
      codes "LIST" ++ tail,
      refl,
      said (response.List attributes delimiter name) 76 (codes "IST") tail refl refl refl (
        refl,
        record {
          told = attributes;
          string = name;
          first = names_text attributes;
          second = delimiter_text delimiter;
          third = quoted name;
          rest = crlf;
          whole = refl;
          names = (a.names, refl);
          delimited = delimited delimiter d;
          spelled = inr (inl (n.octets, refl));
          ends = inl refl;
          attributes_are = sym a.as_kept;
          name_is = sym n.as_told;
        },
      ),
    )

listed_small : (attributes : List (List ℕ)) (delimiter : Option ℕ) (name : List ℕ) → AreSendableNames attributes → IfSome delimiter IsToldOctet → IsToldName name
    → Each small (text_of_response (response.List attributes delimiter name))
listed_small attributes delimiter name a d n =
    let last = each_append small (32 ∷ quoted name) crlf (refl, quoted_small name n.octets) (refl, (refl, tt)) in
    let second = each_append small (32 ∷ delimiter_text delimiter) (32 ∷ quoted name ++ crlf) (refl, delimiter_small delimiter d) last in
    each_append small (codes "* LIST ") (names_text attributes ++ (32 ∷ delimiter_text delimiter ++ (32 ∷ quoted name ++ crlf))) (each_all small (codes "* LIST ") refl)
    (each_append small (names_text attributes) (32 ∷ delimiter_text delimiter ++ (32 ∷ quoted name ++ crlf)) (names_low attributes a.names) second)

counted : (name : List ℕ) (items : StatusItems) → IsToldName name → AreSendableCounts items
    → Spells (response.StatusItems name items) (text_of_response (response.StatusItems name items))
counted name items n c =
    let k = counts_spelled items c in
    let tail = 32 ∷ quoted name ++ (32 ∷ 40 ∷ joined (count_texts items) ++ 41 ∷ crlf) in (
      codes "STATUS" ++ tail,
      refl,
      said (response.StatusItems name items) 83 (codes "TATUS") tail refl refl refl (
        refl,
        record {
          string = name;
          counts = k.told;
          first = quoted name;
          rest = joined (count_texts items) ++ 41 ∷ crlf;
          whole = refl;
          spelled = inr (inl (n.octets, refl));
          counted = k.spelled;
          name_is = sym n.as_told;
          items_are = k.value;
        },
      ),
    )

counted_small : (name : List ℕ) (items : StatusItems) → IsToldName name → AreSendableCounts items → Each small (text_of_response (response.StatusItems name items))
counted_small name items n c =
    let k = counts_spelled items c in
    let last = each_append small (32 ∷ 40 ∷ joined (count_texts items)) (41 ∷ crlf) (refl, (refl, k.low)) (refl, (refl, (refl, tt))) in
    each_append small (codes "* STATUS ") (quoted name ++ (codes " (" ++ joined (count_texts items) ++ 41 ∷ crlf)) (each_all small (codes "* STATUS ") refl)
    (each_append small (quoted name) (codes " (" ++ joined (count_texts items) ++ 41 ∷ crlf) (quoted_small name n.octets) last)

-- ---- messages

fetched : (seq : ℕ) (items : FetchItems) → IsSendable (response.Fetch seq items) → IsSpelling (response.Fetch seq items) (text_of_response (response.Fetch seq items))
fetched seq items h =
    let k = items_shown items h.values.1 in
    let inside = octets_of items.header + octets_of items.body in
    let text = joined (item_texts items) ++ 41 ∷ crlf in
    let shown = k.shown ++ 41 ∷ crlf in
    let tail = 32 ∷ 40 ∷ shown in
    spelling_of (response.Fetch seq items) (codes "* " ++ decimal seq ++ (codes " FETCH (" ++ shown)) (
      decimal seq ++ (32 ∷ codes "FETCH" ++ tail),
      refl,
      said_of (response.Fetch seq items) seq 70 (codes "ETCH") tail h.values.0 refl refl
          (refl, refl, (k.told, shown, refl, k.spelled, k.value)),
    )
    (marks_front (codes "* " ++ decimal seq) (codes " FETCH (" ++ text) (codes " FETCH (" ++ shown) inside (number_small seq h.values.0)
    (marks_front (codes " FETCH (") text shown inside (each_all small (codes " FETCH (") refl)
    (marks_back (joined (item_texts items)) k.shown (41 ∷ crlf) inside k.marks (refl, (refl, (refl, tt))))))
    h.within

set_line : (rs : List UidRange) → IsSendableSet rs → IsSetLine rs (ranges_text rs ++ crlf)
set_line rs h = record { front = ranges_text rs; back = crlf; whole = refl; first = set_text rs h; second = refl }

vanished : (earlier : Bool) (rs : List UidRange) → IsSendableSet rs → IsVanished earlier rs (earlier_text earlier ++ (ranges_text rs ++ crlf))
vanished true rs h = record { front = codes "(EARLIER) "; back = ranges_text rs ++ crlf; whole = refl; first = refl; second = set_line rs h }
vanished false rs h = set_line rs h

earlier_small : (earlier : Bool) → Each small (earlier_text earlier)
earlier_small true = each_all small (codes "(EARLIER) ") refl
earlier_small false = tt

vanished_small : (earlier : Bool) (rs : List UidRange) → IsSendableSet rs → Each small (codes "* VANISHED " ++ earlier_text earlier ++ (ranges_text rs ++ crlf))
vanished_small earlier rs h =
    each_append small (codes "* VANISHED ") (earlier_text earlier ++ (ranges_text rs ++ crlf)) (each_all small (codes "* VANISHED ") refl)
    (each_append small (earlier_text earlier) (ranges_text rs ++ crlf) (earlier_small earlier)
    (each_append small (ranges_text rs) crlf (set_class small rs digit_small refl refl h) (refl, (refl, tt))))

-- ---- a line of another word

not_among : (ws : List (List ℕ)) (w : List ℕ) → list_all (λ v. not (bytes_eq v w)) ws ≡ true → Contains ws w → ⊥
not_among [] w e (k, lt, is) = absurd (omega (arith, lt))
not_among (v ∷ ws) w e (zero, lt, is) =
    let a = and_parts (not (bytes_eq v w)) (list_all (λ u. not (bytes_eq u w)) ws) e in
    false≢true (sym (ap not ((bytes_eq-Decides v w).1 is)) ∙ a.0)
not_among (v ∷ ws) w e (suc k, lt, is) =
    let a = and_parts (not (bytes_eq v w)) (list_all (λ u. not (bytes_eq u w)) ws) e in
    not_among ws w a.1 (k, omega (arith, lt), is)

no_count : (n : ℕ) → EndsInCount n (codes "NOTHING") → ⊥
no_count n e =
    let free : Each (other 123) (codes "NOTHING") = each_all (other 123) (codes "NOTHING") refl in
    cut_none 123 e.front (e.digits ++ 125 ∷ [])
    (ap (cut 123) (sym (e.whole ∙ append_assoc e.front (123 ∷ e.digits) (125 ∷ []))) ∙ cut_free 123 (codes "NOTHING") free)

-- ---- all responses

pub text_spelled : (r : Response) → IsSendable r → IsSpelling r (text_of_response r)
text_spelled (response.Tagged tag s c) h =
    plainly (response.Tagged tag s c) h refl (tagged tag s c h.values.0 h.values.1 h.values.2)
    (each_append small tag (32 ∷ status_line_text s c) (each_to is_alnum small tag alnum_small h.values.0.octets) (refl, status_line_small s c h.values.2))
text_spelled (response.Untagged s c) h =
    plainly (response.Untagged s c) h refl (status_line_text s c, refl, untagged s c h.values) (refl, (refl, status_line_small s c h.values))
text_spelled response.Continue h =
    plainly response.Continue h refl (codes " go" ++ crlf, refl, record { text = codes " go"; whole = refl; text_is = each_all is_text (codes " go") refl })
    (each_all small (codes "+ go" ++ crlf) refl)
text_spelled (response.Capability words) h =
    plainly (response.Capability words) h refl (
      codes "CAPABILITY" ++ (spaced words ++ crlf),
      refl,
      said (response.Capability words) 67 (codes "APABILITY") (spaced words ++ crlf) refl refl (spaced_octet words) (refl, (h.values, refl)),
    )
    (each_append small (codes "* CAPABILITY") (spaced words ++ crlf) (each_all small (codes "* CAPABILITY") refl) (spaced_small words h.values))
text_spelled (response.Enabled words) h =
    plainly (response.Enabled words) h refl (
      codes "ENABLED" ++ (spaced words ++ crlf),
      refl,
      said (response.Enabled words) 69 (codes "NABLED") (spaced words ++ crlf) refl refl (spaced_octet words) (refl, (h.values, refl)),
    )
    (each_append small (codes "* ENABLED") (spaced words ++ crlf) (each_all small (codes "* ENABLED") refl) (spaced_small words h.values))
text_spelled (response.List attributes delimiter name) h =
    plainly (response.List attributes delimiter name) h refl (listed attributes delimiter name h.values.0 h.values.1 h.values.2)
    (listed_small attributes delimiter name h.values.0 h.values.1 h.values.2)
text_spelled (response.StatusItems name items) h =
    plainly (response.StatusItems name items) h refl (counted name items h.values.0 h.values.1) (counted_small name items h.values.0 h.values.1)
text_spelled (response.Flags flags) h =
    plainly (response.Flags flags) h refl (
      codes "FLAGS " ++ (names_text flags ++ crlf),
      refl,
      said (response.Flags flags) 70 (codes "LAGS") (32 ∷ names_text flags ++ crlf) refl refl refl
          (refl, (flags, names_text flags, refl, (h.values.names, refl), sym h.values.as_kept)),
    )
    (each_append small (codes "* FLAGS ") (names_text flags ++ crlf) (each_all small (codes "* FLAGS ") refl)
    (each_append small (names_text flags) crlf (names_low flags h.values.names) (refl, (refl, tt))))
text_spelled (response.Exists n) h =
    plainly (response.Exists n) h refl (decimal n ++ (codes " EXISTS" ++ crlf), refl, said_of (response.Exists n) n 69 (codes "XISTS") crlf h.values refl refl (refl, refl, refl))
    (each_append small (codes "* " ++ decimal n) (codes " EXISTS" ++ crlf) (number_small n h.values) (each_all small (codes " EXISTS" ++ crlf) refl))
text_spelled (response.Expunge n) h =
    plainly (response.Expunge n) h refl (decimal n ++ (codes " EXPUNGE" ++ crlf), refl, said_of (response.Expunge n) n 69 (codes "XPUNGE") crlf h.values refl refl (refl, refl, refl))
    (each_append small (codes "* " ++ decimal n) (codes " EXPUNGE" ++ crlf) (number_small n h.values) (each_all small (codes " EXPUNGE" ++ crlf) refl))
text_spelled (response.Fetch seq items) h = fetched seq items h
text_spelled (response.Vanished earlier uids) h =
    plainly (response.Vanished earlier uids) h refl (
      codes "VANISHED " ++ (earlier_text earlier ++ (ranges_text uids.ranges ++ crlf)),
      refl,
      said (response.Vanished earlier uids) 86 (codes "ANISHED") (32 ∷ earlier_text earlier ++ (ranges_text uids.ranges ++ crlf)) refl refl refl
          (refl, (earlier_text earlier ++ (ranges_text uids.ranges ++ crlf), refl, vanished earlier uids.ranges h.values)),
    )
    (vanished_small earlier uids.ranges h.values)
text_spelled response.Other h =
    plainly response.Other h refl (
      codes "NOTHING" ++ crlf,
      refl,
      said response.Other 78 (codes "OTHING") crlf refl refl refl (
        not_among (keywords None) (codes "nothing") refl,
        (
          zero,
          record {
            text = codes "NOTHING";
            whole = refl;
            text_is = each_all is_text (codes "NOTHING") refl;
            no_count = no_count;
          },
        ),
      ),
    )
    (each_all small (codes "* NOTHING" ++ crlf) refl)
