-- A spelling is read back as its value.
use Rattle.std.proofs.Common.{◌≡◌, ℕ, zero, suc, ◌+◌, ◌-◌, ◌<◌, true, false, ◌&&◌, List, [], ◌∷◌, ◌++◌, length, map, take, drop, get_or, cond, refl, sym, ap, subst, ◌∙◌}
use Rattle.std.proofs.Common.{append_assoc, arith, inl, inr, Option, Some, None, Result, Ok, Err, IfOk}
use Rattle.std.specs.Prelude.{◌==◌, nat_lt, nat_le, codes, bytes_eq, Contains, unwrap_or}
use Rattle.std.proofs.lemmas.Bool.{cond-true, cond-false, and_parts, and_from, lt-ltb, le-leb, ltb-true, leb-true, eqb-true, false_from_ne_true}
use Rattle.std.proofs.lemmas.List.{length-append}
use Rattle.imap_keywords.proofs.KeyLemmas.{is_key_octet, same_text, text_same}
use Rattle.imap_automaton.proofs.LineWords.{word_of_key, rest_out}
use Rattle.pushdown.proofs.Lists.{cons_head, cons_tail}
use Rattle.imap_automaton.proofs.Tests.{both}
use Rattle.imap_keywords.proofs.Classes.{digit_word}
use Rattle.imap_grammar.specs.reading.Reading.{span, in_name, number_from, number_in, flags_in, words_in, vanished_in, items_in, status_named, word_in, all_digits, is_sequence}
use Rattle.imap_grammar.specs.reading.Reading.{numbered_in, told_in, said_in, plain_in, untagged_in, tagged_in, response_in}
use Rattle.imap_values.proofs.Cuts.{small, plain_small, plain_join, CutAt, cut_at, number_from_is, number_is, capped_le, digit_small, word_small, text_small, within_cap}
use Rattle.imap_grammar.proofs.ItemReadings.{joined_small, flags_read, all_items_read}
use Rattle.imap_grammar.specs.reading.FolderReading.{list_in, status_in}
use Rattle.imap_values.proofs.SetReadings.{words_read, vanished_read}
use Rattle.imap_grammar.proofs.FolderReadings.{list_line_read, status_line_read}
use Rattle.imap_values.proofs.Lengths.{plain_length}
use Rattle.imap_types.specs.declared.response.Status.{Status}
use Rattle.imap_types.specs.declared.response.Status.TheVariants as status
use Rattle.imap_types.specs.declared.response.Response.{Response}
use Rattle.imap_types.specs.declared.response.Response.TheVariants as response
use Rattle.imap_types.specs.Octets.{is_digit, is_alnum, is_text, is_word, lower}
use Rattle.imap_types.specs.Texts.{Each, Then, plain_of, plain_octets, crlf, IsWord}
use Rattle.imap_types.specs.Numbers.{value_from, IsNumber}
use Rattle.imap_types.specs.Lines.{word_of, IsRest, IsCodedRest, IsTagged, IsWords}
use Rattle.imap_types.specs.reading.CodeReading.{code_in}
use Rattle.imap_types.proofs.CodeLemmas.{has_code}
use Rattle.imap_types.proofs.EachLemmas.{each_to, each_append}
use Rattle.imap_types.specs.declared.code.Code.{Code}
use Rattle.imap_types.specs.Items.{joined, no_items}
use Rattle.imap_types.specs.Free.{IsFree}
use Rattle.imap_types.specs.Spells.{keywords, IsFlagsLine, Says, IsWordLine, IsUntagged, Spells, IsSpelling}

-- ---- words

named_back : (s : Status) → status_named (word_of s) ≡ Some s
unfolding status_named
named_back status.Ok = refl
named_back status.No = refl
named_back status.Bad = refl
named_back status.Preauth = refl
named_back status.Bye = refl

passes : {A : Type 0} (w k : List ℕ) (x y : A) → (w ≡ k → ⊥) → cond (bytes_eq w k) x y ≡ y
passes w k x y ne = cond-false (bytes_eq w k) x y (false_from_ne_true (bytes_eq w k) (λ e. ne (same_text w k e)))

named_none : (w : List ℕ) → (w ≡ codes "ok" → ⊥) → (w ≡ codes "no" → ⊥) → (w ≡ codes "bad" → ⊥) → (w ≡ codes "preauth" → ⊥) → (w ≡ codes "bye" → ⊥) → status_named w ≡ None
unfolding status_named
named_none w ok no_ bad preauth bye =
    passes w (codes "ok") (Some status.Ok) (cond (bytes_eq w (codes "no")) (Some status.No)
    (cond (bytes_eq w (codes "bad")) (Some status.Bad) (cond (bytes_eq w (codes "preauth")) (Some status.Preauth) (cond (bytes_eq w (codes "bye")) (Some status.Bye) None)))) ok
    ∙ passes w (codes "no") (Some status.No) (cond (bytes_eq w (codes "bad")) (Some status.Bad)
    (cond (bytes_eq w (codes "preauth")) (Some status.Preauth) (cond (bytes_eq w (codes "bye")) (Some status.Bye) None))) no_
    ∙ passes w (codes "bad") (Some status.Bad) (cond (bytes_eq w (codes "preauth")) (Some status.Preauth) (cond (bytes_eq w (codes "bye")) (Some status.Bye) None)) bad
    ∙ passes w (codes "preauth") (Some status.Preauth) (cond (bytes_eq w (codes "bye")) (Some status.Bye) None) preauth
    ∙ passes w (codes "bye") (Some status.Bye) None bye

-- two texts that aren't one
differ : (a b : List ℕ) → bytes_eq a b ≡ false → a ≡ b → ⊥
differ a b f e = both (bytes_eq a b) (text_same a b e) f

named_none_of : (k : List ℕ) → bytes_eq k (codes "ok") ≡ false → bytes_eq k (codes "no") ≡ false → bytes_eq k (codes "bad") ≡ false → bytes_eq k (codes "preauth") ≡ false
    → bytes_eq k (codes "bye") ≡ false → status_named k ≡ None
named_none_of k a b c d e = named_none k (differ k (codes "ok") a) (differ k (codes "no") b) (differ k (codes "bad") c) (differ k (codes "preauth") d) (differ k (codes "bye") e)

no_keyword : (n : Option ℕ) (w k : List ℕ) → (Contains (keywords n) w → ⊥) → Contains (keywords n) k → w ≡ k → ⊥
no_keyword n w k ne m e = ne (subst (Contains (keywords n)) (sym e) m)

-- ---- the octet after a word

no_cr : (c : ℕ) → is_word c ≡ true → c ≡ 13 → ⊥
no_cr c e f = grind arith

behind_text : (w tail text z : List ℕ) → w ++ tail ≡ text ++ 13 ∷ z → Each is_word w → Each is_text text → small (get_or tail 0 0) ≡ true
behind_text [] tail [] z e h k = ap (λ (u : List ℕ). small (get_or u 0 0)) e
behind_text [] tail (d ∷ text) z e h k = ap (λ (u : List ℕ). small (get_or u 0 0)) e ∙ text_small d k.0
behind_text (c ∷ w) tail [] z e h k = absurd (no_cr c h.0 (cons_head c 13 (w ++ tail) z e))
behind_text (c ∷ w) tail (d ∷ text) z e h k = behind_text w tail text z (cons_tail c d (w ++ tail) (text ++ 13 ∷ z) e) h.1 k.1

behind_free : (k : ℕ) (w tail t : List ℕ) → t ≡ w ++ tail → Each is_word w → IsFree k t → small (get_or tail 0 0) ≡ true
behind_free zero w tail t e h f = behind_text w tail f.text (10 ∷ []) (sym e ∙ f.whole) h f.text_is
behind_free (suc k) w tail t e h f = behind_text w tail f.text (10 ∷ f.octets ++ f.rest) (sym e ∙ f.whole ∙ append_assoc f.text (13 ∷ 10 ∷ f.octets) f.rest) h f.text_is

behind_rest : (t : List ℕ) → IsRest t → small (get_or t 0 0) ≡ true
behind_rest t (inl e) = ap (λ (u : List ℕ). small (get_or u 0 0)) e
behind_rest t (inr w) = ap (λ (u : List ℕ). small (get_or u 0 0)) w.1

behind_words : (ws : List (List ℕ)) (t : List ℕ) → IsWords ws t → small (get_or t 0 0) ≡ true
behind_words [] t h = ap (λ (u : List ℕ). small (get_or u 0 0)) h.1
behind_words (w ∷ ws) t h = ap (λ (u : List ℕ). small (get_or u 0 0)) h.1

says_small : (number : Option ℕ) (v : Response) (w tail t : List ℕ) → t ≡ w ++ tail → Each is_word w → Says number v (map lower w) tail t → small (get_or tail 0 0) ≡ true
says_small None (response.Untagged s code) w tail t e h k = behind_rest tail k.1.0
says_small None (response.Capability ws) w tail t e h k = behind_words ws tail k.1
says_small None (response.Enabled ws) w tail t e h k = behind_words ws tail k.1
says_small None (response.Flags flags) w tail t e h k = ap (λ (u : List ℕ). small (get_or u 0 0)) k.1.2
says_small None (response.Vanished earlier uids) w tail t e h k = ap (λ (u : List ℕ). small (get_or u 0 0)) k.1.1
says_small None (response.List attributes delimiter name) w tail t e h k = ap (λ (u : List ℕ). small (get_or u 0 0)) k.1.whole
says_small None (response.StatusItems name items) w tail t e h k = ap (λ (u : List ℕ). small (get_or u 0 0)) k.1.whole
says_small (Some n) (response.Exists count) w tail t e h k = ap (λ (u : List ℕ). small (get_or u 0 0)) k.2
says_small (Some n) (response.Expunge seq) w tail t e h k = ap (λ (u : List ℕ). small (get_or u 0 0)) k.2
says_small (Some n) (response.Fetch seq items) w tail t e h k = ap (λ (u : List ℕ). small (get_or u 0 0)) k.2.2
says_small None response.Other w tail t e h k = behind_free k.1.0 w tail t e h k.1.1
says_small (Some n) response.Other w tail t e h k = behind_free k.1.0 w tail t e h k.1.1
says_small _ _ w tail t e h k = absurd k

plain_head : (t : List ℕ) → small (get_or t 0 0) ≡ true → get_or (plain_octets t) 0 0 ≡ get_or t 0 0
plain_head [] e = refl
plain_head (c ∷ t) e = cond-true (nat_lt c 256) c (c - 256) e

-- the word of a line, cut from its octets
word_cut : (number : Option ℕ) (v : Response) (t : List ℕ) → (h : IsWordLine number v t) → CutAt is_word h.word (plain_octets h.tail) (plain_octets t)
    × (get_or (plain_octets h.tail) 0 0 ≡ get_or h.tail 0 0)
word_cut number v t h =
    let s = says_small number v h.word h.tail t h.whole h.word_is h.says in
    let head = plain_head h.tail s in (
      cut_at is_word h.word (plain_octets h.tail) (plain_octets t)
          (ap plain_octets h.whole ∙ plain_join h.word h.tail (each_to is_word small h.word word_small h.word_is)) h.word_is
          (ap is_word head ∙ h.longest),
      head,
    )

word_read : (number : Option ℕ) (v : Response) (t : List ℕ) → (h : IsWordLine number v t) → word_in (plain_octets t) ≡ map lower h.word
unfolding word_in
word_read number v t h = ap (map lower) (word_cut number v t h).0.front

-- ---- after a number

five_long : (w : List ℕ) → map lower w ≡ codes "fetch" → (rest : List ℕ) → drop 7 (w ++ 32 ∷ 40 ∷ rest) ≡ rest
five_long (a ∷ b ∷ c ∷ d ∷ e ∷ []) h rest = refl
five_long [] h rest = absurd cc
five_long (a ∷ []) h rest = absurd cc
five_long (a ∷ b ∷ []) h rest = absurd cc
five_long (a ∷ b ∷ c ∷ []) h rest = absurd cc
five_long (a ∷ b ∷ c ∷ d ∷ []) h rest = absurd cc
five_long (a ∷ b ∷ c ∷ d ∷ e ∷ f ∷ w) h rest = absurd cc

abbrev fetch_of : ℕ → List ℕ → Response
fetch_of n b = response.Fetch n (items_in (length b) no_items (drop 7 b))

abbrev expunge_or : ℕ → List ℕ → Response
expunge_or n b = cond (bytes_eq (word_in b) (codes "expunge")) (response.Expunge n) response.Other

abbrev exists_or : ℕ → List ℕ → Response
exists_or n b = cond (bytes_eq (word_in b) (codes "exists")) (response.Exists n) (expunge_or n b)

-- the word is another
apart_by : (w k : List ℕ) → w ≡ k → (q : List ℕ) → (k ≡ q → ⊥) → w ≡ q → ⊥
apart_by w k e q f g = f (sym e ∙ g)

numbered_read : (n : ℕ) (v : Response) (t : List ℕ) → IsWordLine (Some n) v t → numbered_in n (plain_octets t) ≡ v
unfolding numbered_in
numbered_read n (response.Fetch seq items) t h =
    let w = word_read (Some n) (response.Fetch seq items) t h in
    let says = h.says in
    let k = says.2 in
    let s = each_to is_word small h.word word_small h.word_is in
    let inner : plain_octets t ≡ h.word ++ 32 ∷ 40 ∷ plain_octets k.1 = ap plain_octets h.whole ∙ plain_join h.word h.tail s ∙ ap (λ (u : List ℕ). h.word ++ plain_octets u) k.2 in
    let rest : drop 7 (plain_octets t) ≡ plain_octets k.1 = ap (drop 7) inner ∙ five_long h.word says.1 (plain_octets k.1) in
    let l1 = ap length inner in
    let l2 = length-append h.word (32 ∷ 40 ∷ plain_octets k.1) in
    let l3 = plain_length k.1 in
    let read : items_in (length (plain_octets t)) no_items (drop 7 (plain_octets t)) ≡ items = ap (items_in (length (plain_octets t)) no_items) rest
    ∙ all_items_read k.0 no_items k.1 (length (plain_octets t)) k.3 (omega (arith, l1, l2, l3)) ∙ sym k.4 in
    cond-true (bytes_eq (word_in (plain_octets t)) (codes "fetch")) (fetch_of n (plain_octets t)) (exists_or n (plain_octets t))
    (text_same (word_in (plain_octets t)) (codes "fetch") (w ∙ says.1))
    ∙ ap (λ q. response.Fetch n q) read ∙ ap (λ (m : ℕ). response.Fetch m items) (sym says.0)
numbered_read n (response.Exists count) t h =
    let b = plain_octets t in
    let w : word_in b ≡ codes "exists" = word_read (Some n) (response.Exists count) t h ∙ h.says.1 in
    passes (word_in b) (codes "fetch") (fetch_of n b) (exists_or n b) (apart_by (word_in b) (codes "exists") w (codes "fetch") (differ (codes "exists") (codes "fetch") refl))
    ∙ cond-true (bytes_eq (word_in b) (codes "exists")) (response.Exists n) (expunge_or n b) (text_same (word_in b) (codes "exists") w) ∙ ap response.Exists (sym h.says.0)
numbered_read n (response.Expunge seq) t h =
    let b = plain_octets t in
    let w : word_in b ≡ codes "expunge" = word_read (Some n) (response.Expunge seq) t h ∙ h.says.1 in
    passes (word_in b) (codes "fetch") (fetch_of n b) (exists_or n b) (apart_by (word_in b) (codes "expunge") w (codes "fetch") (differ (codes "expunge") (codes "fetch") refl))
    ∙ passes (word_in b) (codes "exists") (response.Exists n) (expunge_or n b)
    (apart_by (word_in b) (codes "expunge") w (codes "exists") (differ (codes "expunge") (codes "exists") refl))
    ∙ cond-true (bytes_eq (word_in b) (codes "expunge")) (response.Expunge n) response.Other (text_same (word_in b) (codes "expunge") w) ∙ ap response.Expunge (sym h.says.0)
numbered_read n response.Other t h =
    let b = plain_octets t in
    let w = word_read (Some n) response.Other t h in
    let says = h.says in
    let ne : (k : List ℕ) → Contains (keywords (Some n)) k → word_in b ≡ k → ⊥ = λ k m e. no_keyword (Some n) (map lower h.word) k says.0 m (sym w ∙ e) in
    passes (word_in b) (codes "fetch") (fetch_of n b) (exists_or n b) (ne (codes "fetch") (2, omega arith, refl))
    ∙ passes (word_in b) (codes "exists") (response.Exists n) (expunge_or n b) (ne (codes "exists") (0, omega arith, refl))
    ∙ passes (word_in b) (codes "expunge") (response.Expunge n) response.Other (ne (codes "expunge") (1, omega arith, refl))
numbered_read n _ t h = absurd h.says

-- ---- after `* `

-- the test for digits holds of a text that has only digits
pub digits_true : (t : List ℕ) → Each is_digit t → all_digits t ≡ true
unfolding all_digits
digits_true [] h = refl
digits_true (c ∷ t) h = and_from (is_digit c) (all_digits t) h.0 (digits_true t h.1)

-- a text that passes the test for digits has only digits
pub true_digits : (t : List ℕ) → all_digits t ≡ true → Each is_digit t
unfolding all_digits
true_digits [] e = tt
true_digits (c ∷ t) e = let p = and_parts (is_digit c) (all_digits t) e in (p.0, true_digits t p.1)

-- the test for a number holds of a text that spells a number
pub sequence_true : (n : ℕ) (t : List ℕ) → IsNumber n t → is_sequence t ≡ true
unfolding is_sequence
sequence_true n t h = and_from _ _ (and_from _ _ (and_from _ _ (lt-ltb 0 (length t) h.some) (le-leb (length t) 10 h.few)) (digits_true t h.digits))
    (le-leb (number_from 0 t) 4294967295 (let c = capped_le (value_from 0 t) (omega (arith, h.value, h.most)) in omega (arith, number_from_is t, c)))

-- a text that passes the test for a number spells the number that its digits make
pub true_sequence : (t : List ℕ) → is_sequence t ≡ true → IsNumber (value_from 0 t) t
unfolding is_sequence
true_sequence t e =
    let a = and_parts (nat_lt 0 (length t) && nat_le (length t) 10 && all_digits t) (nat_le (number_from 0 t) 4294967295) e in
    let b = and_parts (nat_lt 0 (length t) && nat_le (length t) 10) (all_digits t) a.0 in
    let c = and_parts (nat_lt 0 (length t)) (nat_le (length t) 10) b.0 in
    record {
      digits = true_digits t b.1;
      some = ltb-true 0 (length t) c.0;
      few = leb-true (length t) 10 c.1;
      value = refl;
      most = within_cap 4294967295 (value_from 0 t) (omega (arith, sym (number_from_is t), leb-true (number_from 0 t) 4294967295 a.1));
    }

headed : (u : List ℕ) (c : ℕ) → get_or u 0 0 ≡ c → 0 < c → (z : List ℕ) × (u ≡ c ∷ z)
headed [] c e lt = absurd (omega (arith, e, lt))
headed (d ∷ u) c e lt = (u, ap (λ (n : ℕ). n ∷ u) e)

abbrev status_or : List ℕ → List ℕ → Response
status_or w tail = cond (bytes_eq w (codes "status")) (status_in tail) response.Other

abbrev list_or : List ℕ → List ℕ → Response
list_or w tail = cond (bytes_eq w (codes "list")) (list_in tail) (status_or w tail)

abbrev vanished_or : List ℕ → List ℕ → Response
vanished_or w tail = cond (bytes_eq w (codes "vanished")) (vanished_in (drop 1 tail)) (list_or w tail)

abbrev flags_or : List ℕ → List ℕ → Response
flags_or w tail = cond (bytes_eq w (codes "flags")) (response.Flags (flags_in (drop 2 tail)).0) (vanished_or w tail)

abbrev enabled_or : List ℕ → List ℕ → Response
enabled_or w tail = cond (bytes_eq w (codes "enabled")) (response.Enabled (words_in (length tail) tail)) (flags_or w tail)

flags_line : (flags : List (List ℕ)) (t : List ℕ) → IsFlagsLine flags t → (flags_in (drop 2 (plain_octets t))).0 ≡ flags
flags_line flags t h =
    let ns = h.0 in
    let all = h.3.0 in
    let e : plain_octets t ≡ 32 ∷ 40 ∷ joined ns ++ 41 ∷ crlf = ap plain_octets
    (h.2 ∙ ap (λ (u : List ℕ). 32 ∷ u ++ crlf) h.3.1 ∙ ap (λ (u : List ℕ). 32 ∷ 40 ∷ u) (append_assoc (joined ns) (41 ∷ []) crlf))
    ∙ plain_small (32 ∷ 40 ∷ joined ns ++ 41 ∷ crlf) (refl, (refl, each_append small (joined ns) (41 ∷ crlf) (joined_small ns all) (refl, (refl, (refl, tt))))) in
    ap (λ (r : List (List ℕ) × List ℕ). r.0) (flags_read ns crlf (drop 2 (plain_octets t)) all (ap (drop 2) e)) ∙ sym h.4

rest_plain : (t : List ℕ) → IsRest t → plain_octets t ≡ t
rest_plain t (inl e) = ap plain_octets e ∙ sym e
rest_plain t (inr w) =
    let line = w.2 in
    ap plain_octets (w.1 ∙ ap (λ (u : List ℕ). 32 ∷ u) line.whole)
    ∙ plain_small (32 ∷ line.text ++ crlf) (refl, each_append small line.text crlf (each_to is_text small line.text text_small line.text_is) (refl, (refl, tt)))
    ∙ sym (w.1 ∙ ap (λ (u : List ℕ). 32 ∷ u) line.whole)

-- the code of a rest is read back
code_read : (code : Code) (t : List ℕ) → IsCodedRest code t → code_in (plain_octets t) ≡ code
code_read code t h = ap code_in (rest_plain t h.0) ∙ has_code code t h.1

told_said : (v : Response) (w tail t : List ℕ) → Says None v w tail t → said_in (status_named w) w (plain_octets tail) ≡ v
unfolding said_in told_in
told_said (response.Untagged s code) w tail t h =
    ap (λ (o : Option Status). said_in o w (plain_octets tail)) (ap status_named h.0 ∙ named_back s)
    ∙ ap (λ (c : Code). response.Untagged s c) (code_read code tail h.1)
told_said (response.Capability ws) w tail t h =
    ap (λ (o : Option Status). said_in o w (plain_octets tail)) (ap status_named h.0 ∙ named_none_of (codes "capability") refl refl refl refl refl)
    ∙ cond-true (bytes_eq w (codes "capability")) (response.Capability (words_in (length (plain_octets tail)) (plain_octets tail))) (enabled_or w (plain_octets tail))
    (text_same w (codes "capability") h.0)
    ∙ ap response.Capability (words_read ws tail h.1)
told_said (response.Enabled ws) w tail t h =
    ap (λ (o : Option Status). said_in o w (plain_octets tail)) (ap status_named h.0 ∙ named_none_of (codes "enabled") refl refl refl refl refl)
    ∙ passes w (codes "capability") (response.Capability (words_in (length (plain_octets tail)) (plain_octets tail))) (enabled_or w (plain_octets tail))
    (apart_by w (codes "enabled") h.0 (codes "capability") (differ (codes "enabled") (codes "capability") refl))
    ∙ cond-true (bytes_eq w (codes "enabled")) (response.Enabled (words_in (length (plain_octets tail)) (plain_octets tail))) (flags_or w (plain_octets tail))
    (text_same w (codes "enabled") h.0)
    ∙ ap response.Enabled (words_read ws tail h.1)
told_said (response.Flags flags) w tail t h =
    ap (λ (o : Option Status). said_in o w (plain_octets tail)) (ap status_named h.0 ∙ named_none_of (codes "flags") refl refl refl refl refl)
    ∙ passes w (codes "capability") (response.Capability (words_in (length (plain_octets tail)) (plain_octets tail))) (enabled_or w (plain_octets tail))
    (apart_by w (codes "flags") h.0 (codes "capability") (differ (codes "flags") (codes "capability") refl))
    ∙ passes w (codes "enabled") (response.Enabled (words_in (length (plain_octets tail)) (plain_octets tail))) (flags_or w (plain_octets tail))
    (apart_by w (codes "flags") h.0 (codes "enabled") (differ (codes "flags") (codes "enabled") refl))
    ∙ cond-true (bytes_eq w (codes "flags")) (response.Flags (flags_in (drop 2 (plain_octets tail))).0) (vanished_or w (plain_octets tail)) (text_same w (codes "flags") h.0)
    ∙ ap response.Flags (flags_line flags tail h.1)
told_said (response.Vanished earlier uids) w tail t h =
    ap (λ (o : Option Status). said_in o w (plain_octets tail)) (ap status_named h.0 ∙ named_none_of (codes "vanished") refl refl refl refl refl)
    ∙ passes w (codes "capability") (response.Capability (words_in (length (plain_octets tail)) (plain_octets tail))) (enabled_or w (plain_octets tail))
    (apart_by w (codes "vanished") h.0 (codes "capability") (differ (codes "vanished") (codes "capability") refl))
    ∙ passes w (codes "enabled") (response.Enabled (words_in (length (plain_octets tail)) (plain_octets tail))) (flags_or w (plain_octets tail))
    (apart_by w (codes "vanished") h.0 (codes "enabled") (differ (codes "vanished") (codes "enabled") refl))
    ∙ passes w (codes "flags") (response.Flags (flags_in (drop 2 (plain_octets tail))).0) (vanished_or w (plain_octets tail))
    (apart_by w (codes "vanished") h.0 (codes "flags") (differ (codes "vanished") (codes "flags") refl))
    ∙ cond-true (bytes_eq w (codes "vanished")) (vanished_in (drop 1 (plain_octets tail))) (list_or w (plain_octets tail)) (text_same w (codes "vanished") h.0)
    ∙ ap (λ (u : List ℕ). vanished_in (drop 1 (plain_octets u))) h.1.1 ∙ vanished_read earlier uids.ranges h.1.0 h.1.2
told_said (response.List attributes delimiter name) w tail t h =
    ap (λ (o : Option Status). said_in o w (plain_octets tail)) (ap status_named h.0 ∙ named_none_of (codes "list") refl refl refl refl refl)
    ∙ passes w (codes "capability") (response.Capability (words_in (length (plain_octets tail)) (plain_octets tail))) (enabled_or w (plain_octets tail))
    (apart_by w (codes "list") h.0 (codes "capability") (differ (codes "list") (codes "capability") refl))
    ∙ passes w (codes "enabled") (response.Enabled (words_in (length (plain_octets tail)) (plain_octets tail))) (flags_or w (plain_octets tail))
    (apart_by w (codes "list") h.0 (codes "enabled") (differ (codes "list") (codes "enabled") refl))
    ∙ passes w (codes "flags") (response.Flags (flags_in (drop 2 (plain_octets tail))).0) (vanished_or w (plain_octets tail))
    (apart_by w (codes "list") h.0 (codes "flags") (differ (codes "list") (codes "flags") refl))
    ∙ passes w (codes "vanished") (vanished_in (drop 1 (plain_octets tail))) (list_or w (plain_octets tail))
    (apart_by w (codes "list") h.0 (codes "vanished") (differ (codes "list") (codes "vanished") refl))
    ∙ cond-true (bytes_eq w (codes "list")) (list_in (plain_octets tail)) (status_or w (plain_octets tail)) (text_same w (codes "list") h.0)
    ∙ list_line_read attributes delimiter name tail h.1
told_said (response.StatusItems name items) w tail t h =
    ap (λ (o : Option Status). said_in o w (plain_octets tail)) (ap status_named h.0 ∙ named_none_of (codes "status") refl refl refl refl refl)
    ∙ passes w (codes "capability") (response.Capability (words_in (length (plain_octets tail)) (plain_octets tail))) (enabled_or w (plain_octets tail))
    (apart_by w (codes "status") h.0 (codes "capability") (differ (codes "status") (codes "capability") refl))
    ∙ passes w (codes "enabled") (response.Enabled (words_in (length (plain_octets tail)) (plain_octets tail))) (flags_or w (plain_octets tail))
    (apart_by w (codes "status") h.0 (codes "enabled") (differ (codes "status") (codes "enabled") refl))
    ∙ passes w (codes "flags") (response.Flags (flags_in (drop 2 (plain_octets tail))).0) (vanished_or w (plain_octets tail))
    (apart_by w (codes "status") h.0 (codes "flags") (differ (codes "status") (codes "flags") refl))
    ∙ passes w (codes "vanished") (vanished_in (drop 1 (plain_octets tail))) (list_or w (plain_octets tail))
    (apart_by w (codes "status") h.0 (codes "vanished") (differ (codes "status") (codes "vanished") refl))
    ∙ passes w (codes "list") (list_in (plain_octets tail)) (status_or w (plain_octets tail))
    (apart_by w (codes "status") h.0 (codes "list") (differ (codes "status") (codes "list") refl))
    ∙ cond-true (bytes_eq w (codes "status")) (status_in (plain_octets tail)) response.Other (text_same w (codes "status") h.0)
    ∙ status_line_read name items tail h.1
told_said response.Other w tail t h =
    let ne : (k : List ℕ) → Contains (keywords None) k → w ≡ k → ⊥ = λ k m e. no_keyword None w k h.0 m e in
    ap (λ (o : Option Status). said_in o w (plain_octets tail)) (named_none w (ne (codes "ok") (0, omega arith, refl)) (ne (codes "no") (1, omega arith, refl))
    (ne (codes "bad") (2, omega arith, refl)) (ne (codes "preauth") (3, omega arith, refl)) (ne (codes "bye") (4, omega arith, refl)))
    ∙ passes w (codes "capability") (response.Capability (words_in (length (plain_octets tail)) (plain_octets tail))) (enabled_or w (plain_octets tail))
    (ne (codes "capability") (5, omega arith, refl))
    ∙ passes w (codes "enabled") (response.Enabled (words_in (length (plain_octets tail)) (plain_octets tail))) (flags_or w (plain_octets tail))
    (ne (codes "enabled") (6, omega arith, refl))
    ∙ passes w (codes "flags") (response.Flags (flags_in (drop 2 (plain_octets tail))).0) (vanished_or w (plain_octets tail)) (ne (codes "flags") (7, omega arith, refl))
    ∙ passes w (codes "vanished") (vanished_in (drop 1 (plain_octets tail))) (list_or w (plain_octets tail)) (ne (codes "vanished") (8, omega arith, refl))
    ∙ passes w (codes "list") (list_in (plain_octets tail)) (status_or w (plain_octets tail)) (ne (codes "list") (9, omega arith, refl))
    ∙ passes w (codes "status") (status_in (plain_octets tail)) response.Other (ne (codes "status") (10, omega arith, refl))
told_said _ w tail t h = absurd h

plain_read : (v : Response) (t : List ℕ) → IsWordLine None v t → plain_in (plain_octets t) ≡ v
unfolding plain_in
plain_read v t h =
    let b = plain_octets t in
    let c = word_cut None v t h in
    ap (λ (w : List ℕ). said_in (status_named w) w (drop (span is_word b) b)) (word_read None v t h)
    ∙ ap (said_in (status_named (map lower h.word)) (map lower h.word)) c.0.back
    ∙ told_said v (map lower h.word) h.tail t h.says

untagged_read : (v : Response) (t : List ℕ) → IsUntagged v t → untagged_in (plain_octets t) ≡ v
unfolding untagged_in
untagged_read v t (inl r) =
    let n = r.0 in
    let digits = r.2.0 in
    let num = r.2.2 in
    let b = plain_octets t in
    let cut : b ≡ digits ++ 32 ∷ plain_octets r.1 = ap plain_octets r.2.1 ∙ plain_join digits (32 ∷ r.1) (each_to is_digit small digits digit_small num.digits) in
    let k = cut_at is_word digits (32 ∷ plain_octets r.1) b cut (each_to is_digit is_word digits digit_word num.digits) refl in
    let test : (is_sequence (take (span is_word b) b) && get_or b (span is_word b) 0 == 32) ≡ true =
    and_from _ _ (ap is_sequence k.front ∙ sequence_true n digits num) (ap (λ (c : ℕ). c == 32) k.octet) in
    let value : number_in (take (span is_word b) b) ≡ n = ap number_in k.front ∙ number_is digits (omega (arith, num.value, num.most)) ∙ sym num.value in
    cond-true (is_sequence (take (span is_word b) b) && get_or b (span is_word b) 0 == 32) (numbered_in (number_in (take (span is_word b) b)) (drop (span is_word b + 1) b))
    (plain_in b) test
    ∙ ap (λ (m : ℕ). numbered_in m (drop (span is_word b + 1) b)) value ∙ ap (numbered_in n) (k.past 32 (plain_octets r.1) refl) ∙ numbered_read n v r.1 r.3
untagged_read v t (inr r) =
    let b = plain_octets t in
    let c = word_cut None v t r.0 in
    let k = c.0 in
    cond-false (is_sequence (take (span is_word b) b) && get_or b (span is_word b) 0 == 32) (numbered_in (number_in (take (span is_word b) b)) (drop (span is_word b + 1) b))
    (plain_in b)
    (false_from_ne_true (is_sequence (take (span is_word b) b) && get_or b (span is_word b) 0 == 32) (λ e.
    let p = and_parts (is_sequence (take (span is_word b) b)) (get_or b (span is_word b) 0 == 32) e in
    let num = true_sequence r.0.word (ap is_sequence (sym k.front) ∙ p.0) in
    let space : get_or r.0.tail 0 0 ≡ 32 = sym c.1 ∙ sym k.octet ∙ eqb-true (get_or b (span is_word b) 0) 32 p.1 in
    let tail = headed r.0.tail 32 space (omega arith) in
    r.1 (value_from 0 r.0.word) tail.0 (r.0.word, r.0.whole ∙ ap (λ (u : List ℕ). r.0.word ++ u) tail.1, num)))
    ∙ plain_read v t r.0

-- ---- after a tag

alnum_name : (c : ℕ) → is_alnum c ≡ true → in_name c ≡ true
alnum_name c e = grind arith

alnum_small : (c : ℕ) → is_alnum c ≡ true → small c ≡ true
alnum_small c e = grind arith

word_octets : (s : Status) → Each is_key_octet (word_of s)
word_octets status.Ok = (refl, (refl, tt))
word_octets status.No = (refl, (refl, tt))
word_octets status.Bad = (refl, (refl, (refl, tt)))
word_octets status.Preauth = (refl, (refl, (refl, (refl, (refl, (refl, (refl, tt)))))))
word_octets status.Bye = (refl, (refl, (refl, tt)))

-- the status and the code after a tag
record StatusRead (s : Status) (code : Code) (b : List ℕ) : Type 0 where
  named : status_named (word_in b) ≡ Some s
  told : code_in (drop (span is_word b) b) ≡ code

status_read : (s : Status) (code : Code) (t : List ℕ) → Then (IsWord (word_of s)) (IsCodedRest code) t → StatusRead s code (plain_octets t)
unfolding word_in
status_read s code t h =
    let rest = h.second.0 in
    let each = word_of_key h.front (word_of s) (word_octets s) h.first in
    let head = plain_head h.back (behind_rest h.back rest) in
    let k = cut_at is_word h.front (plain_octets h.back) (plain_octets t) (ap plain_octets h.whole ∙ plain_join h.front h.back (each_to is_word small h.front word_small each)) each
    (ap is_word head ∙ rest_out h.back rest) in
    record {
      named = ap (λ (u : List ℕ). status_named (map lower u)) k.front ∙ ap status_named h.first ∙ named_back s;
      told = ap code_in k.back ∙ code_read code h.back h.second;
    }

abbrev tagged_line : List ℕ → List ℕ → Response
tagged_line tag line = response.Tagged tag (unwrap_or (status_named (word_in line)) status.Bad) (code_in (drop (span is_word line) line))

tagged_read : (tag : List ℕ) (s : Status) (code : Code) (t : List ℕ) → IsTagged tag s code t → tagged_in (plain_octets t) ≡ response.Tagged tag s code
unfolding tagged_in
tagged_read tag s code t h =
    let b = plain_octets t in
    let k = cut_at in_name tag (32 ∷ plain_octets h.after) b (ap plain_octets h.whole ∙ plain_join tag (32 ∷ h.after) (each_to is_alnum small tag alnum_small h.tag_is))
    (each_to is_alnum in_name tag alnum_name h.tag_is) refl in
    let read = status_read s code h.after h.line in
    ap (λ (u : List ℕ). tagged_line u (drop (span in_name b + 1) b)) k.front
    ∙ ap (tagged_line tag) (k.past 32 (plain_octets h.after) refl)
    ∙ ap (λ (o : Option Status). response.Tagged tag (unwrap_or o status.Bad) (code_in (drop (span is_word (plain_octets h.after)) (plain_octets h.after)))) read.named
    ∙ ap (response.Tagged tag s) read.told

-- ---- responses

tag_first : (tag t after : List ℕ) → t ≡ tag ++ 32 ∷ after → Each is_alnum tag → ((get_or (plain_octets t) 0 0 == 42) ≡ false) × ((get_or (plain_octets t) 0 0 == 43) ≡ false)
tag_first [] t after e h = (ap (λ (u : List ℕ). get_or (plain_octets u) 0 0 == 42) e, ap (λ (u : List ℕ). get_or (plain_octets u) 0 0 == 43) e)
tag_first (c ∷ tag) t after e h = (
  ap (λ (u : List ℕ). get_or (plain_octets u) 0 0 == 42) e ∙ not_star c h.0,
  ap (λ (u : List ℕ). get_or (plain_octets u) 0 0 == 43) e
      ∙ not_plus c h.0,
)
  where
    not_star : (c : ℕ) → is_alnum c ≡ true → (plain_of c == 42) ≡ false
    not_star c e = grind arith

    not_plus : (c : ℕ) → is_alnum c ≡ true → (plain_of c == 43) ≡ false
    not_plus c e = grind arith

star_read : (v : Response) (t line : List ℕ) → t ≡ 42 ∷ 32 ∷ line → IsUntagged v line → response_in (plain_octets t) ≡ v
unfolding response_in
star_read v t line e h = ap (λ (u : List ℕ). response_in (plain_octets u)) e ∙ untagged_read v line h

-- a spelling is read back as its value
pub reads_value : (v : Response) (t : List ℕ) → Spells v t → response_in (plain_octets t) ≡ v
unfolding response_in
reads_value (response.Tagged tag s code) t h =
    let f = tag_first tag t h.after h.whole h.tag_is in
    cond-false (get_or (plain_octets t) 0 0 == 42) (untagged_in (drop 2 (plain_octets t)))
    (cond (get_or (plain_octets t) 0 0 == 43) response.Continue (tagged_in (plain_octets t))) f.0
    ∙ cond-false (get_or (plain_octets t) 0 0 == 43) response.Continue (tagged_in (plain_octets t)) f.1 ∙ tagged_read tag s code t h
reads_value response.Continue t h = ap (λ (u : List ℕ). response_in (plain_octets u)) h.1
reads_value (response.Untagged s code) t h = star_read (response.Untagged s code) t h.0 h.1 h.2
reads_value (response.Capability ws) t h = star_read (response.Capability ws) t h.0 h.1 h.2
reads_value (response.Enabled ws) t h = star_read (response.Enabled ws) t h.0 h.1 h.2
reads_value (response.List attributes delimiter name) t h = star_read (response.List attributes delimiter name) t h.0 h.1 h.2
reads_value (response.StatusItems name items) t h = star_read (response.StatusItems name items) t h.0 h.1 h.2
reads_value (response.Flags flags) t h = star_read (response.Flags flags) t h.0 h.1 h.2
reads_value (response.Exists count) t h = star_read (response.Exists count) t h.0 h.1 h.2
reads_value (response.Expunge seq) t h = star_read (response.Expunge seq) t h.0 h.1 h.2
reads_value (response.Fetch seq items) t h = star_read (response.Fetch seq items) t h.0 h.1 h.2
reads_value (response.Vanished earlier uids) t h = star_read (response.Vanished earlier uids) t h.0 h.1 h.2
reads_value response.Other t h = star_read response.Other t h.0 h.1 h.2

-- a text spells at most one value
pub one_text_value : (v w : Response) (t : List ℕ) → Spells v t → Spells w t → v ≡ w
one_text_value v w t h k = sym (reads_value v t h) ∙ reads_value w t k

-- the octets of a spelling are read as the response that they spell
pub spelling_read : (v : Response) (b : List ℕ) → IsSpelling v b → response_in b ≡ v
spelling_read v b h = ap response_in (sym h.octets) ∙ reads_value v h.text h.spells

-- if one fact of responses follows from another, it follows of a result's response too
pub if_ok : {E : Type 0} (r : Result Response E) (P Q : Response → Type 0) → ((x : Response) → P x → Q x) → IfOk r P → IfOk r Q
if_ok (Ok x) P Q f h = f x h
if_ok (Err e) P Q f h = h
