-- No encoded word that is written in a list of mailboxes has an octet that is a mark to the grammar of addresses.
use Rattle.std.proofs.Common.{◌≡◌, ◌≢◌, ℕ, Bool, true, false, not, ◌&&◌, ◌||◌, ◌==◌, List, [], ◌∷◌, ◌++◌, map, refl, sym, ap, ◌∙◌, subst, arith, append_assoc, cond, Option}
use Rattle.std.specs.Prelude.{nat_le}
use Rattle.std.specs.List.{list_all, list_any}
use Rattle.std.proofs.lemmas.Bool.{and_parts}
use Rattle.std.proofs.lemmas.List.{append-nil}
use Rattle.std.proofs.lemmas.Str.{IsUtf8-nil}
use Rattle.text_words.specs.Cuts.{Each}
use Rattle.text_words.specs.Octets.{is_between, is_white}
use Rattle.text_words.proofs.CutLemmas.{each_append, each_left, each_right, list_all_each}
use Rattle.header_words.specs.EncodedWords.{is_encoded}
use Rattle.header_tokens.specs.declared.token.Alphabet.TheVariants as alphabet
use Rattle.header_tokens.specs.Tokens.{is_letter}
use Rattle.loose_addresses.specs.Lumps.{IsWordShape}
use Rattle.loose_addresses.specs.Torn.{is_special, AreBefore, IsUntorn}
use Rattle.mail_header.specs.RawForms.{raw_form}
use Rattle.mail_drafts.specs.declared.mailbox.Mailbox.{Mailbox as Given}
use Rattle.message_lines.specs.declared.folding.Line.{Line}
use Rattle.message_lines.specs.Folding.{FieldPiece, plain_piece, is_short, line_with, next_line, gap, laid, line_after}
use Rattle.message_lines.specs.Names.{is_plain_word, are_plain_words, words_of, IsNameText, PlainName, EncodedName}
use Rattle.message_lines.specs.Subjects.{begins_with, has_word_mark}
use Rattle.message_lines.specs.Words.{word_piece, AreWordsBehind, NoWord, NextWord}
use Rattle.message_texts.specs.AddressTexts.{angle_piece, IsAddressText, Unnamed, Named, comma_before, AreAddressTexts, NoAddress, NextAddress}
use Rattle.message_laws.proofs.DateReading.{clean_text}
use Rattle.message_laws.proofs.RawLines.{IsClean, clean_append, clean_gap, raw_is}
use Rattle.message_laws.proofs.WordReading.{word_clean}
use Rattle.address_laws.proofs.EmailAlone.{plain_email}
use Rattle.address_laws.proofs.MailboxTokens.{AreAtoms}
use Rattle.address_laws.proofs.NameReading.{plain_atoms, words_atoms}

-- ---- texts in which no word is torn

abbrev Calm : List ℕ → Type 0
Calm t = (x w y : List ℕ) → t ≡ x ++ (w ++ y) → IsWordShape w → list_any is_special w ≡ true → ⊥

abbrev is_dark : ℕ → Bool
is_dark c = not (is_white c)

encoded_dark : (c : ℕ) → is_encoded c ≡ true → is_dark c ≡ true
encoded_dark c e = grind arith

each_dark : (t : List ℕ) → Each is_encoded t → Each is_dark t
each_dark [] e = tt
each_dark (c ∷ t) e = (encoded_dark c e.0, each_dark t e.1)

-- no white space stands in an encoded word
word_dark : (w : List ℕ) → IsWordShape w → Each is_dark w
word_dark w s =
    subst (λ (u : List ℕ). Each is_dark u) (sym s.whole) (
      refl,
      (
        refl,
        each_append is_dark s.charset (63 ∷ (s.encoding ++ 63 ∷ (s.text ++ 63 ∷ 61 ∷ []))) (each_dark s.charset s.charset_printed) (
          refl,
          each_append is_dark s.encoding (63 ∷ (s.text ++ 63 ∷ 61 ∷ [])) (each_dark s.encoding s.encoding_printed)
              (refl, each_append is_dark s.text (63 ∷ 61 ∷ []) (each_dark s.text s.text_printed) (refl, (refl, tt))),
        ),
      ),
    )

-- a text without white space, at the front of one that has some behind u, is at the front of u
front_of : (w y u v : List ℕ) (c : ℕ) → Each is_dark w → is_white c ≡ true → u ++ c ∷ v ≡ w ++ y → (z : List ℕ) × (u ≡ w ++ z)
front_of [] y u v c d e h = (u, refl)
front_of (a ∷ w) y [] v c d e h =
    let f : c ≡ a = cc in
    let g : is_dark c ≡ true = ap is_dark f ∙ d.0 in
    let k : is_dark c ≡ false = ap not e in absurd cc
front_of (a ∷ w) y (b ∷ u) v c d e h =
    let r = front_of w y u v c d.1 e (let k : u ++ c ∷ v ≡ w ++ y = cc in k) in
    let f : b ≡ a = cc in
    (r.0, ap (λ (k : ℕ). k ∷ u) f ∙ ap (λ (x : List ℕ). a ∷ x) r.1)

calm_behind : (a : ℕ) (t : List ℕ) → Calm (a ∷ t) → Calm t
calm_behind a t k = λ x w y h s e. k (a ∷ x) w y (ap (λ (u : List ℕ). a ∷ u) h) s e

-- two texts with white space between them
calm_join : (u v : List ℕ) (c : ℕ) → is_white c ≡ true → Calm u → Calm v → Calm (u ++ c ∷ v)
calm_join u v c e k l = λ x w y h s f. by u k x w y h s f
  where
    by : (u : List ℕ) → Calm u → (x w y : List ℕ) → u ++ c ∷ v ≡ x ++ (w ++ y) → IsWordShape w → list_any is_special w ≡ true → ⊥
    by u k [] w y h s f = let r = front_of w y u v c (word_dark w s) e h in k [] w r.0 r.1 s f
    by [] k (a ∷ x) w y h s f = l x w y (let g : v ≡ x ++ (w ++ y) = cc in g) s f
    by (b ∷ u) k (a ∷ x) w y h s f = by u (calm_behind b u k) x w y (let g : u ++ c ∷ v ≡ x ++ (w ++ y) = cc in g) s f

-- a text of letters
letter_no_special : (c : ℕ) → is_letter alphabet.Mail c ≡ true → is_special c ≡ false
letter_no_special c e = grind arith

no_special : (t : List ℕ) → Each (is_letter alphabet.Mail) t → list_any is_special t ≡ false
no_special [] e = refl
no_special (c ∷ t) e = ap (λ (b : Bool). b || list_any is_special t) (letter_no_special c e.0) ∙ no_special t e.1

calm_letters : (t : List ℕ) → Each (is_letter alphabet.Mail) t → Calm t
calm_letters t e = λ x w y h s f.
    let all = subst (λ (u : List ℕ). Each (is_letter alphabet.Mail) u) h e in
    let none = no_special w (each_left (is_letter alphabet.Mail) w y (each_right (is_letter alphabet.Mail) x (w ++ y) all)) in absurd cc

calm_nothing : Calm []
calm_nothing = calm_letters [] tt

-- a text in which no encoded word begins
abbrev Unmarked : List ℕ → Type 0
Unmarked t = (x y : List ℕ) → t ≡ x ++ 61 ∷ 63 ∷ y → ⊥

calm_unmarked : (t : List ℕ) → Unmarked t → Calm t
calm_unmarked t n = λ x w y h s f. by x w y h s.whole
  where
    by : (x w y : List ℕ) {z : List ℕ} → t ≡ x ++ (w ++ y) → w ≡ 61 ∷ 63 ∷ z → ⊥
    by x w y {z} h g = n x (z ++ y) (h ∙ ap (λ (u : List ℕ). x ++ (u ++ y)) g)

no_mark : (t : List ℕ) → has_word_mark t ≡ false → Unmarked t
no_mark t e = λ x y h. by x t y e h
  where
    behind : (q : Bool) (t : List ℕ) → cond q true (has_word_mark t) ≡ false → has_word_mark t ≡ false
    behind true t f = absurd cc
    behind false t f = f

    by : (x t y : List ℕ) → has_word_mark t ≡ false → t ≡ x ++ 61 ∷ 63 ∷ y → ⊥
    by [] t y e h = let f : has_word_mark t ≡ true = ap has_word_mark h in absurd cc
    by (b ∷ x) [] y e h = absurd cc
    by (b ∷ x) (c ∷ t) y e h = by x t y (behind (c == 61 && begins_with 63 t) t e) (let g : t ≡ x ++ 61 ∷ 63 ∷ y = cc in g)

unmarked_behind : (c : ℕ) (t : List ℕ) → Unmarked (c ∷ t) → Unmarked t
unmarked_behind c t n = λ x y h. n (c ∷ x) y (ap (λ (u : List ℕ). c ∷ u) h)

unmarked_before : (c : ℕ) (t : List ℕ) → c ≢ 61 → Unmarked t → Unmarked (c ∷ t)
unmarked_before c t d n = λ x y h. by x y h
  where
    by : (x y : List ℕ) → c ∷ t ≡ x ++ 61 ∷ 63 ∷ y → ⊥
    by [] y h = d cc
    by (a ∷ x) y h = n x y (let g : t ≡ x ++ 61 ∷ 63 ∷ y = cc in g)

-- an octet that is no "?" stands between them
unmarked_join : (t u : List ℕ) (c : ℕ) → c ≢ 63 → Unmarked t → Unmarked (c ∷ u) → Unmarked (t ++ c ∷ u)
unmarked_join [] u c d n m = m
unmarked_join (a ∷ t) u c d n m = λ x y h. by x y h (unmarked_join t u c d (unmarked_behind a t n) m)
  where
    first : (t y : List ℕ) → Unmarked (a ∷ t) → a ∷ (t ++ c ∷ u) ≡ 61 ∷ 63 ∷ y → ⊥
    first [] y n h = d (let g : c ≡ 63 = cc in g)
    first (b ∷ t) y n h =
        let e : a ≡ 61 = cc in
        let f : b ≡ 63 = cc in
        n [] t (ap (λ (k : ℕ). k ∷ b ∷ t) e ∙ ap (λ (k : ℕ). 61 ∷ k ∷ t) f)

    by : (x y : List ℕ) → a ∷ (t ++ c ∷ u) ≡ x ++ 61 ∷ 63 ∷ y → Unmarked (t ++ c ∷ u) → ⊥
    by [] y h more = first t y n h
    by (b ∷ x) y h more = more x y (let g : t ++ c ∷ u ≡ x ++ 61 ∷ 63 ∷ y = cc in g)

-- ---- pieces

abbrev ArePieces : (List ℕ → Type 0) → List FieldPiece → Type 0
ArePieces Is [] = Unit {0}
ArePieces Is (p ∷ ps) = Is p.text × ArePieces Is ps

pieces_append : (Is : List ℕ → Type 0) (ps qs : List FieldPiece) → ArePieces Is ps → ArePieces Is qs → ArePieces Is (ps ++ qs)
pieces_append Is [] qs a b = b
pieces_append Is (p ∷ ps) qs a b = (a.0, pieces_append Is ps qs a.1 b)

calm_laid : (u : List ℕ) (line : Line) (ps : List FieldPiece) → Calm u → ArePieces Calm ps → Calm (u ++ laid line ps)
unfolding laid
calm_laid u line [] k a = subst (λ (t : List ℕ). Calm t) (sym (append-nil u)) k
calm_laid u line (p ∷ ps) k a = by (is_short (line_with line p)) (calm_laid p.text (next_line line p) ps a.0 a.1)
  where
    rest : List ℕ
    rest = p.text ++ laid (next_line line p) ps

    by : (short : Bool) → Calm rest → Calm (u ++ (gap short ++ rest))
    by true l = calm_join u rest 32 refl k l
    by false l = calm_join u (10 ∷ 32 ∷ rest) 13 refl k (calm_join [] (32 ∷ rest) 10 refl calm_nothing (calm_join [] rest 32 refl calm_nothing l))

atoms_calm : (ps : List FieldPiece) → AreAtoms ps → ArePieces Calm ps
atoms_calm [] a = tt
atoms_calm (p ∷ ps) a = (calm_letters p.text a.0.0, atoms_calm ps a.1)

clean_laid : (line : Line) (ps : List FieldPiece) → ArePieces IsClean ps → IsClean (laid line ps)
unfolding laid
clean_laid line [] c = record { utf8 = IsUtf8-nil; no_zero = tt }
clean_laid line (p ∷ ps) c =
    let short = is_short (line_with line p) in
    let rest = laid (next_line line p) ps in
    clean_append (gap short) (p.text ++ rest) (clean_gap short) (clean_append p.text rest c.0 (clean_laid (next_line line p) ps c.1))

words_clean : (line : Line) (text : List ℕ) (ps : List FieldPiece) → AreWordsBehind line text ps → ArePieces IsClean ps
words_clean _ _ _ (NoWord line) = tt
words_clean _ _ _ (NextWord line piece rest text ps n a) = (word_clean line piece rest text n, words_clean (next_line line (word_piece piece)) rest ps a)

word_shown : (w : List ℕ) → is_plain_word w ≡ true → Each (is_between 32 126) w
word_shown [] e = tt
word_shown (c ∷ t) e = each (c ∷ t) (list_all_each _ (c ∷ t) e)
  where
    shown : (c : ℕ) → Rattle.message_lines.specs.Names.is_word_octet c ≡ true → is_between 32 126 c ≡ true
    shown c e = grind arith

    each : (t : List ℕ) → Each Rattle.message_lines.specs.Names.is_word_octet t → Each (is_between 32 126) t
    each [] e = tt
    each (c ∷ t) e = (shown c e.0, each t e.1)

plain_clean : (ws : List (List ℕ)) → list_all is_plain_word ws ≡ true → ArePieces IsClean (map plain_piece ws)
plain_clean [] e = tt
plain_clean (w ∷ ws) e =
    let h = and_parts (is_plain_word w) (list_all is_plain_word ws) e in
    (clean_text w (word_shown w h.0), plain_clean ws h.1)

-- ---- lists of mailboxes

-- a text that is its own raw form, and in which no word is torn
record IsQuiet (t : List ℕ) : Type 0 where
  clean : IsClean t
  calm : Calm t

both : (ps : List FieldPiece) → ArePieces IsClean ps → ArePieces Calm ps → ArePieces IsQuiet ps
both [] c k = tt
both (p ∷ ps) c k = (record { clean = c.0; calm = k.0 }, both ps c.1 k.1)

name_quiet : (line : Line) (name : List ℕ) (ps : List FieldPiece) → IsNameText line name ps → ArePieces IsQuiet ps
name_quiet line name _ (PlainName e) =
    let h = (and_parts (are_plain_words name) (nat_le (Rattle.std.specs.Prelude.length name) 997) e).0 in
    both (map plain_piece (words_of name)) (plain_clean (words_of name) h) (atoms_calm (map plain_piece (words_of name)) (plain_atoms (words_of name) h))
name_quiet line name _ (EncodedName ps e a) = both ps (words_clean line name ps a) (atoms_calm ps (words_atoms line name ps a))

-- what may stand behind an address
record IsEnd (end : List ℕ) : Type 0 where
  clean : IsClean end
  unmarked : Unmarked end
  no_question : (t : List ℕ) → Unmarked t → Unmarked (t ++ end)

unmarked_nothing : Unmarked []
unmarked_nothing = no_mark [] refl

comma_alone : Unmarked (44 ∷ [])
comma_alone = no_mark (44 ∷ []) refl

comma_no_question : ◌≢◌ {A = ℕ} 44 63
comma_no_question e = omega (arith, e)

greater_no_question : ◌≢◌ {A = ℕ} 62 63
greater_no_question e = omega (arith, e)

greater_no_equals : ◌≢◌ {A = ℕ} 62 61
greater_no_equals e = omega (arith, e)

less_no_equals : ◌≢◌ {A = ℕ} 60 61
less_no_equals e = omega (arith, e)

-- one of these signs
pub sign_clean : (c : ℕ) → is_between 32 126 c ≡ true → IsClean (c ∷ [])
sign_clean c e = clean_text (c ∷ []) (e, tt)

comma_end : (list : List Given) → IsEnd (comma_before list)
comma_end [] = record { clean = record { utf8 = IsUtf8-nil; no_zero = tt }; unmarked = unmarked_nothing; no_question = λ t n. subst (λ (u : List ℕ). Unmarked u) (sym (append-nil t)) n }
comma_end (m ∷ list) = record {
  clean = sign_clean 44 refl;
  unmarked = comma_alone;
  no_question = λ t n. unmarked_join t [] 44 comma_no_question n comma_alone;
}

bare_quiet : (end : List ℕ) (m : Given) → IsEnd end → IsQuiet (m.email ++ end)
bare_quiet end m e =
    let p = plain_email m in
    record { clean = clean_append m.email end p.clean e.clean; calm = calm_unmarked (m.email ++ end) (e.no_question m.email (no_mark m.email p.no_mark)) }

angle_quiet : (end : List ℕ) (m : Given) → IsEnd end → IsQuiet (60 ∷ (m.email ++ 62 ∷ end))
angle_quiet end m e =
    let p = plain_email m in
    let closed = unmarked_before 62 end greater_no_equals e.unmarked in
    record {
      clean = clean_append (60 ∷ []) (m.email ++ 62 ∷ end) (sign_clean 60 refl) (clean_append m.email (62 ∷ end) p.clean (clean_append (62 ∷ []) end (sign_clean 62 refl) e.clean));
      calm = calm_unmarked (60 ∷ (m.email ++ 62 ∷ end))
          (unmarked_before 60 (m.email ++ 62 ∷ end) less_no_equals (unmarked_join m.email end 62 greater_no_question (no_mark m.email p.no_mark) closed));
    }

mailbox_quiet : (line : Line) (end : List ℕ) (m : Given) (ps : List FieldPiece) → IsEnd end → IsAddressText line end m ps → ArePieces IsQuiet ps
mailbox_quiet line end m _ e (Unnamed n) = (bare_quiet end m e, tt)
mailbox_quiet line end m _ e (Named name ps n t) = pieces_append IsQuiet ps (angle_piece m.email end ∷ []) (name_quiet line name ps t) (angle_quiet end m e, tt)

list_quiet : (line : Line) (list : List Given) (ps : List FieldPiece) → AreAddressTexts line list ps → ArePieces IsQuiet ps
list_quiet _ _ _ (NoAddress line) = tt
list_quiet _ _ _ (NextAddress line m list ps qs is more) =
    pieces_append IsQuiet ps qs (mailbox_quiet line (comma_before list) m ps (comma_end list) is) (list_quiet (line_after line ps) list qs more)

are_clean : (ps : List FieldPiece) → ArePieces IsQuiet ps → ArePieces IsClean ps
are_clean [] q = tt
are_clean (p ∷ ps) q = (q.0.clean, are_clean ps q.1)

are_calm : (ps : List FieldPiece) → ArePieces IsQuiet ps → ArePieces Calm ps
are_calm [] q = tt
are_calm (p ∷ ps) q = (q.0.calm, are_calm ps q.1)

pub raw_same : (line : Line) (list : List Given) (ps : List FieldPiece) → AreAddressTexts line list ps → raw_form (laid line ps) ≡ laid line ps
raw_same line list ps t = raw_is (laid line ps) (clean_laid line ps (are_clean ps (list_quiet line list ps t)))

-- what stands before lumps
before_is : (front : List (Option (List ℕ))) (rest t : List ℕ) → AreBefore front rest t → (x : List ℕ) × (t ≡ x ++ rest)
before_is [] rest t e = ([], e)
before_is (v ∷ vs) rest t s =
    let r = before_is vs rest s.rest s.more in
    (s.unit ++ r.0, s.whole ∙ ap (λ (u : List ℕ). s.unit ++ u) r.1 ∙ sym (append_assoc s.unit r.0 rest))

pub untorn_list : (line : Line) (list : List Given) (ps : List FieldPiece) → AreAddressTexts line list ps → IsUntorn (raw_form (laid line ps))
untorn_list line list ps t = λ torn.
    let calm = calm_laid [] line ps calm_nothing (are_calm ps (list_quiet line list ps t)) in
    let at = before_is torn.front (torn.word ++ torn.rest) (raw_form (laid line ps)) torn.are in
    calm at.0 torn.word torn.rest (sym (raw_same line list ps t) ∙ at.1) torn.shape torn.special
