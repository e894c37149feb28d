-- One octet at a word by which a reader decides.
use Rattle.std.proofs.Common.{◌≡◌, ℕ, ◌+◌, ◌<◌, ◌≤◌, true, false, List, [], ◌∷◌, ◌++◌, length, map, take, drop, get_or, cond, Option, Some, None, refl, sym, ap, subst, ◌∙◌}
use Rattle.std.proofs.Common.{append_assoc, arith, inl, inr}
use Rattle.std.specs.Prelude.{◌==◌, codes}
use Rattle.std.proofs.lemmas.Bool.{eqb-true, eqb-false, eq-eqb, cond-false}
use Rattle.std.proofs.lemmas.List.{length-append, length-take-le, append-nil, take-append-drop}
use Rattle.imap_keywords.specs.declared.key.Key.{Key}
use Rattle.imap_keywords.specs.declared.key.Key.TheVariants as key
use Rattle.imap_keywords.specs.declared.key.WordPlace.{WordPlace}
use Rattle.imap_keywords.specs.declared.key.WordPlace.TheVariants as place
use Rattle.imap_keywords.specs.declared.count.Pending.TheVariants as pending
use Rattle.imap_keywords.specs.declared.phrase.Phrase.TheVariants as phrase
use Rattle.imap_automaton.specs.declared.sym.Line.TheVariants as line
use Rattle.imap_automaton.specs.declared.sym.Free.TheVariants as free
use Rattle.imap_automaton.specs.declared.sym.Item.TheVariants as item
use Rattle.imap_automaton.specs.declared.sym.Names.TheVariants as names
use Rattle.imap_automaton.specs.declared.sym.Date.TheVariants as date
use Rattle.imap_automaton.specs.declared.sym.Set.TheVariants as set
use Rattle.imap_automaton.specs.declared.sym.Str.TheVariants as str
use Rattle.imap_automaton.specs.declared.sym.Folder.TheVariants as folder
use Rattle.imap_automaton.specs.declared.sym.Sym.{Sym}
use Rattle.imap_automaton.specs.declared.sym.Sym.TheVariants as sym
use Rattle.pushdown.specs.declared.moves.Move.{Move}
use Rattle.pushdown.specs.declared.moves.Move.TheVariants as move
use Rattle.imap_keywords.specs.Counts.{pend}
use Rattle.imap_keywords.specs.Keys.{key_text, keys, is_among, in_word, goes_on, next_key, is_whole, whole_key}
use Rattle.imap_automaton.specs.WordRules.{rest_rule, spaced_rule, end_rule, behind_key, stray, word_goes, word_ends, word_rule}
use Rattle.imap_automaton.specs.Langs.{FreeLang, ItemLang, NamesLang, SetLang, IsSpaced, IsBehind, IsStray, WordSays, WordRest, Lang, AfterMove}
use Rattle.imap_keywords.specs.Keys.{Among}
use Rattle.imap_automaton.specs.StringLangs.{StrLang}
use Rattle.imap_automaton.specs.FolderLangs.{FolderLang}
pub use Rattle.pushdown.proofs.Lists.{Cut, cut}
use Rattle.pushdown.proofs.Lists.{cons_head, cons_tail, no_append}
use Rattle.imap_automaton.proofs.ItemNameEdges.{name_goes, name_comes, item_name_back, item_name_forth, item_name_empty}
use Rattle.imap_automaton.proofs.KeyNames.{key_takes}
use Rattle.imap_automaton.specs.ItemNameRules.{name_from}
use Rattle.imap_automaton.specs.declared.sym.ItemName.TheVariants as name
use Rattle.imap_automaton.proofs.Tests.{from_test, at_true, at_false, crlf_of, crlf_parts}
use Rattle.imap_automaton.proofs.DateEdges.{date_text, date_example, time_text, time_example, time_back, time_forth, time_none}
use Rattle.imap_automaton.proofs.SetEdges.{words_more_back, words_more_forth, words_more_none}
use Rattle.imap_automaton.proofs.FreeEdges.{text_back, text_forth, goes_back, goes_forth, free_empty}
use Rattle.imap_keywords.proofs.KeyLemmas.{one_key, among_keys, key_some, key_in_word, key_lower, no_bang, find_some, find_none, is_among_is, goes_to, goes_from, goes_octet}
use Rattle.imap_keywords.proofs.KeyLemmas.{whole_to, whole_from}
use Rattle.imap_types.specs.Octets.{is_text, is_word, is_atom, lower}
use Rattle.imap_types.specs.Texts.{Each, Then, crlf, IsCrlf}
use Rattle.imap_types.specs.Lines.{IsLine, IsRest}

-- ---- after a key

rest_back : (c : ℕ) (t : List ℕ) → AfterMove (rest_rule c) t → IsRest (c ∷ t)
rest_back c t h = from_test (c == 32) (move.One (sym.Line line.Text)) (cond (c == 13) (move.One (sym.Line (line.Fixed phrase.Crlf 1))) move.Fail) t (IsRest (c ∷ t))
    (λ e k. inr (t, ap (λ (n : ℕ). n ∷ t) (eqb-true c 32 e), k))
    (λ e k. from_test (c == 13) (move.One (sym.Line (line.Fixed phrase.Crlf 1))) move.Fail t (IsRest (c ∷ t)) (λ f l. inl (crlf_of c t (eqb-true c 13 f) l)) (λ f l. absurd l) k) h

rest_forth : (c : ℕ) (t : List ℕ) → IsRest (c ∷ t) → AfterMove (rest_rule c) t
rest_forth c t (inl e) =
    let k = crlf_parts c t e in
    at_false (c == 32) (move.One (sym.Line line.Text)) (cond (c == 13) (move.One (sym.Line (line.Fixed phrase.Crlf 1))) move.Fail) t (ap (λ (n : ℕ). n == 32) k.0)
    (at_true (c == 13) (move.One (sym.Line (line.Fixed phrase.Crlf 1))) move.Fail t (eq-eqb c 13 k.0) k.1)
rest_forth c t (inr w) =
    at_true (c == 32) (move.One (sym.Line line.Text)) (cond (c == 13) (move.One (sym.Line (line.Fixed phrase.Crlf 1))) move.Fail) t (eq-eqb c 32 (cons_head c 32 t w.0 w.1))
    (subst IsLine (sym (cons_tail c 32 t w.0 w.1)) w.2)

-- the end of the line
end_back : (c : ℕ) (t : List ℕ) → AfterMove (end_rule c) t → IsCrlf (c ∷ t)
end_back c t h = from_test (c == 13) (move.One (sym.Line (line.Fixed phrase.Crlf 1))) move.Fail t (IsCrlf (c ∷ t)) (λ e k. crlf_of c t (eqb-true c 13 e) k) (λ e k. absurd k) h

end_forth : (c : ℕ) (t : List ℕ) → IsCrlf (c ∷ t) → AfterMove (end_rule c) t
end_forth c t e = let k = crlf_parts c t e in at_true (c == 13) (move.One (sym.Line (line.Fixed phrase.Crlf 1))) move.Fail t (eq-eqb c 13 k.0) k.1

-- a space, and what a move reads
spaced_move_back : (m : Move Sym) (c : ℕ) (t : List ℕ) → AfterMove (spaced_rule m c) t → IsSpaced (AfterMove m) (c ∷ t)
spaced_move_back m c t h = from_test (c == 32) m move.Fail t (IsSpaced (AfterMove m) (c ∷ t)) (λ e k. (t, ap (λ (n : ℕ). n ∷ t) (eqb-true c 32 e), k)) (λ e k. absurd k) h

spaced_move_forth : (m : Move Sym) (c : ℕ) (t : List ℕ) → IsSpaced (AfterMove m) (c ∷ t) → AfterMove (spaced_rule m c) t
spaced_move_forth m c t h = at_true (c == 32) m move.Fail t (eq-eqb c 32 (cons_head c 32 t h.0 h.1)) (subst (AfterMove m) (sym (cons_tail c 32 t h.0 h.1)) h.2)

spaced_back : (s : Sym) (c : ℕ) (t : List ℕ) → AfterMove (spaced_rule (move.One s) c) t → IsSpaced (Lang s) (c ∷ t)
spaced_back s c t h = from_test (c == 32) (move.One s) move.Fail t (IsSpaced (Lang s) (c ∷ t)) (λ e k. (t, ap (λ (n : ℕ). n ∷ t) (eqb-true c 32 e), k)) (λ e k. absurd k) h

spaced_forth : (s : Sym) (c : ℕ) (t : List ℕ) → IsSpaced (Lang s) (c ∷ t) → AfterMove (spaced_rule (move.One s) c) t
spaced_forth s c t h = at_true (c == 32) (move.One s) move.Fail t (eq-eqb c 32 (cons_head c 32 t h.0 h.1)) (subst (Lang s) (sym (cons_tail c 32 t h.0 h.1)) h.2)

behind_back : (p : WordPlace) (k : Key) (c : ℕ) (t : List ℕ) → AfterMove (behind_key p k c) t → IsBehind p k (c ∷ t)
behind_back place.Tagged key.Ok c t h = rest_back c t h
behind_back place.Tagged key.No c t h = rest_back c t h
behind_back place.Tagged key.Bad c t h = rest_back c t h
behind_back place.Plain key.Ok c t h = rest_back c t h
behind_back place.Plain key.No c t h = rest_back c t h
behind_back place.Plain key.Bad c t h = rest_back c t h
behind_back place.Plain key.Preauth c t h = rest_back c t h
behind_back place.Plain key.Bye c t h = rest_back c t h
behind_back place.Plain key.Capability c t h = words_more_back c t h
behind_back place.Plain key.Enabled c t h = words_more_back c t h
behind_back place.Plain key.Flags c t h = spaced_move_back (move.Two (sym.Names names.Open) (sym.Line (line.Fixed phrase.Crlf 0))) c t h
behind_back place.Plain key.Vanished c t h = spaced_back (sym.Set set.Open) c t h
behind_back place.Plain key.List c t h = spaced_move_back (move.Two (sym.Names names.Open) (sym.Folder folder.Attributes)) c t h
behind_back place.Plain key.Status c t h = spaced_move_back (move.Two (sym.Str str.AString) (sym.Folder folder.Counts)) c t h
behind_back place.Numbered key.Exists c t h = end_back c t h
behind_back place.Numbered key.Expunge c t h = end_back c t h
behind_back place.Numbered key.Fetch c t h = spaced_back (sym.Item item.Open) c t h
behind_back place.Item key.Uid c t h = spaced_back (sym.Item (item.Number 0 0)) c t h
behind_back place.Item key.Flags c t h = spaced_back (sym.Names names.Open) c t h
behind_back place.Item key.ModSeq c t h = spaced_back (sym.Item item.LongOpen) c t h
behind_back place.Item key.InternalDate c t h = spaced_back (sym.Date date.Open) c t h
behind_back place.Item key.Size c t h = spaced_back (sym.Item (item.Long 0 0)) c t h
behind_back place.Item key.Header c t h = spaced_back (sym.Str str.NString) c t h
behind_back place.Item key.HeaderPart c t h = spaced_back (sym.Str str.NString) c t h
behind_back place.Item key.Body c t h = spaced_back (sym.Str str.NString) c t h
behind_back place.Item key.BodyPart c t h = spaced_back (sym.Str str.NString) c t h
behind_back place.Month k c t h = time_back 0 c t h
behind_back _ _ c t h = absurd h

behind_forth : (p : WordPlace) (k : Key) (c : ℕ) (t : List ℕ) → IsBehind p k (c ∷ t) → AfterMove (behind_key p k c) t
behind_forth place.Tagged key.Ok c t h = rest_forth c t h
behind_forth place.Tagged key.No c t h = rest_forth c t h
behind_forth place.Tagged key.Bad c t h = rest_forth c t h
behind_forth place.Plain key.Ok c t h = rest_forth c t h
behind_forth place.Plain key.No c t h = rest_forth c t h
behind_forth place.Plain key.Bad c t h = rest_forth c t h
behind_forth place.Plain key.Preauth c t h = rest_forth c t h
behind_forth place.Plain key.Bye c t h = rest_forth c t h
behind_forth place.Plain key.Capability c t h = words_more_forth c t h
behind_forth place.Plain key.Enabled c t h = words_more_forth c t h
behind_forth place.Plain key.Flags c t h = spaced_move_forth (move.Two (sym.Names names.Open) (sym.Line (line.Fixed phrase.Crlf 0))) c t h
behind_forth place.Plain key.Vanished c t h = spaced_forth (sym.Set set.Open) c t h
behind_forth place.Plain key.List c t h = spaced_move_forth (move.Two (sym.Names names.Open) (sym.Folder folder.Attributes)) c t h
behind_forth place.Plain key.Status c t h = spaced_move_forth (move.Two (sym.Str str.AString) (sym.Folder folder.Counts)) c t h
behind_forth place.Numbered key.Exists c t h = end_forth c t h
behind_forth place.Numbered key.Expunge c t h = end_forth c t h
behind_forth place.Numbered key.Fetch c t h = spaced_forth (sym.Item item.Open) c t h
behind_forth place.Item key.Uid c t h = spaced_forth (sym.Item (item.Number 0 0)) c t h
behind_forth place.Item key.Flags c t h = spaced_forth (sym.Names names.Open) c t h
behind_forth place.Item key.ModSeq c t h = spaced_forth (sym.Item item.LongOpen) c t h
behind_forth place.Item key.InternalDate c t h = spaced_forth (sym.Date date.Open) c t h
behind_forth place.Item key.Size c t h = spaced_forth (sym.Item (item.Long 0 0)) c t h
behind_forth place.Item key.Header c t h = spaced_forth (sym.Str str.NString) c t h
behind_forth place.Item key.HeaderPart c t h = spaced_forth (sym.Str str.NString) c t h
behind_forth place.Item key.Body c t h = spaced_forth (sym.Str str.NString) c t h
behind_forth place.Item key.BodyPart c t h = spaced_forth (sym.Str str.NString) c t h
behind_forth place.Month k c t h = time_forth 0 c t h
behind_forth _ _ c t h = absurd h

rest_none : IsRest [] → ⊥
rest_none (inl e) = cc
rest_none (inr w) = let e = w.1 in cc

spaced_none : (L : List ℕ → Type 0) → IsSpaced L [] → ⊥
spaced_none L h = let e = h.1 in cc

behind_none : (p : WordPlace) (k : Key) → IsBehind p k [] → ⊥
behind_none place.Tagged key.Ok h = rest_none h
behind_none place.Tagged key.No h = rest_none h
behind_none place.Tagged key.Bad h = rest_none h
behind_none place.Plain key.Ok h = rest_none h
behind_none place.Plain key.No h = rest_none h
behind_none place.Plain key.Bad h = rest_none h
behind_none place.Plain key.Preauth h = rest_none h
behind_none place.Plain key.Bye h = rest_none h
behind_none place.Plain key.Capability h = words_more_none h
behind_none place.Plain key.Enabled h = words_more_none h
behind_none place.Plain key.Flags h = spaced_none (Then (NamesLang names.Open) IsCrlf) h
behind_none place.Plain key.Vanished h = spaced_none (SetLang set.Open) h
behind_none place.Plain key.List h = spaced_none (Then (NamesLang names.Open) (FolderLang folder.Attributes)) h
behind_none place.Plain key.Status h = spaced_none (Then (StrLang str.AString) (FolderLang folder.Counts)) h
behind_none place.Numbered key.Exists h = let e : [] ≡ crlf = h in cc
behind_none place.Numbered key.Expunge h = let e : [] ≡ crlf = h in cc
behind_none place.Numbered key.Fetch h = spaced_none (ItemLang item.Open) h
behind_none place.Item key.Uid h = spaced_none (ItemLang (item.Number 0 0)) h
behind_none place.Item key.Flags h = spaced_none (NamesLang names.Open) h
behind_none place.Item key.ModSeq h = spaced_none (ItemLang item.LongOpen) h
behind_none place.Item key.InternalDate h = spaced_none (Lang (sym.Date date.Open)) h
behind_none place.Item key.Size h = spaced_none (ItemLang (item.Long 0 0)) h
behind_none place.Item key.Header h = spaced_none (StrLang str.NString) h
behind_none place.Item key.HeaderPart h = spaced_none (StrLang str.NString) h
behind_none place.Item key.Body h = spaced_none (StrLang str.NString) h
behind_none place.Item key.BodyPart h = spaced_none (StrLang str.NString) h
behind_none place.Month k h = time_none h
behind_none _ _ h = h

-- ---- at a word that is no key

stray_back : (p : WordPlace) (k : Key) (at c : ℕ) (t : List ℕ) → AfterMove (stray p k at c) t → IsStray p (take at (key_text k)) (c ∷ t)
stray_back place.Plain k at c t h = text_back pending.Nothing c t h
stray_back place.Numbered k at c t h = text_back pending.Nothing c t h
stray_back place.Tagged k at c t h = absurd h
stray_back place.Item k at c t h = item_name_back (name_from name.Plain (take at (key_text k))) c t h
stray_back place.Month k at c t h = absurd h

stray_forth : (p : WordPlace) (k : Key) (at c : ℕ) (t : List ℕ) → IsStray p (take at (key_text k)) (c ∷ t) → AfterMove (stray p k at c) t
stray_forth place.Plain k at c t h = text_forth pending.Nothing c t h
stray_forth place.Numbered k at c t h = text_forth pending.Nothing c t h
stray_forth place.Tagged k at c t h = absurd h
stray_forth place.Item k at c t h = item_name_forth (name_from name.Plain (take at (key_text k))) c t h
stray_forth place.Month k at c t h = absurd h

-- where no count stands, an octet other than `{` begins none
pub pend_none : (c : ℕ) → (c == 123) ≡ false → pend pending.Nothing c ≡ pending.Nothing
pend_none c e = cond-false (c == 123) (pending.Open 0 0) pending.Nothing e

word_is : (c : ℕ) → is_word c ≡ true → is_text c ≡ true
word_is c e = grind arith

atom_is : (c : ℕ) → is_atom c ≡ true → is_text c ≡ true
atom_is c e = grind arith

month_is : (c : ℕ) → in_word place.Month c ≡ true → is_text c ≡ true
month_is c e = grind arith

-- an octet that may stand in a word of a place may stand in text
pub word_text : (p : WordPlace) (c : ℕ) → in_word p c ≡ true → is_text c ≡ true
word_text place.Tagged c e = word_is c e
word_text place.Plain c e = word_is c e
word_text place.Numbered c e = word_is c e
word_text place.Item c e = atom_is c e
word_text place.Month c e = month_is c e

-- what follows an octet of text other than `{` in text with literals is text with literals
pub text_goes : (c : ℕ) (t : List ℕ) → is_text c ≡ true → (c == 123) ≡ false → FreeLang (free.Text pending.Nothing) (c ∷ t) → FreeLang (free.Text pending.Nothing) t
text_goes c t e f h = subst (λ s. FreeLang (free.Text s) t) (pend_none c f) (goes_forth pending.Nothing c t e h)

-- an octet of text other than `{` and text with literals are text with literals
pub text_comes : (c : ℕ) (t : List ℕ) → is_text c ≡ true → (c == 123) ≡ false → FreeLang (free.Text pending.Nothing) t → FreeLang (free.Text pending.Nothing) (c ∷ t)
text_comes c t e f h = goes_back pending.Nothing c t e (subst (λ s. FreeLang (free.Text s) t) (sym (pend_none c f)) h)

stray_goes : (p : WordPlace) (begun : List ℕ) (c : ℕ) (t : List ℕ) → in_word p c ≡ true → (c == 123) ≡ false → IsStray p begun (c ∷ t) → IsStray p (begun ++ lower c ∷ []) t
stray_goes place.Plain begun c t e f h = text_goes c t (word_text place.Plain c e) f h
stray_goes place.Numbered begun c t e f h = text_goes c t (word_text place.Numbered c e) f h
stray_goes place.Tagged begun c t e f h = h
stray_goes place.Item begun c t e f h = name_goes begun c t e h
stray_goes place.Month begun c t e f h = h

-- the octet goes on with a key
abbrev GoesOn : List ℕ → ℕ → Type 0
GoesOn begun c = (x : Key) × (y : List ℕ) × (begun ++ lower c ∷ y ≡ key_text x)

stray_comes : (p : WordPlace) (begun : List ℕ) (c : ℕ) (t : List ℕ) → in_word p c ≡ true → (c == 123) ≡ false → GoesOn begun c → IsStray p (begun ++ lower c ∷ []) t
    → IsStray p begun (c ∷ t)
stray_comes place.Plain begun c t e f g h = text_comes c t (word_text place.Plain c e) f h
stray_comes place.Numbered begun c t e f g h = text_comes c t (word_text place.Numbered c e) f h
stray_comes place.Tagged begun c t e f g h = h
stray_comes place.Item begun c t e f g h = name_comes begun c t (key_takes begun c g.0 g.1 g.2) h
stray_comes place.Month begun c t e f g h = h

-- ---- the longest run of a word

-- the octet 0 may stand in no word
pub no_word_zero : (p : WordPlace) → in_word p 0 ≡ false
no_word_zero place.Tagged = refl
no_word_zero place.Plain = refl
no_word_zero place.Numbered = refl
no_word_zero place.Item = refl
no_word_zero place.Month = refl

-- ---- an octet of the word

says_goes : (p : WordPlace) (begun : List ℕ) (c : ℕ) (w tail t : List ℕ) → in_word p c ≡ true → (c == 123) ≡ false → WordSays p begun (begun ++ map lower (c ∷ w)) tail (c ∷ t)
    → WordSays p (begun ++ lower c ∷ []) ((begun ++ lower c ∷ []) ++ map lower w) tail t
says_goes p begun c w tail t e f (inl k) = inl (k.0, k.1, append_assoc begun (lower c ∷ []) (map lower w) ∙ k.2, k.3)
says_goes p begun c w tail t e f (inr s) = inr (λ k m q. s.0 k m (sym (append_assoc begun (lower c ∷ []) (map lower w)) ∙ q), stray_goes p begun c t e f s.1)

says_comes : (p : WordPlace) (begun : List ℕ) (c : ℕ) (w tail t : List ℕ) → in_word p c ≡ true → (c == 123) ≡ false → GoesOn begun c
    → WordSays p (begun ++ lower c ∷ []) ((begun ++ lower c ∷ []) ++ map lower w) tail t → WordSays p begun (begun ++ map lower (c ∷ w)) tail (c ∷ t)
says_comes p begun c w tail t e f g (inl k) = inl (k.0, k.1, sym (append_assoc begun (lower c ∷ []) (map lower w)) ∙ k.2, k.3)
says_comes p begun c w tail t e f g (inr s) = inr (λ k m q. s.0 k m (append_assoc begun (lower c ∷ []) (map lower w) ∙ q), stray_comes p begun c t e f g s.1)

-- the word's text is taken from the text of its front
goes_forth_at : (p : WordPlace) (k : Key) (at c : ℕ) (t w tail : List ℕ) (o : Option Key) → next_key p k at (lower c) ≡ o → at ≤ length (key_text k) → in_word p c ≡ true
    → t ≡ w ++ tail → Each (in_word p) w → in_word p (get_or tail 0 0) ≡ false → WordSays p (take at (key_text k)) (take at (key_text k) ++ map lower (c ∷ w)) tail (c ∷ t)
    → AfterMove (word_goes p k at c o) t
goes_forth_at p k at c t w tail (Some x) e le i whole each longest says =
    let f = find_some (goes_on k at (lower c)) (k ∷ keys p) x e in
    let g = goes_to k x at (lower c) f.0 in
    let s = says_goes p (take at (key_text k)) c w tail t i (goes_octet k x at c f.0) says in
    let n : length (take (at + 1) (key_text x)) ≡ at + 1 = length-take-le (at + 1) (key_text x) g.1 in
    record {
      word = w;
      tail = tail;
      whole = whole;
      each = each;
      some = omega (arith, n);
      longest = longest;
      says = subst (λ (b : List ℕ). WordSays p b (b ++ map lower w) tail t) (sym g.0) s;
    }
goes_forth_at p k at c t w tail None e le i whole each longest (inl x) =
    absurd (find_none (goes_on k at (lower c)) (k ∷ keys p) x.0 e (inr x.1) (goes_from k x.0 at (lower c) (map lower w) le x.2))
goes_forth_at p k at c t w tail None e le i whole each longest (inr s) = stray_forth p k at c t s.1

goes_whole : (k x : Key) (at c : ℕ) → take (at + 1) (key_text x) ≡ take at (key_text k) ++ c ∷ [] → take at (key_text k) ++ c ∷ drop (at + 1) (key_text x) ≡ key_text x
goes_whole k x at c e = sym (append_assoc (take at (key_text k)) (c ∷ []) (drop (at + 1) (key_text x))) ∙ ap (λ (u : List ℕ). u ++ drop (at + 1) (key_text x)) (sym e)
    ∙ take-append-drop (at + 1) (key_text x)

goes_back_at : (p : WordPlace) (k : Key) (at c : ℕ) (t : List ℕ) (o : Option Key) → next_key p k at (lower c) ≡ o → at ≤ length (key_text k) → in_word p c ≡ true
    → AfterMove (word_goes p k at c o) t → WordRest p (take at (key_text k)) (c ∷ t)
goes_back_at p k at c t (Some x) e le i h =
    let f = find_some (goes_on k at (lower c)) (k ∷ keys p) x e in
    let g = goes_to k x at (lower c) f.0 in
    record {
      word = c ∷ h.word;
      tail = h.tail;
      whole = ap (λ (u : List ℕ). c ∷ u) h.whole;
      each = (i, h.each);
      some = omega arith;
      longest = h.longest;
      says = says_comes p (take at (key_text k)) c h.word h.tail t i (goes_octet k x at c f.0) (x, drop (at + 1) (key_text x), goes_whole k x at (lower c) g.0)
          (subst (λ (b : List ℕ). WordSays p b (b ++ map lower h.word) h.tail t) g.0 h.says);
    }
goes_back_at p k at c t None e le i h =
    let r = cut (in_word p) t (no_word_zero p) in
    record {
      word = c ∷ r.front;
      tail = r.back;
      whole = ap (λ (u : List ℕ). c ∷ u) r.whole;
      each = (i, r.each);
      some = omega arith;
      longest = r.longest;
      says = inr (λ x m q. find_none (goes_on k at (lower c)) (k ∷ keys p) x e (inr m) (goes_from k x at (lower c) (map lower r.front) le q), stray_back p k at c t h);
    }

-- ---- an octet after the word

ends_forth : (p : WordPlace) (k : Key) (at c : ℕ) (t : List ℕ) (o : Option Key) → whole_key p k at ≡ o → at ≤ length (key_text k) → is_among k (keys p) ≡ true
    → WordSays p (take at (key_text k)) (take at (key_text k) ++ []) (c ∷ t) (c ∷ t) → AfterMove (word_ends p k at c o) t
ends_forth p k at c t (Some x) e le m (inl y) =
    let f = find_some (is_whole k at) (k ∷ keys p) x e in
    let same : y.0 ≡ x = one_key y.0 x (sym y.2 ∙ append-nil (take at (key_text k)) ∙ whole_to k x at f.0) in
    behind_forth p x c t (subst (λ (q : Key). IsBehind p q (c ∷ t)) same y.3)
ends_forth p k at c t (Some x) e le m (inr s) =
    let f = find_some (is_whole k at) (k ∷ keys p) x e in
    absurd (s.0 x (among_keys p k x m f.1) (append-nil (take at (key_text k)) ∙ whole_to k x at f.0))
ends_forth p k at c t None e le m (inl y) = absurd (find_none (is_whole k at) (k ∷ keys p) y.0 e (inr y.1) (whole_from k y.0 at le (sym (append-nil (take at (key_text k))) ∙ y.2)))
ends_forth p k at c t None e le m (inr s) = stray_forth p k at c t s.1

ends_back : (p : WordPlace) (k : Key) (at c : ℕ) (t : List ℕ) (o : Option Key) → whole_key p k at ≡ o → at ≤ length (key_text k) → is_among k (keys p) ≡ true
    → AfterMove (word_ends p k at c o) t → WordSays p (take at (key_text k)) (take at (key_text k) ++ []) (c ∷ t) (c ∷ t)
ends_back p k at c t (Some x) e le m h =
    let f = find_some (is_whole k at) (k ∷ keys p) x e in
    inl (x, among_keys p k x m f.1, append-nil (take at (key_text k)) ∙ whole_to k x at f.0, behind_back p x c t h)
ends_back p k at c t None e le m h =
    inr (λ x n q. find_none (is_whole k at) (k ∷ keys p) x e (inr n) (whole_from k x at le (sym (append-nil (take at (key_text k))) ∙ q)), stray_back p k at c t h)

-- ---- the group

-- a word begun as a key of its place reads an octet and any text that its rule still reads after it
pub word_back : (p : WordPlace) (k : Key) (at c : ℕ) (t : List ℕ) → at ≤ length (key_text k) → is_among k (keys p) ≡ true → AfterMove (word_rule p k at c) t
    → WordRest p (take at (key_text k)) (c ∷ t)
word_back p k at c t le m h = from_test (in_word p c) (word_goes p k at c (next_key p k at (lower c))) (cond (at == 0) move.Fail (word_ends p k at c (whole_key p k at))) t
    (WordRest p (take at (key_text k)) (c ∷ t))
    (λ i g. goes_back_at p k at c t (next_key p k at (lower c)) refl le i g)
    (λ i g. from_test (at == 0) move.Fail (word_ends p k at c (whole_key p k at)) t (WordRest p (take at (key_text k)) (c ∷ t))
    (λ z l. absurd l)
    (λ z l. record {
      word = [];
      tail = c ∷ t;
      whole = refl;
      each = tt;
      some = (let n : length (take at (key_text k)) ≡ at = length-take-le at (key_text k) le in let pos : at ≡ 0 → ⊥ = eqb-false at 0 z in omega (arith, n, pos));
      longest = i;
      says = ends_back p k at c t (whole_key p k at) refl le m l;
    }) g) h

word_at : (p : WordPlace) (k : Key) (at c : ℕ) (t w tail : List ℕ) → at ≤ length (key_text k) → is_among k (keys p) ≡ true → c ∷ t ≡ w ++ tail → Each (in_word p) w
    → 0 < length (take at (key_text k)) + length w → in_word p (get_or tail 0 0) ≡ false → WordSays p (take at (key_text k)) (take at (key_text k) ++ map lower w) tail (c ∷ t)
    → AfterMove (word_rule p k at c) t
word_at p k at c t [] tail le m e each some longest says =
    let out : in_word p c ≡ false = ap (λ (u : List ℕ). in_word p (get_or u 0 0)) e ∙ longest in
    let n : length (take at (key_text k)) ≡ at = length-take-le at (key_text k) le in
    at_false (in_word p c) (word_goes p k at c (next_key p k at (lower c))) (cond (at == 0) move.Fail (word_ends p k at c (whole_key p k at))) t out
    (at_false (at == 0) move.Fail (word_ends p k at c (whole_key p k at)) t (not_zero at (omega (arith, some, n)))
    (ends_forth p k at c t (whole_key p k at) refl le m (subst (λ (u : List ℕ). WordSays p (take at (key_text k)) (take at (key_text k) ++ []) u (c ∷ t)) (sym e) says)))
  where
    not_zero : (at : ℕ) → 0 < at → (at == 0) ≡ false
    not_zero at lt = grind arith
word_at p k at c t (d ∷ w) tail le m e each some longest says =
    let same : d ≡ c = sym (cons_head c d t (w ++ tail) e) in
    let i : in_word p c ≡ true = ap (in_word p) (sym same) ∙ each.0 in
    at_true (in_word p c) (word_goes p k at c (next_key p k at (lower c))) (cond (at == 0) move.Fail (word_ends p k at c (whole_key p k at))) t i
    (goes_forth_at p k at c t w tail (next_key p k at (lower c)) refl le i (cons_tail c d t (w ++ tail) e) each.1 longest
    (subst (λ (q : ℕ). WordSays p (take at (key_text k)) (take at (key_text k) ++ map lower (q ∷ w)) tail (c ∷ t)) same says))

-- where a word begun as a key of its place reads an octet and a text, its rule still reads the text after the octet
pub word_forth : (p : WordPlace) (k : Key) (at c : ℕ) (t : List ℕ) → at ≤ length (key_text k) → is_among k (keys p) ≡ true → WordRest p (take at (key_text k)) (c ∷ t)
    → AfterMove (word_rule p k at c) t
word_forth p k at c t le m h = word_at p k at c t h.word h.tail le m h.whole h.each h.some h.longest h.says

-- the rest of a word and what follows it aren't the empty text
pub word_empty : (p : WordPlace) (begun : List ℕ) → WordRest p begun [] → ⊥
word_empty p begun h =
    let n = no_append h.word h.tail h.whole in
    by h.says n.1
  where
    stray_none : (p : WordPlace) → IsStray p begun [] → ⊥
    stray_none place.Plain s = free_empty (free.Text pending.Nothing) refl s
    stray_none place.Numbered s = free_empty (free.Text pending.Nothing) refl s
    stray_none place.Tagged s = s
    stray_none place.Item s = item_name_empty (name_from name.Plain begun) s
    stray_none place.Month s = s

    by : WordSays p begun (begun ++ map lower h.word) h.tail [] → h.tail ≡ [] → ⊥
    by (inl k) e = behind_none p k.0 (subst (IsBehind p k.0) e k.3)
    by (inr s) e = stray_none p s.1

-- ---- an example of each

key_example : (p : WordPlace) (k : Key) (at : ℕ) (tail : List ℕ) → at ≤ length (key_text k) → Among k (keys p) → in_word p (get_or tail 0 0) ≡ false → IsBehind p k tail
    → WordRest p (take at (key_text k)) (drop at (key_text k) ++ tail)
key_example p k at tail le m out b = record {
  word = drop at (key_text k);
  tail = tail;
  whole = refl;
  each = key_in_word p k at;
  some = (let n = length-append (take at (key_text k)) (drop at (key_text k)) in let l = ap length (take-append-drop at (key_text k)) in let s = key_some k in
      omega (arith, n, l, s));
  longest = out;
  says = inl (k, m, ap (λ (u : List ℕ). take at (key_text k) ++ u) (key_lower k at) ∙ take-append-drop at (key_text k), b);
}

stray_example : (p : WordPlace) (k : Key) (at : ℕ) → in_word p 33 ≡ true → in_word p 13 ≡ false → IsStray p (take at (key_text k)) (33 ∷ crlf)
    → WordRest p (take at (key_text k)) (33 ∷ crlf)
stray_example p k at i o s = record {
  word = 33 ∷ [];
  tail = crlf;
  whole = refl;
  each = (i, tt);
  some = omega arith;
  longest = o;
  says = inr (λ x m q. no_bang x (take at (key_text k)) [] q, s);
}

bang_line : FreeLang (free.Text pending.Nothing) (33 ∷ crlf)
bang_line = (0, record { text = 33 ∷ []; whole = refl; text_is = (refl, tt); no_count = tt })

nil_example : (k : Key) (at : ℕ) → at ≤ length (key_text k) → is_among k (keys place.Item) ≡ true → IsBehind place.Item k (32 ∷ codes "nil")
    → WordRest place.Item (take at (key_text k)) (drop at (key_text k) ++ 32 ∷ codes "nil")
nil_example k at le m b = key_example place.Item k at (32 ∷ codes "nil") le (is_among_is k (keys place.Item) m) refl b

-- a word begun as a key of its place reads some text
pub word_example : (p : WordPlace) (k : Key) (at : ℕ) → at ≤ length (key_text k) → is_among k (keys p) ≡ true → (t : List ℕ) × WordRest p (take at (key_text k)) t
word_example place.Plain k at le m = (33 ∷ crlf, stray_example place.Plain k at refl refl bang_line)
word_example place.Numbered k at le m = (33 ∷ crlf, stray_example place.Numbered k at refl refl bang_line)
word_example place.Tagged key.Ok at le m = (drop at (codes "ok") ++ crlf, key_example place.Tagged key.Ok at crlf le (is_among_is key.Ok (keys place.Tagged) m) refl (inl refl))
word_example place.Tagged key.No at le m = (drop at (codes "no") ++ crlf, key_example place.Tagged key.No at crlf le (is_among_is key.No (keys place.Tagged) m) refl (inl refl))
word_example place.Tagged key.Bad at le m = (drop at (codes "bad") ++ crlf, key_example place.Tagged key.Bad at crlf le (is_among_is key.Bad (keys place.Tagged) m) refl (inl refl))
word_example place.Tagged _ at le m = absurd cc
word_example place.Item key.Uid at le m = (
  drop at (codes "uid") ++ 32 ∷ 49 ∷ [],
  key_example place.Item key.Uid at (32 ∷ 49 ∷ []) le (is_among_is key.Uid (keys place.Item) m) refl
      (49 ∷ [], refl, record { each = (refl, tt); some = omega arith; few = omega arith; most = omega arith; not_zero = omega arith }),
)
word_example place.Item key.Flags at le m = (
  drop at (codes "flags") ++ 32 ∷ 40 ∷ 41 ∷ [],
  key_example place.Item key.Flags at (32 ∷ 40 ∷ 41 ∷ []) le (is_among_is key.Flags (keys place.Item) m) refl (40 ∷ 41 ∷ [], refl, ([], (tt, refl))),
)
word_example place.Item key.ModSeq at le m = (
  drop at (codes "modseq") ++ 32 ∷ codes "(1)",
  key_example place.Item key.ModSeq at (32 ∷ codes "(1)") le (is_among_is key.ModSeq (keys place.Item) m) refl
      (codes "(1)", refl, (49 ∷ [], refl, record { each = (refl, tt); some = omega arith; few = omega arith; most = omega arith })),
)
word_example place.Item key.Size at le m = (
  drop at (codes "rfc822.size") ++ 32 ∷ 49 ∷ [],
  key_example place.Item key.Size at (32 ∷ 49 ∷ []) le (is_among_is key.Size (keys place.Item) m) refl
      (49 ∷ [], refl, record { each = (refl, tt); some = omega arith; few = omega arith; most = omega arith }),
)
word_example place.Item key.InternalDate at le m = (
  drop at (codes "internaldate") ++ 32 ∷ date_text,
  key_example place.Item key.InternalDate at (32 ∷ date_text) le (is_among_is key.InternalDate (keys place.Item) m) refl (date_text, refl, date_example),
)
word_example place.Item key.Header at le m = (drop at (codes "body[header]") ++ 32 ∷ codes "nil", nil_example key.Header at le m (codes "nil", refl, ([], inl (refl, refl))))
word_example place.Item key.HeaderPart at le m = (
  drop at (codes "body[header]<0>") ++ 32 ∷ codes "nil",
  nil_example key.HeaderPart at le m (codes "nil", refl, ([], inl (refl, refl))),
)
word_example place.Item key.Body at le m = (drop at (codes "body[]") ++ 32 ∷ codes "nil", nil_example key.Body at le m (codes "nil", refl, ([], inl (refl, refl))))
word_example place.Item key.BodyPart at le m = (drop at (codes "body[]<0>") ++ 32 ∷ codes "nil", nil_example key.BodyPart at le m (codes "nil", refl, ([], inl (refl, refl))))
word_example place.Item _ at le m = absurd cc
word_example place.Month k at le m = (drop at (key_text k) ++ time_text, key_example place.Month k at time_text le (is_among_is k (keys place.Month) m) refl time_example)
