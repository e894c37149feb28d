-- One octet at a LIST or a STATUS.
use Rattle.std.proofs.Common.{◌≡◌, ℕ, Bool, true, false, ◌||◌, List, [], ◌∷◌, ◌++◌, map, cond, Option, Some, None, refl, sym, ap, subst, ◌∙◌, append_assoc, arith, inl, inr}
use Rattle.std.specs.Prelude.{◌==◌, codes}
use Rattle.std.proofs.lemmas.Bool.{eqb-true, eq-eqb}
use Rattle.imap_keywords.specs.declared.phrase.Phrase.TheVariants as phrase
use Rattle.imap_automaton.specs.declared.sym.Line.TheVariants as line
use Rattle.imap_automaton.specs.declared.sym.Item.TheVariants as item
use Rattle.imap_automaton.specs.declared.sym.Str.TheVariants as str
use Rattle.imap_automaton.specs.declared.sym.Value.TheVariants as value
use Rattle.imap_automaton.specs.declared.sym.Folder.{Folder}
use Rattle.imap_automaton.specs.declared.sym.Folder.TheVariants as folder
use Rattle.imap_automaton.specs.declared.sym.Sym.TheVariants as sym
use Rattle.pushdown.specs.declared.moves.Move.TheVariants as move
use Rattle.imap_automaton.specs.FolderRules.{octet_rule, folder_rule}
use Rattle.imap_automaton.specs.Flow.{stops}
use Rattle.imap_automaton.specs.Rests.{LongRest, IsSpaced}
use Rattle.imap_automaton.proofs.Rests.{long_from, long_to}
use Rattle.imap_automaton.specs.FolderLangs.{AnyDelimiter, DelimiterRest, DelimiterPair, NameLine, DelimiterLine, AnyCounts, MoreCounts, IsStatusWord, WordCount, CountsLine}
use Rattle.imap_automaton.specs.FolderLangs.{FolderLang}
use Rattle.imap_automaton.specs.Langs.{AfterMove}
use Rattle.pushdown.proofs.Lists.{cons_head, cons_tail}
use Rattle.imap_automaton.proofs.Tests.{from_test, at_true, at_false, is_true_at, crlf_of, crlf_parts, mid}
use Rattle.imap_automaton.proofs.StringEdges.{special_text, no_special, from_parts, escaped_pair, escaped_self, flat_some}
use Rattle.imap_types.specs.Octets.{is_text, is_status_word, lower}
use Rattle.imap_types.specs.Texts.{Each, Then, crlf}
use Rattle.imap_types.specs.Numbers.{value_from}
use Rattle.imap_types.specs.Strings.{escaped}
use Rattle.imap_types.specs.Values.{IsFlat}
use Rattle.imap_types.specs.Folders.{IsDelimiter, IsListEnd, IsCount, IsMoreCounts, IsCounts}

-- ---- one octet, and what follows it

spaced_to : (L : List ℕ → Type 0) (c : ℕ) (t : List ℕ) → (c == 32) ≡ true → L t → IsSpaced L (c ∷ t)
spaced_to L c t e h = (t, ap (λ (n : ℕ). n ∷ t) (eqb-true c 32 e), h)

spaced_is : (L : List ℕ → Type 0) (c : ℕ) (t : List ℕ) → IsSpaced L (c ∷ t) → ((c == 32) ≡ true) × L t
spaced_is L c t h = (eq-eqb c 32 (cons_head c 32 t h.0 h.1), subst L (sym (cons_tail c 32 t h.0 h.1)) h.2)

-- ---- LIST

attributes_back : (c : ℕ) (t : List ℕ) → AfterMove (folder_rule folder.Attributes c) t → DelimiterLine (c ∷ t)
attributes_back c t h = from_test (c == 32) (move.Two (sym.Folder folder.Delimiter) (sym.Folder folder.Name)) move.Fail t (DelimiterLine (c ∷ t))
    (λ e k. spaced_to (Then AnyDelimiter NameLine) c t e k) (λ e k. absurd k) h

attributes_forth : (c : ℕ) (t : List ℕ) → DelimiterLine (c ∷ t) → AfterMove (folder_rule folder.Attributes c) t
attributes_forth c t h = let k = spaced_is (Then AnyDelimiter NameLine) c t h in
    at_true (c == 32) (move.Two (sym.Folder folder.Delimiter) (sym.Folder folder.Name)) move.Fail t k.0 k.1

-- the quoted text of one octet
quoted_one : (c : ℕ) (t : List ℕ) → (c == 34) ≡ true → DelimiterRest t → AnyDelimiter (c ∷ t)
quoted_one c t e h = (Some h.0, ((h.1, tt), ap (λ (n : ℕ). n ∷ t) (eqb-true c 34 e) ∙ ap (λ (u : List ℕ). 34 ∷ u) h.2))

delimiter_back : (c : ℕ) (t : List ℕ) → AfterMove (folder_rule folder.Delimiter c) t → AnyDelimiter (c ∷ t)
delimiter_back c t h = from_test (c == 34) (move.One (sym.Folder folder.DelimiterOctet)) (cond (lower c == 110) (move.One (sym.Line (line.Folded phrase.Nil 1))) move.Fail) t
    (AnyDelimiter (c ∷ t))
    (λ e k. quoted_one c t e k)
    (λ e k. from_test (lower c == 110) (move.One (sym.Line (line.Folded phrase.Nil 1))) move.Fail t (AnyDelimiter (c ∷ t))
    (λ f l. (None, ap (λ (n : ℕ). n ∷ map lower t) (eqb-true (lower c) 110 f) ∙ ap (λ (u : List ℕ). 110 ∷ u) l))
    (λ f l. absurd l) k) h

n_no_quote : (c : ℕ) → lower c ≡ 110 → (c == 34) ≡ false
n_no_quote c e = grind arith

delimiter_forth : (c : ℕ) (t : List ℕ) → AnyDelimiter (c ∷ t) → AfterMove (folder_rule folder.Delimiter c) t
delimiter_forth c t h = by h.0 h.1
  where
    by : (d : Option ℕ) → IsDelimiter d (c ∷ t) → AfterMove (folder_rule folder.Delimiter c) t
    by None n =
        let e : lower c ≡ 110 = cons_head (lower c) 110 (map lower t) (codes "il") n in
        at_false (c == 34) (move.One (sym.Folder folder.DelimiterOctet)) (cond (lower c == 110) (move.One (sym.Line (line.Folded phrase.Nil 1))) move.Fail) t (n_no_quote c e)
        (at_true (lower c == 110) (move.One (sym.Line (line.Folded phrase.Nil 1))) move.Fail t (eq-eqb (lower c) 110 e) (cons_tail (lower c) 110 (map lower t) (codes "il") n))
    by (Some d) q =
        let rest : List ℕ = escaped (d ∷ []) ++ 34 ∷ [] in
        at_true (c == 34) (move.One (sym.Folder folder.DelimiterOctet)) (cond (lower c == 110) (move.One (sym.Line (line.Folded phrase.Nil 1))) move.Fail) t
        (eq-eqb c 34 (cons_head c 34 t rest q.1))
        (d, q.0.0, cons_tail c 34 t rest q.1)

octet_back : (c : ℕ) (t : List ℕ) → AfterMove (folder_rule folder.DelimiterOctet c) t → DelimiterRest (c ∷ t)
octet_back c t h = from_test (c == 34) move.Fail (cond (c == 92) (move.One (sym.Folder folder.DelimiterEscaped))
    (cond (is_text c) (move.One (sym.Line (line.Fixed phrase.Quote 0))) move.Fail)) t (DelimiterRest (c ∷ t))
    (λ e k. absurd k)
    (λ e k. from_test (c == 92) (move.One (sym.Folder folder.DelimiterEscaped)) (cond (is_text c) (move.One (sym.Line (line.Fixed phrase.Quote 0))) move.Fail) t
    (DelimiterRest (c ∷ t))
    (λ f l. (l.0, special_text l.0 l.1, ap (λ (n : ℕ). n ∷ t) (eqb-true c 92 f) ∙ ap (λ (u : List ℕ). 92 ∷ u) l.2 ∙ sym (escaped_pair l.0 [] l.1)))
    (λ f l. from_test (is_text c) (move.One (sym.Line (line.Fixed phrase.Quote 0))) move.Fail t (DelimiterRest (c ∷ t))
    (λ g m. (c, g, ap (λ (u : List ℕ). c ∷ u) m ∙ sym (escaped_self c [] (from_parts c e f))))
    (λ g m. absurd m) l) k) h

octet_at : (d c : ℕ) (t : List ℕ) (b : Bool) → (d == 34 || d == 92) ≡ b → is_text d ≡ true → c ∷ t ≡ escaped (d ∷ []) ++ 34 ∷ [] → AfterMove (folder_rule folder.DelimiterOctet c) t
octet_at d c t true f is e =
    let g : c ∷ t ≡ 92 ∷ d ∷ 34 ∷ [] = e ∙ escaped_pair d [] f in
    let slash : c ≡ 92 = cons_head c 92 t (d ∷ 34 ∷ []) g in
    at_false (c == 34) move.Fail (cond (c == 92) (move.One (sym.Folder folder.DelimiterEscaped)) (cond (is_text c) (move.One (sym.Line (line.Fixed phrase.Quote 0))) move.Fail)) t
    (ap (λ (n : ℕ). n == 34) slash)
    (at_true (c == 92) (move.One (sym.Folder folder.DelimiterEscaped)) (cond (is_text c) (move.One (sym.Line (line.Fixed phrase.Quote 0))) move.Fail) t (eq-eqb c 92 slash)
    (d, f, cons_tail c 92 t (d ∷ 34 ∷ []) g))
octet_at d c t false f is e =
    let g : c ∷ t ≡ d ∷ 34 ∷ [] = e ∙ escaped_self d [] f in
    let same : c ≡ d = cons_head c d t (34 ∷ []) g in
    let apart = no_special d f in
    at_false (c == 34) move.Fail (cond (c == 92) (move.One (sym.Folder folder.DelimiterEscaped)) (cond (is_text c) (move.One (sym.Line (line.Fixed phrase.Quote 0))) move.Fail)) t
    (ap (λ (n : ℕ). n == 34) same ∙ apart.0)
    (at_false (c == 92) (move.One (sym.Folder folder.DelimiterEscaped)) (cond (is_text c) (move.One (sym.Line (line.Fixed phrase.Quote 0))) move.Fail) t
    (ap (λ (n : ℕ). n == 92) same ∙ apart.1)
    (at_true (is_text c) (move.One (sym.Line (line.Fixed phrase.Quote 0))) move.Fail t (is_true_at is_text c d same is) (cons_tail c d t (34 ∷ []) g)))

octet_forth : (c : ℕ) (t : List ℕ) → DelimiterRest (c ∷ t) → AfterMove (folder_rule folder.DelimiterOctet c) t
octet_forth c t h = octet_at h.0 c t (h.0 == 34 || h.0 == 92) refl h.1 h.2

pair_back : (c : ℕ) (t : List ℕ) → AfterMove (folder_rule folder.DelimiterEscaped c) t → DelimiterPair (c ∷ t)
pair_back c t h = from_test (c == 34 || c == 92) (move.One (sym.Line (line.Fixed phrase.Quote 0))) move.Fail t (DelimiterPair (c ∷ t)) (λ e k. (c, e, ap (λ (u : List ℕ). c ∷ u) k))
    (λ e k. absurd k) h

pair_forth : (c : ℕ) (t : List ℕ) → DelimiterPair (c ∷ t) → AfterMove (folder_rule folder.DelimiterEscaped c) t
pair_forth c t h =
    at_true (c == 34 || c == 92) (move.One (sym.Line (line.Fixed phrase.Quote 0))) move.Fail t (ap (λ (n : ℕ). n == 34 || n == 92) (cons_head c h.0 t (34 ∷ []) h.2) ∙ h.1)
    (cons_tail c h.0 t (34 ∷ []) h.2)

name_back : (c : ℕ) (t : List ℕ) → AfterMove (folder_rule folder.Name c) t → NameLine (c ∷ t)
name_back c t h = from_test (c == 32) (move.Two (sym.Str str.AString) (sym.Folder folder.ListEnd)) move.Fail t (NameLine (c ∷ t)) (λ e k. spaced_to (Then IsFlat IsListEnd) c t e k)
    (λ e k. absurd k) h

name_forth : (c : ℕ) (t : List ℕ) → NameLine (c ∷ t) → AfterMove (folder_rule folder.Name c) t
name_forth c t h = let k = spaced_is (Then IsFlat IsListEnd) c t h in at_true (c == 32) (move.Two (sym.Str str.AString) (sym.Folder folder.ListEnd)) move.Fail t k.0 k.1

end_back : (c : ℕ) (t : List ℕ) → AfterMove (folder_rule folder.ListEnd c) t → IsListEnd (c ∷ t)
end_back c t h = from_test (c == 32) (move.Two (sym.Value value.Start) (sym.Line (line.Fixed phrase.Crlf 0)))
    (cond (c == 13) (move.One (sym.Line (line.Fixed phrase.Crlf 1))) move.Fail) t (IsListEnd (c ∷ t))
    (λ e k. inr (k.front, ap (λ (n : ℕ). n ∷ t) (eqb-true c 32 e) ∙ ap (λ (u : List ℕ). 32 ∷ u) (k.whole ∙ ap (λ (u : List ℕ). k.front ++ u) k.second), k.first))
    (λ e k. from_test (c == 13) (move.One (sym.Line (line.Fixed phrase.Crlf 1))) move.Fail t (IsListEnd (c ∷ t)) (λ f l. inl (crlf_of c t (eqb-true c 13 f) l))
    (λ f l. absurd l) k) h

end_forth : (c : ℕ) (t : List ℕ) → IsListEnd (c ∷ t) → AfterMove (folder_rule folder.ListEnd c) t
end_forth c t (inl e) =
    let k = crlf_parts c t e in
    at_false (c == 32) (move.Two (sym.Value value.Start) (sym.Line (line.Fixed phrase.Crlf 0))) (cond (c == 13) (move.One (sym.Line (line.Fixed phrase.Crlf 1))) move.Fail) t
    (ap (λ (n : ℕ). n == 32) k.0)
    (at_true (c == 13) (move.One (sym.Line (line.Fixed phrase.Crlf 1))) move.Fail t (eq-eqb c 13 k.0) k.1)
end_forth c t (inr v) =
    at_true (c == 32) (move.Two (sym.Value value.Start) (sym.Line (line.Fixed phrase.Crlf 0))) (cond (c == 13) (move.One (sym.Line (line.Fixed phrase.Crlf 1))) move.Fail) t
    (eq-eqb c 32 (cons_head c 32 t (v.0 ++ crlf) v.1))
    (record { front = v.0; back = crlf; whole = cons_tail c 32 t (v.0 ++ crlf) v.1; first = v.2; second = refl })

-- ---- STATUS

one_back : (octet : ℕ) (next : Folder) (c : ℕ) (t : List ℕ) → AfterMove (octet_rule octet next c) t → (rest : List ℕ) × (c ∷ t ≡ octet ∷ rest) × FolderLang next rest
one_back octet next c t h = from_test (c == octet) (move.One (sym.Folder next)) move.Fail t ((rest : List ℕ) × (c ∷ t ≡ octet ∷ rest) × FolderLang next rest)
    (λ e k. (t, ap (λ (n : ℕ). n ∷ t) (eqb-true c octet e), k)) (λ e k. absurd k) h

one_forth : (octet : ℕ) (next : Folder) (c : ℕ) (t : List ℕ) → (rest : List ℕ) × (c ∷ t ≡ octet ∷ rest) × FolderLang next rest → AfterMove (octet_rule octet next c) t
one_forth octet next c t h = at_true (c == octet) (move.One (sym.Folder next)) move.Fail t (eq-eqb c octet (cons_head c octet t h.0 h.1))
    (subst (FolderLang next) (sym (cons_tail c octet t h.0 h.1)) h.2)

-- a word, its number and what follows are a count and more of them
count_join : (t : List ℕ) → WordCount IsStatusWord t → (k : List ℕ × ℕ) × (cs : List (List ℕ × ℕ)) × Then (IsCount k) (IsMoreCounts cs) t
count_join t h = (
  (h.word, value_from 0 h.digits),
  h.more.0,
  record {
    front = h.word ++ 32 ∷ h.digits;
    back = h.rest;
    whole = h.whole ∙ sym (append_assoc h.word (32 ∷ h.digits) h.rest);
    first = record { digits = h.digits; whole = refl; word = h.front.0; some = h.front.1; number = long_to h.digits h.number };
    second = h.more.1;
  },
)

count_split : (k : List ℕ × ℕ) (cs : List (List ℕ × ℕ)) (t : List ℕ) → Then (IsCount k) (IsMoreCounts cs) t → WordCount IsStatusWord t
count_split k cs t h = record {
  word = k.0;
  digits = h.first.digits;
  rest = h.back;
  whole = h.whole ∙ ap (λ (u : List ℕ). u ++ h.back) h.first.whole ∙ append_assoc k.0 (32 ∷ h.first.digits) h.back;
  front = (h.first.word, h.first.some);
  number = long_from k.1 h.first.digits h.first.number;
  more = (cs, h.second);
}

-- one octet more of a word
word_more : (Front : List ℕ → Type 0) (c : ℕ) (t : List ℕ) → ((w : List ℕ) → Each is_status_word w → Front (c ∷ w)) → WordCount (Each is_status_word) t → WordCount Front (c ∷ t)
word_more Front c t f h = record {
  word = c ∷ h.word;
  digits = h.digits;
  rest = h.rest;
  whole = ap (λ (u : List ℕ). c ∷ u) h.whole;
  front = f h.word h.front;
  number = h.number;
  more = h.more;
}

begun : (c : ℕ) → is_status_word c ≡ true → (w : List ℕ) → Each is_status_word w → IsStatusWord (c ∷ w)
begun c e w h = ((e, h), omega arith)

count_back : (c : ℕ) (t : List ℕ) → AfterMove (folder_rule folder.Count c) t → WordCount IsStatusWord (c ∷ t)
count_back c t h = from_test (is_status_word c) (move.One (sym.Folder folder.CountWord)) move.Fail t (WordCount IsStatusWord (c ∷ t))
    (λ e k. word_more IsStatusWord c t (begun c e) k) (λ e k. absurd k) h

count_at : (c : ℕ) (t w digits rest : List ℕ) → c ∷ t ≡ w ++ (32 ∷ digits ++ rest) → IsStatusWord w → LongRest 0 0 digits → MoreCounts rest → AfterMove
    (folder_rule folder.Count c) t
count_at c t [] digits rest e s l m = absurd (omega (arith, s.1))
count_at c t (d ∷ w) digits rest e s l m =
    let same : c ≡ d = cons_head c d t (w ++ (32 ∷ digits ++ rest)) e in
    at_true (is_status_word c) (move.One (sym.Folder folder.CountWord)) move.Fail t (is_true_at is_status_word c d same s.0.0)
    (record { word = w; digits = digits; rest = rest; whole = cons_tail c d t (w ++ (32 ∷ digits ++ rest)) e; front = s.0.1; number = l; more = m })

count_forth : (c : ℕ) (t : List ℕ) → WordCount IsStatusWord (c ∷ t) → AfterMove (folder_rule folder.Count c) t
count_forth c t h = count_at c t h.word h.digits h.rest h.whole h.front h.number h.more

first_back : (c : ℕ) (t : List ℕ) → AfterMove (folder_rule folder.FirstCount c) t → AnyCounts (c ∷ t)
first_back c t h = from_test (c == 41) (move.One (sym.Line (line.Fixed phrase.Crlf 0))) (cond (is_status_word c) (move.One (sym.Folder folder.CountWord)) move.Fail) t
    (AnyCounts (c ∷ t))
    (λ e k. ([], ap (λ (n : ℕ). n ∷ t) (eqb-true c 41 e) ∙ ap (λ (u : List ℕ). 41 ∷ u) k))
    (λ e k. let j = count_join (c ∷ t) (count_back c t k) in (j.0 ∷ j.1, j.2)) h

word_no_close : (c : ℕ) → is_status_word c ≡ true → (c == 41) ≡ false
word_no_close c e = grind arith

count_first : (c : ℕ) (t : List ℕ) → WordCount IsStatusWord (c ∷ t) → (c == 41) ≡ false
count_first c t h = by h.word h.whole h.front
  where
    by : (w : List ℕ) → c ∷ t ≡ w ++ (32 ∷ h.digits ++ h.rest) → IsStatusWord w → (c == 41) ≡ false
    by [] e s = absurd (omega (arith, s.1))
    by (d ∷ w) e s = ap (λ (n : ℕ). n == 41) (cons_head c d t (w ++ (32 ∷ h.digits ++ h.rest)) e) ∙ word_no_close d s.0.0

first_at : (cs : List (List ℕ × ℕ)) (c : ℕ) (t : List ℕ) → IsCounts cs (c ∷ t) → AfterMove (folder_rule folder.FirstCount c) t
first_at [] c t e =
    at_true (c == 41) (move.One (sym.Line (line.Fixed phrase.Crlf 0))) (cond (is_status_word c) (move.One (sym.Folder folder.CountWord)) move.Fail) t
    (eq-eqb c 41 (cons_head c 41 t crlf e)) (cons_tail c 41 t crlf e)
first_at (k ∷ cs) c t h =
    let w = count_split k cs (c ∷ t) h in
    at_false (c == 41) (move.One (sym.Line (line.Fixed phrase.Crlf 0))) (cond (is_status_word c) (move.One (sym.Folder folder.CountWord)) move.Fail) t (count_first c t w)
    (count_forth c t w)

word_back : (c : ℕ) (t : List ℕ) → AfterMove (folder_rule folder.CountWord c) t → WordCount (Each is_status_word) (c ∷ t)
word_back c t h = from_test (is_status_word c) (move.One (sym.Folder folder.CountWord))
    (cond (c == 32) (move.Two (sym.Item (item.Long 0 0)) (sym.Folder folder.MoreCounts)) move.Fail) t (WordCount (Each is_status_word) (c ∷ t))
    (λ e k. word_more (Each is_status_word) c t (λ w f. (e, f)) k)
    (λ e k. from_test (c == 32) (move.Two (sym.Item (item.Long 0 0)) (sym.Folder folder.MoreCounts)) move.Fail t (WordCount (Each is_status_word) (c ∷ t))
    (λ f l. record {
      word = [];
      digits = l.front;
      rest = l.back;
      whole = ap (λ (n : ℕ). n ∷ t) (eqb-true c 32 f) ∙ ap (λ (u : List ℕ). 32 ∷ u) l.whole;
      front = tt;
      number = l.first;
      more = l.second;
    })
    (λ f l. absurd l) k) h

space_no_word : (c : ℕ) → c ≡ 32 → is_status_word c ≡ false
space_no_word c e = ap is_status_word e

word_at : (c : ℕ) (t w digits rest : List ℕ) → c ∷ t ≡ w ++ (32 ∷ digits ++ rest) → Each is_status_word w → LongRest 0 0 digits → MoreCounts rest
    → AfterMove (folder_rule folder.CountWord c) t
word_at c t [] digits rest e s l m =
    let same : c ≡ 32 = cons_head c 32 t (digits ++ rest) e in
    at_false (is_status_word c) (move.One (sym.Folder folder.CountWord)) (cond (c == 32) (move.Two (sym.Item (item.Long 0 0)) (sym.Folder folder.MoreCounts)) move.Fail) t
    (space_no_word c same)
    (at_true (c == 32) (move.Two (sym.Item (item.Long 0 0)) (sym.Folder folder.MoreCounts)) move.Fail t (eq-eqb c 32 same)
    (record { front = digits; back = rest; whole = cons_tail c 32 t (digits ++ rest) e; first = l; second = m }))
word_at c t (d ∷ w) digits rest e s l m =
    let same : c ≡ d = cons_head c d t (w ++ (32 ∷ digits ++ rest)) e in
    at_true (is_status_word c) (move.One (sym.Folder folder.CountWord)) (cond (c == 32) (move.Two (sym.Item (item.Long 0 0)) (sym.Folder folder.MoreCounts)) move.Fail) t
    (is_true_at is_status_word c d same s.0)
    (record { word = w; digits = digits; rest = rest; whole = cons_tail c d t (w ++ (32 ∷ digits ++ rest)) e; front = s.1; number = l; more = m })

more_back : (c : ℕ) (t : List ℕ) → AfterMove (folder_rule folder.MoreCounts c) t → MoreCounts (c ∷ t)
more_back c t h = from_test (c == 32) (move.One (sym.Folder folder.Count)) (cond (c == 41) (move.One (sym.Line (line.Fixed phrase.Crlf 0))) move.Fail) t (MoreCounts (c ∷ t))
    (λ e k. let j = count_join t k in (j.0 ∷ j.1, (j.2.front, j.2.back, ap (λ (n : ℕ). n ∷ t) (eqb-true c 32 e) ∙ ap (λ (u : List ℕ). 32 ∷ u) j.2.whole, j.2.first, j.2.second)))
    (λ e k. from_test (c == 41) (move.One (sym.Line (line.Fixed phrase.Crlf 0))) move.Fail t (MoreCounts (c ∷ t))
    (λ f l. ([], ap (λ (n : ℕ). n ∷ t) (eqb-true c 41 f) ∙ ap (λ (u : List ℕ). 41 ∷ u) l)) (λ f l. absurd l) k) h

more_at : (cs : List (List ℕ × ℕ)) (c : ℕ) (t : List ℕ) → IsMoreCounts cs (c ∷ t) → AfterMove (folder_rule folder.MoreCounts c) t
more_at [] c t e =
    let same : c ≡ 41 = cons_head c 41 t crlf e in
    at_false (c == 32) (move.One (sym.Folder folder.Count)) (cond (c == 41) (move.One (sym.Line (line.Fixed phrase.Crlf 0))) move.Fail) t (ap (λ (n : ℕ). n == 32) same)
    (at_true (c == 41) (move.One (sym.Line (line.Fixed phrase.Crlf 0))) move.Fail t (eq-eqb c 41 same) (cons_tail c 41 t crlf e))
more_at (k ∷ cs) c t h =
    at_true (c == 32) (move.One (sym.Folder folder.Count)) (cond (c == 41) (move.One (sym.Line (line.Fixed phrase.Crlf 0))) move.Fail) t
    (eq-eqb c 32 (cons_head c 32 t (h.0 ++ h.1) h.2))
    (count_split k cs t (record { front = h.0; back = h.1; whole = cons_tail c 32 t (h.0 ++ h.1) h.2; first = h.3; second = h.4 }))

-- ---- the group

-- a symbol of a LIST or a STATUS reads an octet and any text that its rule still reads after it
pub folder_back : (s : Folder) (c : ℕ) (t : List ℕ) → AfterMove (folder_rule s c) t → FolderLang s (c ∷ t)
folder_back folder.Attributes c t h = attributes_back c t h
folder_back folder.Delimiter c t h = delimiter_back c t h
folder_back folder.DelimiterOctet c t h = octet_back c t h
folder_back folder.DelimiterEscaped c t h = pair_back c t h
folder_back folder.Name c t h = name_back c t h
folder_back folder.ListEnd c t h = end_back c t h
folder_back folder.Counts c t h = one_back 32 folder.CountsOpen c t h
folder_back folder.CountsOpen c t h = one_back 40 folder.FirstCount c t h
folder_back folder.FirstCount c t h = first_back c t h
folder_back folder.Count c t h = count_back c t h
folder_back folder.CountWord c t h = word_back c t h
folder_back folder.MoreCounts c t h = more_back c t h

-- where a symbol of a LIST or a STATUS reads an octet and a text, its rule still reads the text after the octet
pub folder_forth : (s : Folder) (c : ℕ) (t : List ℕ) → FolderLang s (c ∷ t) → AfterMove (folder_rule s c) t
folder_forth folder.Attributes c t h = attributes_forth c t h
folder_forth folder.Delimiter c t h = delimiter_forth c t h
folder_forth folder.DelimiterOctet c t h = octet_forth c t h
folder_forth folder.DelimiterEscaped c t h = pair_forth c t h
folder_forth folder.Name c t h = name_forth c t h
folder_forth folder.ListEnd c t h = end_forth c t h
folder_forth folder.Counts c t h = one_forth 32 folder.CountsOpen c t h
folder_forth folder.CountsOpen c t h = one_forth 40 folder.FirstCount c t h
folder_forth folder.FirstCount c t h = first_at h.0 c t h.1
folder_forth folder.Count c t h = count_forth c t h
folder_forth folder.CountWord c t h = word_at c t h.word h.digits h.rest h.whole h.front h.number h.more
folder_forth folder.MoreCounts c t h = more_at h.0 c t h.1

no_delimiter : (d : Option ℕ) → IsDelimiter d [] → ⊥
no_delimiter None h = cc
no_delimiter (Some c) h = let e = h.1 in cc

no_counts : (cs : List (List ℕ × ℕ)) → IsCounts cs [] → ⊥
no_counts [] h = cc
no_counts (k ∷ cs) h = let w = count_split k cs [] h in mid w.word (w.digits ++ w.rest) 32 w.whole

no_more_counts : (cs : List (List ℕ × ℕ)) → IsMoreCounts cs [] → ⊥
no_more_counts [] h = cc
no_more_counts (k ∷ cs) h = let e = h.2 in cc

-- no symbol of a LIST or a STATUS reads the empty text
pub folder_empty : (s : Folder) → FolderLang s [] → ⊥
folder_empty folder.Attributes h = let e = h.1 in cc
folder_empty folder.Delimiter h = no_delimiter h.0 h.1
folder_empty folder.DelimiterOctet h = mid (escaped (h.0 ∷ [])) [] 34 h.2
folder_empty folder.DelimiterEscaped h = let e = h.2 in cc
folder_empty folder.Name h = let e = h.1 in cc
folder_empty folder.ListEnd (inl e) = cc
folder_empty folder.ListEnd (inr v) = let e = v.1 in cc
folder_empty folder.Counts h = let e = h.1 in cc
folder_empty folder.CountsOpen h = let e = h.1 in cc
folder_empty folder.FirstCount h = no_counts h.0 h.1
folder_empty folder.Count h = mid h.word (h.digits ++ h.rest) 32 h.whole
folder_empty folder.CountWord h = mid h.word (h.digits ++ h.rest) 32 h.whole
folder_empty folder.MoreCounts h = no_more_counts h.0 h.1

-- what follows the name of a LIST begins with a stop
pub end_stops : (c : ℕ) (t : List ℕ) → IsListEnd (c ∷ t) → stops c ≡ true
end_stops c t (inl e) = is_true_at stops c 13 (cons_head c 13 t (10 ∷ []) e) refl
end_stops c t (inr v) = is_true_at stops c 32 (cons_head c 32 t (v.0 ++ crlf) v.1) refl

-- what follows the name of a STATUS begins with a stop
pub counts_stop : (c : ℕ) (t : List ℕ) → CountsLine (c ∷ t) → stops c ≡ true
counts_stop c t h = is_true_at stops c 32 (cons_head c 32 t h.0 h.1) refl

-- what follows a count of a STATUS begins with a stop
pub more_stop : (cs : List (List ℕ × ℕ)) (c : ℕ) (t : List ℕ) → IsMoreCounts cs (c ∷ t) → stops c ≡ true
more_stop [] c t e = is_true_at stops c 41 (cons_head c 41 t crlf e) refl
more_stop (k ∷ cs) c t h = is_true_at stops c 32 (cons_head c 32 t (h.0 ++ h.1) h.2) refl

-- ---- an example of each

name_some : NameLine (32 ∷ 97 ∷ crlf)
name_some = (97 ∷ crlf, refl, record { front = 97 ∷ []; back = crlf; whole = refl; first = flat_some; second = inl refl })

nil_some : AnyDelimiter (codes "nil")
nil_some = (None, refl)

one_digit : LongRest 0 0 (49 ∷ [])
one_digit = record { each = (refl, tt); some = omega arith; few = omega arith; most = omega arith }

word_some : WordCount (Each is_status_word) (codes " 1)" ++ crlf)
word_some = record { word = []; digits = 49 ∷ []; rest = 41 ∷ crlf; whole = refl; front = tt; number = one_digit; more = ([], refl) }

-- each symbol of a LIST or a STATUS reads some text
pub folder_example : (s : Folder) → (t : List ℕ) × FolderLang s t
folder_example folder.Attributes = (
  32 ∷ codes "nil" ++ 32 ∷ 97 ∷ crlf,
  (codes "nil" ++ 32 ∷ 97 ∷ crlf, refl, record { front = codes "nil"; back = 32 ∷ 97 ∷ crlf; whole = refl; first = nil_some; second = name_some }),
)
folder_example folder.Delimiter = (codes "nil", nil_some)
folder_example folder.DelimiterOctet = (47 ∷ 34 ∷ [], (47, refl, refl))
folder_example folder.DelimiterEscaped = (34 ∷ 34 ∷ [], (34, refl, refl))
folder_example folder.Name = (32 ∷ 97 ∷ crlf, name_some)
folder_example folder.ListEnd = (crlf, inl refl)
folder_example folder.Counts = (32 ∷ 40 ∷ 41 ∷ crlf, (40 ∷ 41 ∷ crlf, refl, (41 ∷ crlf, refl, ([], refl))))
folder_example folder.CountsOpen = (40 ∷ 41 ∷ crlf, (41 ∷ crlf, refl, ([], refl)))
folder_example folder.FirstCount = (41 ∷ crlf, ([], refl))
folder_example folder.Count = (codes "a 1)" ++ crlf, word_more IsStatusWord 97 (codes " 1)" ++ crlf) (begun 97 refl) word_some)
folder_example folder.CountWord = (codes " 1)" ++ crlf, word_some)
folder_example folder.MoreCounts = (41 ∷ crlf, ([], refl))
