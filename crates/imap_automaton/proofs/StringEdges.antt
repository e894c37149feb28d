-- One octet at a string.
use Rattle.std.proofs.Common.{◌≡◌, ℕ, zero, suc, ◌+◌, ◌-◌, ◌*◌, ◌<◌, ◌≤◌, Bool, true, false, ◌&&◌, ◌||◌, List, [], ◌∷◌, ◌++◌, length, map, cond, Option, Some, None, refl, sym, ap}
use Rattle.std.proofs.Common.{subst, ◌∙◌, arith, inl, inr, replicate}
use Rattle.std.specs.Prelude.{◌==◌, nat_lt, nat_le, codes}
use Rattle.std.proofs.lemmas.Bool.{eqb-true, ltb-true, leb-true, and_parts, and_from, lt-ltb, le-leb, eq-eqb, cond-true, cond-false}
use Rattle.imap_keywords.specs.declared.phrase.Phrase.TheVariants as phrase
use Rattle.imap_automaton.specs.declared.sym.Line.TheVariants as line
use Rattle.imap_automaton.specs.declared.sym.Free.TheVariants as free
use Rattle.imap_automaton.specs.declared.sym.Names.TheVariants as names
use Rattle.imap_automaton.specs.declared.sym.Str.{Str}
use Rattle.imap_automaton.specs.declared.sym.Str.TheVariants as str
use Rattle.imap_automaton.specs.declared.sym.Sym.{Sym}
use Rattle.imap_automaton.specs.declared.sym.Sym.TheVariants as sym
use Rattle.pushdown.specs.declared.moves.Move.{Move}
use Rattle.pushdown.specs.declared.moves.Move.TheVariants as move
use Rattle.imap_automaton.specs.StringRules.{flat_start, alone, before, nstring_rule, count_rule, string_rule}
use Rattle.imap_automaton.specs.Fits.{StrFits}
use Rattle.imap_automaton.specs.Rests.{OctetsRest}
use Rattle.imap_automaton.proofs.Rests.{value_mono}
use Rattle.imap_automaton.specs.StringLangs.{QuotedRest, EscapedRest, AnyCounted, CountRest, BraceRest, StrLang}
use Rattle.imap_automaton.specs.Langs.{Lang, AfterMove}
use Rattle.pushdown.proofs.Lists.{cons_head, cons_tail}
use Rattle.imap_automaton.proofs.Tests.{from_test, at_true, at_false, is_true_at, mid}
use Rattle.imap_keywords.proofs.Classes.{atom_apart}
use Rattle.imap_automaton.proofs.FreeEdges.{octets_some}
use Rattle.imap_types.specs.Octets.{is_digit, is_text, is_atom, lower}
use Rattle.imap_types.specs.Texts.{Each, Then, plain_octets}
use Rattle.imap_types.specs.Numbers.{value_from}
use Rattle.imap_types.specs.Strings.{escaped, IsCounted, IsNString, IsAString}
use Rattle.imap_types.specs.Values.{IsFlat}

-- ---- quoted texts

-- a quote and a `\` are octets of text
pub special_text : (d : ℕ) → (d == 34 || d == 92) ≡ true → is_text d ≡ true
special_text d e = grind arith

-- where the test for a quote or a `\` fails, the octet is neither
pub no_special : (d : ℕ) → (d == 34 || d == 92) ≡ false → ((d == 34) ≡ false) × ((d == 92) ≡ false)
no_special d e = (grind arith, grind arith)

-- where an octet is neither a quote nor a `\`, the test for either fails
pub from_parts : (d : ℕ) → (d == 34) ≡ false → (d == 92) ≡ false → (d == 34 || d == 92) ≡ false
from_parts d e f = rw e f

-- a quote or a `\` stands in a quoted text after a `\`
pub escaped_pair : (d : ℕ) (s : List ℕ) → (d == 34 || d == 92) ≡ true → escaped (d ∷ s) ++ 34 ∷ [] ≡ 92 ∷ d ∷ escaped s ++ 34 ∷ []
escaped_pair d s e = ap (λ (u : List ℕ). u ++ 34 ∷ []) (cond-true (d == 34 || d == 92) (92 ∷ d ∷ escaped s) (d ∷ escaped s) e)

-- an octet that isn't a quote or a `\` stands in a quoted text as itself
pub escaped_self : (d : ℕ) (s : List ℕ) → (d == 34 || d == 92) ≡ false → escaped (d ∷ s) ++ 34 ∷ [] ≡ d ∷ escaped s ++ 34 ∷ []
escaped_self d s e = ap (λ (u : List ℕ). u ++ 34 ∷ []) (cond-false (d == 34 || d == 92) (92 ∷ d ∷ escaped s) (d ∷ escaped s) e)

quoted_pair : (c : ℕ) (t : List ℕ) → c ≡ 92 → EscapedRest t → QuotedRest (c ∷ t)
quoted_pair c t e h = (
  h.0 ∷ h.4.0,
  (special_text h.0 h.3, h.4.1),
  ap (λ (n : ℕ). n ∷ t) e ∙ ap (λ (u : List ℕ). 92 ∷ u) (h.2 ∙ ap (λ (u : List ℕ). h.0 ∷ u) h.4.2) ∙ sym (escaped_pair h.0 h.4.0 h.3),
)

quoted_more : (c : ℕ) (t : List ℕ) → (c == 34) ≡ false → (c == 92) ≡ false → is_text c ≡ true → QuotedRest t → QuotedRest (c ∷ t)
quoted_more c t e f g h = (c ∷ h.0, (g, h.1), ap (λ (u : List ℕ). c ∷ u) h.2 ∙ sym (escaped_self c h.0 (from_parts c e f)))

quoted_back : (c : ℕ) (t : List ℕ) → AfterMove (string_rule str.Quoted c) t → QuotedRest (c ∷ t)
quoted_back c t h = from_test (c == 34) move.End (cond (c == 92) (move.One (sym.Str str.Escaped)) (cond (is_text c) (move.One (sym.Str str.Quoted)) move.Fail)) t
    (QuotedRest (c ∷ t))
    (λ e k. ([], tt, ap (λ (n : ℕ). n ∷ t) (eqb-true c 34 e) ∙ ap (λ (u : List ℕ). 34 ∷ u) k))
    (λ e k. from_test (c == 92) (move.One (sym.Str str.Escaped)) (cond (is_text c) (move.One (sym.Str str.Quoted)) move.Fail) t (QuotedRest (c ∷ t))
    (λ f l. quoted_pair c t (eqb-true c 92 f) l)
    (λ f l. from_test (is_text c) (move.One (sym.Str str.Quoted)) move.Fail t (QuotedRest (c ∷ t)) (λ g m. quoted_more c t e f g m) (λ g m. absurd m) l) k) h

quoted_end : (c : ℕ) (t : List ℕ) → c ∷ t ≡ 34 ∷ [] → AfterMove (string_rule str.Quoted c) t
quoted_end c t e = at_true (c == 34) move.End (cond (c == 92) (move.One (sym.Str str.Escaped)) (cond (is_text c) (move.One (sym.Str str.Quoted)) move.Fail)) t
    (eq-eqb c 34 (cons_head c 34 t [] e)) (cons_tail c 34 t [] e)

quoted_at : (d : ℕ) (s : List ℕ) (c : ℕ) (t : List ℕ) (b : Bool) → (d == 34 || d == 92) ≡ b → is_text d ≡ true → Each is_text s → c ∷ t ≡ escaped (d ∷ s) ++ 34 ∷ []
    → AfterMove (string_rule str.Quoted c) t
quoted_at d s c t true f is all e =
    let g : c ∷ t ≡ 92 ∷ d ∷ escaped s ++ 34 ∷ [] = e ∙ escaped_pair d s f in
    let slash : c ≡ 92 = cons_head c 92 t (d ∷ escaped s ++ 34 ∷ []) g in
    at_false (c == 34) move.End (cond (c == 92) (move.One (sym.Str str.Escaped)) (cond (is_text c) (move.One (sym.Str str.Quoted)) move.Fail)) t (ap (λ (n : ℕ). n == 34) slash)
    (at_true (c == 92) (move.One (sym.Str str.Escaped)) (cond (is_text c) (move.One (sym.Str str.Quoted)) move.Fail) t (eq-eqb c 92 slash)
    (d, escaped s ++ 34 ∷ [], cons_tail c 92 t (d ∷ escaped s ++ 34 ∷ []) g, f, (s, all, refl)))
quoted_at d s c t false f is all e =
    let g : c ∷ t ≡ d ∷ escaped s ++ 34 ∷ [] = e ∙ escaped_self d s f in
    let same : c ≡ d = cons_head c d t (escaped s ++ 34 ∷ []) g in
    let apart = no_special d f in
    at_false (c == 34) move.End (cond (c == 92) (move.One (sym.Str str.Escaped)) (cond (is_text c) (move.One (sym.Str str.Quoted)) move.Fail)) t
    (ap (λ (n : ℕ). n == 34) same ∙ apart.0)
    (at_false (c == 92) (move.One (sym.Str str.Escaped)) (cond (is_text c) (move.One (sym.Str str.Quoted)) move.Fail) t (ap (λ (n : ℕ). n == 92) same ∙ apart.1)
    (at_true (is_text c) (move.One (sym.Str str.Quoted)) move.Fail t (is_true_at is_text c d same is) (s, all, cons_tail c d t (escaped s ++ 34 ∷ []) g)))

quoted_forth_at : (s : List ℕ) (c : ℕ) (t : List ℕ) → Each is_text s → c ∷ t ≡ escaped s ++ 34 ∷ [] → AfterMove (string_rule str.Quoted c) t
quoted_forth_at [] c t all e = quoted_end c t e
quoted_forth_at (d ∷ s) c t all e = quoted_at d s c t (d == 34 || d == 92) refl all.0 all.1 e

escaped_back : (c : ℕ) (t : List ℕ) → AfterMove (string_rule str.Escaped c) t → EscapedRest (c ∷ t)
escaped_back c t h = from_test (c == 34 || c == 92) (move.One (sym.Str str.Quoted)) move.Fail t (EscapedRest (c ∷ t)) (λ e k. (c, t, refl, e, k)) (λ e k. absurd k) h

escaped_forth : (c : ℕ) (t : List ℕ) → EscapedRest (c ∷ t) → AfterMove (string_rule str.Escaped c) t
escaped_forth c t h =
    at_true (c == 34 || c == 92) (move.One (sym.Str str.Quoted)) move.Fail t (ap (λ (n : ℕ). n == 34 || n == 92) (cons_head c h.0 t h.1 h.2) ∙ h.3)
    (subst QuotedRest (sym (cons_tail c h.0 t h.1 h.2)) h.4)

-- ---- literals

abbrev count_fits : ℕ → ℕ → ℕ → Bool
count_fits v n c = nat_lt n 8 && nat_le (10 * v + (c - 48)) 50000000

count_parts : (v n : ℕ) → StrFits (str.Count v n) ≡ true → (n ≤ 8) × (v ≤ 50000000)
count_parts v n fits =
    let a = and_parts (nat_le n 8 && nat_le v 50000000) (nat_lt 0 n || v == 0) fits in
    let b = and_parts (nat_le n 8) (nat_le v 50000000) a.0 in
    (leb-true _ _ b.0, leb-true _ _ b.1)

count_back : (v n c : ℕ) (t : List ℕ) → StrFits (str.Count v n) ≡ true → AfterMove (count_rule v n c) t → CountRest v n (c ∷ t)
count_back v n c t fits h =
    let w : ℕ = 10 * v + (c - 48) in
    let most = count_parts v n fits in
    from_test (is_digit c) (cond (count_fits v n c) (move.One (sym.Str (str.Count w (n + 1)))) move.Fail)
    (cond (c == 125 && nat_lt 0 n) (move.One (sym.Str (str.Brace v))) move.Fail) t (CountRest v n (c ∷ t))
    (λ e a. from_test (count_fits v n c) (move.One (sym.Str (str.Count w (n + 1)))) move.Fail t (CountRest v n (c ∷ t))
    (λ f l. record {
      front = c ∷ l.front;
      octets = l.octets;
      whole = ap (λ (u : List ℕ). c ∷ u) l.whole;
      each = (e, l.each);
      some = omega arith;
      few = omega (arith, l.few);
      counted = l.counted;
      most = l.most;
      inside = l.inside;
    })
    (λ f l. absurd l) a)
    (λ e a. from_test (c == 125 && nat_lt 0 n) (move.One (sym.Str (str.Brace v))) move.Fail t (CountRest v n (c ∷ t))
    (λ f l. let b = and_parts (c == 125) (nat_lt 0 n) f in record {
      front = [];
      octets = l.0;
      whole = ap (λ (m : ℕ). m ∷ t) (eqb-true c 125 b.0) ∙ ap (λ (u : List ℕ). 125 ∷ u) l.1;
      each = tt;
      some = omega (arith, ltb-true 0 n b.1);
      few = omega (arith, most.0);
      counted = l.2.counted;
      most = omega (arith, l.2.counted, most.1);
      inside = l.2.inside;
    })
    (λ f l. absurd l) a) h

brace_no_digit : (c : ℕ) → c ≡ 125 → is_digit c ≡ false
brace_no_digit c e = grind arith

count_at : (v n c : ℕ) (t front o : List ℕ) → c ∷ t ≡ front ++ 125 ∷ 13 ∷ 10 ∷ o → Each is_digit front → 0 < n + length front → n + length front ≤ 8 → length o ≡ value_from v front
    → length o ≤ 50000000 → OctetsRest (length o) o → AfterMove (count_rule v n c) t
count_at v n c t [] o e each some few counted most r =
    let same : c ≡ 125 = cons_head c 125 t (13 ∷ 10 ∷ o) e in
    let w : ℕ = 10 * v + (c - 48) in
    at_false (is_digit c) (cond (count_fits v n c) (move.One (sym.Str (str.Count w (n + 1)))) move.Fail)
    (cond (c == 125 && nat_lt 0 n) (move.One (sym.Str (str.Brace v))) move.Fail) t (brace_no_digit c same)
    (at_true (c == 125 && nat_lt 0 n) (move.One (sym.Str (str.Brace v))) move.Fail t (and_from _ _ (eq-eqb c 125 same) (lt-ltb 0 n (omega (arith, some))))
    (o, cons_tail c 125 t (13 ∷ 10 ∷ o) e, record { counted = counted; inside = r.inside }))
count_at v n c t (d ∷ front) o e each some few counted most r =
    let same : c ≡ d = cons_head c d t (front ++ 125 ∷ 13 ∷ 10 ∷ o) e in
    let w : ℕ = 10 * v + (c - 48) in
    let mono = value_mono w front in
    let is : length o ≡ value_from w front = counted ∙ ap (λ (m : ℕ). value_from (10 * v + (m - 48)) front) (sym same) in
    at_true (is_digit c) (cond (count_fits v n c) (move.One (sym.Str (str.Count w (n + 1)))) move.Fail)
    (cond (c == 125 && nat_lt 0 n) (move.One (sym.Str (str.Brace v))) move.Fail) t (is_true_at is_digit c d same each.0)
    (at_true (count_fits v n c) (move.One (sym.Str (str.Count w (n + 1)))) move.Fail t
    (and_from _ _ (lt-ltb n 8 (omega (arith, few))) (le-leb w 50000000 (omega (arith, is, mono, most))))
    (record {
      front = front;
      octets = o;
      whole = cons_tail c d t (front ++ 125 ∷ 13 ∷ 10 ∷ o) e;
      each = each.1;
      some = omega arith;
      few = omega (arith, few);
      counted = is;
      most = most;
      inside = r.inside;
    }))

count_forth : (v n c : ℕ) (t : List ℕ) → CountRest v n (c ∷ t) → AfterMove (count_rule v n c) t
count_forth v n c t h = count_at v n c t h.front h.octets h.whole h.each h.some h.few h.counted h.most (record { counted = refl; inside = h.inside })

brace_back : (n c : ℕ) (t : List ℕ) → AfterMove (string_rule (str.Brace n) c) t → BraceRest n (c ∷ t)
brace_back n c t h = from_test (c == 13) (move.One (sym.Free (free.Break n))) move.Fail t (BraceRest n (c ∷ t))
    (λ e k. (k.0, ap (λ (m : ℕ). m ∷ t) (eqb-true c 13 e) ∙ ap (λ (u : List ℕ). 13 ∷ u) k.1, k.2))
    (λ e k. absurd k) h

brace_forth : (n c : ℕ) (t : List ℕ) → BraceRest n (c ∷ t) → AfterMove (string_rule (str.Brace n) c) t
brace_forth n c t h = at_true (c == 13) (move.One (sym.Free (free.Break n))) move.Fail t (eq-eqb c 13 (cons_head c 13 t (10 ∷ h.0) h.1)) (h.0, cons_tail c 13 t (10 ∷ h.0) h.1, h.2)

counted_from : (c : ℕ) (t : List ℕ) → c ≡ 123 → CountRest 0 0 t → AnyCounted (c ∷ t)
counted_from c t e h = (
  plain_octets h.octets,
  record {
    digits = h.front;
    octets = h.octets;
    whole = ap (λ (n : ℕ). n ∷ t) e ∙ ap (λ (u : List ℕ). 123 ∷ u) h.whole;
    are_digits = h.each;
    some = (let s = h.some in omega (arith, s));
    few = (let s = h.few in omega (arith, s));
    counted = h.counted;
    most = h.most;
    inside = h.inside;
    string = refl;
  },
)

counted_to : (c : ℕ) (t : List ℕ) → AnyCounted (c ∷ t) → (c ≡ 123) × CountRest 0 0 t
counted_to c t h =
    let k = h.1 in
    let rest : List ℕ = k.digits ++ 125 ∷ 13 ∷ 10 ∷ k.octets in (
      cons_head c 123 t rest k.whole,
      record {
        front = k.digits;
        octets = k.octets;
        whole = cons_tail c 123 t rest k.whole;
        each = k.are_digits;
        some = (let s = k.some in omega (arith, s));
        few = (let s = k.few in omega (arith, s));
        counted = k.counted;
        most = k.most;
        inside = k.inside;
      },
    )

tilde_back : (c : ℕ) (t : List ℕ) → AfterMove (string_rule str.Tilde c) t → AnyCounted (c ∷ t)
tilde_back c t h = from_test (c == 123) (move.One (sym.Str (str.Count 0 0))) move.Fail t (AnyCounted (c ∷ t)) (λ e k. counted_from c t (eqb-true c 123 e) k) (λ e k. absurd k) h

tilde_forth : (c : ℕ) (t : List ℕ) → AnyCounted (c ∷ t) → AfterMove (string_rule str.Tilde c) t
tilde_forth c t h = let k = counted_to c t h in at_true (c == 123) (move.One (sym.Str (str.Count 0 0))) move.Fail t (eq-eqb c 123 k.0) k.1

atom_tilde_back : (c : ℕ) (t : List ℕ) → AfterMove (string_rule str.AtomTilde c) t → StrLang str.AtomTilde (c ∷ t)
atom_tilde_back c t h = from_test (c == 123) (move.One (sym.Str (str.Count 0 0))) (cond (is_atom c) (move.One (sym.Names names.AtomRest)) move.Yield) t
    (StrLang str.AtomTilde (c ∷ t))
    (λ e k. inr (counted_from c t (eqb-true c 123 e) k))
    (λ e k. from_test (is_atom c) (move.One (sym.Names names.AtomRest)) move.Yield t (StrLang str.AtomTilde (c ∷ t)) (λ f l. inl (f, l)) (λ f l. absurd l) k) h

atom_tilde_forth : (c : ℕ) (t : List ℕ) → StrLang str.AtomTilde (c ∷ t) → AfterMove (string_rule str.AtomTilde c) t
atom_tilde_forth c t (inl a) =
    at_false (c == 123) (move.One (sym.Str (str.Count 0 0))) (cond (is_atom c) (move.One (sym.Names names.AtomRest)) move.Yield) t (atom_apart c a.0).1
    (at_true (is_atom c) (move.One (sym.Names names.AtomRest)) move.Yield t a.0 a.1)
atom_tilde_forth c t (inr h) =
    let k = counted_to c t h in
    at_true (c == 123) (move.One (sym.Str (str.Count 0 0))) (cond (is_atom c) (move.One (sym.Names names.AtomRest)) move.Yield) t (eq-eqb c 123 k.0) k.1

-- ---- what begins a string

abbrev pub Starts : Option Sym → List ℕ → Type 0
Starts None t = ⊥
Starts (Some s) t = Lang s t

-- the text that is still read after the move to one symbol or none is a text of that symbol
pub after_alone : (o : Option Sym) (t : List ℕ) → AfterMove (alone o) t → Starts o t
after_alone None t h = h
after_alone (Some s) t h = h

-- a text of one symbol is still read after the move to it
pub alone_after : (o : Option Sym) (t : List ℕ) → Starts o t → AfterMove (alone o) t
alone_after None t h = h
alone_after (Some s) t h = h

-- the text that is still read after the move to a symbol and a later one is a text of the first and then one of the later
pub after_before : (later : Sym) (o : Option Sym) (t : List ℕ) → AfterMove (before later o) t → Then (Starts o) (Lang later) t
after_before later None t h = absurd h
after_before later (Some s) t h = h

-- a text of a symbol and then one of a later symbol is still read after the move to both
pub before_after : (later : Sym) (o : Option Sym) (t : List ℕ) → Then (Starts o) (Lang later) t → AfterMove (before later o) t
before_after later None t h = h.first
before_after later (Some s) t h = h

starts_test : (b : Bool) (o p : Option Sym) (t : List ℕ) (P : Type 0) → (b ≡ true → Starts o t → P) → (b ≡ false → Starts p t → P) → Starts (cond b o p) t → P
starts_test true o p t P f g h = f refl h
starts_test false o p t P f g h = g refl h

starts_true : (b : Bool) (o p : Option Sym) (t : List ℕ) → b ≡ true → Starts o t → Starts (cond b o p) t
starts_true true o p t e h = h
starts_true false o p t e h = absurd cc

starts_false : (b : Bool) (o p : Option Sym) (t : List ℕ) → b ≡ false → Starts p t → Starts (cond b o p) t
starts_false true o p t e h = absurd cc
starts_false false o p t e h = h

abbrev atom_start : ℕ → Option Sym
atom_start c = cond (is_atom c) (Some (sym.Names names.AtomRest)) None

abbrev tilde_start : ℕ → Option Sym
tilde_start c = cond (c == 126) (Some (sym.Str str.AtomTilde)) (atom_start c)

abbrev count_start : ℕ → Option Sym
count_start c = cond (c == 123) (Some (sym.Str (str.Count 0 0))) (tilde_start c)

quoted_flat : (c : ℕ) (t : List ℕ) → c ≡ 34 → QuotedRest t → IsFlat (c ∷ t)
quoted_flat c t e h = (h.0, inr (inl (h.1, ap (λ (n : ℕ). n ∷ t) e ∙ ap (λ (u : List ℕ). 34 ∷ u) h.2)))

atom_flat : (c : ℕ) (t : List ℕ) → is_atom c ≡ true → Each is_atom t → IsFlat (c ∷ t)
atom_flat c t e h = (c ∷ t, inl (((e, h), omega arith), refl))

tilde_atom : (c : ℕ) → c ≡ 126 → is_atom c ≡ true
tilde_atom c e = grind arith

tilde_flat : (c : ℕ) (t : List ℕ) → c ≡ 126 → StrLang str.AtomTilde t → IsFlat (c ∷ t)
tilde_flat c t e (inl a) = atom_flat c t (tilde_atom c e) a
tilde_flat c t e (inr k) = (k.0, inr (inr (inr (t, ap (λ (n : ℕ). n ∷ t) e, k.1))))

count_flat : (c : ℕ) (t : List ℕ) → c ≡ 123 → CountRest 0 0 t → IsFlat (c ∷ t)
count_flat c t e h = let k = counted_from c t e h in (k.0, inr (inr (inl k.1)))

-- an octet and a text of the symbol that it starts are an atom or a string
pub flat_back : (c : ℕ) (t : List ℕ) → Starts (flat_start c) t → IsFlat (c ∷ t)
flat_back c t h = starts_test (c == 34) (Some (sym.Str str.Quoted)) (count_start c) t (IsFlat (c ∷ t))
    (λ e k. quoted_flat c t (eqb-true c 34 e) k)
    (λ e k. starts_test (c == 123) (Some (sym.Str (str.Count 0 0))) (tilde_start c) t (IsFlat (c ∷ t))
    (λ f l. count_flat c t (eqb-true c 123 f) l)
    (λ f l. starts_test (c == 126) (Some (sym.Str str.AtomTilde)) (atom_start c) t (IsFlat (c ∷ t))
    (λ g m. tilde_flat c t (eqb-true c 126 g) m)
    (λ g m. starts_test (is_atom c) (Some (sym.Names names.AtomRest)) None t (IsFlat (c ∷ t)) (λ i o. atom_flat c t i o) (λ i o. absurd o) m) l) k) h

atom_starts : (c : ℕ) (t : List ℕ) (b : Bool) → (c == 126) ≡ b → is_atom c ≡ true → Each is_atom t → Starts (flat_start c) t
atom_starts c t true f e h =
    let a = atom_apart c e in
    starts_false (c == 34) (Some (sym.Str str.Quoted)) (count_start c) t a.0
    (starts_false (c == 123) (Some (sym.Str (str.Count 0 0))) (tilde_start c) t a.1
    (starts_true (c == 126) (Some (sym.Str str.AtomTilde)) (atom_start c) t f (inl h)))
atom_starts c t false f e h =
    let a = atom_apart c e in
    starts_false (c == 34) (Some (sym.Str str.Quoted)) (count_start c) t a.0
    (starts_false (c == 123) (Some (sym.Str (str.Count 0 0))) (tilde_start c) t a.1
    (starts_false (c == 126) (Some (sym.Str str.AtomTilde)) (atom_start c) t f
    (starts_true (is_atom c) (Some (sym.Names names.AtomRest)) None t e h)))

count_starts : (c : ℕ) (t : List ℕ) → c ≡ 123 → CountRest 0 0 t → Starts (flat_start c) t
count_starts c t e h =
    starts_false (c == 34) (Some (sym.Str str.Quoted)) (count_start c) t (ap (λ (n : ℕ). n == 34) e)
    (starts_true (c == 123) (Some (sym.Str (str.Count 0 0))) (tilde_start c) t (eq-eqb c 123 e) h)

-- after the first octet of an atom or a string, the symbol that the octet starts reads the rest
pub flat_forth : (c : ℕ) (t : List ℕ) → IsFlat (c ∷ t) → Starts (flat_start c) t
flat_forth c t h = by h.0 h.1
  where
    by : (s : List ℕ) → IsAString s (c ∷ t) → Starts (flat_start c) t
    by s (inl a) = atom_starts c t (c == 126) refl a.0.0.0 a.0.0.1
    by s (inr (inl q)) =
        let e : c ≡ 34 = cons_head c 34 t (escaped s ++ 34 ∷ []) q.1 in
        starts_true (c == 34) (Some (sym.Str str.Quoted)) (count_start c) t (eq-eqb c 34 e) (s, q.0, cons_tail c 34 t (escaped s ++ 34 ∷ []) q.1)
    by s (inr (inr (inl k))) = let l = counted_to c t (s, k) in count_starts c t l.0 l.1
    by s (inr (inr (inr l))) =
        let e : c ≡ 126 = cons_head c 126 t l.0 l.1 in
        starts_false (c == 34) (Some (sym.Str str.Quoted)) (count_start c) t (ap (λ (n : ℕ). n == 34) e)
        (starts_false (c == 123) (Some (sym.Str (str.Count 0 0))) (tilde_start c) t (ap (λ (n : ℕ). n == 123) e)
        (starts_true (c == 126) (Some (sym.Str str.AtomTilde)) (atom_start c) t (eq-eqb c 126 e) (inr (s, subst (IsCounted s) (sym (cons_tail c 126 t l.0 l.1)) l.2))))

-- no atom or string is the empty text
pub no_flat : IsFlat [] → ⊥
no_flat h = by h.0 h.1
  where
    by : (s : List ℕ) → IsAString s [] → ⊥
    by s (inl a) = omega (arith, a.0.1)
    by s (inr (inl q)) = let e = q.1 in cc
    by s (inr (inr (inl k))) = let e = k.whole in cc
    by s (inr (inr (inr l))) = let e = l.1 in cc

-- ---- NIL, a quoted text or a literal

abbrev nil_move : ℕ → Move Sym
nil_move c = cond (lower c == 110) (move.One (sym.Line (line.Folded phrase.Nil 1))) move.Fail

abbrev tilde_move : ℕ → Move Sym
tilde_move c = cond (c == 126) (move.One (sym.Str str.Tilde)) (nil_move c)

abbrev count_move : ℕ → Move Sym
count_move c = cond (c == 123) (move.One (sym.Str (str.Count 0 0))) (tilde_move c)

nstring_back : (c : ℕ) (t : List ℕ) → AfterMove (nstring_rule c) t → StrLang str.NString (c ∷ t)
nstring_back c t h = from_test (c == 34) (move.One (sym.Str str.Quoted)) (count_move c) t (StrLang str.NString (c ∷ t))
    (λ e k. (k.0, inr (inl (k.1, ap (λ (n : ℕ). n ∷ t) (eqb-true c 34 e) ∙ ap (λ (u : List ℕ). 34 ∷ u) k.2))))
    (λ e k. from_test (c == 123) (move.One (sym.Str (str.Count 0 0))) (tilde_move c) t (StrLang str.NString (c ∷ t))
    (λ f l. let n = counted_from c t (eqb-true c 123 f) l in (n.0, inr (inr (inl n.1))))
    (λ f l. from_test (c == 126) (move.One (sym.Str str.Tilde)) (nil_move c) t (StrLang str.NString (c ∷ t))
    (λ g m. (m.0, inr (inr (inr (t, ap (λ (n : ℕ). n ∷ t) (eqb-true c 126 g), m.1)))))
    (λ g m. from_test (lower c == 110) (move.One (sym.Line (line.Folded phrase.Nil 1))) move.Fail t (StrLang str.NString (c ∷ t))
    (λ i o. ([], inl (refl, ap (λ (n : ℕ). n ∷ map lower t) (eqb-true (lower c) 110 i) ∙ ap (λ (u : List ℕ). 110 ∷ u) o)))
    (λ i o. absurd o) m) l) k) h

n_apart : (c : ℕ) → lower c ≡ 110 → ((c == 34) ≡ false) × ((c == 123) ≡ false) × ((c == 126) ≡ false)
n_apart c e = (grind arith, grind arith, grind arith)

nstring_forth : (c : ℕ) (t : List ℕ) → StrLang str.NString (c ∷ t) → AfterMove (nstring_rule c) t
nstring_forth c t h = by h.0 h.1
  where
    by : (s : List ℕ) → IsNString s (c ∷ t) → AfterMove (nstring_rule c) t
    by s (inl n) =
        let e : lower c ≡ 110 = cons_head (lower c) 110 (map lower t) (codes "il") n.1 in
        let a = n_apart c e in
        at_false (c == 34) (move.One (sym.Str str.Quoted)) (count_move c) t a.0
        (at_false (c == 123) (move.One (sym.Str (str.Count 0 0))) (tilde_move c) t a.1
        (at_false (c == 126) (move.One (sym.Str str.Tilde)) (nil_move c) t a.2
        (at_true (lower c == 110) (move.One (sym.Line (line.Folded phrase.Nil 1))) move.Fail t (eq-eqb (lower c) 110 e) (cons_tail (lower c) 110 (map lower t) (codes "il") n.1))))
    by s (inr (inl q)) =
        let e : c ≡ 34 = cons_head c 34 t (escaped s ++ 34 ∷ []) q.1 in
        at_true (c == 34) (move.One (sym.Str str.Quoted)) (count_move c) t (eq-eqb c 34 e) (s, q.0, cons_tail c 34 t (escaped s ++ 34 ∷ []) q.1)
    by s (inr (inr (inl k))) =
        let l = counted_to c t (s, k) in
        at_false (c == 34) (move.One (sym.Str str.Quoted)) (count_move c) t (ap (λ (n : ℕ). n == 34) l.0)
        (at_true (c == 123) (move.One (sym.Str (str.Count 0 0))) (tilde_move c) t (eq-eqb c 123 l.0) l.1)
    by s (inr (inr (inr l))) =
        let e : c ≡ 126 = cons_head c 126 t l.0 l.1 in
        at_false (c == 34) (move.One (sym.Str str.Quoted)) (count_move c) t (ap (λ (n : ℕ). n == 34) e)
        (at_false (c == 123) (move.One (sym.Str (str.Count 0 0))) (tilde_move c) t (ap (λ (n : ℕ). n == 123) e)
        (at_true (c == 126) (move.One (sym.Str str.Tilde)) (nil_move c) t (eq-eqb c 126 e) (s, subst (IsCounted s) (sym (cons_tail c 126 t l.0 l.1)) l.2)))

no_nstring : StrLang str.NString [] → ⊥
no_nstring h = by h.0 h.1
  where
    by : (s : List ℕ) → IsNString s [] → ⊥
    by s (inl n) = let e = n.1 in cc
    by s (inr (inl q)) = let e = q.1 in cc
    by s (inr (inr (inl k))) = let e = k.whole in cc
    by s (inr (inr (inr l))) = let e = l.1 in cc

-- ---- the group

-- a fitting symbol of a string reads an octet and any text that its rule still reads after it
pub string_back : (s : Str) (c : ℕ) (t : List ℕ) → StrFits s ≡ true → AfterMove (string_rule s c) t → StrLang s (c ∷ t)
string_back str.NString c t fits h = nstring_back c t h
string_back str.AString c t fits h = flat_back c t (after_alone (flat_start c) t h)
string_back str.Quoted c t fits h = quoted_back c t h
string_back str.Escaped c t fits h = escaped_back c t h
string_back str.Tilde c t fits h = tilde_back c t h
string_back str.AtomTilde c t fits h = atom_tilde_back c t h
string_back (str.Count v n) c t fits h = count_back v n c t fits h
string_back (str.Brace n) c t fits h = brace_back n c t h

-- where a symbol of a string reads an octet and a text, its rule still reads the text after the octet
pub string_forth : (s : Str) (c : ℕ) (t : List ℕ) → StrLang s (c ∷ t) → AfterMove (string_rule s c) t
string_forth str.NString c t h = nstring_forth c t h
string_forth str.AString c t h = alone_after (flat_start c) t (flat_forth c t h)
string_forth str.Quoted c t h = quoted_forth_at h.0 c t h.1 h.2
string_forth str.Escaped c t h = escaped_forth c t h
string_forth str.Tilde c t h = tilde_forth c t h
string_forth str.AtomTilde c t h = atom_tilde_forth c t h
string_forth (str.Count v n) c t h = count_forth v n c t h
string_forth (str.Brace n) c t h = brace_forth n c t h

-- only an atom that has begun may end
pub string_empty : (s : Str) → StrLang s [] → s ≡ str.AtomTilde
string_empty str.NString h = absurd (no_nstring h)
string_empty str.AString h = absurd (no_flat h)
string_empty str.Quoted h = absurd (mid (escaped h.0) [] 34 h.2)
string_empty str.Escaped h = let e = h.2 in absurd cc
string_empty str.Tilde h = let e = h.1.whole in absurd cc
string_empty str.AtomTilde h = refl
string_empty (str.Count v n) h = absurd (mid h.front (13 ∷ 10 ∷ h.octets) 125 h.whole)
string_empty (str.Brace n) h = let e = h.1 in absurd cc

-- `{0}` CRLF
pub counted_none : AnyCounted (codes "{0}" ++ 13 ∷ 10 ∷ [])
counted_none = (
  [],
  record {
    digits = 48 ∷ [];
    octets = [];
    whole = refl;
    are_digits = (refl, tt);
    some = omega arith;
    few = omega arith;
    counted = refl;
    most = omega arith;
    inside = tt;
    string = refl;
  },
)

count_some : (v n : ℕ) → StrFits (str.Count v n) ≡ true → (t : List ℕ) × CountRest v n t
count_some v n fits = by n (count_parts v n fits) (and_parts (nat_le n 8 && nat_le v 50000000) (nat_lt 0 n || v == 0) fits).1
  where
    by : (n : ℕ) → (n ≤ 8) × (v ≤ 50000000) → (nat_lt 0 n || v == 0) ≡ true → (t : List ℕ) × CountRest v n t
    by zero most e = (
      codes "0}" ++ 13 ∷ 10 ∷ [],
      record {
        front = 48 ∷ [];
        octets = [];
        whole = refl;
        each = (refl, tt);
        some = omega arith;
        few = omega arith;
        counted = (let z = eqb-true v 0 e in omega (arith, z));
        most = omega arith;
        inside = tt;
      },
    )
    by (suc n) most e =
        let o = octets_some v in (
          125 ∷ 13 ∷ 10 ∷ replicate v 256,
          record {
            front = [];
            octets = replicate v 256;
            whole = refl;
            each = tt;
            some = omega arith;
            few = omega (arith, most.0);
            counted = o.counted;
            most = omega (arith, o.counted, most.1);
            inside = o.inside;
          },
        )

-- `a`
pub flat_some : IsFlat (97 ∷ [])
flat_some = (97 ∷ [], inl (((refl, tt), omega arith), refl))

-- each fitting symbol of a string reads some text
pub string_example : (s : Str) → StrFits s ≡ true → (t : List ℕ) × StrLang s t
string_example str.NString fits = (34 ∷ 34 ∷ [], ([], inr (inl (tt, refl))))
string_example str.AString fits = (97 ∷ [], flat_some)
string_example str.Quoted fits = (34 ∷ [], ([], tt, refl))
string_example str.Escaped fits = (34 ∷ 34 ∷ [], (34, 34 ∷ [], refl, refl, ([], tt, refl)))
string_example str.Tilde fits = (codes "{0}" ++ 13 ∷ 10 ∷ [], counted_none)
string_example str.AtomTilde fits = ([], inl tt)
string_example (str.Count v n) fits = count_some v n fits
string_example (str.Brace n) fits = (13 ∷ 10 ∷ replicate n 256, (replicate n 256, refl, octets_some n))
