-- One octet at the items of a FETCH.
use Rattle.std.proofs.Common.{◌≡◌, ℕ, ◌+◌, ◌-◌, ◌*◌, ◌<◌, ◌≤◌, Bool, true, false, not, ◌&&◌, ◌||◌, List, [], ◌∷◌, ◌++◌, length, map, cond, refl, sym, ap, subst, ◌∙◌, arith, inl}
use Rattle.std.proofs.Common.{inr, zero, suc}
use Rattle.std.specs.Prelude.{◌==◌, nat_lt, nat_le, codes}
use Rattle.std.proofs.lemmas.Bool.{eqb-true, ltb-true, leb-true, and_parts, and_from, lt-ltb, le-leb, eq-eqb, ne_eqb, cond-true, cond-false}
use Rattle.std.proofs.lemmas.List.{length-map}
use Rattle.imap_keywords.specs.declared.key.Key.{Key}
use Rattle.imap_keywords.specs.declared.key.Key.TheVariants as key
use Rattle.imap_keywords.specs.declared.key.WordPlace.TheVariants as place
use Rattle.imap_keywords.specs.declared.phrase.Phrase.TheVariants as phrase
use Rattle.imap_automaton.specs.declared.sym.Line.TheVariants as line
use Rattle.imap_automaton.specs.declared.sym.Item.{Item}
use Rattle.imap_automaton.specs.declared.sym.Item.TheVariants as item
use Rattle.imap_automaton.specs.declared.sym.Sym.{Sym}
use Rattle.imap_automaton.specs.declared.sym.Sym.TheVariants as sym
use Rattle.pushdown.specs.declared.moves.Move.TheVariants as move
use Rattle.imap_keywords.specs.Keys.{key_text, keys}
use Rattle.imap_automaton.specs.ItemRules.{item_start, number_rule, long_rule, item_rule}
use Rattle.imap_automaton.specs.Fits.{ItemFits}
use Rattle.imap_automaton.specs.Flow.{stops}
use Rattle.imap_keywords.proofs.KeyLemmas.{key_some}
use Rattle.imap_automaton.proofs.OtherItems.{named_atoms, other_from, other_to}
use Rattle.imap_automaton.specs.Langs.{NumberRest, LongRest, ItemLang, IsBehind, WordSays, WordRest, Lang, AfterMove}
use Rattle.imap_keywords.specs.Keys.{Among}
use Rattle.pushdown.proofs.Lists.{cons_head, cons_tail}
use Rattle.imap_automaton.proofs.Tests.{from_test, at_true, at_false, is_true_at}
use Rattle.imap_automaton.proofs.Rests.{value_mono, number_from, number_to, long_from, long_to}
use Rattle.imap_types.specs.Octets.{is_digit, lower}
use Rattle.imap_types.specs.Texts.{Then, crlf}
use Rattle.imap_types.specs.Numbers.{value_from}
use Rattle.imap_types.specs.Items as items

-- ---- numbers

-- a digit more keeps a number within its bounds
abbrev pub next_fits : ℕ → ℕ → ℕ → Bool
next_fits v n c = nat_lt n 10 && nat_le (10 * v + (c - 48)) 4294967295 && not (10 * v + (c - 48) == 0 && n == 9)

-- one digit more
pub number_more : (v n c : ℕ) (t : List ℕ) → is_digit c ≡ true → NumberRest (10 * v + (c - 48)) (n + 1) t → NumberRest v n (c ∷ t)
number_more v n c t e h = record { each = (e, h.each); some = omega arith; few = omega (arith, h.few); most = h.most; not_zero = h.not_zero }

number_back : (v n c : ℕ) (t : List ℕ) → AfterMove (number_rule v n c) t → NumberRest v n (c ∷ t)
number_back v n c t h =
    let w : ℕ = 10 * v + (c - 48) in
    from_test (is_digit c)
    (cond (next_fits v n c) (move.One (sym.Item (item.Number w (n + 1)))) move.Fail)
    (cond (nat_lt 0 v) move.Yield move.Fail) t (NumberRest v n (c ∷ t))
    (λ e a. from_test (next_fits v n c) (move.One (sym.Item (item.Number w (n + 1)))) move.Fail t (NumberRest v n (c ∷ t))
    (λ f l. number_more v n c t e l)
    (λ f l. absurd l) a)
    (λ e a. from_test (nat_lt 0 v) move.Yield move.Fail t (NumberRest v n (c ∷ t)) (λ f l. absurd l) (λ f l. absurd l) a) h

-- nine digits and none left make no 0
zero_left : (w n : ℕ) (t : List ℕ) → 0 < value_from w t → n + (1 + length t) ≤ 10 → not (w == 0 && n == 9) ≡ true
zero_left w n [] e few = let ne : (w == 0) ≡ false = ne_eqb w 0 (λ q. omega (arith, e, q)) in rw ne refl
zero_left w n (c ∷ t) e few = let ne : (n == 9) ≡ false = ne_eqb n 9 (λ q. omega (arith, few)) in rw ne (grind arith)

-- the first digit of the rest
pub number_goes : (v n c : ℕ) (t : List ℕ) → NumberRest v n (c ∷ t) → (is_digit c ≡ true) × (next_fits v n c ≡ true) × NumberRest (10 * v + (c - 48)) (n + 1) t
number_goes v n c t h =
    let w : ℕ = 10 * v + (c - 48) in
    let few : n + (1 + length t) ≤ 10 = omega (arith, h.few) in
    let most : value_from w t ≤ 4294967295 = h.most in
    let mono = value_mono w t in (
      h.each.0,
      and_from _ _ (and_from _ _ (lt-ltb n 10 (omega (arith, few))) (le-leb w 4294967295 (omega (arith, most, mono)))) (zero_left w n t h.not_zero few),
      record { each = h.each.1; some = omega arith; few = omega (arith, few); most = h.most; not_zero = h.not_zero },
    )

number_forth : (v n c : ℕ) (t : List ℕ) → NumberRest v n (c ∷ t) → AfterMove (number_rule v n c) t
number_forth v n c t h =
    let k = number_goes v n c t h in
    at_true (is_digit c)
    (cond (next_fits v n c) (move.One (sym.Item (item.Number (10 * v + (c - 48)) (n + 1)))) move.Fail)
    (cond (nat_lt 0 v) move.Yield move.Fail) t k.0
    (at_true (next_fits v n c) (move.One (sym.Item (item.Number (10 * v + (c - 48)) (n + 1)))) move.Fail t k.1 k.2)

-- a stop is no digit
pub stop_no_digit : (c : ℕ) → stops c ≡ true → is_digit c ≡ false
stop_no_digit c e = grind arith

-- a nonzero number that is whole ends before a stop
pub number_ends : (v n c : ℕ) → NumberRest v n [] → stops c ≡ true → number_rule v n c ≡ move.Yield
number_ends v n c h e =
    cond-false (is_digit c) (cond (nat_lt n 10 && nat_le (10 * v + (c - 48)) 4294967295 && not (10 * v + (c - 48) == 0 && n == 9))
    (move.One (sym.Item (item.Number (10 * v + (c - 48)) (n + 1)))) move.Fail) (cond (nat_lt 0 v) move.Yield move.Fail) (stop_no_digit c e)
    ∙ cond-true (nat_lt 0 v) move.Yield move.Fail (lt-ltb 0 v h.not_zero)

-- a number that has come whole
pub number_none : (v n : ℕ) → ItemFits (item.Number v n) ≡ true → 0 < v → NumberRest v n []
number_none v n fits pos =
    let a = and_parts (nat_le n 10 && nat_le v 4294967295 && (nat_lt 0 n || v == 0)) (not (v == 0 && n == 10)) fits in
    let b = and_parts (nat_le n 10 && nat_le v 4294967295) (nat_lt 0 n || v == 0) a.0 in
    let d = and_parts (nat_le n 10) (nat_le v 4294967295) b.0 in
    let some : 0 < n = digits_some v n pos b.1 in
    record { each = tt; some = omega (arith, some); few = omega (arith, leb-true _ _ d.0); most = leb-true _ _ d.1; not_zero = pos }
  where
    digits_some : (v n : ℕ) → 0 < v → (nat_lt 0 n || v == 0) ≡ true → 0 < n
    digits_some v n pos e = grind arith

-- a number that yields has ended where it may
ended : (p q r : Bool) (s : Sym) → cond p (cond q (move.One s) move.Fail) (cond r move.Yield move.Fail) ≡ move.Yield → r ≡ true
ended true true r s e = absurd cc
ended true false r s e = absurd cc
ended false q true s e = refl
ended false q false s e = absurd cc

-- a nonzero number that fits and ends before an octet is whole
pub number_yields : (v n c : ℕ) → ItemFits (item.Number v n) ≡ true → number_rule v n c ≡ move.Yield → NumberRest v n []
number_yields v n c fits e =
    let pos : nat_lt 0 v ≡ true = ended (is_digit c) (next_fits v n c) (nat_lt 0 v) (sym.Item (item.Number (10 * v + (c - 48)) (n + 1))) e in
    number_none v n fits (ltb-true 0 v pos)

-- ---- long numbers

abbrev long_next : ℕ → ℕ → ℕ → Bool
long_next v n c = nat_lt n 19 && nat_le (10 * v + (c - 48)) 9223372036854775807

long_back : (v n c : ℕ) (t : List ℕ) → AfterMove (long_rule v n c) t → LongRest v n (c ∷ t)
long_back v n c t h =
    let w : ℕ = 10 * v + (c - 48) in
    from_test (is_digit c)
    (cond (long_next v n c) (move.One (sym.Item (item.Long w (n + 1)))) move.Fail)
    (cond (nat_lt 0 n) move.Yield move.Fail) t (LongRest v n (c ∷ t))
    (λ e a. from_test (long_next v n c) (move.One (sym.Item (item.Long w (n + 1)))) move.Fail t (LongRest v n (c ∷ t))
    (λ f l. record { each = (e, l.each); some = omega arith; few = omega (arith, l.few); most = l.most })
    (λ f l. absurd l) a)
    (λ e a. from_test (nat_lt 0 n) move.Yield move.Fail t (LongRest v n (c ∷ t)) (λ f l. absurd l) (λ f l. absurd l) a) h

long_forth : (v n c : ℕ) (t : List ℕ) → LongRest v n (c ∷ t) → AfterMove (long_rule v n c) t
long_forth v n c t h =
    let w : ℕ = 10 * v + (c - 48) in
    let few : n + (1 + length t) ≤ 19 = omega (arith, h.few) in
    let most : value_from w t ≤ 9223372036854775807 = h.most in
    let mono = value_mono w t in
    at_true (is_digit c)
    (cond (long_next v n c) (move.One (sym.Item (item.Long w (n + 1)))) move.Fail)
    (cond (nat_lt 0 n) move.Yield move.Fail) t h.each.0
    (at_true (long_next v n c) (move.One (sym.Item (item.Long w (n + 1)))) move.Fail t
    (and_from _ _ (lt-ltb n 19 (omega (arith, few))) (le-leb w 9223372036854775807 (omega (arith, most, mono))))
    (record { each = h.each.1; some = omega arith; few = omega (arith, few); most = h.most }))

-- a 63-bit number that is whole ends before a stop
pub long_ends : (v n c : ℕ) → LongRest v n [] → stops c ≡ true → long_rule v n c ≡ move.Yield
long_ends v n c h e =
    cond-false (is_digit c) (cond (long_next v n c) (move.One (sym.Item (item.Long (10 * v + (c - 48)) (n + 1)))) move.Fail) (cond (nat_lt 0 n) move.Yield move.Fail)
    (stop_no_digit c e)
    ∙ cond-true (nat_lt 0 n) move.Yield move.Fail (lt-ltb 0 n (let s = h.some in omega (arith, s)))

-- a 63-bit number that fits and ends before an octet is whole
pub long_yields : (v n c : ℕ) → ItemFits (item.Long v n) ≡ true → long_rule v n c ≡ move.Yield → LongRest v n []
long_yields v n c fits e =
    let b = and_parts (nat_le n 19 && nat_le v 9223372036854775807) (nat_lt 0 n || v == 0) fits in
    let a = and_parts (nat_le n 19) (nat_le v 9223372036854775807) b.0 in
    let some : nat_lt 0 n ≡ true = ended (is_digit c) (long_next v n c) (nat_lt 0 n) (sym.Item (item.Long (10 * v + (c - 48)) (n + 1))) e in
    record { each = tt; some = omega (arith, ltb-true 0 n some); few = omega (arith, leb-true _ _ a.0); most = leb-true _ _ a.1 }

long_open_back : (c : ℕ) (t : List ℕ) → AfterMove (item_rule item.LongOpen c) t → ItemLang item.LongOpen (c ∷ t)
long_open_back c t h = from_test (c == 40) (move.Two (sym.Item (item.Long 0 0)) (sym.Line (line.Fixed phrase.Close 0))) move.Fail t (ItemLang item.LongOpen (c ∷ t))
    (λ e k. (k.front, ap (λ (d : ℕ). d ∷ t) (eqb-true c 40 e) ∙ ap (λ (u : List ℕ). 40 ∷ u) (k.whole ∙ ap (λ (u : List ℕ). k.front ++ u) k.second), k.first))
    (λ e k. absurd k) h

long_open_forth : (c : ℕ) (t : List ℕ) → ItemLang item.LongOpen (c ∷ t) → AfterMove (item_rule item.LongOpen c) t
long_open_forth c t h =
    at_true (c == 40) (move.Two (sym.Item (item.Long 0 0)) (sym.Line (line.Fixed phrase.Close 0))) move.Fail t (eq-eqb c 40 (cons_head c 40 t (h.0 ++ 41 ∷ []) h.1))
    (record { front = h.0; back = 41 ∷ []; whole = cons_tail c 40 t (h.0 ++ 41 ∷ []) h.1; first = h.2; second = refl })

-- a 63-bit number in brackets isn't the empty text
pub long_open_none : ItemLang item.LongOpen [] → ⊥
long_open_none h = let e = h.1 in cc

-- ---- an item is a word, a space and a value

-- what the automaton reads from the word of an item on is an item
pub item_from : (t : List ℕ) → WordRest place.Item [] t → (i : items.Item) × items.IsItem i t
item_from t h = by h.says
  where
    by : WordSays place.Item [] ([] ++ map lower h.word) h.tail t → (i : items.Item) × items.IsItem i t
    by (inl k) = of_key k.0 k.2 k.3
      where
        of_key : (k : Key) → [] ++ map lower h.word ≡ key_text k → IsBehind place.Item k h.tail → (i : items.Item) × items.IsItem i t
        of_key key.Uid e b = (
          items.Uid (value_from 0 b.0),
          record {
            name = h.word;
            value = b.0;
            whole = h.whole ∙ ap (λ (u : List ℕ). h.word ++ u) b.1;
            item = (e, number_to b.0 b.2);
          },
        )
        of_key key.Flags e b = (items.Flags b.2.0, record { name = h.word; value = b.0; whole = h.whole ∙ ap (λ (u : List ℕ). h.word ++ u) b.1; item = (e, b.2.1) })
        of_key key.ModSeq e b = (
          items.ModSeq (value_from 0 b.2.0),
          record { name = h.word; value = b.0; whole = h.whole ∙ ap (λ (u : List ℕ). h.word ++ u) b.1; item = (e, (b.2.0, b.2.1, long_to b.2.0 b.2.2)) },
        )
        of_key key.InternalDate e b = (items.Date b.2.0, record { name = h.word; value = b.0; whole = h.whole ∙ ap (λ (u : List ℕ). h.word ++ u) b.1; item = (e, b.2.1) })
        of_key key.Size e b = (
          items.Size (value_from 0 b.0),
          record { name = h.word; value = b.0; whole = h.whole ∙ ap (λ (u : List ℕ). h.word ++ u) b.1; item = (e, long_to b.0 b.2) },
        )
        of_key key.Header e b = (items.Header b.2.0, record { name = h.word; value = b.0; whole = h.whole ∙ ap (λ (u : List ℕ). h.word ++ u) b.1; item = (inl e, b.2.1) })
        of_key key.HeaderPart e b = (items.Header b.2.0, record { name = h.word; value = b.0; whole = h.whole ∙ ap (λ (u : List ℕ). h.word ++ u) b.1; item = (inr e, b.2.1) })
        of_key key.Body e b = (items.Body b.2.0, record { name = h.word; value = b.0; whole = h.whole ∙ ap (λ (u : List ℕ). h.word ++ u) b.1; item = (inl e, b.2.1) })
        of_key key.BodyPart e b = (items.Body b.2.0, record { name = h.word; value = b.0; whole = h.whole ∙ ap (λ (u : List ℕ). h.word ++ u) b.1; item = (inr e, b.2.1) })
        of_key _ e b = absurd b
    by (inr s) = (items.Other, other_from t h.word h.tail h.whole h.each (let n = h.some in omega (arith, n)) h.longest s.0 s.1)

-- an item whose name is a key
named_to : (k : Key) (n v t : List ℕ) → Among k (keys place.Item) → t ≡ n ++ 32 ∷ v → map lower n ≡ key_text k → IsBehind place.Item k (32 ∷ v) → WordRest place.Item [] t
named_to k n v t m e is b = record {
  word = n;
  tail = 32 ∷ v;
  whole = e;
  each = named_atoms k n is;
  some = (let s = key_some k in let l = ap length is in let q = length-map n lower in omega (arith, s, l, q));
  longest = refl;
  says = inl (k, m, is, b);
}

-- an item is read by the automaton from its word on
pub item_to : (i : items.Item) (t : List ℕ) → items.IsItem i t → WordRest place.Item [] t
item_to (items.Uid n) t h = named_to key.Uid h.name h.value t (inl refl) h.whole h.item.0 (h.value, refl, number_from n h.value h.item.1)
item_to (items.Flags ns) t h = named_to key.Flags h.name h.value t (inr (inl refl)) h.whole h.item.0 (h.value, refl, (ns, h.item.1))
item_to (items.ModSeq n) t h = named_to key.ModSeq h.name h.value t (inr (inr (inl refl))) h.whole h.item.0
    (h.value, refl, (h.item.1.0, h.item.1.1, long_from n h.item.1.0 h.item.1.2))
item_to (items.Date seconds) t h = named_to key.InternalDate h.name h.value t (inr (inr (inr (inl refl)))) h.whole h.item.0 (h.value, refl, (seconds, h.item.1))
item_to (items.Size n) t h = named_to key.Size h.name h.value t (inr (inr (inr (inr (inl refl))))) h.whole h.item.0 (h.value, refl, long_from n h.value h.item.1)
item_to (items.Header s) t h = elim h.item.0 [
  | inl e ↦ named_to key.Header h.name h.value t (inr (inr (inr (inr (inr (inl refl)))))) h.whole e (h.value, refl, (s, h.item.1))
  | inr e ↦ named_to key.HeaderPart h.name h.value t (inr (inr (inr (inr (inr (inr (inl refl))))))) h.whole e (h.value, refl, (s, h.item.1))
]
item_to (items.Body s) t h = elim h.item.0 [
  | inl e ↦ named_to key.Body h.name h.value t (inr (inr (inr (inr (inr (inr (inr (inl refl)))))))) h.whole e (h.value, refl, (s, h.item.1))
  | inr e ↦ named_to key.BodyPart h.name h.value t (inr (inr (inr (inr (inr (inr (inr (inr (inl refl))))))))) h.whole e (h.value, refl, (s, h.item.1))
]
item_to items.Other t h = other_to t h

-- ---- Open and More

items_from : (t : List ℕ) → Then (Lang item_start) (Lang (sym.Item item.More)) t → (is : List items.Item) × items.IsItems is t
items_from t h =
    let i = item_from h.front h.first in
    (i.0 ∷ h.second.0, record { front = h.front; back = h.back; whole = h.whole; first = i.1; second = h.second.1 })

items_to : (is : List items.Item) (t : List ℕ) → items.IsItems is t → Then (Lang item_start) (Lang (sym.Item item.More)) t
items_to [] t h = absurd h
items_to (i ∷ is) t h = record { front = h.front; back = h.back; whole = h.whole; first = item_to i h.front h.first; second = (is, h.second) }

open_back : (c : ℕ) (t : List ℕ) → AfterMove (item_rule item.Open c) t → ItemLang item.Open (c ∷ t)
open_back c t h = from_test (c == 40) (move.Two item_start (sym.Item item.More)) move.Fail t (ItemLang item.Open (c ∷ t))
    (λ e k. let i = items_from t k in (i.0, t, ap (λ (d : ℕ). d ∷ t) (eqb-true c 40 e), i.1))
    (λ e k. absurd k) h

open_forth : (c : ℕ) (t : List ℕ) → ItemLang item.Open (c ∷ t) → AfterMove (item_rule item.Open c) t
open_forth c t h =
    at_true (c == 40) (move.Two item_start (sym.Item item.More)) move.Fail t (eq-eqb c 40 (cons_head c 40 t h.1 h.2))
    (items_to h.0 t (subst (items.IsItems h.0) (sym (cons_tail c 40 t h.1 h.2)) h.3))

more_back : (c : ℕ) (t : List ℕ) → AfterMove (item_rule item.More c) t → ItemLang item.More (c ∷ t)
more_back c t h = from_test (c == 32) (move.Two item_start (sym.Item item.More)) (cond (c == 41) (move.One (sym.Line (line.Fixed phrase.Crlf 0))) move.Fail) t
    (ItemLang item.More (c ∷ t))
    (λ e k.
    let i = item_from k.front k.first in
    (i.0 ∷ k.second.0, (k.front, k.back, ap (λ (d : ℕ). d ∷ t) (eqb-true c 32 e) ∙ ap (λ (u : List ℕ). 32 ∷ u) k.whole, i.1, k.second.1)))
    (λ e k. from_test (c == 41) (move.One (sym.Line (line.Fixed phrase.Crlf 0))) move.Fail t (ItemLang item.More (c ∷ t))
    (λ f l. ([], ap (λ (d : ℕ). d ∷ t) (eqb-true c 41 f) ∙ ap (λ (u : List ℕ). 41 ∷ u) l)) (λ f l. absurd l) k) h

more_at : (is : List items.Item) (c : ℕ) (t : List ℕ) → items.IsMore is (c ∷ t) → AfterMove (item_rule item.More c) t
more_at [] c t h =
    at_false (c == 32) (move.Two item_start (sym.Item item.More)) (cond (c == 41) (move.One (sym.Line (line.Fixed phrase.Crlf 0))) move.Fail) t
    (ap (λ (d : ℕ). d == 32) (cons_head c 41 t crlf h))
    (at_true (c == 41) (move.One (sym.Line (line.Fixed phrase.Crlf 0))) move.Fail t (eq-eqb c 41 (cons_head c 41 t crlf h)) (cons_tail c 41 t crlf h))
more_at (i ∷ is) c t h =
    at_true (c == 32) (move.Two item_start (sym.Item item.More)) (cond (c == 41) (move.One (sym.Line (line.Fixed phrase.Crlf 0))) move.Fail) t
    (eq-eqb c 32 (cons_head c 32 t (h.0 ++ h.1) h.2))
    (record { front = h.0; back = h.1; whole = cons_tail c 32 t (h.0 ++ h.1) h.2; first = item_to i h.0 h.3; second = (is, h.4) })

-- ---- the group

-- a symbol of the items of a FETCH reads an octet and any text that its rule still reads after it
pub item_back : (s : Item) (c : ℕ) (t : List ℕ) → AfterMove (item_rule s c) t → ItemLang s (c ∷ t)
item_back item.Open c t h = open_back c t h
item_back item.More c t h = more_back c t h
item_back (item.Number v n) c t h = number_back v n c t h
item_back item.LongOpen c t h = long_open_back c t h
item_back (item.Long v n) c t h = long_back v n c t h

-- where a symbol of the items of a FETCH reads an octet and a text, its rule still reads the text after the octet
pub item_forth : (s : Item) (c : ℕ) (t : List ℕ) → ItemLang s (c ∷ t) → AfterMove (item_rule s c) t
item_forth item.Open c t h = open_forth c t h
item_forth item.More c t h = more_at h.0 c t h.1
item_forth (item.Number v n) c t h = number_forth v n c t h
item_forth item.LongOpen c t h = long_open_forth c t h
item_forth (item.Long v n) c t h = long_forth v n c t h

more_none : (is : List items.Item) → items.IsMore is [] → ⊥
more_none [] h = cc
more_none (i ∷ is) h = let e = h.2 in cc

-- the items of a FETCH in brackets aren't the empty text
pub open_none : ItemLang item.Open [] → ⊥
open_none h = let e = h.2 in cc

-- what follows an item isn't the empty text
pub more_empty : ItemLang item.More [] → ⊥
more_empty h = more_none h.0 h.1

-- what follows an item begins with a stop
pub items_stop : (is : List items.Item) (c : ℕ) (t : List ℕ) → items.IsMore is (c ∷ t) → stops c ≡ true
items_stop [] c t h = is_true_at stops c 41 (cons_head c 41 t crlf h) refl
items_stop (i ∷ is) c t h = is_true_at stops c 32 (cons_head c 32 t (h.0 ++ h.1) h.2) refl

-- `UID 1`
pub one_item : (i : items.Item) × items.IsItem i (codes "uid 1")
one_item = (
  items.Uid 1,
  record {
    name = codes "uid";
    value = 49 ∷ [];
    whole = refl;
    item = (refl, (record { digits = (refl, tt); some = omega arith; few = omega arith; value = refl; most = omega arith }, omega arith));
  },
)

-- a nonzero number that fits so far has some rest
pub number_some : (v n : ℕ) → ItemFits (item.Number v n) ≡ true → (t : List ℕ) × NumberRest v n t
number_some v n fits =
    let a = and_parts (nat_le n 10 && nat_le v 4294967295 && (nat_lt 0 n || v == 0)) (not (v == 0 && n == 10)) fits in
    let b = and_parts (nat_le n 10 && nat_le v 4294967295) (nat_lt 0 n || v == 0) a.0 in
    let d = and_parts (nat_le n 10) (nat_le v 4294967295) b.0 in
    by v n (leb-true _ _ d.0) (leb-true _ _ d.1) b.1 a.1
  where
    by : (v n : ℕ) → n ≤ 10 → v ≤ 4294967295 → (nat_lt 0 n || v == 0) ≡ true → not (v == 0 && n == 10) ≡ true → (t : List ℕ) × NumberRest v n t
    by zero n few most e f = (
      49 ∷ [],
      record {
        each = (refl, tt);
        some = omega arith;
        few = (let q : n ≤ 9 = short n few f in omega (arith, q));
        most = omega arith;
        not_zero = omega arith;
      },
    )
      where
        short : (n : ℕ) → n ≤ 10 → not (0 == 0 && n == 10) ≡ true → n ≤ 9
        short n few f = grind arith
    by (suc v) n few most e f = ([], record { each = tt; some = (let q : 0 < n = digits v n e in omega (arith, q)); few = omega (arith, few); most = most; not_zero = omega arith })
      where
        digits : (v n : ℕ) → (nat_lt 0 n || suc v == 0) ≡ true → 0 < n
        digits v n e = grind arith

long_some : (v n : ℕ) → ItemFits (item.Long v n) ≡ true → (t : List ℕ) × LongRest v n t
long_some v n fits =
    let b = and_parts (nat_le n 19 && nat_le v 9223372036854775807) (nat_lt 0 n || v == 0) fits in
    let a = and_parts (nat_le n 19) (nat_le v 9223372036854775807) b.0 in
    by n (leb-true _ _ a.0) (leb-true _ _ a.1) b.1
  where
    by : (n : ℕ) → n ≤ 19 → v ≤ 9223372036854775807 → (nat_lt 0 n || v == 0) ≡ true → (t : List ℕ) × LongRest v n t
    by zero few most e = let z = eqb-true v 0 e in (48 ∷ [], record { each = (refl, tt); some = omega arith; few = omega arith; most = omega (arith, z) })
    by (suc n) few most e = ([], record { each = tt; some = omega arith; few = omega (arith, few); most = most })

-- each fitting symbol of the items of a FETCH reads some text
pub item_example : (s : Item) → ItemFits s ≡ true → (t : List ℕ) × ItemLang s t
item_example item.Open fits = (
  40 ∷ codes "uid 1" ++ 41 ∷ crlf,
  (one_item.0 ∷ [], codes "uid 1" ++ 41 ∷ crlf, refl, record { front = codes "uid 1"; back = 41 ∷ crlf; whole = refl; first = one_item.1; second = refl }),
)
item_example item.More fits = (41 ∷ crlf, ([], refl))
item_example (item.Number v n) fits = number_some v n fits
item_example item.LongOpen fits = (codes "(1)", (49 ∷ [], refl, record { each = (refl, tt); some = omega arith; few = omega arith; most = omega arith }))
item_example (item.Long v n) fits = long_some v n fits
