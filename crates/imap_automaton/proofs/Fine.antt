-- What each move keeps: registers, room, and which symbol may end open.
use Rattle.std.proofs.Common.{◌≡◌, ℕ, zero, suc, ◌+◌, ◌-◌, ◌*◌, ◌≤◌, Bool, true, false, not, ◌&&◌, ◌||◌, List, [], ◌∷◌, length, cond, Option, Some, None, refl, arith}
use Rattle.std.specs.Prelude.{◌==◌, nat_lt, nat_le, get_or, take}
use Rattle.std.proofs.lemmas.Bool.{and_parts, and_from, le-leb, ltb-true, lt-ltb, eqb-false}
use Rattle.imap_keywords.specs.declared.key.Key.{Key}
use Rattle.imap_keywords.specs.declared.key.Key.TheVariants as key
use Rattle.imap_keywords.specs.declared.key.WordPlace.{WordPlace}
use Rattle.imap_keywords.specs.declared.key.WordPlace.TheVariants as place
use Rattle.imap_keywords.specs.declared.phrase.Phrase.{Phrase}
use Rattle.imap_keywords.specs.declared.phrase.Phrase.TheVariants as phrase
use Rattle.imap_keywords.specs.declared.count.Pending.{Pending}
use Rattle.imap_keywords.specs.declared.count.Pending.TheVariants as pending
use Rattle.imap_automaton.specs.declared.sym.Line.{Line}
use Rattle.imap_automaton.specs.declared.sym.Line.TheVariants as line
use Rattle.imap_automaton.specs.declared.sym.Free.TheVariants as free
use Rattle.imap_automaton.specs.declared.sym.Item.TheVariants as item
use Rattle.imap_automaton.specs.declared.sym.Names.TheVariants as names
use Rattle.imap_automaton.specs.declared.sym.Date.TheVariants as date
use Rattle.imap_automaton.specs.declared.sym.ItemName.{ItemName}
use Rattle.imap_automaton.specs.declared.sym.ItemName.TheVariants as name
use Rattle.imap_automaton.specs.ItemNameRules.{may_end, in_section, takes, next_name, name_from, item_name_rule}
use Rattle.imap_automaton.specs.declared.sym.Words.TheVariants as words
use Rattle.imap_automaton.specs.declared.sym.Set.TheVariants as set
use Rattle.imap_automaton.specs.declared.sym.Str.{Str}
use Rattle.imap_automaton.specs.declared.sym.Str.TheVariants as str
use Rattle.imap_automaton.specs.declared.sym.Value.{Value}
use Rattle.imap_automaton.specs.declared.sym.Value.TheVariants as value
use Rattle.imap_automaton.specs.declared.sym.Folder.{Folder}
use Rattle.imap_automaton.specs.declared.sym.Folder.TheVariants as folder
use Rattle.imap_automaton.specs.declared.sym.Sym.{Sym}
use Rattle.imap_automaton.specs.declared.sym.Sym.TheVariants as sym
use Rattle.pushdown.specs.declared.moves.Move.{Move}
use Rattle.pushdown.specs.declared.moves.Move.TheVariants as move
use Rattle.imap_keywords.specs.Counts.{pend}
use Rattle.imap_keywords.specs.Keys.{key_text, phrase_text, keys, first_key, in_word, goes_on, next_key, whole_key, is_among}
use Rattle.imap_automaton.specs.FreeRules.{free_end, text_rule}
use Rattle.imap_automaton.specs.WordRules.{rest_rule, spaced_rule, end_rule, behind_key, stray, word_goes, word_ends, word_rule}
use Rattle.imap_automaton.specs.ItemRules.{number_rule, long_rule}
use Rattle.imap_automaton.specs.LineRules.{word_start, line_rule, fixed_rule, folded_rule}
use Rattle.imap_automaton.specs.DateRules.{month_start, day_octet, time_octet, day_rule, time_rule}
use Rattle.imap_automaton.specs.SetRules.{words_more, set_ends, set_number, set_rule}
use Rattle.imap_automaton.specs.StringRules.{flat_start, alone, before, count_rule, string_rule}
use Rattle.imap_automaton.specs.ValueRules.{inner_rule, closes, value_rule}
use Rattle.imap_automaton.specs.FolderRules.{folder_rule}
use Rattle.imap_automaton.specs.Rules.{rule_of}
use Rattle.imap_automaton.specs.Fits.{SymFits}
use Rattle.imap_keywords.specs.Counts.{PendFits}
use Rattle.imap_automaton.specs.Flow.{ends_open, begins, may_yield, need, sym_left, is_octets}
use Rattle.imap_automaton.proofs.ItemNameEdges.{takes_small}
use Rattle.imap_keywords.proofs.KeyLemmas.{find_some, among_keys, goes_to, among_is}
use Rattle.imap_types.specs.Octets.{is_digit, is_text, is_word, is_atom, lower}
use Rattle.imap_types.specs.Texts.{Each}

-- what a move may be of a symbol that ends open or not, may yield or not, has this room, at an octet outside a literal
-- or not
abbrev pub fine : Bool → Bool → ℕ → Bool → Move Sym → Bool
fine ends yields room small move.Fail = true
fine ends yields room small move.Yield = yields
fine ends yields room small move.End = small
fine ends yields room small (move.One a) = small && SymFits a && (not (ends_open a) || ends) && nat_le (need a) room && nat_le (sym_left a) 50000000
fine ends yields room small (move.Two a b) =
    small && SymFits a && SymFits b && (not (ends_open a) || begins b) && (not (ends_open b) || ends) && nat_le (need a + 1) room && nat_le (need b) room
    && nat_le (sym_left a + sym_left b) 50000000

-- the move that a test chooses is fine if each of the two is where it is chosen
pub fine_by : (o y : Bool) (r : ℕ) (s b : Bool) (m n : Move Sym) → (b ≡ true → fine o y r s m ≡ true) → (b ≡ false → fine o y r s n ≡ true) → fine o y r s (cond b m n) ≡ true
fine_by o y r s true m n f g = f refl
fine_by o y r s false m n f g = g refl

-- ---- text with literals

pend_fits : (s : Pending) (c : ℕ) → PendFits s ≡ true → PendFits (pend s c) ≡ true
pend_fits pending.Nothing c e = grind arith
pend_fits (pending.Open v n) c e = grind arith
pend_fits (pending.Closed v) c e = grind arith

small_text : (c : ℕ) → is_text c ≡ true → nat_lt c 256 ≡ true
small_text c e = grind arith

-- an octet that is a given one
small_at : (n c : ℕ) → nat_lt n 256 ≡ true → (c == n) ≡ true → nat_lt c 256 ≡ true
small_at n c l e = grind arith

-- a digit
small_digit : (c : ℕ) → is_digit c ≡ true → nat_lt c 256 ≡ true
small_digit c e = grind arith

end_fine : (r : ℕ) (s : Pending) (c : ℕ) → 2 ≤ r → (c == 13) ≡ true → fine false false r (nat_lt c 256) (free_end s) ≡ true
end_fine r pending.Nothing c le e = and_from _ _ (and_from _ _ (and_from _ _ (and_from _ _ (small_at 13 c refl e) refl) refl) (le-leb 1 r (omega arith))) refl
end_fine r (pending.Open v n) c le e = and_from _ _ (and_from _ _ (and_from _ _ (and_from _ _ (small_at 13 c refl e) refl) refl) (le-leb 1 r (omega arith))) refl
end_fine r (pending.Closed v) c le e = fine_by false false r (nat_lt c 256) (nat_le v 50000000)
    (move.Two (sym.Free (free.Break v)) (sym.Free (free.Text pending.Nothing))) move.Fail
    (λ f. and_from _ _ (and_from _ _ (and_from _ _ (and_from _ _ (and_from _ _ (and_from _ _ (and_from _ _ (small_at 13 c refl e) f) refl) refl) refl) (le-leb 2 r le))
    (le-leb 2 r le)) refl)
    (λ f. refl)

text_fine : (r : ℕ) (s : Pending) (c : ℕ) → 2 ≤ r → PendFits s ≡ true → fine false false r (nat_lt c 256) (text_rule s c) ≡ true
text_fine r s c le fits = fine_by false false r (nat_lt c 256) (c == 13) (free_end s) (cond (is_text c) (move.One (sym.Free (free.Text (pend s c)))) move.Fail)
    (λ e. end_fine r s c le e)
    (λ e. fine_by false false r (nat_lt c 256) (is_text c) (move.One (sym.Free (free.Text (pend s c)))) move.Fail
    (λ f. and_from _ _ (and_from _ _ (and_from _ _ (and_from _ _ (small_text c f) (pend_fits s c fits)) refl) (le-leb 2 r le)) refl)
    (λ f. refl))

-- ---- words

rest_fine : (o : Bool) (r : ℕ) (c : ℕ) → 1 ≤ r → fine o false r (nat_lt c 256) (rest_rule c) ≡ true
rest_fine o r c le = fine_by o false r (nat_lt c 256) (c == 32) (move.One (sym.Line line.Text)) (cond (c == 13) (move.One (sym.Line (line.Fixed phrase.Crlf 1))) move.Fail)
    (λ e. and_from _ _ (and_from _ _ (and_from _ _ (and_from _ _ (small_at 32 c refl e) refl) refl) (le-leb 1 r le)) refl)
    (λ e. fine_by o false r (nat_lt c 256) (c == 13) (move.One (sym.Line (line.Fixed phrase.Crlf 1))) move.Fail
    (λ f. and_from _ _ (and_from _ _ (and_from _ _ (and_from _ _ (small_at 13 c refl f) refl) refl) (le-leb 1 r le)) refl)
    (λ f. refl))

spaced_fine : (o : Bool) (r : ℕ) (s : Sym) (c : ℕ) → SymFits s ≡ true → (not (ends_open s) || o) ≡ true → nat_le (need s) r ≡ true → nat_le (sym_left s) 50000000 ≡ true
    → fine o false r (nat_lt c 256) (spaced_rule (move.One s) c) ≡ true
spaced_fine o r s c fits ends room left = fine_by o false r (nat_lt c 256) (c == 32) (move.One s) move.Fail
    (λ e. and_from _ _ (and_from _ _ (and_from _ _ (and_from _ _ (small_at 32 c refl e) fits) ends) room) left) (λ e. refl)

end_rule_fine : (r c : ℕ) → 1 ≤ r → fine false false r (nat_lt c 256) (end_rule c) ≡ true
end_rule_fine r c le = fine_by false false r (nat_lt c 256) (c == 13) (move.One (sym.Line (line.Fixed phrase.Crlf 1))) move.Fail
    (λ f. and_from _ _ (and_from _ _ (and_from _ _ (and_from _ _ (small_at 13 c refl f) refl) refl) (le-leb 1 r le)) refl)
    (λ f. refl)

words_more_fine : (r c : ℕ) → 1 ≤ r → fine false false r (nat_lt c 256) (words_more c) ≡ true
words_more_fine r c le = fine_by false false r (nat_lt c 256) (c == 32) (move.One (sym.Words words.First))
    (cond (c == 13) (move.One (sym.Line (line.Fixed phrase.Crlf 1))) move.Fail)
    (λ e. and_from _ _ (and_from _ _ (and_from _ _ (and_from _ _ (small_at 32 c refl e) refl) refl) (le-leb 1 r le)) refl)
    (λ e. end_rule_fine r c le)

-- dates

by_test : {P : Type 0} (b p q : Bool) → cond b p q ≡ true → (p ≡ true → P) → (q ≡ true → P) → P
by_test true p q e f g = f e
by_test false p q e f g = g e

day_small : (at c : ℕ) → day_octet at c ≡ true → nat_lt c 256 ≡ true
day_small at c e = by_test (at == 0) (c == 32 || is_digit c) (cond (at == 1) (is_digit c) (c == 45)) e (λ f. one c f)
    (λ f. by_test (at == 1) (is_digit c) (c == 45) f (λ g. small_digit c g) (λ g. small_at 45 c refl g))
  where
    one : (c : ℕ) → (c == 32 || is_digit c) ≡ true → nat_lt c 256 ≡ true
    one c e = grind arith

time_small : (at c : ℕ) → time_octet at c ≡ true → nat_lt c 256 ≡ true
time_small at c e =
    let p3 : Bool = cond (at == 20) (c == 34) (is_digit c) in
    let p2 : Bool = cond (at == 15) (c == 43 || c == 45) p3 in
    let p1 : Bool = cond (at == 8 || at == 11) (c == 58) p2 in
    let p0 : Bool = cond (at == 5 || at == 14) (c == 32) p1 in
    by_test (at == 0) (c == 45) p0 e (λ f. small_at 45 c refl f)
    (λ f. by_test (at == 5 || at == 14) (c == 32) p1 f (λ g. small_at 32 c refl g)
    (λ g. by_test (at == 8 || at == 11) (c == 58) p2 g (λ h. small_at 58 c refl h)
    (λ h. by_test (at == 15) (c == 43 || c == 45) p3 h (λ i. sign c i)
    (λ i. by_test (at == 20) (c == 34) (is_digit c) i (λ j. small_at 34 c refl j) (λ j. small_digit c j)))))
  where
    sign : (c : ℕ) → (c == 43 || c == 45) ≡ true → nat_lt c 256 ≡ true
    sign c e = grind arith

next_lt : (n at : ℕ) → nat_lt at n ≡ true → (at + 1 == n) ≡ false → nat_lt (at + 1) n ≡ true
next_lt n at l e = let ne : at + 1 ≡ n → ⊥ = eqb-false _ _ e in lt-ltb _ _ (omega (arith, ltb-true _ _ l, ne))

day_fine : (at c : ℕ) → fine false false 1 (nat_lt c 256) (day_rule at c) ≡ true
day_fine at c = fine_by false false 1 (nat_lt c 256) (nat_lt at 3 && day_octet at c) (cond (at + 1 == 3) (move.One month_start) (move.One (sym.Date (date.Day (at + 1))))) move.Fail
    (λ e.
    let q = and_parts (nat_lt at 3) (day_octet at c) e in
    let small = day_small at c q.1 in
    fine_by false false 1 (nat_lt c 256) (at + 1 == 3) (move.One month_start) (move.One (sym.Date (date.Day (at + 1))))
    (λ f. and_from _ _ (and_from _ _ (and_from _ _ (and_from _ _ small refl) refl) refl) refl)
    (λ f. and_from _ _ (and_from _ _ (and_from _ _ (and_from _ _ small (next_lt 3 at q.0 f)) refl) refl) refl))
    (λ e. refl)

time_fine : (at c : ℕ) → fine false false 1 (nat_lt c 256) (time_rule at c) ≡ true
time_fine at c = fine_by false false 1 (nat_lt c 256) (nat_lt at 21 && time_octet at c) (cond (at + 1 == 21) move.End (move.One (sym.Date (date.Time (at + 1))))) move.Fail
    (λ e.
    let q = and_parts (nat_lt at 21) (time_octet at c) e in
    let small = time_small at c q.1 in
    fine_by false false 1 (nat_lt c 256) (at + 1 == 21) move.End (move.One (sym.Date (date.Time (at + 1))))
    (λ f. small)
    (λ f. and_from _ _ (and_from _ _ (and_from _ _ (and_from _ _ small (next_lt 21 at q.0 f)) refl) refl) refl))
    (λ e. refl)

-- names of other items

name_fine : (s : ItemName) (c : ℕ) → fine true false 2 (nat_lt c 256) (item_name_rule s c) ≡ true
name_fine s c = fine_by true false 2 (nat_lt c 256) (c == 32 && may_end s) (move.One (sym.Value value.Start))
    (cond (c == 34 && in_section s) (move.Two (sym.Str str.Quoted) (sym.ItemName name.Section)) (cond (takes s c) (move.One (sym.ItemName (next_name s c))) move.Fail))
    (λ e. one_fine c (small_at 32 c refl (and_parts (c == 32) (may_end s) e).0))
    (λ e. fine_by true false 2 (nat_lt c 256) (c == 34 && in_section s) (move.Two (sym.Str str.Quoted) (sym.ItemName name.Section))
    (cond (takes s c) (move.One (sym.ItemName (next_name s c))) move.Fail)
    (λ f. two_fine c (small_at 34 c refl (and_parts (c == 34) (in_section s) f).0))
    (λ f. fine_by true false 2 (nat_lt c 256) (takes s c) (move.One (sym.ItemName (next_name s c))) move.Fail (λ g. next_fine (next_name s c) c (takes_small s c g)) (λ g. refl)))
  where
    one_fine : (c : ℕ) → nat_lt c 256 ≡ true → fine true false 2 (nat_lt c 256) (move.One (sym.Value value.Start)) ≡ true
    one_fine c e = rw e refl

    two_fine : (c : ℕ) → nat_lt c 256 ≡ true → fine true false 2 (nat_lt c 256) (move.Two (sym.Str str.Quoted) (sym.ItemName name.Section)) ≡ true
    two_fine c e = rw e refl

    next_fine : (n : ItemName) (c : ℕ) → nat_lt c 256 ≡ true → fine true false 2 (nat_lt c 256) (move.One (sym.ItemName n)) ≡ true
    next_fine n c e = rw e refl

behind_fine : (p : WordPlace) (k q : Key) (at c : ℕ) → fine (ends_open (sym.Word p q at)) false (need (sym.Word p q at)) (nat_lt c 256) (behind_key p k c) ≡ true
behind_fine place.Tagged key.Ok q at c = rest_fine false 4 c (omega arith)
behind_fine place.Tagged key.No q at c = rest_fine false 4 c (omega arith)
behind_fine place.Tagged key.Bad q at c = rest_fine false 4 c (omega arith)
behind_fine place.Plain key.Ok q at c = rest_fine false 4 c (omega arith)
behind_fine place.Plain key.No q at c = rest_fine false 4 c (omega arith)
behind_fine place.Plain key.Bad q at c = rest_fine false 4 c (omega arith)
behind_fine place.Plain key.Preauth q at c = rest_fine false 4 c (omega arith)
behind_fine place.Plain key.Bye q at c = rest_fine false 4 c (omega arith)
behind_fine place.Plain key.Capability q at c = words_more_fine 4 c (omega arith)
behind_fine place.Plain key.Enabled q at c = words_more_fine 4 c (omega arith)
behind_fine place.Plain key.Flags q at c = fine_by false false 4 (nat_lt c 256) (c == 32) (move.Two (sym.Names names.Open) (sym.Line (line.Fixed phrase.Crlf 0))) move.Fail
    (λ e. pair_fine c (small_at 32 c refl e)) (λ e. refl)
  where
    pair_fine : (c : ℕ) → nat_lt c 256 ≡ true → fine false false 4 (nat_lt c 256) (move.Two (sym.Names names.Open) (sym.Line (line.Fixed phrase.Crlf 0))) ≡ true
    pair_fine c e = rw e refl
behind_fine place.Plain key.List q at c = fine_by false false 4 (nat_lt c 256) (c == 32) (move.Two (sym.Names names.Open) (sym.Folder folder.Attributes)) move.Fail
    (λ e. pair_fine c (small_at 32 c refl e)) (λ e. refl)
  where
    pair_fine : (c : ℕ) → nat_lt c 256 ≡ true → fine false false 4 (nat_lt c 256) (move.Two (sym.Names names.Open) (sym.Folder folder.Attributes)) ≡ true
    pair_fine c e = rw e refl
behind_fine place.Plain key.Status q at c = fine_by false false 4 (nat_lt c 256) (c == 32) (move.Two (sym.Str str.AString) (sym.Folder folder.Counts)) move.Fail
    (λ e. pair_fine c (small_at 32 c refl e)) (λ e. refl)
  where
    pair_fine : (c : ℕ) → nat_lt c 256 ≡ true → fine false false 4 (nat_lt c 256) (move.Two (sym.Str str.AString) (sym.Folder folder.Counts)) ≡ true
    pair_fine c e = rw e refl
behind_fine place.Plain key.Vanished q at c = spaced_fine false 4 (sym.Set set.Open) c refl refl refl refl
behind_fine place.Numbered key.Exists q at c = end_rule_fine 4 c (omega arith)
behind_fine place.Numbered key.Expunge q at c = end_rule_fine 4 c (omega arith)
behind_fine place.Numbered key.Fetch q at c = spaced_fine false 4 (sym.Item item.Open) c refl refl refl refl
behind_fine place.Item key.Uid q at c = spaced_fine true 2 (sym.Item (item.Number 0 0)) c refl refl refl refl
behind_fine place.Item key.Flags q at c = spaced_fine true 2 (sym.Names names.Open) c refl refl refl refl
behind_fine place.Item key.ModSeq q at c = spaced_fine true 2 (sym.Item item.LongOpen) c refl refl refl refl
behind_fine place.Item key.InternalDate q at c = spaced_fine true 2 (sym.Date date.Open) c refl refl refl refl
behind_fine place.Item key.Size q at c = spaced_fine true 2 (sym.Item (item.Long 0 0)) c refl refl refl refl
behind_fine place.Item key.Header q at c = spaced_fine true 2 (sym.Str str.NString) c refl refl refl refl
behind_fine place.Item key.HeaderPart q at c = spaced_fine true 2 (sym.Str str.NString) c refl refl refl refl
behind_fine place.Item key.Body q at c = spaced_fine true 2 (sym.Str str.NString) c refl refl refl refl
behind_fine place.Item key.BodyPart q at c = spaced_fine true 2 (sym.Str str.NString) c refl refl refl refl
behind_fine place.Month k q at c = time_fine 0 c
behind_fine _ _ q at c = refl

stray_fine : (p : WordPlace) (q : Key) (at c : ℕ) → fine (ends_open (sym.Word p q at)) false (need (sym.Word p q at)) (nat_lt c 256) (stray p q at c) ≡ true
stray_fine place.Tagged q at c = refl
stray_fine place.Plain q at c = text_fine 4 pending.Nothing c (omega arith) refl
stray_fine place.Numbered q at c = text_fine 4 pending.Nothing c (omega arith) refl
stray_fine place.Item q at c = name_fine (name_from name.Plain (take at (key_text q))) c
stray_fine place.Month q at c = refl

in_word_small : (p : WordPlace) (c : ℕ) → in_word p c ≡ true → nat_lt c 256 ≡ true
in_word_small place.Tagged c e = grind arith
in_word_small place.Plain c e = grind arith
in_word_small place.Numbered c e = grind arith
in_word_small place.Item c e = grind arith
in_word_small place.Month c e = grind arith

same_word : (p : WordPlace) (k q : Key) (at n : ℕ) → (ends_open (sym.Word p k at) ≡ ends_open (sym.Word p q n)) × (need (sym.Word p k at) ≡ need (sym.Word p q n))
same_word place.Tagged k q at n = (refl, refl)
same_word place.Plain k q at n = (refl, refl)
same_word place.Numbered k q at n = (refl, refl)
same_word place.Item k q at n = (refl, refl)
same_word place.Month k q at n = (refl, refl)

not_or_self : (a b : Bool) → a ≡ b → (not a || b) ≡ true
not_or_self a b e = grind arith

goes_fine : (p : WordPlace) (k : Key) (at c : ℕ) (o : Option Key) → is_among k (keys p) ≡ true → next_key p k at (lower c) ≡ o → in_word p c ≡ true
    → fine (ends_open (sym.Word p k at)) false (need (sym.Word p k at)) (nat_lt c 256) (word_goes p k at c o) ≡ true
goes_fine p k at c (Some x) m e i =
    let f = find_some (goes_on k at (lower c)) (k ∷ keys p) x e in
    let g = goes_to k x at (lower c) f.0 in
    let w = same_word p x k (at + 1) at in
    and_from _ _ (and_from _ _ (and_from _ _ (and_from _ _ (in_word_small p c i) (and_from _ _ (le-leb _ _ g.1) (among_is x (keys p) (among_keys p k x m f.1))))
    (not_or_self _ _ w.0)) (le-leb (need (sym.Word p x (at + 1))) (need (sym.Word p k at)) (omega (arith, w.1)))) refl
goes_fine p k at c None m e i = stray_fine p k at c

ends_fine : (p : WordPlace) (k : Key) (at c : ℕ) (o : Option Key) → fine (ends_open (sym.Word p k at)) false (need (sym.Word p k at)) (nat_lt c 256) (word_ends p k at c o) ≡ true
ends_fine p k at c (Some x) = behind_fine p x k at c
ends_fine p k at c None = stray_fine p k at c

word_fine : (p : WordPlace) (k : Key) (at c : ℕ) → is_among k (keys p) ≡ true
    → fine (ends_open (sym.Word p k at)) false (need (sym.Word p k at)) (nat_lt c 256) (word_rule p k at c) ≡ true
word_fine p k at c m = fine_by (ends_open (sym.Word p k at)) false (need (sym.Word p k at)) (nat_lt c 256) (in_word p c) (word_goes p k at c (next_key p k at (lower c)))
    (cond (at == 0) move.Fail (word_ends p k at c (whole_key p k at)))
    (λ i. goes_fine p k at c (next_key p k at (lower c)) m refl i)
    (λ i. fine_by (ends_open (sym.Word p k at)) false (need (sym.Word p k at)) (nat_lt c 256) (at == 0) move.Fail (word_ends p k at c (whole_key p k at)) (λ z. refl)
    (λ z. ends_fine p k at c (whole_key p k at)))

-- ---- lines

abbrev is_low : ℕ → Bool
is_low c = nat_lt c 128

low_at : (t : List ℕ) (at : ℕ) → Each is_low t → nat_lt (get_or t at 0) 128 ≡ true
low_at [] at h = refl
low_at (c ∷ t) zero h = h.0
low_at (c ∷ t) (suc at) h = low_at t at h.1

phrase_low : (p : Phrase) → Each is_low (phrase_text p)
phrase_low phrase.Space = (refl, tt)
phrase_low phrase.Crlf = (refl, (refl, tt))
phrase_low phrase.Close = (refl, tt)
phrase_low phrase.Quote = (refl, tt)
phrase_low phrase.Nil = (refl, (refl, (refl, tt)))
phrase_low phrase.Earlier = (refl, (refl, (refl, (refl, (refl, (refl, (refl, (refl, (refl, (refl, tt))))))))))

octet_small : (p : Phrase) (at c : ℕ) → (c == get_or (phrase_text p) at 0) ≡ true → nat_lt c 256 ≡ true
octet_small p at c e = small c (get_or (phrase_text p) at 0) (low_at (phrase_text p) at (phrase_low p)) e
  where
    small : (c d : ℕ) → nat_lt d 128 ≡ true → (c == d) ≡ true → nat_lt c 256 ≡ true
    small c d f e = grind arith

folded_small : (p : Phrase) (at c : ℕ) → (lower c == get_or (phrase_text p) at 0) ≡ true → nat_lt c 256 ≡ true
folded_small p at c e = small c (get_or (phrase_text p) at 0) (low_at (phrase_text p) at (phrase_low p)) e
  where
    small : (c d : ℕ) → nat_lt d 128 ≡ true → (lower c == d) ≡ true → nat_lt c 256 ≡ true
    small c d f e = grind arith

fixed_fine : (p : Phrase) (at c : ℕ) → SymFits (sym.Line (line.Fixed p at)) ≡ true → fine false false 1 (nat_lt c 256) (fixed_rule p at c) ≡ true
fixed_fine p at c fits = fine_by false false 1 (nat_lt c 256) (nat_lt at (length (phrase_text p)) && c == get_or (phrase_text p) at 0)
    (cond (at + 1 == length (phrase_text p)) move.End (move.One (sym.Line (line.Fixed p (at + 1))))) move.Fail
    (λ e.
    let q = and_parts (nat_lt at (length (phrase_text p))) (c == get_or (phrase_text p) at 0) e in
    let small = octet_small p at c q.1 in
    fine_by false false 1 (nat_lt c 256) (at + 1 == length (phrase_text p)) move.End (move.One (sym.Line (line.Fixed p (at + 1)))) (λ f. small)
    (λ f. let ne : at + 1 ≡ length (phrase_text p) → ⊥ = eqb-false _ _ f in
    and_from _ _ (and_from _ _ (and_from _ _ (and_from _ _ small (lt-ltb _ _ (omega (arith, ltb-true _ _ q.0, ne)))) refl) refl) refl))
    (λ e. refl)

folded_fine : (p : Phrase) (at c : ℕ) → SymFits (sym.Line (line.Folded p at)) ≡ true → fine false false 1 (nat_lt c 256) (folded_rule p at c) ≡ true
folded_fine p at c fits = fine_by false false 1 (nat_lt c 256) (nat_lt at (length (phrase_text p)) && lower c == get_or (phrase_text p) at 0)
    (cond (at + 1 == length (phrase_text p)) move.End (move.One (sym.Line (line.Folded p (at + 1))))) move.Fail
    (λ e.
    let q = and_parts (nat_lt at (length (phrase_text p))) (lower c == get_or (phrase_text p) at 0) e in
    let small = folded_small p at c q.1 in
    fine_by false false 1 (nat_lt c 256) (at + 1 == length (phrase_text p)) move.End (move.One (sym.Line (line.Folded p (at + 1)))) (λ f. small)
    (λ f. let ne : at + 1 ≡ length (phrase_text p) → ⊥ = eqb-false _ _ f in
    and_from _ _ (and_from _ _ (and_from _ _ (and_from _ _ small (lt-ltb _ _ (omega (arith, ltb-true _ _ q.0, ne)))) refl) refl) refl))
    (λ e. refl)

line_fine : (s : Line) (c : ℕ) → SymFits (sym.Line s) ≡ true → fine (ends_open (sym.Line s)) false (need (sym.Line s)) (nat_lt c 256) (line_rule s c) ≡ true
line_fine line.Start c fits = grind arith
line_fine (line.Tag n) c fits = grind arith
line_fine line.Untagged c fits = fine_by false false 4 (nat_lt c 256) (is_digit c) (move.One (sym.Line (line.Sequence (c - 48) 1)))
    (word_rule place.Plain (first_key place.Plain) 0 c) (λ d. digit_fine c d) (λ d. word_fine place.Plain key.Ok 0 c refl)
  where
    digit_fine : (c : ℕ) → is_digit c ≡ true → fine false false 4 (nat_lt c 256) (move.One (sym.Line (line.Sequence (c - 48) 1))) ≡ true
    digit_fine c d = grind arith
line_fine (line.Sequence v n) c fits = fine_by false false 4 (nat_lt c 256) (is_digit c && nat_lt n 10 && nat_le (10 * v + (c - 48)) 4294967295)
    (move.One (sym.Line (line.Sequence (10 * v + (c - 48)) (n + 1)))) (cond (c == 32) (move.One (word_start place.Numbered)) (text_rule pending.Nothing c))
    (λ d. digits_fine v n c d)
    (λ d. fine_by false false 4 (nat_lt c 256) (c == 32) (move.One (word_start place.Numbered)) (text_rule pending.Nothing c) (λ e. space_fine c e)
    (λ e. text_fine 4 pending.Nothing c (omega arith) refl))
  where
    digits_fine : (v n c : ℕ) → (is_digit c && nat_lt n 10 && nat_le (10 * v + (c - 48)) 4294967295) ≡ true
        → fine false false 4 (nat_lt c 256) (move.One (sym.Line (line.Sequence (10 * v + (c - 48)) (n + 1)))) ≡ true
    digits_fine v n c d = grind arith

    space_fine : (c : ℕ) → (c == 32) ≡ true → fine false false 4 (nat_lt c 256) (move.One (word_start place.Numbered)) ≡ true
    space_fine c e = grind arith
line_fine line.Text c fits = grind arith
line_fine (line.Fixed p at) c fits = fixed_fine p at c fits
line_fine (line.Folded p at) c fits = folded_fine p at c fits

-- ---- numbers

digits_fit : (n w : ℕ) → (nat_lt n 10 && nat_le w 4294967295 && not (w == 0 && n == 9)) ≡ true → SymFits (sym.Item (item.Number w (n + 1))) ≡ true
digits_fit n w e = grind arith

number_fine : (v n c : ℕ) → fine true true 1 (nat_lt c 256) (number_rule v n c) ≡ true
number_fine v n c =
    let w : ℕ = 10 * v + (c - 48) in
    fine_by true true 1 (nat_lt c 256) (is_digit c)
    (cond (nat_lt n 10 && nat_le w 4294967295 && not (w == 0 && n == 9)) (move.One (sym.Item (item.Number w (n + 1)))) move.Fail)
    (cond (nat_lt 0 v) move.Yield move.Fail)
    (λ d. fine_by true true 1 (nat_lt c 256) (nat_lt n 10 && nat_le w 4294967295 && not (w == 0 && n == 9)) (move.One (sym.Item (item.Number w (n + 1)))) move.Fail
    (λ e. and_from _ _ (and_from _ _ (and_from _ _ (and_from _ _ (small_digit c d) (digits_fit n w e)) refl) refl) refl)
    (λ e. refl))
    (λ d. fine_by true true 1 (nat_lt c 256) (nat_lt 0 v) move.Yield move.Fail (λ e. refl) (λ e. refl))

long_fits : (n w : ℕ) → (nat_lt n 19 && nat_le w 9223372036854775807) ≡ true → SymFits (sym.Item (item.Long w (n + 1))) ≡ true
long_fits n w e = grind arith

long_fine : (v n c : ℕ) → fine true true 1 (nat_lt c 256) (long_rule v n c) ≡ true
long_fine v n c =
    let w : ℕ = 10 * v + (c - 48) in
    fine_by true true 1 (nat_lt c 256) (is_digit c)
    (cond (nat_lt n 19 && nat_le w 9223372036854775807) (move.One (sym.Item (item.Long w (n + 1)))) move.Fail)
    (cond (nat_lt 0 n) move.Yield move.Fail)
    (λ d. fine_by true true 1 (nat_lt c 256) (nat_lt n 19 && nat_le w 9223372036854775807) (move.One (sym.Item (item.Long w (n + 1)))) move.Fail
    (λ e. and_from _ _ (and_from _ _ (and_from _ _ (and_from _ _ (small_digit c d) (long_fits n w e)) refl) refl) refl)
    (λ e. refl))
    (λ d. fine_by true true 1 (nat_lt c 256) (nat_lt 0 n) move.Yield move.Fail (λ e. refl) (λ e. refl))

-- ---- sets

set_ends_fine : (second : Bool) (c : ℕ) → fine false false 1 (nat_lt c 256) (set_ends second c) ≡ true
set_ends_fine true c = grind arith
set_ends_fine false c = grind arith

set_number_fine : (v n : ℕ) (second : Bool) (c r : ℕ) → 1 ≤ r → fine false false r (nat_lt c 256) (set_ends second c) ≡ true
    → fine false false r (nat_lt c 256) (set_number v n second c) ≡ true
set_number_fine v n second c r le ends =
    let w : ℕ = 10 * v + (c - 48) in
    fine_by false false r (nat_lt c 256) (is_digit c)
    (cond (nat_lt n 10 && nat_le w 4294967295 && not (w == 0 && n == 9)) (move.One (sym.Set (set.Number w (n + 1) second))) move.Fail)
    (cond (nat_lt 0 v) (set_ends second c) move.Fail)
    (λ d. fine_by false false r (nat_lt c 256) (nat_lt n 10 && nat_le w 4294967295 && not (w == 0 && n == 9)) (move.One (sym.Set (set.Number w (n + 1) second))) move.Fail
    (λ e. and_from _ _ (and_from _ _ (and_from _ _ (and_from _ _ (small_digit c d) (digits_fit n w e)) refl) (le-leb 1 r le)) refl)
    (λ e. refl))
    (λ d. fine_by false false r (nat_lt c 256) (nat_lt 0 v) (set_ends second c) move.Fail (λ e. ends) (λ e. refl))

set_ends_wide : (c : ℕ) → fine false false 2 (nat_lt c 256) (set_ends false c) ≡ true
set_ends_wide c = grind arith

open_fine : (c : ℕ) → fine false false 2 (nat_lt c 256) (set_rule set.Open c) ≡ true
open_fine c = fine_by false false 2 (nat_lt c 256) (c == 40) (move.Two (sym.Line (line.Folded phrase.Earlier 1)) (sym.Set (set.Number 0 0 false))) (set_number 0 0 false c)
    (λ e. pair_fine c (small_at 40 c refl e))
    (λ e. set_number_fine 0 0 false c 2 (omega arith) (set_ends_wide c))
  where
    pair_fine : (c : ℕ) → nat_lt c 256 ≡ true → fine false false 2 (nat_lt c 256) (move.Two (sym.Line (line.Folded phrase.Earlier 1)) (sym.Set (set.Number 0 0 false))) ≡ true
    pair_fine c e = rw e refl

-- ---- strings

small_atom : (c : ℕ) → is_atom c ≡ true → nat_lt c 256 ≡ true
small_atom c e = grind arith

-- a fact of each symbol that reads what follows a string's first octet
starts_fine : (P : Option Sym → Type 0) (c : ℕ) → (nat_lt c 256 ≡ true → P (Some (sym.Str str.Quoted))) → (nat_lt c 256 ≡ true → P (Some (sym.Str (str.Count 0 0))))
    → (nat_lt c 256 ≡ true → P (Some (sym.Str str.AtomTilde))) → (nat_lt c 256 ≡ true → P (Some (sym.Names names.AtomRest))) → P None → P (flat_start c)
starts_fine P c quoted count tilde atom none = by (c == 34) refl (c == 123) refl (c == 126) refl (is_atom c) refl
  where
    by : (p : Bool) → (c == 34) ≡ p → (q : Bool) → (c == 123) ≡ q → (r : Bool) → (c == 126) ≡ r → (s : Bool) → is_atom c ≡ s
        → P (cond p (Some (sym.Str str.Quoted)) (cond q (Some (sym.Str (str.Count 0 0))) (cond r (Some (sym.Str str.AtomTilde)) (cond s (Some (sym.Names names.AtomRest)) None))))
    by true e q f r g s h = quoted (small_at 34 c refl e)
    by false e true f r g s h = count (small_at 123 c refl f)
    by false e false f true g s h = tilde (small_at 126 c refl g)
    by false e false f false g true h = atom (small_atom c h)
    by false e false f false g false h = none

alone_fine : (c : ℕ) → fine true false 1 (nat_lt c 256) (alone (flat_start c)) ≡ true
alone_fine c = starts_fine (λ o. fine true false 1 (nat_lt c 256) (alone o) ≡ true) c (λ e. rw e refl) (λ e. rw e refl) (λ e. rw e refl) (λ e. rw e refl) refl

value_alone_fine : (c : ℕ) → fine true false 2 (nat_lt c 256) (alone (flat_start c)) ≡ true
value_alone_fine c = starts_fine (λ o. fine true false 2 (nat_lt c 256) (alone o) ≡ true) c (λ e. rw e refl) (λ e. rw e refl) (λ e. rw e refl) (λ e. rw e refl) refl

before_fine : (w c : ℕ) → nat_le w 63 ≡ true → fine false false 2 (nat_lt c 256) (before (sym.Value (value.More w)) (flat_start c)) ≡ true
before_fine w c f = starts_fine (λ o. fine false false 2 (nat_lt c 256) (before (sym.Value (value.More w)) o) ≡ true) c (λ e. rw e (rw f refl)) (λ e. rw e (rw f refl))
    (λ e. rw e (rw f refl)) (λ e. rw e (rw f refl)) refl

count_fits : (n w : ℕ) → (nat_lt n 8 && nat_le w 50000000) ≡ true → SymFits (sym.Str (str.Count w (n + 1))) ≡ true
count_fits n w e = grind arith

brace_fits : (v n : ℕ) → SymFits (sym.Str (str.Count v n)) ≡ true → SymFits (sym.Str (str.Brace v)) ≡ true
brace_fits v n e = grind arith

small_125 : (c n : ℕ) → (c == 125 && nat_lt 0 n) ≡ true → nat_lt c 256 ≡ true
small_125 c n e = grind arith

count_fine : (v n c : ℕ) → SymFits (sym.Str (str.Count v n)) ≡ true → fine false false 1 (nat_lt c 256) (count_rule v n c) ≡ true
count_fine v n c fits =
    let w : ℕ = 10 * v + (c - 48) in
    fine_by false false 1 (nat_lt c 256) (is_digit c)
    (cond (nat_lt n 8 && nat_le w 50000000) (move.One (sym.Str (str.Count w (n + 1)))) move.Fail)
    (cond (c == 125 && nat_lt 0 n) (move.One (sym.Str (str.Brace v))) move.Fail)
    (λ d. fine_by false false 1 (nat_lt c 256) (nat_lt n 8 && nat_le w 50000000) (move.One (sym.Str (str.Count w (n + 1)))) move.Fail
    (λ e. and_from _ _ (and_from _ _ (and_from _ _ (and_from _ _ (small_digit c d) (count_fits n w e)) refl) refl) refl)
    (λ e. refl))
    (λ d. fine_by false false 1 (nat_lt c 256) (c == 125 && nat_lt 0 n) (move.One (sym.Str (str.Brace v))) move.Fail
    (λ e. and_from _ _ (and_from _ _ (and_from _ _ (and_from _ _ (small_125 c n e) (brace_fits v n fits)) refl) refl) refl)
    (λ e. refl))

string_fine : (s : Str) (c : ℕ) → SymFits (sym.Str s) ≡ true → fine (ends_open (sym.Str s)) (may_yield (sym.Str s)) 1 (nat_lt c 256) (string_rule s c) ≡ true
string_fine str.NString c fits = grind arith
string_fine str.AString c fits = alone_fine c
string_fine str.Quoted c fits = grind arith
string_fine str.Escaped c fits = grind arith
string_fine str.Tilde c fits = grind arith
string_fine str.AtomTilde c fits = grind arith
string_fine (str.Count v n) c fits = count_fine v n c fits
string_fine (str.Brace n) c fits = fine_by false false 1 (nat_lt c 256) (c == 13) (move.One (sym.Free (free.Break n))) move.Fail
    (λ e. and_from _ _ (and_from _ _ (and_from _ _ (and_from _ _ (small_at 13 c refl e) fits) refl) refl) refl) (λ e. refl)

-- ---- values

deeper : (w : ℕ) → nat_lt w 63 ≡ true → nat_le (w + 1) 63 ≡ true
deeper w e = grind arith

higher : (w : ℕ) → nat_le w 63 ≡ true → nat_le (w - 1) 63 ≡ true
higher w e = grind arith

inner_fine : (w c : ℕ) → nat_le w 63 ≡ true → fine false false 2 (nat_lt c 256) (inner_rule w c) ≡ true
inner_fine w c f = fine_by false false 2 (nat_lt c 256) (c == 40) (cond (nat_lt w 63) (move.One (sym.Value (value.First (w + 1)))) move.Fail)
    (before (sym.Value (value.More w)) (flat_start c))
    (λ e. fine_by false false 2 (nat_lt c 256) (nat_lt w 63) (move.One (sym.Value (value.First (w + 1)))) move.Fail
    (λ g. and_from _ _ (and_from _ _ (and_from _ _ (and_from _ _ (small_at 40 c refl e) (deeper w g)) refl) refl) refl)
    (λ g. refl))
    (λ e. before_fine w c f)

closes_fine : (w c : ℕ) → nat_le w 63 ≡ true → nat_lt c 256 ≡ true → fine false false 2 (nat_lt c 256) (closes w) ≡ true
closes_fine w c f small = fine_by false false 2 (nat_lt c 256) (w == 0) move.End (move.One (sym.Value (value.More (w - 1)))) (λ e. small)
    (λ e. and_from _ _ (and_from _ _ (and_from _ _ (and_from _ _ small (higher w f)) refl) refl) refl)

value_fine : (s : Value) (c : ℕ) → SymFits (sym.Value s) ≡ true → fine (ends_open (sym.Value s)) (may_yield (sym.Value s)) 2 (nat_lt c 256) (value_rule s c) ≡ true
value_fine value.Start c f = fine_by true false 2 (nat_lt c 256) (c == 40) (move.One (sym.Value (value.First 0))) (alone (flat_start c)) (λ e. rw (small_at 40 c refl e) refl)
    (λ e. value_alone_fine c)
value_fine (value.First w) c f = fine_by false false 2 (nat_lt c 256) (c == 41) (closes w) (inner_rule w c) (λ e. closes_fine w c f (small_at 41 c refl e)) (λ e. inner_fine w c f)
value_fine (value.Next w) c f = inner_fine w c f
value_fine (value.More w) c f = fine_by false false 2 (nat_lt c 256) (c == 32) (move.One (sym.Value (value.Next w))) (cond (c == 41) (closes w) move.Fail)
    (λ e. and_from _ _ (and_from _ _ (and_from _ _ (and_from _ _ (small_at 32 c refl e) f) refl) refl) refl)
    (λ e. fine_by false false 2 (nat_lt c 256) (c == 41) (closes w) move.Fail (λ g. closes_fine w c f (small_at 41 c refl g)) (λ g. refl))

-- ---- folders

folder_fine : (s : Folder) (c : ℕ) → fine (ends_open (sym.Folder s)) (may_yield (sym.Folder s)) (need (sym.Folder s)) (nat_lt c 256) (folder_rule s c) ≡ true
folder_fine folder.Attributes c = grind arith
folder_fine folder.Delimiter c = grind arith
folder_fine folder.DelimiterOctet c = grind arith
folder_fine folder.DelimiterEscaped c = grind arith
folder_fine folder.Name c = grind arith
folder_fine folder.ListEnd c = grind arith
folder_fine folder.Counts c = grind arith
folder_fine folder.CountsOpen c = grind arith
folder_fine folder.FirstCount c = grind arith
folder_fine folder.Count c = grind arith
folder_fine folder.CountWord c = grind arith
folder_fine folder.MoreCounts c = grind arith

-- ---- all

-- each move of a fitting symbol that isn't within a literal is fine
pub move_fine : (s : Sym) (c : ℕ) → is_octets s ≡ false → SymFits s ≡ true → fine (ends_open s) (may_yield s) (need s) (nat_lt c 256) (rule_of s c) ≡ true
move_fine (sym.Line s) c o fits = line_fine s c fits
move_fine (sym.Word p k at) c o fits = word_fine p k at c (and_parts (nat_le at (length (key_text k))) (is_among k (keys p)) fits).1
move_fine (sym.Free (free.Text s)) c o fits = text_fine 2 s c (omega arith) fits
move_fine (sym.Free (free.Break n)) c o fits = grind arith
move_fine (sym.Free (free.Octets n)) c o fits = absurd cc
move_fine (sym.Item item.Open) c o fits = grind arith
move_fine (sym.Item item.More) c o fits = grind arith
move_fine (sym.Item (item.Number v n)) c o fits = number_fine v n c
move_fine (sym.Item item.LongOpen) c o fits = grind arith
move_fine (sym.Item (item.Long v n)) c o fits = long_fine v n c
move_fine (sym.Names names.Open) c o fits = grind arith
move_fine (sym.Names names.First) c o fits = grind arith
move_fine (sym.Names names.More) c o fits = grind arith
move_fine (sym.Names names.Name) c o fits = grind arith
move_fine (sym.Names names.Atom) c o fits = grind arith
move_fine (sym.Names names.AtomRest) c o fits = grind arith
move_fine (sym.ItemName s) c o fits = name_fine s c
move_fine (sym.Date date.Open) c o fits = grind arith
move_fine (sym.Date (date.Day at)) c o fits = day_fine at c
move_fine (sym.Date (date.Time at)) c o fits = time_fine at c
move_fine (sym.Words words.More) c o fits = words_more_fine 1 c (omega arith)
move_fine (sym.Words words.First) c o fits = grind arith
move_fine (sym.Words words.Rest) c o fits = fine_by false false 1 (nat_lt c 256) (is_word c) (move.One (sym.Words words.Rest)) (words_more c) (λ e. rest_word_fine c e)
    (λ e. words_more_fine 1 c (omega arith))
  where
    rest_word_fine : (c : ℕ) → is_word c ≡ true → fine false false 1 (nat_lt c 256) (move.One (sym.Words words.Rest)) ≡ true
    rest_word_fine c e = grind arith
move_fine (sym.Str s) c o fits = string_fine s c fits
move_fine (sym.Value s) c o fits = value_fine s c fits
move_fine (sym.Folder s) c o fits = folder_fine s c
move_fine (sym.Set set.Open) c o fits = open_fine c
move_fine (sym.Set (set.Number v n second)) c o fits = set_number_fine v n second c 1 (omega arith) (set_ends_fine second c)
