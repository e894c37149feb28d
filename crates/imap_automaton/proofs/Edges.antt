-- What one octet does to one symbol.
use Rattle.std.proofs.Common.{◌≡◌, ℕ, zero, ◌≤◌, true, false, List, [], ◌∷◌, length, take, cond, refl, ap, ◌∙◌, arith, inl}
use Rattle.std.specs.Prelude.{◌==◌, nat_le}
use Rattle.std.proofs.lemmas.Bool.{leb-true, and_parts, cond-false}
use Rattle.imap_keywords.specs.declared.key.Key.{Key}
use Rattle.imap_keywords.specs.declared.key.WordPlace.{WordPlace}
use Rattle.imap_keywords.specs.declared.phrase.Phrase.TheVariants as phrase
use Rattle.imap_automaton.specs.declared.sym.Line.TheVariants as line
use Rattle.imap_automaton.specs.declared.sym.Item.TheVariants as item
use Rattle.imap_automaton.specs.declared.sym.Names.{Names}
use Rattle.imap_automaton.specs.declared.sym.Names.TheVariants as names
use Rattle.imap_automaton.specs.declared.sym.Str.{Str}
use Rattle.imap_automaton.specs.declared.sym.Str.TheVariants as str
use Rattle.imap_automaton.specs.declared.sym.Value.TheVariants as value
use Rattle.imap_automaton.specs.declared.sym.Folder.TheVariants as folder
use Rattle.imap_automaton.specs.declared.sym.Sym.{Sym}
use Rattle.imap_automaton.specs.declared.sym.Sym.TheVariants as sym
use Rattle.pushdown.specs.declared.moves.Move.TheVariants as move
use Rattle.imap_keywords.specs.Keys.{key_text, keys, is_among}
use Rattle.imap_automaton.specs.Rules.{rule_of}
use Rattle.imap_automaton.specs.Fits.{SymFits}
use Rattle.imap_automaton.specs.Flow.{begins, stops, may_yield}
use Rattle.imap_automaton.specs.Langs.{Lang, AfterMove}
use Rattle.imap_automaton.proofs.FreeEdges.{free_back, free_forth, free_empty, free_example}
use Rattle.imap_automaton.proofs.NamesEdges.{names_back, names_forth, names_empty, more_stops, names_example}
use Rattle.imap_automaton.proofs.ItemEdges.{item_back, item_forth, open_none, more_empty, items_stop, number_ends, number_yields, long_open_none, long_ends, long_yields}
use Rattle.imap_automaton.proofs.ItemEdges.{item_example}
use Rattle.pushdown.proofs.Lists.{cons_head}
use Rattle.imap_automaton.proofs.Tests.{is_true_at}
use Rattle.imap_automaton.proofs.ItemNameEdges.{item_name_back, item_name_forth, item_name_empty, item_name_example}
use Rattle.imap_automaton.proofs.DateEdges.{date_back, date_forth, date_empty, date_lang_example}
use Rattle.imap_automaton.proofs.SetEdges.{words_back, words_forth, words_empty, words_example, set_edge_back, set_edge_forth, set_empty, set_example}
use Rattle.imap_automaton.proofs.StringEdges.{string_back, string_forth, string_empty, string_example}
use Rattle.imap_automaton.proofs.ValueEdges.{value_back, value_forth, value_empty, opened_stops, value_example}
use Rattle.imap_automaton.proofs.FolderEdges.{folder_back, folder_forth, folder_empty, end_stops, counts_stop, more_stop, folder_example}
use Rattle.imap_automaton.proofs.WordEdges.{word_back, word_forth, word_empty, word_example}
use Rattle.imap_automaton.proofs.LineEdges.{line_edge_back, line_edge_forth, line_empty, line_example}
use Rattle.imap_types.specs.Octets.{is_atom}

word_le : (place : WordPlace) (key : Key) (at : ℕ) → SymFits (sym.Word place key at) ≡ true → at ≤ length (key_text key)
word_le place key at fits = leb-true _ _ (and_parts (nat_le at (length (key_text key))) (is_among key (keys place)) fits).0

word_among : (place : WordPlace) (key : Key) (at : ℕ) → SymFits (sym.Word place key at) ≡ true → is_among key (keys place) ≡ true
word_among place key at fits = (and_parts (nat_le at (length (key_text key))) (is_among key (keys place)) fits).1

-- a fitting symbol reads an octet and any text that its rule still reads after it
pub edge_back : (s : Sym) (c : ℕ) (t : List ℕ) → SymFits s ≡ true → AfterMove (rule_of s c) t → Lang s (c ∷ t)
edge_back (sym.Line s) c t fits h = line_edge_back s c t fits h
edge_back (sym.Word place key at) c t fits h = word_back place key at c t (word_le place key at fits) (word_among place key at fits) h
edge_back (sym.Free s) c t fits h = free_back s c t h
edge_back (sym.Item s) c t fits h = item_back s c t h
edge_back (sym.Names s) c t fits h = names_back s c t h
edge_back (sym.ItemName s) c t fits h = item_name_back s c t h
edge_back (sym.Date s) c t fits h = date_back s c t h
edge_back (sym.Words s) c t fits h = words_back s c t h
edge_back (sym.Set s) c t fits h = set_edge_back s c t fits h
edge_back (sym.Str s) c t fits h = string_back s c t fits h
edge_back (sym.Value s) c t fits h = value_back s c t h
edge_back (sym.Folder s) c t fits h = folder_back s c t h

-- where a fitting symbol reads an octet and a text, its rule still reads the text after the octet
pub edge_forth : (s : Sym) (c : ℕ) (t : List ℕ) → SymFits s ≡ true → Lang s (c ∷ t) → AfterMove (rule_of s c) t
edge_forth (sym.Line s) c t fits h = line_edge_forth s c t fits h
edge_forth (sym.Word place key at) c t fits h = word_forth place key at c t (word_le place key at fits) (word_among place key at fits) h
edge_forth (sym.Free s) c t fits h = free_forth s c t h
edge_forth (sym.Item s) c t fits h = item_forth s c t h
edge_forth (sym.Names s) c t fits h = names_forth s c t h
edge_forth (sym.ItemName s) c t fits h = item_name_forth s c t h
edge_forth (sym.Date s) c t fits h = date_forth s c t fits h
edge_forth (sym.Words s) c t fits h = words_forth s c t h
edge_forth (sym.Set s) c t fits h = set_edge_forth s c t h
edge_forth (sym.Str s) c t fits h = string_forth s c t h
edge_forth (sym.Value s) c t fits h = value_forth s c t h
edge_forth (sym.Folder s) c t fits h = folder_forth s c t h

names_yield : (s : Names) → s ≡ names.AtomRest → may_yield (sym.Names s) ≡ true
names_yield s e = ap (λ (q : Names). may_yield (sym.Names q)) e

string_yield : (s : Str) → s ≡ str.AtomTilde → may_yield (sym.Str s) ≡ true
string_yield s e = ap (λ (q : Str). may_yield (sym.Str q)) e

-- only a symbol that may end has an empty text
pub empty_may : (s : Sym) → SymFits s ≡ true → Lang s [] → may_yield s ≡ true
empty_may (sym.Line s) fits h = absurd (line_empty s fits h)
empty_may (sym.Word place key at) fits h = absurd (word_empty place (take at (key_text key)) h)
empty_may (sym.Free s) fits h = absurd (free_empty s fits h)
empty_may (sym.Item item.Open) fits h = absurd (open_none h)
empty_may (sym.Item item.More) fits h = absurd (more_empty h)
empty_may (sym.Item (item.Number v n)) fits h = refl
empty_may (sym.Item item.LongOpen) fits h = absurd (long_open_none h)
empty_may (sym.Item (item.Long v n)) fits h = refl
empty_may (sym.Names s) fits h = names_yield s (names_empty s h)
empty_may (sym.ItemName s) fits h = absurd (item_name_empty s h)
empty_may (sym.Date s) fits h = absurd (date_empty s fits h)
empty_may (sym.Words s) fits h = absurd (words_empty s h)
empty_may (sym.Set s) fits h = absurd (set_empty s h)
empty_may (sym.Str s) fits h = string_yield s (string_empty s h)
empty_may (sym.Value s) fits h = absurd (value_empty s h)
empty_may (sym.Folder s) fits h = absurd (folder_empty s h)

-- a symbol that ends before an octet has the empty text
pub yield_empty : (s : Sym) (c : ℕ) → may_yield s ≡ true → SymFits s ≡ true → rule_of s c ≡ move.Yield → Lang s []
yield_empty (sym.Item (item.Number v n)) c may fits e = number_yields v n c fits e
yield_empty (sym.Item (item.Long v n)) c may fits e = long_yields v n c fits e
yield_empty (sym.Names names.AtomRest) c may fits e = tt
yield_empty (sym.Str str.AtomTilde) c may fits e = inl tt
yield_empty _ c may fits e = absurd cc

stop_no_brace : (c : ℕ) → stops c ≡ true → (c == 123) ≡ false
stop_no_brace c e = grind arith

stop_no_atom : (c : ℕ) → stops c ≡ true → is_atom c ≡ false
stop_no_atom c e = grind arith

-- a symbol with the empty text ends before an octet that ends those
pub ends_by : (s : Sym) (c : ℕ) → may_yield s ≡ true → Lang s [] → stops c ≡ true → rule_of s c ≡ move.Yield
ends_by (sym.Item (item.Number v n)) c may h e = number_ends v n c h e
ends_by (sym.Item (item.Long v n)) c may h e = long_ends v n c h e
ends_by (sym.Names names.AtomRest) c may h e = cond-false (is_atom c) (move.One (sym.Names names.AtomRest)) move.Yield (stop_no_atom c e)
ends_by (sym.Str str.AtomTilde) c may h e =
    cond-false (c == 123) (move.One (sym.Str (str.Count 0 0))) (cond (is_atom c) (move.One (sym.Names names.AtomRest)) move.Yield) (stop_no_brace c e)
    ∙ cond-false (is_atom c) (move.One (sym.Names names.AtomRest)) move.Yield (stop_no_atom c e)
ends_by _ c may h e = absurd cc

-- the texts of a symbol that begins with a stop begin with one
pub begin_stops : (s : Sym) (c : ℕ) (t : List ℕ) → begins s ≡ true → Lang s (c ∷ t) → stops c ≡ true
begin_stops (sym.Item item.More) c t b h = items_stop h.0 c t h.1
begin_stops (sym.Names names.More) c t b h = more_stops h.0 c t h.2
begin_stops (sym.Line (line.Fixed phrase.Close zero)) c t b h = is_true_at stops c 41 (cons_head c 41 t [] h) refl
begin_stops (sym.Line (line.Fixed phrase.Crlf zero)) c t b h = is_true_at stops c 13 (cons_head c 13 t (10 ∷ []) h) refl
begin_stops (sym.Value (value.More w)) c t b h = opened_stops w c t h
begin_stops (sym.Folder folder.ListEnd) c t b h = end_stops c t h
begin_stops (sym.Folder folder.Counts) c t b h = counts_stop c t h
begin_stops (sym.Folder folder.MoreCounts) c t b h = more_stop h.0 c t h.1
begin_stops _ c t b h = absurd cc

-- each fitting symbol reads some text
pub example : (s : Sym) → SymFits s ≡ true → (t : List ℕ) × Lang s t
example (sym.Line s) fits = line_example s fits
example (sym.Word place key at) fits = word_example place key at (word_le place key at fits) (word_among place key at fits)
example (sym.Free s) fits = free_example s
example (sym.Item s) fits = item_example s fits
example (sym.Names s) fits = names_example s
example (sym.ItemName s) fits = item_name_example s
example (sym.Date s) fits = date_lang_example s fits
example (sym.Words s) fits = words_example s
example (sym.Set s) fits = set_example s fits
example (sym.Str s) fits = string_example s fits
example (sym.Value s) fits = value_example s
example (sym.Folder s) fits = folder_example s

-- no symbol that begins with a stop may end before an octet
pub begin_no_yield : (s : Sym) → begins s ≡ true → may_yield s ≡ true → ⊥
begin_no_yield (sym.Item item.More) b y = cc
begin_no_yield (sym.Names names.More) b y = cc
begin_no_yield (sym.Line (line.Fixed phrase.Close zero)) b y = cc
begin_no_yield (sym.Line (line.Fixed phrase.Crlf zero)) b y = cc
begin_no_yield (sym.Value (value.More w)) b y = cc
begin_no_yield (sym.Folder folder.ListEnd) b y = cc
begin_no_yield (sym.Folder folder.Counts) b y = cc
begin_no_yield (sym.Folder folder.MoreCounts) b y = cc
begin_no_yield _ b y = cc
