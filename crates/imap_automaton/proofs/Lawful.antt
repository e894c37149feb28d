-- The rules of responses are those of their languages.
use Rattle.std.proofs.Common.{◌≡◌, ℕ, ◌+◌, ◌-◌, ◌<◌, ◌≤◌, true, false, ◌&&◌, zero, cond, refl, ap, ◌∙◌, arith}
use Rattle.std.specs.Prelude.{◌==◌, nat_lt, nat_le}
use Rattle.std.proofs.lemmas.Bool.{cond-true, cond-false, and_parts, and_from, le-leb, lt-ltb, ltb-true, leb-true, ne_eqb, both_ways}
use Rattle.imap_keywords.specs.declared.phrase.Phrase.TheVariants as phrase
use Rattle.imap_automaton.specs.declared.sym.Line.TheVariants as line
use Rattle.imap_automaton.specs.declared.sym.Free.TheVariants as free
use Rattle.imap_automaton.specs.declared.sym.Item.TheVariants as item
use Rattle.imap_automaton.specs.declared.sym.Names.TheVariants as names
use Rattle.imap_automaton.specs.declared.sym.Value.TheVariants as value
use Rattle.imap_automaton.specs.declared.sym.Folder.TheVariants as folder
use Rattle.imap_automaton.specs.declared.sym.Sym.{Sym}
use Rattle.imap_automaton.specs.declared.sym.Sym.TheVariants as sym
use Rattle.imap_automaton.specs.Rules.{rule_of}
use Rattle.imap_automaton.specs.FreeRules.{free_rule}
use Rattle.imap_automaton.specs.Fits.{SymFits}
use Rattle.imap_automaton.specs.Flow.{ends_open, begins, need, sym_left, with_left, is_octets}
use Rattle.imap_automaton.specs.Responses.{responses}
use Rattle.imap_automaton.proofs.Edges.{edge_back, edge_forth, empty_may, ends_by, begin_stops, begin_no_yield, example}
use Rattle.imap_automaton.proofs.Kept.{by_octets, first_left, outside_left, outside_is, yield_open, moves_good, moves_room, moves_yield, moves_left, yields, large, need_some}
use Rattle.pushdown.specs.declared.moves.Move.TheVariants as move
use Rattle.pushdown.specs.Run.{inside}
use Rattle.pushdown.specs.Flow.{is_go}
use Rattle.pushdown.specs.Lawful.{IsLawful}

begins_no_octets : (s : Sym) → begins s ≡ true → is_octets s ≡ false
begins_no_octets (sym.Item item.More) b = refl
begins_no_octets (sym.Names names.More) b = refl
begins_no_octets (sym.Line (line.Fixed phrase.Close zero)) b = refl
begins_no_octets (sym.Line (line.Fixed phrase.Crlf zero)) b = refl
begins_no_octets (sym.Value (value.More w)) b = refl
begins_no_octets (sym.Folder folder.ListEnd) b = refl
begins_no_octets (sym.Folder folder.Counts) b = refl
begins_no_octets (sym.Folder folder.MoreCounts) b = refl
begins_no_octets _ b = absurd cc

open_no_octets : (s : Sym) → ends_open s ≡ true → is_octets s ≡ false
open_no_octets (sym.Free (free.Octets n)) e = absurd cc
open_no_octets _ e = refl

-- outside a literal nothing is left of one
none_left : (s : Sym) → is_octets s ≡ false → 0 < sym_left s → ⊥
none_left s o lt = let e = outside_left s o in omega (arith, e, lt)

-- ---- which octets are marked

only_octets : (s : Sym) (c : ℕ) → inside responses s ≡ false → SymFits s ≡ true → nat_lt c 256 ≡ false → is_go (rule_of s c) ≡ false
only_octets s c = by_octets (λ s. inside responses s ≡ false → SymFits s ≡ true → nat_lt c 256 ≡ false → is_go (rule_of s c) ≡ false) s
    (λ n i fits e. absurd (both_ways (nat_lt 0 n) i (first_left n fits)))
    (λ o i fits e. large s c o fits e)

small_below : (c : ℕ) → nat_lt c 256 ≡ true → nat_le 256 c ≡ false
small_below c e = grind arith

octets_marked : (n c : ℕ) → nat_lt c 256 ≡ true → free_rule (free.Octets n) c ≡ move.Fail
octets_marked n c e = rw (small_below c e) refl

all_marked : (s : Sym) (c : ℕ) → inside responses s ≡ true → nat_lt c 256 ≡ true → rule_of s c ≡ move.Fail
all_marked s c = by_octets (λ s. inside responses s ≡ true → nat_lt c 256 ≡ true → rule_of s c ≡ move.Fail) s (λ n i e. octets_marked n c e)
    (λ o i e. absurd (none_left s o (ltb-true 0 (sym_left s) i)))

-- ---- octets of a literal that are taken at once

octets_step : (n c : ℕ) → c < 256 → 1 < n → free_rule (free.Octets n) (c + 256) ≡ move.One (sym.Free (free.Octets (n - 1)))
octets_step n c small more =
    cond-true (nat_le 256 (c + 256) && nat_lt (c + 256) 512 && nat_lt 0 n) (cond (n == 1) move.End (move.One (sym.Free (free.Octets (n - 1))))) move.Fail
    (and_from _ _ (and_from _ _ (le-leb 256 (c + 256) (omega arith)) (lt-ltb (c + 256) 512 (omega arith))) (lt-ltb 0 n (omega arith)))
    ∙ cond-false (n == 1) move.End (move.One (sym.Free (free.Octets (n - 1)))) (ne_eqb n 1 (λ e. omega (arith, e, more)))

taken_one : (s : Sym) (c : ℕ) → 1 < sym_left s → c < 256 → rule_of s (c + 256) ≡ move.One (with_left s (sym_left s - 1))
taken_one s c = by_octets (λ s. 1 < sym_left s → c < 256 → rule_of s (c + 256) ≡ move.One (with_left s (sym_left s - 1))) s (λ n more small. octets_step n c small more)
    (λ o more small. absurd (none_left s o (omega (arith, more))))

with_outside : (s : Sym) (n : ℕ) → is_octets s ≡ false → with_left s n ≡ s
with_outside (sym.Free (free.Octets k)) n e = absurd cc
with_outside _ n e = refl

left_with : (s : Sym) (n : ℕ) → 0 < sym_left s → sym_left (with_left s n) ≡ n
left_with s n = by_octets (λ s. 0 < sym_left s → sym_left (with_left s n) ≡ n) s (λ k lt. refl) (λ o lt. absurd (none_left s o lt))

with_with : (s : Sym) (n m : ℕ) → with_left (with_left s n) m ≡ with_left s m
with_with s n m = by_octets (λ s. with_left (with_left s n) m ≡ with_left s m) s (λ k. refl) (λ o. ap (λ (q : Sym). with_left q m) (with_outside s n o))

with_same : (s : Sym) → with_left s (sym_left s) ≡ s
with_same s = by_octets (λ s. with_left s (sym_left s) ≡ s) s (λ k. refl) (λ o. with_outside s (sym_left s) o)

fewer_fit : (n k : ℕ) → SymFits (sym.Free (free.Octets k)) ≡ true → 0 < n → n ≤ k → SymFits (sym.Free (free.Octets n)) ≡ true
fewer_fit n k fits lt le =
    let p = and_parts (nat_lt 0 k) (nat_le k 50000000) fits in
    and_from (nat_lt 0 n) (nat_le n 50000000) (lt-ltb 0 n lt) (le-leb n 50000000 (omega (arith, leb-true k 50000000 p.1, le)))

with_fits : (s : Sym) (n : ℕ) → SymFits s ≡ true → 0 < n → n ≤ sym_left s → SymFits (with_left s n) ≡ true
with_fits s n = by_octets (λ s. SymFits s ≡ true → 0 < n → n ≤ sym_left s → SymFits (with_left s n) ≡ true) s (λ k fits lt le. fewer_fit n k fits lt le)
    (λ o fits lt le. absurd (none_left s o (omega (arith, lt, le))))

with_need : (s : Sym) (n : ℕ) → need (with_left s n) ≡ need s
with_need s n = by_octets (λ s. need (with_left s n) ≡ need s) s (λ k. refl) (λ o. ap need (with_outside s n o))

with_open : (s : Sym) (n : ℕ) → ends_open (with_left s n) ≡ ends_open s
with_open s n = by_octets (λ s. ends_open (with_left s n) ≡ ends_open s) s (λ k. refl) (λ o. ap ends_open (with_outside s n o))

-- the rules of the automaton of responses are those of its languages
pub responses_lawful : IsLawful responses
responses_lawful = record {
  back = edge_back;
  forth = edge_forth;
  example = example;
  empty = empty_may;
  yields = λ s c fits e. (moves_yield s c fits e, yields s c fits e);
  ends = ends_by;
  yields_open = yield_open;
  begins_stop = begin_stops;
  begins_some = begin_no_yield;
  good = moves_good;
  needs = moves_room;
  needs_some = need_some;
  begins_outside = λ s b. outside_is s (begins_no_octets s b);
  open_outside = λ s e. outside_is s (open_no_octets s e);
  unmarked = only_octets;
  marked = all_marked;
  leaves = moves_left;
  taken = taken_one;
  left_with = left_with;
  with_with = with_with;
  with_same = with_same;
  with_fits = with_fits;
  with_need = with_need;
  with_open = with_open;
  start_fits = refl;
  start_ends = refl;
  start_room = omega arith;
  start_left = refl;
  counted = omega arith;
}
