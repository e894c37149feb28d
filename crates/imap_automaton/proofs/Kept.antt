-- What every move keeps, from what each is.
use Rattle.std.proofs.Common.{◌≡◌, ℕ, ◌+◌, ◌-◌, ◌≤◌, Bool, true, false, not, ◌&&◌, ◌||◌, [], cond, refl, sym, ap, subst, ◌∙◌, arith}
use Rattle.std.specs.Prelude.{◌==◌, nat_lt, nat_le}
use Rattle.std.proofs.lemmas.Bool.{and_parts, leb-true}
use Rattle.imap_keywords.specs.declared.key.WordPlace.TheVariants as place
use Rattle.imap_automaton.specs.declared.sym.Line.TheVariants as line
use Rattle.imap_automaton.specs.declared.sym.Free.TheVariants as free
use Rattle.imap_automaton.specs.declared.sym.Item.TheVariants as item
use Rattle.imap_automaton.specs.declared.sym.Names.TheVariants as names
use Rattle.imap_automaton.specs.declared.sym.Set.TheVariants as set
use Rattle.imap_automaton.specs.declared.sym.Str.TheVariants as str
use Rattle.imap_automaton.specs.declared.sym.Folder.TheVariants as folder
use Rattle.imap_automaton.specs.declared.sym.Sym.{Sym}
use Rattle.imap_automaton.specs.declared.sym.Sym.TheVariants as sym
use Rattle.pushdown.specs.declared.moves.Move.{Move}
use Rattle.pushdown.specs.declared.moves.Move.TheVariants as move
use Rattle.imap_automaton.specs.Rules.{rule_of}
use Rattle.imap_automaton.specs.FreeRules.{free_rule}
use Rattle.imap_automaton.specs.Fits.{SymFits}
use Rattle.imap_automaton.specs.Flow.{ends_open, begins, may_yield, need, sym_left, is_octets}
use Rattle.imap_automaton.specs.Responses.{responses}
use Rattle.imap_automaton.specs.Langs.{Lang}
use Rattle.imap_automaton.proofs.Edges.{yield_empty}
use Rattle.imap_automaton.proofs.Fine.{fine, move_fine}
use Rattle.imap_types.specs.Texts.{literal_limit}
use Rattle.pushdown.specs.Run.{inside}
use Rattle.pushdown.specs.Flow.{move_good, move_needs, is_go, pushed_left, Leaves}

-- ---- parts of a conjunction

one_parts : (a b c d e : Bool) → (a && b && c && d && e) ≡ true → (a ≡ true) × ((b && c) ≡ true) × (d ≡ true) × (e ≡ true)
one_parts a b c d e h =
    let p4 = and_parts (a && b && c && d) e h in
    let p3 = and_parts (a && b && c) d p4.0 in
    (grind arith, grind arith, p3.1, p4.1)

two_parts : (a b c d e f g h : Bool) → (a && b && c && d && e && f && g && h) ≡ true → (a ≡ true) × ((b && c && d && e) ≡ true) × ((f && g) ≡ true) × (h ≡ true)
two_parts a b c d e f g h q = (grind arith, grind arith, grind arith, grind arith)

fine_good : (o y : Bool) (r : ℕ) (s : Bool) (m : Move Sym) → (y ≡ true → o ≡ true) → fine o y r s m ≡ true → move_good responses o m ≡ true
fine_good o y r s move.Fail f e = refl
fine_good o y r s move.Yield f e = f e
fine_good o y r s move.End f e = refl
fine_good o y r s (move.One a) f e = (one_parts s (SymFits a) (not (ends_open a) || o) (nat_le (need a) r) (nat_le (sym_left a) 50000000) e).1
fine_good o y r s (move.Two a b) f e = (two_parts s (SymFits a) (SymFits b) (not (ends_open a) || begins b) (not (ends_open b) || o) (nat_le (need a + 1) r) (nat_le (need b) r)
    (nat_le (sym_left a + sym_left b) 50000000) e).1

fine_room : (o y : Bool) (r : ℕ) (s : Bool) (m : Move Sym) → fine o y r s m ≡ true → move_needs responses r m ≡ true
fine_room o y r s move.Fail e = refl
fine_room o y r s move.Yield e = refl
fine_room o y r s move.End e = refl
fine_room o y r s (move.One a) e = (one_parts s (SymFits a) (not (ends_open a) || o) (nat_le (need a) r) (nat_le (sym_left a) 50000000) e).2
fine_room o y r s (move.Two a b) e = (two_parts s (SymFits a) (SymFits b) (not (ends_open a) || begins b) (not (ends_open b) || o) (nat_le (need a + 1) r) (nat_le (need b) r)
    (nat_le (sym_left a + sym_left b) 50000000) e).2

fine_small : (o y : Bool) (r : ℕ) (s : Bool) (m : Move Sym) → s ≡ false → fine o y r s m ≡ true → is_go m ≡ false
fine_small o y r s move.Fail f e = refl
fine_small o y r s move.Yield f e = refl
fine_small o y r s move.End f e = absurd cc
fine_small o y r s (move.One a) f e = let p = (one_parts s (SymFits a) (not (ends_open a) || o) (nat_le (need a) r) (nat_le (sym_left a) 50000000) e).0 in absurd cc
fine_small o y r s (move.Two a b) f e = let p = (two_parts s (SymFits a) (SymFits b) (not (ends_open a) || begins b) (not (ends_open b) || o) (nat_le (need a + 1) r)
    (nat_le (need b) r) (nat_le (sym_left a + sym_left b) 50000000) e).0 in absurd cc

fine_left : (o y : Bool) (r : ℕ) (s : Bool) (m : Move Sym) → fine o y r s m ≡ true → pushed_left responses m ≤ 50000000
fine_left o y r s move.Fail e = omega arith
fine_left o y r s move.Yield e = omega arith
fine_left o y r s move.End e = omega arith
fine_left o y r s (move.One a) e = leb-true _ _ (one_parts s (SymFits a) (not (ends_open a) || o) (nat_le (need a) r) (nat_le (sym_left a) 50000000) e).3
fine_left o y r s (move.Two a b) e = leb-true _ _ (two_parts s (SymFits a) (SymFits b) (not (ends_open a) || begins b) (not (ends_open b) || o) (nat_le (need a + 1) r)
    (nat_le (need b) r) (nat_le (sym_left a + sym_left b) 50000000) e).3

fine_yield : (o y : Bool) (r : ℕ) (s : Bool) (m : Move Sym) → m ≡ move.Yield → fine o y r s m ≡ true → y ≡ true
fine_yield o y r s m e f = sym (ap (fine o y r s) e) ∙ f

-- ---- symbols

-- a symbol that may end before an octet ends open
pub yield_open : (s : Sym) → may_yield s ≡ true → ends_open s ≡ true
yield_open (sym.Item (item.Number v n)) e = refl
yield_open (sym.Item (item.Long v n)) e = refl
yield_open (sym.Names names.AtomRest) e = refl
yield_open (sym.Str str.AtomTilde) e = refl
yield_open _ e = absurd cc

octets_good : (n c : ℕ) → SymFits (sym.Free (free.Octets n)) ≡ true → move_good responses false (free_rule (free.Octets n) c) ≡ true
octets_good n c fits = grind arith

octets_room : (n c : ℕ) → move_needs responses 1 (free_rule (free.Octets n) c) ≡ true
octets_room n c = grind arith

octets_no_yield : (n c : ℕ) → free_rule (free.Octets n) c ≡ move.Yield → ⊥
octets_no_yield n c e = by (nat_le 256 c && nat_lt c 512 && nat_lt 0 n) (n == 1) e
  where
    by : (p q : Bool) → cond p (cond q move.End (move.One (sym.Free (free.Octets (n - 1))))) move.Fail ≡ move.Yield → ⊥
    by true true e = cc
    by true false e = cc
    by false q e = cc

octets_left : (n c : ℕ) → SymFits (sym.Free (free.Octets n)) ≡ true → pushed_left responses (free_rule (free.Octets n) c) + 1 ≤ n
octets_left n c fits = grind arith

-- a fact of each symbol, by whether it is within a literal
pub by_octets : (P : Sym → Type 0) (s : Sym) → ((n : ℕ) → P (sym.Free (free.Octets n))) → (is_octets s ≡ false → P s) → P s
by_octets P (sym.Free (free.Octets n)) f g = f n
by_octets P (sym.Free (free.Text q)) f g = g refl
by_octets P (sym.Free (free.Break n)) f g = g refl
by_octets P (sym.Line q) f g = g refl
by_octets P (sym.Word p k at) f g = g refl
by_octets P (sym.Item q) f g = g refl
by_octets P (sym.Names q) f g = g refl
by_octets P (sym.Date q) f g = g refl
by_octets P (sym.ItemName q) f g = g refl
by_octets P (sym.Words q) f g = g refl
by_octets P (sym.Set q) f g = g refl
by_octets P (sym.Str q) f g = g refl
by_octets P (sym.Value q) f g = g refl
by_octets P (sym.Folder q) f g = g refl

-- each move of a fitting symbol leaves symbols that fit and may stand in its place
pub moves_good : (s : Sym) (c : ℕ) → SymFits s ≡ true → move_good responses (ends_open s) (rule_of s c) ≡ true
moves_good s c = by_octets (λ s. SymFits s ≡ true → move_good responses (ends_open s) (rule_of s c) ≡ true) s (λ n fits. octets_good n c fits)
    (λ o fits. fine_good (ends_open s) (may_yield s) (need s) (nat_lt c 256) (rule_of s c) (yield_open s) (move_fine s c o fits))

-- each move of a fitting symbol leaves symbols that need no more room than it
pub moves_room : (s : Sym) (c : ℕ) → SymFits s ≡ true → move_needs responses (need s) (rule_of s c) ≡ true
moves_room s c = by_octets (λ s. SymFits s ≡ true → move_needs responses (need s) (rule_of s c) ≡ true) s (λ n fits. octets_room n c)
    (λ o fits. fine_room (ends_open s) (may_yield s) (need s) (nat_lt c 256) (rule_of s c) (move_fine s c o fits))

-- a fitting symbol ends before an octet only if it may
pub moves_yield : (s : Sym) (c : ℕ) → SymFits s ≡ true → rule_of s c ≡ move.Yield → may_yield s ≡ true
moves_yield s c = by_octets (λ s. SymFits s ≡ true → rule_of s c ≡ move.Yield → may_yield s ≡ true) s (λ n fits e. absurd (octets_no_yield n c e))
    (λ o fits e. fine_yield (ends_open s) (may_yield s) (need s) (nat_lt c 256) (rule_of s c) e (move_fine s c o fits))

-- only the octets of a literal are marked
pub large : (s : Sym) (c : ℕ) → is_octets s ≡ false → SymFits s ≡ true → nat_lt c 256 ≡ false → is_go (rule_of s c) ≡ false
large s c o fits e = fine_small (ends_open s) (may_yield s) (need s) (nat_lt c 256) (rule_of s c) e (move_fine s c o fits)

-- a fitting symbol within a literal has octets to come
pub first_left : (n : ℕ) → SymFits (sym.Free (free.Octets n)) ≡ true → nat_lt 0 n ≡ true
first_left n fits = (and_parts (nat_lt 0 n) (nat_le n 50000000) fits).0

-- a symbol that isn't within a literal has no octets of one to come
pub outside_left : (s : Sym) → is_octets s ≡ false → sym_left s ≡ 0
outside_left (sym.Free (free.Octets n)) e = absurd cc
outside_left _ e = refl

-- a symbol other than that of a literal's octets isn't within a literal
pub outside_is : (s : Sym) → is_octets s ≡ false → inside responses s ≡ false
outside_is s e = ap (nat_lt 0) (outside_left s e)

-- a move within a literal leaves at least one octet fewer to come, and another at most the octets of a literal more
pub moves_left : (s : Sym) (c : ℕ) → SymFits s ≡ true → Leaves literal_limit (inside responses s) (sym_left s) (pushed_left responses (rule_of s c))
moves_left s c = by_octets (λ s. SymFits s ≡ true → Leaves literal_limit (inside responses s) (sym_left s) (pushed_left responses (rule_of s c))) s
    (λ n fits. let l = octets_left n c fits in
    subst (λ (b : Bool). Leaves literal_limit b n (pushed_left responses (free_rule (free.Octets n) c))) (sym (first_left n fits)) (omega (arith, l)))
    (λ o fits. let l = fine_left (ends_open s) (may_yield s) (need s) (nat_lt c 256) (rule_of s c) (move_fine s c o fits) in
    subst (λ (b : Bool). Leaves literal_limit b (sym_left s) (pushed_left responses (rule_of s c))) (sym (outside_is s o)) (omega (arith, l)))

-- a fitting symbol that ends before an octet reads the empty text
pub yields : (s : Sym) (c : ℕ) → SymFits s ≡ true → rule_of s c ≡ move.Yield → Lang s []
yields s c fits e = yield_empty s c (moves_yield s c fits e) fits e

-- each symbol needs room for itself at least
pub need_some : (s : Sym) → 1 ≤ need s
need_some (sym.Line line.Start) = omega arith
need_some (sym.Word place.Item k at) = omega arith
need_some (sym.Free (free.Text q)) = omega arith
need_some (sym.Item item.Open) = omega arith
need_some (sym.Names names.Open) = omega arith
need_some (sym.Set set.Open) = omega arith
need_some (sym.Folder folder.Attributes) = omega arith
need_some _ = omega arith
