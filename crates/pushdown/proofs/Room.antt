-- Room for the symbols to come, and which of them fit.
use Rattle.std.proofs.Common.{◌≡◌, ℕ, ◌+◌, ◌≤◌, true, not, ◌||◌, ◌&&◌, subst, sym, ap, ◌∙◌, arith}
use Rattle.std.specs.Prelude.{nat_le}
use Rattle.std.proofs.lemmas.Bool.{and_parts, leb-true}
use Rattle.pushdown.specs.declared.moves.Move.{Move}
use Rattle.pushdown.specs.declared.moves.Move.TheVariants as move
use Rattle.pushdown.specs.Automaton.{Automaton}
use Rattle.pushdown.specs.Flow.{move_good, move_needs}
use Rattle.pushdown.specs.Lawful.{IsLawful}

module _ {S : Type 0} (machine : Automaton S) (laws : IsLawful machine) where
  -- a symbol that is followed by two has room for them
  pub two_room : (s : S) (c : ℕ) (a b : S) → machine.fits s ≡ true → machine.rule_of s c ≡ move.Two a b → 2 ≤ machine.need s
  two_room s c a b fits e =
      let p = and_parts (nat_le (machine.need a + 1) (machine.need s)) (nat_le (machine.need b) (machine.need s))
      (subst (λ (m : Move S). move_needs machine (machine.need s) m ≡ true) e (laws.needs s c fits)) in
      let n = laws.needs_some a in
      omega (arith, leb-true _ _ p.0, n)

  -- the symbol after an octet fits
  pub one_fits : (s a : S) (c : ℕ) → machine.fits s ≡ true → machine.rule_of s c ≡ move.One a → machine.fits a ≡ true
  one_fits s a c fits e = (and_parts (machine.fits a) (not (machine.ends_open a) || machine.ends_open s)
      (subst (λ (m : Move S). move_good machine (machine.ends_open s) m ≡ true) e (laws.good s c fits))).0
