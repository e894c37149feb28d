use Rattle.std.proofs.Common.{◌≡◌, List, [], ◌∷◌, refl, sym, ap, subst, ◌∙◌, arith}
use Rattle.pushdown.specs.Flow.{Ready, left_of}
use Rattle.pushdown.specs.Fed.{LeavesSymbols}
use Rattle.pushdown.proofs.Marks.{start_good}
use Rattle.pushdown.proofs.scanner.Scanner.new.Goals as goal

pub returns : goal.returns
returns g c =
    let machine = g.S.Symbol.automaton in
    let laws = c.lawful.ensures in
    let is = c.of.ensures ∙ ap (λ (s : g.row.S.Denot). s ∷ []) c.start.ensures in
    record {
      ready = subst (Ready machine) (sym is) (start_good machine laws, (omega (arith, laws.start_room), tt));
      more = λ e. none machine.start (sym is ∙ e);
      stands = subst (λ (ss : List g.row.S.Denot). LeavesSymbols machine ss 0 []) (sym is)
          (record { text = []; octets = refl; leads = refl; counted = refl; within = omega arith });
      taken = refl;
      bound = omega (arith, ap (left_of machine) is, laws.start_left);
    }
  where
    none : {A : Type 0} (s : A) → s ∷ [] ≡ [] → ⊥
    none s e = cc
