use Rattle.std.proofs.Common.{refl, arith}
use Rattle.pushdown.proofs.Skipping.{skip_all}
use Rattle.pushdown.proofs.scanner.Scanner.skip.Goals as goal

pub returns-clause-fed : goal.returns-clause-fed
returns-clause-fed g c =
    let machine = g.S.Symbol.automaton in
    let laws = c.lawful.ensures in
    λ b f.
    skip_all machine laws c.args.self.now _ b c.args.octets.now c.skip_inside-rest.result.now f
    (λ i. omega (arith, c.type_inv.octets i)) c.skip_inside-rest.ensures.rest c.skip_inside-rest.ensures.symbols refl refl
