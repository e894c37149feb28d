use Rattle.std.proofs.Common.{ℕ, ◌-◌, length, take, min, refl, ap, ◌∙◌, arith}
use Rattle.std.proofs.lemmas.List.{take_min}
use Rattle.pushdown.proofs.Taking.{run_some}
use Rattle.pushdown.proofs.scanner.Scanner.take_many.Goals as goal

pub advance_through-count-requires : goal.advance_through-count-requires
advance_through-count-requires g c = c.requires.1.ready

pub returns-clause-fed : goal.returns-clause-fed
returns-clause-fed g c =
    let machine = g.S.Symbol.automaton in
    let s = c.args.self.now in
    let octets = c.args.octets.now in
    let most = c.min-most.ensures ∙ ap (λ (n : ℕ). min (n - s.outside) (length octets)) c.limit-limit.ensures in
    let front = c.split_at.ensures.front ∙ ap (λ (n : ℕ). take n octets) most ∙ take_min (machine.limit - s.outside) octets in
    λ b f.
    run_some machine c.lawful.ensures s _ b octets c.split_at.result.0.now c.split_at-2.result.1.now c.advance_through-count.result f
    (λ i. omega (arith, c.type_inv.octets i)) front c.advance_through-count.ensures.within c.advance_through-count.ensures.run c.advance_through-count.ensures.some refl refl
    c.split_at-2.ensures.back
