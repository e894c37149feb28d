use Rattle.imap_automaton.specs.Responses.{responses}
use Rattle.std.proofs.Common.{◌≡◌, get_or, refl, sym, ap, ◌∙◌, arith}
use Rattle.imap_automaton.specs.declared.sym.Item.TheVariants as item
use Rattle.imap_automaton.specs.declared.sym.Item.{Item}
use Rattle.imap_automaton.specs.declared.sym.Sym.{Sym}
use Rattle.imap_automaton.specs.declared.sym.Sym.TheVariants as sym
use Rattle.pushdown.specs.declared.moves.Move.TheVariants as move
use Rattle.imap_automaton.specs.Rules.{rule_of}
use Rattle.pushdown.proofs.Leading.{runs_more}
use Rattle.imap_automaton.proofs.RunLemmas.{one_fits}
use Rattle.imap_automaton.proofs.runs.number_run.Goals as goal

pub loop-i-preserved : goal.loop-i-preserved
loop-i-preserved c =
    let first = sym.Item (item.Number c.args.value c.args.digits) in
    let so_far = sym.Item (item.Number c.loop-i.so_far c.loop-i.length) in
    let next = sym.Item (item.Number c.in-One-Item-Number.v c.in-One-Item-Number.d) in
    let octet = get_or c.args.octets.now c.loop-i.i 0 in
    let e : rule_of so_far octet ≡ move.One next = sym c.number_rule.ensures ∙ c.in-One-Item-Number.is
    ∙ ap (λ (s : Sym). move.One s) (c.in-One-Item-Number.field-0-is ∙ ap (λ (x : Item). sym.Item x) c.in-One-Item-Number.field-0-0-is) in
    record {
      fits = one_fits so_far next octet c.loop-i.invariant.fits e;
      run = runs_more responses first so_far next c.args.octets.now c.loop-i.i octet (omega arith) refl c.loop-i.invariant.run e;
    }
