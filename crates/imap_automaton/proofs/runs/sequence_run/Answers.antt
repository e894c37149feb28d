use Rattle.imap_automaton.specs.Responses.{responses}
use Rattle.std.proofs.Common.{◌≡◌, get_or, refl, sym, ap, ◌∙◌, arith}
use Rattle.imap_automaton.specs.declared.sym.Line.TheVariants as line
use Rattle.imap_automaton.specs.declared.sym.Line.{Line}
use Rattle.imap_automaton.specs.declared.sym.Sym.{Sym}
use Rattle.imap_automaton.specs.declared.sym.Sym.TheVariants as sym
use Rattle.pushdown.specs.declared.moves.Move.TheVariants as move
use Rattle.imap_automaton.specs.Rules.{rule_of}
use Rattle.pushdown.proofs.Leading.{runs_more}
use Rattle.imap_automaton.proofs.RunLemmas.{one_fits}
use Rattle.imap_automaton.proofs.runs.sequence_run.Goals as goal

pub loop-i-preserved : goal.loop-i-preserved
loop-i-preserved c =
    let first = sym.Line (line.Sequence c.args.value c.args.digits) in
    let so_far = sym.Line (line.Sequence c.loop-i.so_far c.loop-i.length) in
    let next = sym.Line (line.Sequence c.in-One-Line-Sequence.v c.in-One-Line-Sequence.d) in
    let octet = get_or c.args.octets.now c.loop-i.i 0 in
    let e : rule_of so_far octet ≡ move.One next = sym c.sequence_rule.ensures ∙ c.in-One-Line-Sequence.is
    ∙ ap (λ (s : Sym). move.One s) (c.in-One-Line-Sequence.field-0-is ∙ ap (λ (x : Line). sym.Line x) c.in-One-Line-Sequence.field-0-0-is) in
    record {
      fits = one_fits so_far next octet c.loop-i.invariant.fits e;
      run = runs_more responses first so_far next c.args.octets.now c.loop-i.i octet (omega arith) refl c.loop-i.invariant.run e;
    }
