use Rattle.std.proofs.Common.{◌∙◌, ◌+◌, List, ℕ, drop, ap, sym, Some, arith}
use Rattle.imap_types.proofs.CutLemmas.{cut_index, cut_never}
use Rattle.imap_grammar.proofs.codes.cut.Goals as goal

pub returns-then-c-octet : goal.returns-then-c-octet
returns-then-c-octet c =
    cut_index c.args.octet c.args.bytes.now c.loop-i.i c.loop-i-test.true c.loop-i.invariant c.if-c-octet.true
    ∙ ap (λ (u : List ℕ). Some (u, drop (c.loop-i.i + 1) c.args.bytes.now)) (sym c.before-then-c-octet.ensures)
    ∙ ap (λ (u : List ℕ). Some (c.before-then-c-octet.result.now, u)) (sym c.behind.ensures)

pub returns : goal.returns
returns c = cut_never c.args.octet c.args.bytes.now (λ k lt. c.loop-i.invariant k (omega (arith, lt, c.loop-i-test.false)))
