use Rattle.std.proofs.Common.{refl, sym, subst, inl}
use Rattle.gate_machine.specs.Kept.{KeptMail, IsKeptOf}
use Rattle.gate_machine.proofs.Keeping.{commits_other, is_other, is_same, not_same}
use Rattle.gate_machine.proofs.known.Known.commit.Goals as goal

pub returns-clause-ok : goal.returns-clause-ok
returns-clause-ok c = λ k kept. (
  k,
  inl (is_same k c.args.self kept (c.is_same.ensures.0 c.if-not-is_same.false), refl),
  subst (λ (x : KeptMail). IsKeptOf k x) (sym c.known.view_is) kept,
)

pub returns-then-not-is_same-clause-ok : goal.returns-then-not-is_same-clause-ok
returns-then-not-is_same-clause-ok c = commits_other c.args.self c.serve_told.result (not_same c.is_same.result c.is_same.ensures.1 c.if-not-is_same.true) c.serve_told.ensures.ok

pub returns-then-not-is_same-clause-spent : goal.returns-then-not-is_same-clause-spent
returns-then-not-is_same-clause-spent c = λ is k kept.
    (is_other k c.args.self kept (not_same c.is_same.result c.is_same.ensures.1 c.if-not-is_same.true), c.serve_told.ensures.spent is k kept)
