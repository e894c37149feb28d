use Rattle.thread_rule.proofs.PieceLemmas.{of_none, match_map, no_inner}
use Rattle.thread_rule.proofs.subject.unwrapped.Goals as goal

pub returns-in_err-inner-clause-inner : goal.returns-in_err-inner-clause-inner
returns-in_err-inner-clause-inner c =
    of_none _ c.from_residual.result c.from_residual.ensures (λ t u. c.in_err-inner.ensures u.inner u.header)

pub returns-clause-inner : goal.returns-clause-inner
returns-clause-inner c =
    let s = c.args.text.now in
    let i = c.in_ok-inner.inner.now in
    match_map c.before_word.result (λ l. no_inner s i c.in_ok-inner.ensures l)
    (λ r d. record { inner = i; header = c.in_ok-inner.ensures; trailer = d }) c.before_word.ensures
