use Rattle.std.proofs.Common.{sym, arith}
use Rattle.jmap_arguments.proofs.StateParts.{named_same}
use Rattle.jmap_arguments.proofs.state.read_place.Goals as goal

pub returns-in_err-named-clause-none : goal.returns-in_err-named-clause-none
returns-in_err-named-clause-none c = λ _ p small is. c.read_state.ensures.none c.in_err-named.was (record { epoch = c.args.epoch; place = p }) small is

pub returns-then-named-epoch-clause-one : goal.returns-then-named-epoch-clause-one
returns-then-named-epoch-clause-one c = λ p small is.
    (named_same c.args.epoch c.args.text.now c.in_ok-named.named p c.in_ok-named.ensures.one (omega arith) small is).1

pub returns-else-named-epoch-clause-none : goal.returns-else-named-epoch-clause-none
returns-else-named-epoch-clause-none c = λ _ p small is.
    c.if-named-epoch.false (sym (named_same c.args.epoch c.args.text.now c.in_ok-named.named p c.in_ok-named.ensures.one (omega arith) small is).0)
