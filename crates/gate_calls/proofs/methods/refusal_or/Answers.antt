use Rattle.std.proofs.Common.{Result, subst}
use Rattle.jmap_arguments.specs.Outcome.{Agrees}
use Rattle.jmap_arguments.specs.declared.method_error.MethodError.{MethodError}
use Rattle.jmap_arguments.specs.declared.method_error.MethodError.TheVariants.{Memory}
use Rattle.gate_calls.proofs.Meaning.{not_refused, is_refused}
use Rattle.gate_calls.proofs.methods.refusal_or.Goals as goal

pub returns-in-Ok-clause-meant : goal.returns-in-Ok-clause-meant
returns-in-Ok-clause-meant c = λ due agrees.
    not_refused due c.in-Ok.field-0 c.args.error (subst (λ (r : Result (Unit {0}) MethodError). Agrees Memory (λ (x : Unit {0}). x) r due) c.in-Ok.is agrees)

pub returns-in-Err-clause-meant : goal.returns-in-Err-clause-meant
returns-in-Err-clause-meant c = λ due agrees.
    is_refused due c.args.error c.in-Err.refusal (subst (λ (r : Result (Unit {0}) MethodError). Agrees Memory (λ (x : Unit {0}). x) r due) c.in-Err.is agrees)
