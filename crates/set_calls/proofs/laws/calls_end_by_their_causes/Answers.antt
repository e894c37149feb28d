use Rattle.set_calls.specs.Calls.{call_begun}
use Rattle.set_calls.proofs.Ended.{ended}
use Rattle.set_calls.proofs.laws.calls_end_by_their_causes.Goals as goal

pub returns-clause-partly : goal.returns-clause-partly
returns-clause-partly x c items m life after events fit runs =
    ended _ c _ (λ item mid after drawn job events is steps. x.items_end_by_their_causes.ensures.partly job mid.exchanges mid.mail after.mail mid.life after.life steps.client events steps.does (fit _ item drawn job is).0)
    items (call_begun m life) after events runs

pub returns-clause-unavailable : goal.returns-clause-unavailable
returns-clause-unavailable x c items m life after events fit runs =
    ended _ c _ (λ item mid after drawn job events is steps. x.items_end_by_their_causes.ensures.unavailable job mid.exchanges mid.mail after.mail mid.life after.life steps.client events steps.does
    (fit _ item drawn job is).0 (fit _ item drawn job is).1)
    items (call_begun m life) after events runs
