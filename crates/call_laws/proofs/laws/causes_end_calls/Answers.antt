use Rattle.std.proofs.Common.{inl, inr}
use Rattle.call_laws.proofs.laws.causes_end_calls.Goals as goal

pub returns-clause-partly : goal.returns-clause-partly
returns-clause-partly c call item mid after ends events fit stop why =
    c.causes_end_items.ensures.partly stop.job mid.exchanges mid.mail after.mail mid.life after.life stop.steps.client ends stop.doing stop.steps.does
    (fit _ item stop.drawn stop.job stop.is_prepared).0 why

pub returns-clause-unavailable : goal.returns-clause-unavailable
returns-clause-unavailable c call item mid after ends events fit stop why =
    c.causes_end_items.ensures.unavailable stop.job mid.exchanges mid.mail after.mail mid.life after.life stop.steps.client ends stop.doing stop.steps.does
    (fit _ item stop.drawn stop.job stop.is_prepared).0 why

pub returns-clause-done : goal.returns-clause-done
returns-clause-done c item job mid after done events fit steps (inl why) =
    elim (c.causes_end_items.ensures.partly job mid.exchanges mid.mail after.mail mid.life after.life steps.client _ events steps.does fit why) [
      | inl memory ↦ absurd (let no = memory in cc)
      | inr partly ↦ absurd (let no = partly in cc)
    ]
returns-clause-done c item job mid after done events fit steps (inr why) =
    elim (c.causes_end_items.ensures.unavailable job mid.exchanges mid.mail after.mail mid.life after.life steps.client _ events steps.does fit why) [
      | inl memory ↦ absurd (let no = memory in cc)
      | inr unavailable ↦ absurd (let no = unavailable in cc)
    ]
