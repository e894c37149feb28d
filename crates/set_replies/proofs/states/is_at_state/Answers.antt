use Rattle.std.proofs.Common.{ℕ, Bool, ap, ◌∙◌}
use Rattle.jmap_arguments.specs.State.{state_text}
use Rattle.mail_state.specs.LookUps.{touches_kept}
use Rattle.set_replies.specs.States.{is_state}
use Rattle.set_arguments.specs.reading.Asked.{asked_data}
use Rattle.set_replies.specs.reading.Types.{type_of}
use Rattle.set_replies.proofs.StateLemmas.{place_is}
use Rattle.set_replies.proofs.states.is_at_state.Goals as goal

pub returns : goal.returns
returns c = λ h of.
    let asks : ℕ → ℕ → Bool = λ epoch place. is_state (state_text (record { epoch = epoch; place = place })) (asked_data c.args.asked.now).state in
    c.is_at_place.ensures ∙ ap (λ (e : ℕ). asks e (touches_kept c.args.state.now (type_of c.args.method)).place) of.epoch
    ∙ ap (asks h.epoch) (place_is c.args.method h c.args.state.now of)
