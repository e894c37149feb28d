use Rattle.std.proofs.Common.{string_bytes, ap, ◌∙◌}
use Rattle.change_list.specs.Kept.{Kept}
use Rattle.mail_state.specs.LookUps.{touches_kept}
use Rattle.served_types.proofs.StateLemmas.{state_named}
use Rattle.served_types.proofs.types.type_text.Goals as goal

pub returns : goal.returns
returns c =
    state_named (λ text. string_bytes text) c.state_text.result c.epoch-epoch.result c.place-place.result c.args.state.now.epoch (touches_kept c.args.state.now c.args.kind).place
    c.epoch-epoch.ensures (c.place-place.ensures.exact ∙ ap (λ (k : Kept). k.place) c.list.ensures) c.state_text.ensures
