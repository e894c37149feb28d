use Rattle.std.proofs.Common.{◌∙◌, append_assoc, ◌≡◌, string_bytes}
use Rattle.std.proofs.lemmas.Result.{IfOk-weaker}
use Rattle.jmap_core.specs.Session.{session_state_text}
use Rattle.jmap_core.proofs.session.session_state.Goals as goal

pub returns : goal.returns
returns c = IfOk-weaker c.format.result _ (λ text. string_bytes text ≡ session_state_text c.args.user.now c.args.base.now) (λ s h. h ∙ simp append_assoc) c.format.ensures.ok
