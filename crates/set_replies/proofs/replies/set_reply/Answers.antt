use Rattle.std.proofs.Common.{◌∙◌, ℕ, ap, map}
use Rattle.std.proofs.lemmas.Result.{IfOk-weaker}
use Rattle.serde_json.specs.Data.{Data}
use Rattle.mail_state.specs.LookUps.{touches_kept}
use Rattle.set_replies.specs.Lists.{Served, lists_of}
use Rattle.set_replies.specs.Replies.{reply_data}
use Rattle.set_replies.specs.States.{place_of, state_at}
use Rattle.set_replies.specs.reading.Items.{done_data}
use Rattle.set_replies.specs.reading.Types.{served_in, type_of}
use Rattle.set_replies.proofs.StateLemmas.{apart, place_is, served_is}
use Rattle.set_replies.proofs.replies.set_reply.Goals as goal

pub returns-clause-exact : goal.returns-clause-exact
returns-clause-exact c = λ h of.
    let s = c.args.state.now in
    let reply : ℕ → ℕ → Served → Data = λ epoch place served.
    reply_data c.args.method (state_at epoch c.args.before) (state_at epoch place) (lists_of c.args.method served (map done_data c.args.done.now)) in
    IfOk-weaker c.reply_over.result _ _
    (λ value is. is ∙ ap (λ (e : ℕ). reply e (touches_kept s (type_of c.args.method)).place (served_in s)) of.epoch
    ∙ ap (λ (p : ℕ). reply h.epoch p (served_in s)) (place_is c.args.method h s of)
    ∙ ap (reply h.epoch (place_of c.args.method h)) (served_is h s of))
    (c.reply_over.ensures.exact (apart h s of))
