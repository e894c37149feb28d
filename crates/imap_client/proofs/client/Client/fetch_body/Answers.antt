use Rattle.std.proofs.Common.{refl, ◌∙◌}
use Rattle.gate_world.proofs.Joins.{widen}
use Rattle.imap_client.specs.Bodies.{body_begun}
use Rattle.imap_client.proofs.RoundSteps.{body_ended, body_fetched, body_stops, done_has_body, keeps_none, kept_counts, kept_next}
use Rattle.imap_client.proofs.client.Client.fetch_body.Goals as goal

pub returns-in-Err-clause-tape : goal.returns-in-Err-clause-tape
returns-in-Err-clause-tape g c =
    widen _ c.in-Err.ensures.tape (λ x so life stands.
    let f = so life stands in
    let b = body_ended c.in-Err.end c.args.folder c.args.uid c.args.mirror.now c.follow-result.new.plan.mirror
    (record { stage = c.begun-stage.result; mirror = c.replace.result; folder = c.args.folder; uid = c.args.uid }) c.follow-result.new.plan refl refl
    (c.begun-stage.ensures ∙ (λ i. body_begun ((c.selected.ensures ∙ stands.selected_is) i) (c.folder.ensures i))) c.replace.ensures.value refl f.1 in
    (f.0, b.0, b.1))

pub returns-in-Ok-clause-tape : goal.returns-in-Ok-clause-tape
returns-in-Ok-clause-tape g c =
    widen _ c.in-Ok.ensures.tape (λ x so life stands.
    let f = so life stands in
    let b = body_fetched c.body_at.result c.args.folder c.args.uid c.args.mirror.now c.follow-result.new.plan.mirror
    (record { stage = c.begun-stage.result; mirror = c.replace.result; folder = c.args.folder; uid = c.args.uid }) c.follow-result.new.plan refl refl
    (c.begun-stage.ensures ∙ (λ i. body_begun ((c.selected.ensures ∙ stands.selected_is) i) (c.folder.ensures i))) c.replace.ensures.value refl c.body_at.ensures f.1 in
    (f.0, b.0, b.1))

pub returns-in-Ok-clause-alive : goal.returns-in-Ok-clause-alive
returns-in-Ok-clause-alive g c = c.in-Ok.ensures.alive (body_stops _ _ _)

pub body_at-requires : goal.body_at-requires
body_at-requires g c = done_has_body c.follow-result.new.plan.folder c.follow-result.new.plan.uid c.follow-result.new.plan.stage c.follow-result.new.plan.mirror.mail
    c.in-Ok.ensures.done

pub follow-result-requires-clause-kept : goal.follow-result-requires-clause-kept
follow-result-requires-clause-kept g c = keeps_none _

pub returns-in-Err-clause-counts : goal.returns-in-Err-clause-counts
returns-in-Err-clause-counts g c =
    kept_counts c.args.mirror.now c.replace.result c.follow-result.new.plan.mirror c.replace.ensures.value c.follow-result.ensures.kept

pub returns-in-Err-clause-next : goal.returns-in-Err-clause-next
returns-in-Err-clause-next g c =
    kept_next c.args.mirror.now c.replace.result c.follow-result.new.plan.mirror c.replace.ensures.value c.each_is_mail.ensures c.follow-result.ensures.kept

pub returns-in-Ok-clause-counts : goal.returns-in-Ok-clause-counts
returns-in-Ok-clause-counts g c =
    kept_counts c.args.mirror.now c.replace.result c.follow-result.new.plan.mirror c.replace.ensures.value c.follow-result.ensures.kept

pub returns-in-Ok-clause-next : goal.returns-in-Ok-clause-next
returns-in-Ok-clause-next g c =
    kept_next c.args.mirror.now c.replace.result c.follow-result.new.plan.mirror c.replace.ensures.value c.each_is_mail.ensures c.follow-result.ensures.kept
