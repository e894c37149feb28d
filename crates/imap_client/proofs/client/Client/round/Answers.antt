use Rattle.std.proofs.Common.{refl, sym, ap, ◌∙◌}
use Rattle.gate_world.proofs.Joins.{widen}
use Rattle.imap_client.specs.declared.round.RoundStage.TheVariants as stage
use Rattle.imap_client.proofs.Connections.{on_ok}
use Rattle.imap_client.proofs.RoundSteps.{rounded, round_stops, keeps_none, kept_counts, kept_next}
use Rattle.imap_client.proofs.client.Client.round.Goals as goal

pub returns-clause-tape : goal.returns-clause-tape
returns-clause-tape g c =
    widen _ c.follow-result.ensures.tape (λ x so life stands.
    let f = so life stands in
    let r = rounded c.args.mirror.now c.follow-result.new.plan.mirror (record { stage = stage.Listing c.special_use.result; mirror = c.replace.result }) c.follow-result.new.plan
    (ap stage.Listing (c.special_use.ensures ∙ stands.special_use_is (sym stands.alive ∙ c.requires))) c.replace.ensures.value refl f.1 in
    (f.0, r.0, r.1))

pub returns-clause-alive : goal.returns-clause-alive
returns-clause-alive g c = on_ok c.follow-result.result (λ alive. alive (round_stops _)) c.follow-result.ensures.alive

pub returns-clause-counts : goal.returns-clause-counts
returns-clause-counts g c =
    kept_counts c.args.mirror.now c.replace.result c.follow-result.new.plan.mirror c.replace.ensures.value c.follow-result.ensures.kept

pub returns-clause-next : goal.returns-clause-next
returns-clause-next g c =
    kept_next c.args.mirror.now c.replace.result c.follow-result.new.plan.mirror c.replace.ensures.value c.each_is_mail.ensures c.follow-result.ensures.kept

pub follow-result-requires-clause-kept : goal.follow-result-requires-clause-kept
follow-result-requires-clause-kept g c = keeps_none _
