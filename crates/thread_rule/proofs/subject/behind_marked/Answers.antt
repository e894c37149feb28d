use Rattle.thread_rule.proofs.PieceLemmas.{match_map}
use Rattle.thread_rule.proofs.LeaderLemmas.{marked_behind, marked_past, mark_alone, marked_alone}
use Rattle.thread_rule.proofs.subject.behind_marked.Goals as goal

pub loop-behind-preserved : goal.loop-behind-preserved
loop-behind-preserved c =
    let s = c.loop-behind.rest.now in
    let u = c.in-Some.behind.now in
    record {
      text_of_rest = λ t d. c.loop-behind.invariant.text_of_rest t (marked_behind s u t c.in-Some.ensures d);
      rest_of_text = λ t d. marked_past s u t c.in-Some.ensures (c.loop-behind.invariant.rest_of_text t d);
    }

pub returns : goal.returns
returns c =
    let s = c.loop-behind.rest.now in
    match_map c.behind_mark.result
    (λ l t d. l t (marked_alone s t c.in_default.ensures (c.loop-behind.invariant.rest_of_text t d)))
    (λ r d. c.loop-behind.invariant.text_of_rest r.now (mark_alone s r.now d)) c.behind_mark.ensures
