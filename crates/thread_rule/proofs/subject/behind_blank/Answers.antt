use Rattle.std.proofs.Common.{◌≡◌, true}
use Rattle.text_words.specs.Octets.{is_blank}
use Rattle.thread_rule.proofs.PieceLemmas.{wsp_here}
use Rattle.thread_rule.proofs.subject.behind_blank.Goals as goal

pub returns-then-is_blank : goal.returns-then-is_blank
returns-then-is_blank c =
    let b : is_blank c.in_ok-first.first.now ≡ true = cc in
    wsp_here c.args.text.now c.in_ok-first.first.now c.in_ok-first.rest.now c.in_ok-first.ensures.cases.0 b
