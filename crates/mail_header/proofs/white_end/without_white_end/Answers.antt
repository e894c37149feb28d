use Rattle.std.proofs.Common.{sym, ◌∙◌}
use Rattle.mail_header.proofs.TextLemmas.{last_dropped, last_kept}
use Rattle.mail_header.proofs.white_end.without_white_end.Goals as goal

pub returns-then-not-is_white : goal.returns-then-not-is_white
returns-then-not-is_white c = sym (last_kept c.loop-rest.rest.now _ c.in-len1-up.len_at_least (sym c.is_white.ensures ∙ c.if-not-is_white.true)) ∙ c.loop-rest.invariant

pub loop-rest-preserved : goal.loop-rest-preserved
loop-rest-preserved c = last_dropped c.loop-rest.rest.now _ c.in-len1-up.len_at_least (sym c.is_white.ensures ∙ c.if-not-is_white.false) ∙ c.loop-rest.invariant
