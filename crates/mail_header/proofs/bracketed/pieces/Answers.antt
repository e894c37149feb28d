use Rattle.std.proofs.Common.{◌≡◌, length, eqb, eqb-true, true}
use Rattle.std.proofs.lemmas.List.{nil_from_length}
use Rattle.mail_header.proofs.BracketLemmas.{gathered_more, gathered_all}
use Rattle.mail_header.proofs.bracketed.pieces.Goals as goal

pub loop-rest-preserved : goal.loop-rest-preserved
loop-rest-preserved c = gathered_more _ _ c.loop-rest.rest.now c.in_ok-rest.rest.now c.args.text.now c.loop-rest.invariant c.in_ok-rest.ensures

pub returns : goal.returns
returns c = gathered_all c.loop-rest.names c.loop-rest.rest.now c.args.text.now c.loop-rest.invariant (nil_from_length c.loop-rest.rest.now
    (let e : eqb (length c.loop-rest.rest.now) 0 ≡ true = cc in eqb-true (length c.loop-rest.rest.now) 0 e))
