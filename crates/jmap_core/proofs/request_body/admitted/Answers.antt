use Rattle.std.proofs.Common.{inr, arith}
use Rattle.std.proofs.lemmas.List.{length-map}
use Rattle.jmap_core.specs.reading.Forms.{form_data}
use Rattle.jmap_core.proofs.Capabilities.{admitted-unknown, admitted-many, admitted-fit}
use Rattle.jmap_core.proofs.request_body.admitted.Goals as goal

pub returns-in_default : goal.returns-in_default
returns-in_default c = inr (admitted-unknown (form_data c.args.form) c.in_default.ensures)

pub returns-then-len-gt-MAX_CALLS_IN_REQUEST : goal.returns-then-len-gt-MAX_CALLS_IN_REQUEST
returns-then-len-gt-MAX_CALLS_IN_REQUEST c = inr (admitted-many (form_data c.args.form) c.in-Some.using c.in-Some.ensures (simp length-map (omega arith)))

pub returns : goal.returns
returns c = admitted-fit (form_data c.args.form) c.in-Some.using c.in-Some.ensures (simp length-map (omega arith))
