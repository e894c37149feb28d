use Rattle.std.proofs.Common.{true, subst, sym, Bool, Ok, Err}
use Rattle.std.proofs.lemmas.Result.{err_from_is_err_and}
use Rattle.gate_world.proofs.Joins.{widen}
use Rattle.imap_exchange.specs.Received.{Octets}
use Rattle.imap_exchange.specs.Responses.{ReadsResponse}
use Rattle.imap_client.proofs.Greetings.{greeted, ungreeted}
use Rattle.imap_client.proofs.dialing.greet.Goals as goal

pub returns-in_err-greeting-clause-tape : goal.returns-in_err-greeting-clause-tape
returns-in_err-greeting-clause-tape g c =
    let is = err_from_is_err_and c.from_residual.result c.from_residual.ensures.1 in
    rw (is.1, is.2) (widen _ c.in_err-greeting.ensures.tape
    (λ x reads. ungreeted c.next_response.new.received c.next_response.new.up c.in_err-greeting.field-0.0
    (subst (λ (u : Octets). ReadsResponse 0 true c.next_response.new.up u c.next_response.new.received (Err c.in_err-greeting.field-0.0) x) c.requires.none
    (subst (λ (b : Bool). ReadsResponse 0 b c.next_response.new.up c.args.unread.now c.next_response.new.received (Err c.in_err-greeting.field-0.0) x) c.requires.up reads))))

pub returns-clause-tape : goal.returns-clause-tape
returns-clause-tape g c =
    widen _ c.in_ok-greeting.ensures.tape (λ x reads. greeted c.next_response.new.received c.next_response.new.up c.in_ok-greeting.greeting c.is_preauth.result
    (sym c.is_preauth.ensures) (subst (λ (u : Octets). ReadsResponse 0 true c.next_response.new.up u c.next_response.new.received (Ok c.in_ok-greeting.greeting) x) c.requires.none
    (subst (λ (b : Bool). ReadsResponse 0 b c.next_response.new.up c.args.unread.now c.next_response.new.received (Ok c.in_ok-greeting.greeting) x) c.requires.up reads)))
