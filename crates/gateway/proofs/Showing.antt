-- From what the calls add to what showing a message is.
use Rattle.std.proofs.Common.{◌≡◌, ◌++◌, ℕ, List, [], ◌∷◌, refl, sym, ◌∙◌, ap, subst, Result, Ok, Err}
use Rattle.std.specs.Prelude.{IfOk}
use Rattle.std.specs.declared.alloc.AllocError.{AllocError}
use Rattle.std.proofs.lemmas.List.{append-nil}
use Rattle.serde_json.specs.Data.{Data}
use Rattle.serde_json.specs.Written.{compact_text}
use Rattle.gate_world.specs.declared.event.Event.{Event}
use Rattle.gate_world.specs.declared.event.Event.TheVariants.{Accepted}
use Rattle.gate_world.specs.declared.outside.Failed.{Failed}
use Rattle.email_objects.specs.EmailObjects.{IsShownObject}
use Rattle.gate_serving.specs.declared.front.FrontError.{FrontError}
use Rattle.gate_serving.specs.declared.front.FrontError.TheVariants as error
use Rattle.gate_world.specs.Sending.{Sends}
use Rattle.gate_serving.specs.Answers.{line_end}
use Rattle.gateway.specs.Show.{object_line, ShowsObject, ReadsInput, AnswersShow, Sent, Shows, ShowsClient}
use Rattle.gateway.specs.Program.{IsSaid, front_failed, RunsShow}

-- the text with its line end shows the object
pub shows_object : (octets : List ℕ) (o : Data) (text : List ℕ) (line : Result (List ℕ) AllocError) → IsShownObject octets o → text ≡ compact_text o
    → IfOk line (λ l. l ≡ text ++ line_end) → IfOk line (λ l. ShowsObject octets l)
unfolding object_line
shows_object octets o text (Ok line) is text_is with_end = (o, is, with_end ∙ ap (λ (t : List ℕ). t ++ line_end) text_is)
shows_object octets o text (Err e) is text_is with_end = tt

-- the line was sent, or the front failed before
pub sent_whole : {xs : List Event} (ys : List Event) (line : List ℕ) → ReadsInput (Ok line) xs → Sends line (Ok tt) ys → AnswersShow (Ok tt) (xs ++ ys)
sent_whole {xs} ys line reads sends =
    Sent record { reading = xs; heard = ys; line = line; sent = Ok tt; whole = refl; reads = reads; sends = sends; outcome_is = refl }

-- the front failed before the line was sent whole
pub sent_part : {xs : List Event} (ys : List Event) (line : List ℕ) (e : Failed) → ReadsInput (Ok line) xs → Sends line (Err e) ys → AnswersShow (Err error.Failed) (xs ++ ys)
sent_part {xs} ys line e reads sends =
    Sent record { reading = xs; heard = ys; line = line; sent = Err e; whole = refl; reads = reads; sends = sends; outcome_is = refl }

-- the client was accepted
pub accepted : {xs : List Event} (ys : List Event) (outcome : Result (Unit {0}) FrontError) → xs ≡ Accepted ∷ [] → ShowsClient outcome ys → Shows outcome (xs ++ ys)
accepted ys outcome is so = subst (λ (l : List Event). Shows outcome (l ++ ys)) (sym is) so

-- the status by the outcome, and what is said
pub runs_well : {es : List Event} → Shows (Ok tt) es → RunsShow 0 es
runs_well {es} shows = (es, [], Ok tt, sym (append-nil es), shows, (refl, refl))

-- memory ran out: the status is 5, and nothing is said
pub runs_out : {es : List Event} → Shows (Err error.Memory) es → RunsShow 5 es
runs_out {es} shows = (es, [], Err error.Memory, sym (append-nil es), shows, (refl, refl))

-- the front failed: the status is 6, and that is said
pub runs_badly : {es said : List Event} (status : ℕ) → status ≡ 6 → Shows (Err error.Failed) es → IsSaid front_failed said → RunsShow status (es ++ said)
runs_badly {es} {said} status is shows says = (es, said, Err error.Failed, refl, shows, (is, says))
