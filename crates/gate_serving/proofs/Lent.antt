-- What is answered in the link life that there is, and the end of that.
use Rattle.std.proofs.Common.{◌≡◌, ◌≢◌, ◌∙◌, ℕ, Bool, List, map, Option, Some, None, Result, Ok, Err, refl, sym, ap, subst}
use Rattle.std.specs.Prelude.{OnErr, OnOk}
use Rattle.std.specs.declared.alloc.AllocError.{AllocError}
use Rattle.gate_world.specs.Causes.{Faults, NoFault}
use Rattle.gate_world.specs.Tape.{Adds}
use Rattle.gate_world.specs.declared.event.Event.{Event}
use Rattle.gate_world.proofs.Joins.{join, widen}
use Rattle.email_bodies.specs.Asking.{BodyAsk}
use Rattle.email_bodies.proofs.Due.{due_more}
use Rattle.email_get.specs.Asked.{FailsAfter}
use Rattle.email_get.specs.Blobs.{FindsBlob, OctetsFound}
use Rattle.imap_client.specs.LinkLife.{ClientState}
use Rattle.imap_client.specs.Rounds.{CountsOn}
use Rattle.imap_exchange.specs.Answering.{HangsUp}
use Rattle.jmap_core.specs.CreatedIds.{Ids}
use Rattle.jmap_core.specs.Request.{RequestData}
use Rattle.mail_maps.specs.Rows.{Rows}
use Rattle.mail_state.specs.History.{MailHistory}
use Rattle.mail_state.specs.State.{IsStateOf, ServedRows, ServedState}
use Rattle.gate_machine.specs.Fetching.{AsksBodies}
use Rattle.gate_machine.specs.History.{KnownMail}
use Rattle.gate_machine.specs.Holding.{HoldsMachine}
use Rattle.gate_machine.specs.Kept.{ServedMail}
use Rattle.gate_machine.specs.Lending.{HoldsSource, IsLentOf, KeepsOutside, Moment, SourceState}
use Rattle.gate_machine.specs.Machine.{forgotten}
use Rattle.gate_machine.specs.Progress.{Bears, CameTo, Progress, StandsInLife}
use Rattle.gate_machine.specs.declared.machine.Machine.{Machine}
use Rattle.gate_machine.specs.declared.mail_status.MailStatus.TheVariants.{Stands, OutOfMemory}
use Rattle.gate_machine.proofs.Asking.{asked_in_vain, asked_these, bodies_stay}
use Rattle.gate_machine.proofs.Asking as asking
use Rattle.gate_machine.proofs.Stages.{holds_none, stays_borne, up_is}
use Rattle.gate_calls.specs.Calling.{Body, DoesCalls, LacksCalls}
use Rattle.gate_calls.specs.Mailings.{Mailing, mail_at, mailing_by}
use Rattle.gate_calls.specs.RequestMail.{IsAt, LeavesOutside, RequestMoment}
use Rattle.gate_calls.specs.Sources.{CallsMake}
use Rattle.gate_calls.proofs.Working.{Answers, Lacks, calls_lack, calls_lead}
use Rattle.gate_serving.specs.Answers.{Answer, DownloadAsks, IsDownload, calls_text, found_answer, json_answer, spelled}
use Rattle.gate_serving.specs.Doing.{Comes, Does, RunsOut, calls_begun, ids_given, ids_told}
use Rattle.gate_serving.specs.Requests.{Account, Asking, Calls, Download}
use Rattle.gate_serving.specs.declared.door.Door.{Door}
use Rattle.gate_serving.specs.declared.response.Response.{Response}
use Rattle.gate_serving.specs.reading.Making.{AsksAndMakes}
use Rattle.gate_serving.specs.reading.Replying.{Finishes}
use Rattle.gate_serving.specs.reading.Texts.{text_sent}
use Rattle.gate_serving.proofs.Doing.{calls_not_out, does_calls}

-- ---- what is done, and the end of the link life

stood_not_out : (p : Progress) → p.standing ≡ Stands → p.standing ≢ OutOfMemory
stood_not_out p stood out = let both : Stands ≡ OutOfMemory = sym stood ∙ out in cc

-- the machine, the client and the counts of faults at the end of what is done
pub record EndsAt (machine : Machine) (client : ClientState) (was now : Faults) (q : Progress) : Type 0 where
  pub held : HoldsMachine q.machine machine
  pub stands : q.standing ≢ OutOfMemory
  pub in_life : StandsInLife q.left client
  pub bears : Bears q.blamed was now

-- the same where memory ran out
pub record RunsOutAt (client : ClientState) (was now : Faults) (q : Progress) : Type 0 where
  pub in_life : StandsInLife q.left client
  pub bears : Bears q.blamed was now

-- from a moment on at which the work is so, and of this tape
module _ (door : Door) (account : Account) (uploads : List (List ℕ)) (asking : Asking) (IsHere : Progress → Faults → Type 0) (from : Option (List Event)) where
  -- the response is made by what is done; or memory runs out by then
  abbrev pub DoesBy : Machine → ClientState → Option (List Event) → Faults → Result Response AllocError → Type 0
  DoesBy machine client to now (Ok r) =
      (answer : Answer) × (text_sent r ≡ spelled door answer)
      × Adds from to (λ es. (p : Progress) (was : Faults) → IsHere p was
      → (q : Progress) × Does account uploads asking p es q (Some answer) × EndsAt machine client was now q)
  DoesBy machine client to now (Err e) =
      Adds from to (λ es. (p : Progress) (was : Faults) → IsHere p was → (q : Progress) × Does account uploads asking p es q None × RunsOutAt client was now q)

  module _ (kept taken : Machine) (client : ClientState) {mid to : Option (List Event)} {then now : Faults} (hang : Adds mid to (HangsUp client.alive))
      (same : NoFault then now) where
    finished_ok : (r : Response) → DoesBy taken client mid then (Ok r) → kept ≡ taken
        → Adds from to (λ es. (p : Progress) (was : Faults) → IsHere p was → Finishes door account uploads asking p kept was now (Ok r) es)
    finished_ok r (answer, text_is, does) kept_is =
        join _ does hang (λ es fs run hangs p was here.
        let q = run p was here in
        record {
          answered = q.0;
          doing = es;
          ending = fs;
          hangs_up = subst (λ (b : Bool). HangsUp b fs) (up_is q.0.left client q.2.in_life) hangs;
          whole = refl;
          held = subst (λ (m : Machine). HoldsMachine q.0.machine m) (sym kept_is) q.2.held;
          bears = stays_borne q.0.blamed was then now q.2.bears same;
          made = (answer, q.1, text_is, q.2.stands);
        })

    finished_err : (e : AllocError) → DoesBy taken client mid then (Err e) → kept.known ≡ None
        → Adds from to (λ es. (p : Progress) (was : Faults) → IsHere p was → Finishes door account uploads asking p kept was now (Err e) es)
    finished_err e does none =
        join _ does hang (λ es fs run hangs p was here.
        let q = run p was here in
        record {
          answered = q.0;
          doing = es;
          ending = fs;
          hangs_up = subst (λ (b : Bool). HangsUp b fs) (up_is q.0.left client q.2.in_life) hangs;
          whole = refl;
          held = holds_none (forgotten q.0.machine) kept none;
          bears = stays_borne q.0.blamed was then now q.2.bears same;
          made = q.1;
        })

    -- the response, or that there was no memory for it
    pub finished : (result made : Result Response AllocError) → result ≡ made → DoesBy taken client mid then made → OnOk result (kept ≡ taken)
        → OnErr result (kept.known ≡ None)
        → Adds from to (λ es. (p : Progress) (was : Faults) → IsHere p was → Finishes door account uploads asking p kept was now result es)
    finished (Ok r) made is does kept_is none =
        finished_ok r (subst (λ (x : Result Response AllocError). DoesBy taken client mid then x) (sym is) does) kept_is
    finished (Err e) made is does kept_is none =
        finished_err e (subst (λ (x : Result Response AllocError). DoesBy taken client mid then x) (sym is) does) none

-- ---- calls

-- the work is at the moment
abbrev pub IsWorkAt : RequestMoment → Progress → Faults → Type 0
IsWorkAt m p was = IsAt m was p

module _ {T : Type 0} (moment : T → RequestMoment) (door : Door) (account : Account) (uploads : List (List ℕ)) (request : RequestData) (a b : T) where
  -- what came of the calls of a request
  abbrev pub CallsCame : Result Response AllocError → Type 0
  CallsCame made =
      CallsMake (Answers moment request.uses uploads) (Lacks moment request.uses uploads) request.uses a b request.calls made
      (λ r responses. text_sent r ≡ spelled door (json_answer 200 (calls_text account.user account.base responses (ids_told request.created (moment b).created))))

  pub calls_done : (moment a).status ≡ Stands → (moment a).created ≡ ids_given request.created → (made : Result Response AllocError) → CallsCame made
      → DoesBy door account uploads (Calls request) (IsWorkAt (moment a)) (moment a).tape (moment b).machine (moment b).client (moment b).tape (moment b).faults made
  calls_done stands begun (Ok r) (responses, gives, text_is) = (
    json_answer 200 (calls_text account.user account.base responses (ids_told request.created (moment b).created)),
    text_is,
    widen _ (calls_lead moment request.uses uploads gives).run (λ es run p was here.
        let q = run p was here in
        let does : DoesCalls request.uses uploads (calls_begun request p) request.calls q.1.0 responses es (record { progress = q.0; created = (moment b).created }) =
        subst (λ (ids : Ids). DoesCalls request.uses uploads (record { progress = p; created = ids }) request.calls q.1.0 responses es
        (record { progress = q.0; created = (moment b).created })) begun q.1.1 in (
          q.0,
          does_calls account uploads request responses q.1.0 p (record { progress = q.0; created = (moment b).created }) es does,
          record {
            held = q.2.came.held;
            stands = calls_not_out does (stood_not_out p (here.came.standing_is ∙ stands));
            in_life = q.2.came.in_life;
            bears = q.2.came.bears;
          },
        )),
  )
  calls_done stands begun (Err e) lacks =
      widen _ (calls_lack moment request.uses uploads lacks).run (λ es run p was here.
      let q = run p was here in
      let short : LacksCalls request.uses uploads (calls_begun request p) request.calls es q.0 =
      subst (λ (ids : Ids). LacksCalls request.uses uploads (record { progress = p; created = ids }) request.calls es q.0) begun q.1 in
      (q.0, RunsOut short, record { in_life = q.2; bears = q.3 }))

  pub calls_leave : (made : Result Response AllocError) → CallsCame made → LeavesOutside (moment a) (moment b)
  calls_leave (Ok r) (responses, gives, text_is) = (calls_lead moment request.uses uploads gives).leaves
  calls_leave (Err e) lacks = (calls_lack moment request.uses uploads lacks).leaves

-- ---- downloads

-- The work is at the moment at which this mail is lent.
pub record HoldsLent (p : Progress) (served : ServedMail) (source : SourceState) (was now : Faults) : Type 0 where
  pub known : KnownMail
  pub ready : p.machine.known ≡ Some known
  pub stands : p.standing ≡ Stands
  pub lent : IsLentOf known served
  pub holds : HoldsSource p source was now

abbrev pub IsLentAt : ServedMail → Moment → Progress → Faults → Type 0
IsLentAt served m p was = HoldsLent p served m.source was m.faults

-- the mail that is served then
lent_mail : {p : Progress} {served : ServedMail} {source : SourceState} {was now : Faults} (h : HoldsLent p served source was now) → mail_at p ≡ Ok h.known.history
lent_mail h = (λ i. mailing_by (h.stands i) (h.ready i))

-- it is lent still after bodies were asked
stays_lent : {p q : Progress} {served : ServedMail} {source after : SourceState} {was then now : Faults} {asks : List BodyAsk} {events : List Event}
    → HoldsLent p served source was then → AsksBodies p asks events q → HoldsSource q after was now → HoldsLent q served after was now
stays_lent {served = served} holds asked source =
    let stays = bodies_stay holds.known holds.ready asked in
    record {
      known = stays.known;
      ready = stays.ready;
      stands = stays.standing ∙ holds.stands;
      lent = record {
        state = subst (λ (h : MailHistory). IsStateOf h served.state) (sym stays.history) holds.lent.state;
        served_is = holds.lent.served_is ∙ ap (λ (h : MailHistory). h.mail) (sym stays.history);
      };
      holds = source;
    }

-- what is told goes on
pub record Stays (m n : Moment) : Type 0 where
  pub counts : CountsOn m.source.told n.source.told
  pub goes_on : KeepsOutside m n

-- the rows of the state are those of the mail that it stands for
same_rows : (h : MailHistory) (state : ServedState) → IsStateOf h state → state.rows.numbered.rows ≡ h.numbered.rows
same_rows h state stands = ap (λ (rows : ServedRows). rows.numbered.rows) stands.rows

module _ {S : Type 0} (moment : S → Moment) (door : Door) (account : Account) (uploads : List (List ℕ)) (blob : List ℕ) (media : Option (List ℕ)) (served : ServedMail)
    (rows : Rows) (rows_are : rows ≡ served.state.rows.numbered.rows) (a b : S) where
  -- what came of a download
  abbrev pub DownloadCame : Result Response AllocError → Type 0
  DownloadCame made =
      AsksAndMakes (asking.Answers moment) (asking.Lacks moment) a b made
      (λ r asks. (found : OctetsFound) × FindsBlob rows uploads blob asks found × (text_sent r ≡ spelled door (found_answer found media)))
      (FailsAfter (FindsBlob rows uploads blob))

  -- what is found in the rows is found in the mail
  finds_in : {p : Progress} {was : Faults} (holds : HoldsLent p served (moment a).source was (moment a).faults) (asks : List BodyAsk) (found : OctetsFound)
      → FindsBlob rows uploads blob asks found → FindsBlob holds.known.history.numbered.rows uploads blob asks found
  finds_in holds asks found finds =
      subst (λ (emails : Rows). FindsBlob emails uploads blob asks found) (rows_are ∙ same_rows holds.known.history served.state holds.lent.state) finds

  -- the machine that was taken back holds what the source does then
  pub download_done : (machine : Machine)
      → ((p : Progress) (k : KnownMail) (was then : Faults) → p.machine.known ≡ Some k → IsLentOf k served → HoldsSource p (moment b).source was then
      → HoldsMachine p.machine machine) → (made : Result Response AllocError) → DownloadCame made
      → DoesBy door account uploads (Download blob media) (IsLentAt served (moment a)) (moment a).tape machine (moment b).source.client (moment b).tape (moment b).faults made
  download_done machine taken (Ok r) makes =
      let found = makes.meant.0 in
      let answer : Answer = found_answer found media in (
        answer,
        makes.meant.2,
        widen _ (asked_these moment makes.asked).run (λ es run p was holds.
            let q = run p was holds.holds in
            let finds : IsDownload (mail_at p) uploads blob media makes.asks answer =
            subst (λ (mail : Mailing). IsDownload mail uploads blob media makes.asks answer) (sym (lent_mail holds)) (found, finds_in holds makes.asks found makes.meant.1, refl) in
            let after = stays_lent holds q.1 q.2 in (
              q.0,
              Comes (map Body makes.asks) answer (record { bodies = makes.asks; asks_are = refl; finds = finds; asked = q.1 }),
              record {
                held = taken q.0 after.known was (moment b).faults after.ready after.lent after.holds;
                stands = stood_not_out q.0 after.stands;
                in_life = q.2.in_life;
                bears = q.2.bears;
              },
            )),
      )
  download_done machine taken (Err e) makes =
      widen _ (asked_in_vain moment makes).run (λ es run p was holds.
      let q = run p was holds.holds in (
        q.0,
        RunsOut (record {
          tried = makes.tried;
          asked = q.1;
          due = due_more (FailsAfter (FindsBlob rows uploads blob)) (DownloadAsks (mail_at p) uploads blob) makes.tried
              (λ asks fails.
              subst (λ (mail : Mailing). DownloadAsks mail uploads blob asks) (sym (lent_mail holds)) (fails.0, finds_in holds asks (Err fails.0) fails.1)) makes.due;
        }),
        record { in_life = q.2.in_life; bears = q.2.bears },
      ))

  pub download_stays : (made : Result Response AllocError) → DownloadCame made → Stays (moment a) (moment b)
  download_stays (Ok r) makes = let these = asked_these moment makes.asked in record { counts = these.counts; goes_on = these.goes_on }
  download_stays (Err e) makes = let short = asked_in_vain moment makes in record { counts = short.counts; goes_on = short.goes_on }

-- what was lent holds the work that came so far
pub holds_lent : {machine : Machine} {client : ClientState} {served : ServedMail} {source : SourceState} {now : Faults}
    → ((p : Progress) (was then : Faults) → CameTo machine client Stands was then p
    → (k : KnownMail) × (p.machine.known ≡ Some k) × IsLentOf k served × HoldsSource p source was then)
    → (p : Progress) (was : Faults) → CameTo machine client Stands was now p → HoldsLent p served source was now
holds_lent {now = now} lent p was came =
    let l = lent p was now came in record { known = l.0; ready = l.1; stands = came.standing_is; lent = l.2; holds = l.3 }
