-- The octets of an import, which are sought over mail that is lent and taken back.
use Rattle.std.proofs.Common.{◌≡◌, ◌∙◌, ℕ, List, [], append-nil, Some, None, Result, Ok, Err, IfOk, refl, sym, ap, subst, inl, inr}
use Rattle.std.specs.Borrow.{Bor}
use Rattle.std.specs.BTreeSet.{BTreeSet}
use Rattle.std.specs.declared.alloc.AllocError.{AllocError}
use Rattle.gate_world.specs.Causes.{Faults}
use Rattle.gate_world.specs.Tape.{Adds}
use Rattle.gate_world.specs.declared.event.Event.{Event}
use Rattle.gate_world.proofs.Joins.{none, widen}
use Rattle.told_mail.specs.Told.{Told}
use Rattle.email_bodies.specs.Asking.{AsksInVain, BodyAsk}
use Rattle.email_bodies.specs.declared.error.BodyError.{BodyError}
use Rattle.email_bodies.specs.declared.error.BodyError.TheVariants as body
use Rattle.email_bodies.proofs.Due.{due_more}
use Rattle.email_get.specs.Asked.{AsksAnd, AsksAndMeets, FailsAfter}
use Rattle.email_get.specs.Blobs as blobs
use Rattle.email_get.specs.Blobs.{FindsBlob, OfBlobId, FindsLeaf, FindsRoot, BodyLacks, OctetsFound}
use Rattle.email_import.specs.Messages as messages
use Rattle.email_import.specs.Messages.{FindsMessage}
use Rattle.email_import.specs.declared.ready.ReadyImport.{ReadyImport}
use Rattle.imap_client.specs.LinkLife.{ClientState, LinkLife, Stands as StandsIn}
use Rattle.imap_client.specs.Rounds.{CountsOn}
use Rattle.jmap_core.specs.CreatedIds.{Ids}
use Rattle.mail_maps.specs.Rows.{Rows}
use Rattle.message_blobs.specs.BlobIds.{BlobRoot}
use Rattle.mail_state.specs.History.{MailHistory}
use Rattle.mail_state.specs.State.{IsStateOf, ServedRows, ServedState}
use Rattle.gate_machine.specs.Fetching.{AsksBodies}
use Rattle.gate_machine.specs.History.{KnownMail}
use Rattle.gate_machine.specs.Holding.{HoldsMachine}
use Rattle.gate_machine.specs.Kept.{ServedMail}
use Rattle.gate_machine.specs.Lending.{HoldsSource, IsLentOf, KeepsOutside, Moment}
use Rattle.gate_machine.specs.Progress.{CameTo, Progress, StandsInLife}
use Rattle.gate_machine.specs.declared.machine.Machine.{Machine}
use Rattle.gate_machine.specs.declared.mail_status.MailStatus.TheVariants.{Stands}
use Rattle.gate_machine.proofs.Asking as asking
use Rattle.gate_machine.proofs.Asking.{asked_in_vain, asked_these, bodies_stay, counts_none, goes_on_none}
use Rattle.set_jobs.specs.declared.done.SetError.{SetError}
use Rattle.set_order.specs.Ordered.{Item}
use Rattle.set_order.specs.reading.Creating.{HasKeys}
use Rattle.set_calls.specs.Calls.{SetCall, call_begun, given_at}
use Rattle.gate_changes.specs.Importing.{ChecksItem, IsServing, PreparesImport, RefusedAtOnce, Seeking, Sought, AtMoment, NoBody, NoMessage, given_over}
use Rattle.gate_changes.specs.reading.Asking.{IsOver}
use Rattle.gate_changes.specs.reading.Imports.{FindsChecked, SeeksTo, with_import}
use Rattle.gate_changes.proofs.Doing.{in_life, served_is, state_is, told_was}

-- what is told of the mail goes on
counts_of : {S : Type 0} (moment : S → Moment) (s t : S) (came : Result (Result (List ℕ) SetError) BodyError)
    (IsMeant : List BodyAsk → Result (Result (List ℕ) SetError) BodyError → Type 0) → AsksAndMeets (asking.Answers moment) (asking.Lacks moment) s t body.Memory (λ r. r) came IsMeant
    → CountsOn (moment s).source.told (moment t).source.told
counts_of moment s t (Ok r) IsMeant asks = (asked_these moment asks.asked).counts
counts_of moment s t (Err e) IsMeant (inl lacks) = (asked_in_vain moment lacks.1).counts
counts_of moment s t (Err e) IsMeant (inr asks) = (asked_these moment asks.asked).counts

-- nothing else is touched
outside_of : {S : Type 0} (moment : S → Moment) (s t : S) (came : Result (Result (List ℕ) SetError) BodyError)
    (IsMeant : List BodyAsk → Result (Result (List ℕ) SetError) BodyError → Type 0) → AsksAndMeets (asking.Answers moment) (asking.Lacks moment) s t body.Memory (λ r. r) came IsMeant
    → KeepsOutside (moment s) (moment t)
outside_of moment s t (Ok r) IsMeant asks = (asked_these moment asks.asked).goes_on
outside_of moment s t (Err e) IsMeant (inl lacks) = (asked_in_vain moment lacks.1).goes_on
outside_of moment s t (Err e) IsMeant (inr asks) = (asked_these moment asks.asked).goes_on

module _ {S : Type 0} (moment : S → Moment) (s t : S) (emails : Rows) (uploads : List (List ℕ)) where
  pub counts_on : (checked : Result (Result ReadyImport SetError) AllocError) (came : Result (Result (ReadyImport × List ℕ) SetError) BodyError)
      → FindsChecked (asking.Answers moment) (asking.Lacks moment) s t emails uploads checked came → CountsOn (moment s).source.told (moment t).source.told
  counts_on (Ok (Ok i)) came finds = counts_of moment s t finds.0 (FindsMessage emails uploads i) finds.1
  counts_on (Ok (Err e)) came finds = subst (λ (x : S). CountsOn (moment s).source.told (moment x).source.told) (sym finds.1) (counts_none (moment s).source.told)
  counts_on (Err e) came finds = subst (λ (x : S). CountsOn (moment s).source.told (moment x).source.told) (sym finds.1) (counts_none (moment s).source.told)

  pub keeps_outside : (checked : Result (Result ReadyImport SetError) AllocError) (came : Result (Result (ReadyImport × List ℕ) SetError) BodyError)
      → FindsChecked (asking.Answers moment) (asking.Lacks moment) s t emails uploads checked came → KeepsOutside (moment s) (moment t)
  keeps_outside (Ok (Ok i)) came finds = outside_of moment s t finds.0 (FindsMessage emails uploads i) finds.1
  keeps_outside (Ok (Err e)) came finds = subst (λ (x : S). KeepsOutside (moment s) (moment x)) (sym finds.1) (goes_on_none (moment s))
  keeps_outside (Err e) came finds = subst (λ (x : S). KeepsOutside (moment s) (moment x)) (sym finds.1) (goes_on_none (moment s))

-- ---- a body that doesn't come

root_ended : {emails : Rows} {uploads : List (List ℕ)} {root : BlobRoot} {asks : List BodyAsk} {e : BodyError} → FindsRoot emails uploads root asks (Err e) → e ≡ body.Ended
root_ended (BodyLacks n row there) = refl

leaf_ended : {emails : Rows} {uploads : List (List ℕ)} {root : BlobRoot} {leaves : List ℕ} {asks : List BodyAsk} {found : OctetsFound} {e : BodyError}
    → FindsLeaf leaves found (Err e) → FindsRoot emails uploads root asks found → e ≡ body.Ended
leaf_ended (blobs.NoBody e) finds = root_ended finds

blob_ended : {emails : Rows} {uploads : List (List ℕ)} {id : List ℕ} {asks : List BodyAsk} {e : BodyError} → FindsBlob emails uploads id asks (Err e) → e ≡ body.Ended
blob_ended (OfBlobId root leaves is finds) = leaf_ended finds.finds_leaf finds.finds_root

-- then the link life has ended
no_body : {emails : Rows} {uploads : List (List ℕ)} {i : ReadyImport} {asks : List BodyAsk} {e : BodyError} → FindsMessage emails uploads i asks (Err e) → e ≡ body.Ended
no_body (messages.Lacks asks e short finds) = blob_ended finds

-- ---- over mail that is lent

module _ {S : Type 0} (moment : S → Moment) (machine left : Machine) (client gone : ClientState) (served : ServedMail) (s t : S)
    (lent : (p : Progress) (was now : Faults) → CameTo machine client Stands was now p
    → (k : KnownMail) × (p.machine.known ≡ Some k) × IsLentOf k served × HoldsSource p (moment s).source was now)
    (held : (p : Progress) (k : KnownMail) (was now : Faults) → p.machine.known ≡ Some k → IsLentOf k served → HoldsSource p (moment t).source was now
    → HoldsMachine p.machine left)
    (gone_is : gone ≡ (moment t).source.client) (created : Ids) (making : BTreeSet (Bor (List ℕ))) (uploads : List (List ℕ)) (item : Item) where
  -- what the checks came to over what was lent
  abbrev pub Checked : Result (Result ReadyImport SetError) AllocError → Type 0
  Checked r = (call : SetCall) (life : LinkLife) → call.created ≡ created → HasKeys making call.making → IsStateOf call.history served.state
      → StandsIn (moment s).source.client life → IfOk r (ChecksItem (given_at call (call_begun (moment s).source.told.mail life)) item)

  -- where the call is, and what was lent of it
  record At (call : SetCall) (p : Progress) (was : Faults) : Type 0 where
    pub known : KnownMail
    pub ready : p.machine.known ≡ Some known
    pub of : IsLentOf known served
    pub holds : HoldsSource p (moment s).source was (moment s).faults
    pub stands : p.standing ≡ Stands
    pub here : IsServing call p
    pub checks : (r : Result ReadyImport SetError) → Checked (Ok r) → ChecksItem (given_over here) item r
    pub rows : (state : ServedState) → state ≡ served.state → state.rows.numbered.rows ≡ call.history.numbered.rows

  at : (call : SetCall) (p : Progress) (was : Faults) → call.created ≡ created → HasKeys making call.making → IsOver call p
      → CameTo machine client Stands was (moment s).faults p → At call p was
  at call p was created_is keys over came =
      let l = lent p was (moment s).faults came in
      let is = served_is call p (moment s).source served was (moment s).faults over l.3 l.0 l.1 l.2 in
      let state : IsStateOf call.history served.state = state_is call p (moment s).source served was (moment s).faults over l.3 l.0 l.1 l.2 served.state refl in
      record {
        known = l.0;
        ready = l.1;
        of = l.2;
        holds = l.3;
        stands = came.standing_is;
        here = record { known = l.0; life = over.life; stands = came.standing_is; ready = l.1; in_life = over.in_life; served = is };
        checks = λ r checked.
            subst (λ (told : Told). ChecksItem (given_at call (call_begun told.mail over.life)) item r)
            (told_was call p (moment s).source served was (moment s).faults over l.3 l.0 l.1 l.2)
            (checked call over.life created_is keys state (in_life call p (moment s).source served was (moment s).faults over l.3 l.0 l.1 l.2));
        rows = λ x same. ap (λ (y : ServedState). y.rows.numbered.rows) same ∙ ap (λ (y : ServedRows). y.numbered.rows) state.rows;
      }

  back : {call : SetCall} {p q : Progress} {asks : List BodyAsk} {events : List Event} {was : Faults} → At call p was → AsksBodies p asks events q
      → HoldsSource q (moment t).source was (moment t).faults → CameTo left gone Stands was (moment t).faults q
  back {q = q} {was = was} a asked holds =
      let stays = bodies_stay a.known a.ready asked in
      record {
        held = held q stays.known was (moment t).faults stays.ready
            (record {
              state = subst (λ (h : MailHistory). IsStateOf h served.state) (sym stays.history) a.of.state;
              served_is = a.of.served_is ∙ ap (λ (h : MailHistory). h.mail) (sym stays.history);
            }) holds;
        standing_is = stays.standing ∙ a.stands;
        in_life = subst (λ (c : ClientState). StandsInLife q.left c) (sym gone_is) holds.in_life;
        bears = holds.bears;
      }

  -- the code's octets were sought so
  abbrev pub Shows : Result (Result (ReadyImport × List ℕ) SetError) BodyError → List Event → Type 0
  Shows came es = (call : SetCall) (before : Progress) (was : Faults) → call.created ≡ created → HasKeys making call.making → IsOver call before
      → CameTo machine client Stands was (moment s).faults before → SeeksTo call uploads item before came left gone was (moment t).faults es

  abbrev pub Seeks : Result (Result (ReadyImport × List ℕ) SetError) BodyError → Type 0
  Seeks came = Adds (moment s).tape (moment t).tape (Shows came)

  came_of : {call : SetCall} {before mid : Progress} {asks : List BodyAsk} {es : List Event} {was : Faults} (i : ReadyImport) (r : Result (Result (List ℕ) SetError) BodyError)
      (here : IsServing call before) → ChecksItem (given_over here) item (Ok i) → FindsMessage call.history.numbered.rows uploads i asks r → AsksBodies before asks es mid
      → CameTo left gone Stands was (moment t).faults mid → SeeksTo call uploads item before (with_import i r) left gone was (moment t).faults es
  came_of {mid = mid} {asks = asks} i (Ok (Ok message)) here checks finds asked end =
      (asks, mid, (λ now. Sought here i (Ok (Ok message)) checks finds asked (AtMoment message now)), end)
  came_of {call = call} {before = before} {mid = mid} {asks = asks} {es = es} i (Ok (Err e)) here checks finds asked end = (
    asks,
    mid,
    subst (λ (l : List Event). PreparesImport call uploads item before asks (Some (Err e)) l mid) (append-nil es) (Sought here i (Ok (Err e)) checks finds asked (NoMessage e)),
    end,
  )
  came_of {call = call} {before = before} {mid = mid} {asks = asks} {es = es} i (Err body.Ended) here checks finds asked end = (
    asks,
    mid,
    subst (λ (l : List Event). PreparesImport call uploads item before asks None l mid) (append-nil es) (Sought here i (Err body.Ended) checks finds asked (NoBody body.Ended)),
    end,
  )
  came_of i (Err body.Memory) here checks finds asked end = absurd (let never : body.Memory ≡ body.Ended = no_body finds in cc)

  meant : (i : ReadyImport) (state : ServedState) (r : Result (Result (List ℕ) SetError) BodyError) → Checked (Ok (Ok i)) → state ≡ served.state
      → AsksAnd (asking.Answers moment) (asking.Lacks moment) s t (λ asks. FindsMessage state.rows.numbered.rows uploads i asks r) → Seeks (with_import i r)
  meant i state r checked is answers =
      widen _ (asked_these moment answers.asked).run (λ es run call before was created_is keys over came.
      let a = at call before was created_is keys over came in
      let q = run before was a.holds in
      came_of i r a.here (a.checks (Ok i) checked)
      (subst (λ (rows : Rows). FindsMessage rows uploads i answers.asks r) (a.rows state is) answers.meant) q.1 (back a q.1 q.2))

  short : (i : ReadyImport) (state : ServedState) → Checked (Ok (Ok i)) → state ≡ served.state
      → AsksInVain (asking.Answers moment) (asking.Lacks moment) (FailsAfter (FindsMessage state.rows.numbered.rows uploads i)) s t → Seeks (Err body.Memory)
  short i state checked is vain =
      widen _ (asked_in_vain moment vain).run (λ es run call before was created_is keys over came.
      let a = at call before was created_is keys over came in
      let q = run before was a.holds in (
        q.0,
        inl (Seeking a.here i vain.tried (a.checks (Ok i) checked) q.1
            (due_more (FailsAfter (FindsMessage state.rows.numbered.rows uploads i)) (FailsAfter (FindsMessage call.history.numbered.rows uploads i)) vain.tried
            (λ asks fails. (fails.0, subst (λ (rows : Rows). FindsMessage rows uploads i asks (Err fails.0)) (a.rows state is) fails.1)) vain.due)),
        record { in_life = subst (λ (c : ClientState). StandsInLife q.0.left c) (sym gone_is) q.2.in_life; bears = q.2.bears },
      ))

  -- it was checked, and its message was sought
  sought : (i : ReadyImport) (state : ServedState) (r : Result (Result (List ℕ) SetError) BodyError) → Checked (Ok (Ok i)) → state ≡ served.state
      → AsksAndMeets (asking.Answers moment) (asking.Lacks moment) s t body.Memory (λ x. x) r (FindsMessage state.rows.numbered.rows uploads i) → Seeks (with_import i r)
  sought i state (Ok r) checked is answers = meant i state (Ok r) checked is answers
  sought i state (Err e) checked is (inl lacks) = subst (λ (x : BodyError). Seeks (Err x)) (sym lacks.0) (short i state checked is lacks.1)
  sought i state (Err e) checked is (inr answers) = meant i state (Err e) checked is answers

  -- nothing was sought
  module _ (same : t ≡ s) where
    back_at_once : {call : SetCall} {p : Progress} {was : Faults} → At call p was → CameTo left gone Stands was (moment t).faults p
    back_at_once {p = p} {was = was} a =
        let holds : HoldsSource p (moment t).source was (moment t).faults = subst (λ (x : S). HoldsSource p (moment x).source was (moment x).faults) (sym same) a.holds in
        record {
          held = held p a.known was (moment t).faults a.ready a.of holds;
          standing_is = a.stands;
          in_life = subst (λ (c : ClientState). StandsInLife p.left c) (sym gone_is) holds.in_life;
          bears = holds.bears;
        }

    at_once : (came : Result (Result (ReadyImport × List ℕ) SetError) BodyError) → Shows came [] → Seeks came
    at_once came so = subst (λ (x : S). Adds (moment s).tape (moment x).tape (Shows came)) (sym same) (none (moment s).tape (Shows came) so)

    -- it is refused by its checks
    refused : (e : SetError) → Checked (Ok (Err e)) → Seeks (Ok (Err e))
    refused e checked =
        at_once (Ok (Err e)) (λ call before was created_is keys over came.
        let a = at call before was created_is keys over came in ([], before, RefusedAtOnce a.here e (a.checks (Err e) checked), back_at_once a))

    -- memory ran out in the checks
    unchecked : Seeks (Err body.Memory)
    unchecked =
        at_once (Err body.Memory) (λ call before was created_is keys over came.
        let a = at call before was created_is keys over came in
        let end = back_at_once a in (before, inr (a.here, refl, refl), record { in_life = end.in_life; bears = end.bears }))

  -- what it came to, by the state that was looked at
  pub seeks : (state : ServedState) (r : Result (Result ReadyImport SetError) AllocError) (came : Result (Result (ReadyImport × List ℕ) SetError) BodyError) → Checked r
      → state ≡ served.state → FindsChecked (asking.Answers moment) (asking.Lacks moment) s t state.rows.numbered.rows uploads r came → Seeks came
  seeks state (Ok (Ok i)) came checked is finds = subst Seeks (sym finds.2) (sought i state finds.0 checked is finds.1)
  seeks state (Ok (Err e)) came checked is finds = subst Seeks (sym finds.0) (refused finds.1 e checked)
  seeks state (Err e) came checked is finds = subst Seeks (sym finds.0) (unchecked finds.1)
