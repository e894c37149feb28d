-- The fetch of a body that is done is a whole fetch.
use Rattle.std.proofs.Common.{◌≡◌, ◌≢◌, ◌⊎◌, ◌++◌, ◌==◌, ℕ, Bool, true, false, List, [], ◌∷◌, fold, if◌then◌else◌, Option, Some, None, Result, Ok, Err}
use Rattle.std.proofs.Common.{refl, sym, ◌∙◌, ap, subst, inl, inr, eqb-true}
use Rattle.std.specs.List.{flat_map}
use Rattle.std.proofs.lemmas.List.{append-nil}
use Rattle.gate_world.specs.declared.event.Event.{Event}
use Rattle.gate_world.specs.Octets.{store_took_in}
use Rattle.imap_types.specs.declared.command.Command.TheVariants as command
use Rattle.imap_types.specs.declared.response.Status.TheVariants as status
use Rattle.told_folder.specs.declared.exchange.Exchange.{Exchange}
use Rattle.told_folder.specs.declared.message.Folder.{Folder}
use Rattle.told_mail.specs.Mail.{Mail, folder_in}
use Rattle.told_mail.specs.Exchanges.{tell}
use Rattle.imap_client.specs.declared.plan.Due.TheVariants as due
use Rattle.imap_client.specs.declared.plan.Refusal.{Refusal}
use Rattle.imap_client.specs.declared.plan.Refusal.TheVariants as refusal
use Rattle.imap_client.specs.declared.body.BodyStage.{BodyStage}
use Rattle.imap_client.specs.declared.body.BodyStage.TheVariants as stage
use Rattle.imap_client.specs.Bodies.{BodyState, FetchesBody, body_begun, body_due, body_from, body_start, body_step, fetched, is_selected, last_body}
use Rattle.imap_client.specs.Bodies.{selected_body_stage}
use Rattle.imap_client.specs.LinkLife.{LinkLife, ClientState, selected}
use Rattle.imap_client.specs.Plans.{Ran, Begun, Then}
use Rattle.imap_client.specs.Selecting.{known_folder, validity_told, is_kept}
use Rattle.imap_client.specs.WholeFetches.{FolderOf, SelectsFolder, FetchesOctets, IsWholeFetch, FetchAlone, SelectFirst, IsFinishedFetch}
use Rattle.imap_client.proofs.Finishing.{AllOk, done_not_send, end_done, fails_not_send, ok_or_not, ran_along, ran_exchanges, ran_sends, send_same}

module _ (folder uid : ℕ) where
  abbrev state_at : BodyStage → Mail → BodyState
  state_at s m = record { stage = s; mail = m }

  -- the stage after these exchanges
  abbrev ends_at : BodyState → List Exchange → BodyStage
  ends_at s xs = (fold (body_step folder uid) s xs).stage

  -- each exchange is of the command that was due
  abbrev Asked : BodyState → List Exchange → Type 0
  Asked s [] = Unit {0}
  Asked s (x ∷ xs) = (body_due folder uid s.stage s.mail ≡ due.Send x.command) × Asked (body_step folder uid s x) xs

  asked_more : (s : BodyState) (xs : List Exchange) (x : Exchange) → Asked s xs → body_from folder uid s xs ≡ due.Send x.command → Asked s (xs ++ x ∷ [])
  asked_more s [] x so is = (is, tt)
  asked_more s (y ∷ ys) x (here, rest) is = (here, asked_more (body_step folder uid s y) ys x rest is)

  ran_asked : (s : BodyState) {life : LinkLife} {xs : List Exchange} {after : LinkLife} {es : List Event} → Ran (body_from folder uid s) life xs after es → Asked s xs
  ran_asked s Begun = tt
  ran_asked s (Then {heard = xs} next ran) = asked_more s xs next.exchange (ran_asked s ran) (next.asked ∙ ap due.Send (sym next.completes.command_is))

  -- a fetch that failed never has the body
  failed_never : (why : Refusal) (m : Mail) (xs : List Exchange) (octets : List ℕ) → Asked (state_at (stage.Failing why) m) xs
      → ends_at (state_at (stage.Failing why) m) xs ≡ stage.Fetched octets → ⊥
  failed_never why m [] octets asked is = cc
  failed_never why m (x ∷ xs) octets asked is = fails_not_send why x.command asked.0

  -- nothing is asked once it has
  none_after : (body : List ℕ) (m : Mail) (xs : List Exchange) → Asked (state_at (stage.Fetched body) m) xs → xs ≡ []
  none_after body m [] asked = refl
  none_after body m (x ∷ xs) asked = absurd (done_not_send x.command asked.0)

  same_body : (a b : List ℕ) → stage.Fetched a ≡ stage.Fetched b → a ≡ b
  same_body a b is = cc

  -- ---- the fetch

  -- these exchanges are the one by which the octets are fetched
  abbrev FetchIs : Mail → List Exchange → List ℕ → Type 0
  FetchIs m xs octets = (f : FetchesOctets uid octets m) × (xs ≡ f.exchange ∷ []) × (fold tell m xs ≡ f.after)

  fetched_by : (m : Mail) (x : Exchange) (xs : List Exchange) (octets : List ℕ) (found : Option (List ℕ)) → last_body uid x.responses ≡ found
      → x.command ≡ command.FetchBody uid → x.status ≡ status.Ok → Asked (state_at (fetched found) (tell m x)) xs
      → ends_at (state_at (fetched found) (tell m x)) xs ≡ stage.Fetched octets → FetchIs m (x ∷ xs) octets
  fetched_by m x xs octets None found_is is ok asked done = absurd (failed_never refusal.Lacks (tell m x) xs octets asked done)
  fetched_by m x xs octets (Some body) found_is is ok asked done =
      let none : xs ≡ [] = none_after body (tell m x) xs asked in
      let same : body ≡ octets = same_body body octets (subst (λ (l : List Exchange). ends_at (state_at (stage.Fetched body) (tell m x)) l ≡ stage.Fetched octets) none done) in (
        record {
          exchange = x;
          after = tell m x;
          obeyed = record { command_is = is; ok = ok; told = refl };
          body = found_is ∙ ap (λ (o : List ℕ). Some o) same;
        },
        ap (λ (l : List Exchange). x ∷ l) none,
        ap (λ (l : List Exchange). fold tell (tell m x) l) none,
      )

  fetch_ok : (m : Mail) (x : Exchange) → x.status ≡ status.Ok → body_step folder uid (state_at stage.Fetching m) x ≡ state_at (fetched (last_body uid x.responses)) (tell m x)
  fetch_ok m x ok = rw ok refl

  fetch_from : (m : Mail) (xs : List Exchange) (octets : List ℕ) → Asked (state_at stage.Fetching m) xs
      → ends_at (state_at stage.Fetching m) xs ≡ stage.Fetched octets → FetchIs m xs octets
  fetch_from m [] octets asked done = absurd (let never : stage.Fetching ≡ stage.Fetched octets = done in cc)
  fetch_from m (x ∷ xs) octets (here, asked) done = elim (ok_or_not x.status) as (λ c. FetchIs m (x ∷ xs) octets) [
    | inl ok ↦
        fetched_by m x xs octets (last_body uid x.responses) refl (send_same (command.FetchBody uid) x.command here) ok
        (subst (λ (s : BodyState). Asked s xs) (fetch_ok m x ok) asked)
        (subst (λ (s : BodyState). ends_at s xs ≡ stage.Fetched octets) (fetch_ok m x ok) done)
    | inr bad ↦
        let is : body_step folder uid (state_at stage.Fetching m) x ≡ state_at (stage.Failing refusal.Refused) (tell m x) = rw bad refl in
        absurd (failed_never refusal.Refused (tell m x) xs octets (subst (λ (s : BodyState). Asked s xs) is asked)
        (subst (λ (s : BodyState). ends_at s xs ≡ stage.Fetched octets) is done))
  ]

  -- ---- its SELECT first

  -- these are SELECT and then that one
  abbrev BothAre : Folder → Mail → List Exchange → List ℕ → Type 0
  BothAre f m xs octets = (s : SelectsFolder folder m) × (g : FetchesOctets uid octets s.after) × (s.of.told ≡ f) × (xs ≡ s.exchange ∷ g.exchange ∷ []) × (fold tell m xs ≡ g.after)

  kept_is : (validity : ℕ) (told : Option ℕ) → is_kept validity told ≡ true → told ≡ Some validity
  kept_is validity None is = absurd (cc is)
  kept_is validity (Some told) is = ap Some (eqb-true told validity is)

  selected_by : (f : Folder) (m : Mail) (x : Exchange) (xs : List Exchange) (octets : List ℕ) (told : Option ℕ) (same : Bool) → folder_in m.folders folder ≡ Some f
      → validity_told x.responses ≡ told → x.command ≡ command.Select f.name (known_folder f) → x.status ≡ status.Ok
      → is_kept f.validity told ≡ same → Asked (state_at (if same then stage.Fetching else stage.Failing refusal.Lacks) (tell m x)) xs
      → ends_at (state_at (if same then stage.Fetching else stage.Failing refusal.Lacks) (tell m x)) xs ≡ stage.Fetched octets → BothAre f m (x ∷ xs) octets
  selected_by f m x xs octets told false there told_is is ok same asked done = absurd (failed_never refusal.Lacks (tell m x) xs octets asked done)
  selected_by f m x xs octets told true there told_is is ok same asked done =
      let g = fetch_from (tell m x) xs octets asked done in (
        record {
          of = record { told = f; there = there };
          exchange = x;
          after = tell m x;
          obeyed = record { command_is = is; ok = ok; told = refl };
          same = told_is ∙ kept_is f.validity told same;
        },
        g.0,
        refl,
        ap (λ (l : List Exchange). x ∷ l) g.1,
        g.2,
      )

  select_ok : (f : Folder) (m : Mail) (x : Exchange) → folder_in m.folders folder ≡ Some f → x.status ≡ status.Ok
      → body_step folder uid (state_at stage.Selecting m) x ≡ state_at (selected_body_stage f.validity x.responses) (tell m x)
  select_ok f m x there ok = rw (ok, there) refl

  select_from : (f : Folder) (m : Mail) (xs : List Exchange) (octets : List ℕ) → folder_in m.folders folder ≡ Some f → Asked (state_at stage.Selecting m) xs
      → ends_at (state_at stage.Selecting m) xs ≡ stage.Fetched octets → BothAre f m xs octets
  select_from f m [] octets there asked done = absurd (let never : stage.Selecting ≡ stage.Fetched octets = done in cc)
  select_from f m (x ∷ xs) octets there (here, asked) done = elim (ok_or_not x.status) as (λ c. BothAre f m (x ∷ xs) octets) [
    | inl ok ↦
        selected_by f m x xs octets (validity_told x.responses) _ there refl
        (send_same (command.Select f.name (known_folder f)) x.command ((rw there at here))) ok refl
        (subst (λ (s : BodyState). Asked s xs) (select_ok f m x there ok) asked)
        (subst (λ (s : BodyState). ends_at s xs ≡ stage.Fetched octets) (select_ok f m x there ok) done)
    | inr bad ↦
        let is : body_step folder uid (state_at stage.Selecting m) x ≡ state_at (stage.Failing refusal.Refused) (tell m x) = rw bad refl in
        absurd (failed_never refusal.Refused (tell m x) xs octets (subst (λ (s : BodyState). Asked s xs) is asked)
        (subst (λ (s : BodyState). ends_at s xs ≡ stage.Fetched octets) is done))
  ]

  -- ---- the whole

  whole_by : (now : Option (List ℕ)) (f : Folder) (m : Mail) (xs : List Exchange) (octets : List ℕ) (there : folder_in m.folders folder ≡ Some f) (is_now : Bool)
      → is_selected now f.name ≡ is_now → Asked (state_at (if is_now then stage.Fetching else stage.Selecting) m) xs
      → ends_at (state_at (if is_now then stage.Fetching else stage.Selecting) m) xs ≡ stage.Fetched octets → IsWholeFetch folder uid now octets m xs (fold tell m xs)
  whole_by now f m xs octets there true is asked done =
      let g = fetch_from m xs octets asked done in
      subst (λ (l : List Exchange). IsWholeFetch folder uid now octets m l (fold tell m xs)) (sym g.1)
      (subst (λ (a : Mail). IsWholeFetch folder uid now octets m (g.0.exchange ∷ []) a) (sym g.2)
      (FetchAlone (record { told = f; there = there }) g.0 is))
  whole_by now f m xs octets there false is asked done =
      let b = select_from f m xs octets there asked done in
      subst (λ (l : List Exchange). IsWholeFetch folder uid now octets m l (fold tell m xs)) (sym b.3)
      (subst (λ (a : Mail). IsWholeFetch folder uid now octets m (b.0.exchange ∷ b.1.exchange ∷ []) a) (sym b.4)
      (SelectFirst b.0 b.1 (subst (λ (g : Folder). is_selected now g.name ≡ false) (sym b.2) is)))

  whole_from : (now : Option (List ℕ)) (m : Mail) (xs : List Exchange) (octets : List ℕ) (found : Option Folder) → folder_in m.folders folder ≡ found
      → Asked (state_at (body_begun now found) m) xs → ends_at (state_at (body_begun now found) m) xs ≡ stage.Fetched octets
      → IsWholeFetch folder uid now octets m xs (fold tell m xs)
  whole_from now m xs octets None there asked done = absurd (failed_never refusal.Lacks m xs octets asked done)
  whole_from now m xs octets (Some f) there asked done = whole_by now f m xs octets there (is_selected now f.name) refl asked done

  all_ok : (now : Option (List ℕ)) (octets : List ℕ) (m : Mail) (xs : List Exchange) (after : Mail) → IsWholeFetch folder uid now octets m xs after → AllOk xs
  all_ok now octets m _ _ (FetchAlone of fetch is) = (fetch.obeyed.ok, tt)
  all_ok now octets m _ _ (SelectFirst select fetch is) = (select.obeyed.ok, (fetch.obeyed.ok, tt))

-- a fetch that ends in Ok is a whole fetch, of which the store took exactly the commands
pub finished_fetches_are_whole : (folder uid : ℕ) (before after : Mail) (life left : LinkLife) (client : ClientState) (octets : List ℕ) (events : List Event)
    → FetchesBody folder uid before after life left client (Ok octets) events → IsFinishedFetch folder uid before after life left octets events
finished_fetches_are_whole folder uid before after life left client octets events r =
    let ends = end_done r.follows.ends in
    let asked = ran_asked folder uid (body_start (selected life) before folder) r.follows.ran in
    let told : after ≡ fold tell before r.exchanges = r.told (λ is. cc) in
    let whole = whole_from folder uid (selected life) before r.exchanges octets (folder_in before.folders folder) refl asked (r.body octets refl) in
    let events_are : events ≡ r.follows.so_far = r.follows.whole ∙ ap (λ (l : List Event). r.follows.so_far ++ l) ends.1 ∙ append-nil r.follows.so_far in
    record {
      exchanges = r.exchanges;
      whole = subst (λ (m : Mail). IsWholeFetch folder uid (selected life) octets before r.exchanges m) (sym told) whole;
      along = ran_along r.follows.ran;
      completed = ap (λ (l : LinkLife). l.exchanges) ends.2 ∙ ran_exchanges r.follows.ran;
      sent = ap (λ (l : List Event). flat_map store_took_in l) events_are
          ∙ ran_sends r.follows.ran (all_ok folder uid (selected life) octets before r.exchanges (fold tell before r.exchanges) whole);
    }
