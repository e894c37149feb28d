-- The fetch of a body leaves each folder there, and begins by asking where its folder is there.
use Rattle.std.proofs.Common.{◌≡◌, ◌≢◌, ◌==◌, ℕ, Bool, true, false, IsSome, List, [], ◌∷◌, Option, Some, None, Result, Err, fold, if◌then◌else◌, refl, sym, ◌∙◌, ap, subst, eqb-true}
use Rattle.std.specs.Option.{option_map}
use Rattle.std.proofs.lemmas.List.Sums.{fold-append}
use Rattle.gate_world.specs.declared.event.Event.{Event}
use Rattle.imap_types.specs.declared.command.Command.{Command}
use Rattle.imap_types.specs.declared.command.Command.TheVariants as command
use Rattle.imap_types.specs.declared.response.Response.{Response}
use Rattle.imap_types.specs.declared.response.Status.{Status}
use Rattle.imap_types.specs.declared.response.Status.TheVariants as status
use Rattle.told_folder.specs.ToldBy.{told_by}
use Rattle.told_folder.specs.declared.exchange.Exchange.{Exchange}
use Rattle.told_folder.specs.declared.message.Folder.{Folder}
use Rattle.told_folder.specs.declared.message.NumberedFolder.{NumberedFolder}
use Rattle.told_mail.specs.Mail.{Mail, folder_in, folder_number, held_in, named}
use Rattle.told_mail.specs.Exchanges.{after_closed, tell, tell_as, tell_held, tell_named, tell_ok, with_held}
use Rattle.imap_exchange.specs.declared.link_end.LinkEnd.{LinkEnd}
use Rattle.imap_exchange.specs.declared.link_end.LinkEnd.TheVariants as end
use Rattle.imap_client.specs.declared.body.BodyStage.{BodyStage}
use Rattle.imap_client.specs.declared.body.BodyStage.TheVariants as stage
use Rattle.imap_client.specs.declared.plan.Due.TheVariants as due
use Rattle.imap_client.specs.declared.plan.Refusal.{Refusal}
use Rattle.imap_client.specs.declared.plan.Refusal.TheVariants as refusal
use Rattle.imap_client.specs.Bodies.{BodyState, FetchesBody, body_begun, body_due, body_from, body_start, body_step, is_selected, select_due}
use Rattle.imap_client.specs.LinkLife.{LinkLife, ClientState, selected}
use Rattle.imap_client.specs.Plans.{Ran, Begun, Then}
use Rattle.imap_client.specs.Selecting.{known_folder}
use Rattle.imap_client.proofs.Finishing.{done_not_send, fails_not_send, send_same}

-- ---- what is told leaves a folder there, unless it is a LIST's

-- one of two, where one of two others is there
pick_other : (b : Bool) (x y : NumberedFolder) (rest : Option NumberedFolder) → IsSome (if b then Some x else rest) → IsSome (if b then Some y else rest)
pick_other true x y rest there = refl
pick_other false x y rest there = there

pick_rest : (b : Bool) (x : NumberedFolder) (rest other : Option NumberedFolder) → (IsSome rest → IsSome other) → IsSome (if b then Some x else rest) → IsSome (if b then Some x else other)
pick_rest true x rest other step there = refl
pick_rest false x rest other step there = step there

held_by : (h k : NumberedFolder) (hs others : List NumberedFolder) (n : ℕ) (same : Bool) → (folder_number h == folder_number k) ≡ same → (IsSome (held_in hs n) → IsSome (held_in others n))
    → IsSome (held_in (h ∷ hs) n) → IsSome (held_in (if same then k ∷ hs else h ∷ others) n)
held_by h k hs others n true is step there =
    subst (λ (number : ℕ). IsSome (if number == n then Some k else held_in hs n)) (eqb-true (folder_number h) (folder_number k) is)
    (pick_other (folder_number h == n) h k (held_in hs n) there)
held_by h k hs others n false is step there = pick_rest (folder_number h == n) h (held_in hs n) (held_in others n) step there

held_stays : (hs : List NumberedFolder) (k : NumberedFolder) (n : ℕ) → IsSome (held_in hs n) → IsSome (held_in (with_held hs k) n)
held_stays [] k n there = there
held_stays (h ∷ hs) k n there = held_by h k hs (with_held hs k) n (folder_number h == folder_number k) refl (held_stays hs k n) there

tell_held_stays : (m : Mail) (c : Command) (rs : List Response) (found : Option NumberedFolder) (n : ℕ) → IsSome (held_in m.folders n)
    → IsSome (held_in (tell_held m c rs found).folders n)
tell_held_stays m c rs None n there = there
tell_held_stays m c rs (Some h) n there = held_stays m.folders (told_by c rs m.next_mark h) n there

tell_named_stays : (m : Mail) (c : Command) (rs : List Response) (name : Option (List ℕ)) (n : ℕ) → IsSome (held_in m.folders n)
    → IsSome (held_in (tell_named m c rs name).folders n)
tell_named_stays m c rs None n there = there
tell_named_stays m c rs (Some name) n there = tell_held_stays m c rs (named m.folders name) n there

-- what the fetch of a body asks
abbrev IsAsked : Command → Type 0
IsAsked (command.Select name known) = Unit {0}
IsAsked (command.FetchBody uid) = Unit {0}
IsAsked _ = ⊥

tell_ok_stays : (m : Mail) (c : Command) → IsAsked c → (rs : List Response) (selected : Option (List ℕ)) (n : ℕ) → IsSome (held_in m.folders n)
    → IsSome (held_in (tell_ok m c rs selected).folders n)
tell_ok_stays m (command.Select name known) is rs selected n there = tell_named_stays m (command.Select name known) (after_closed rs) (Some name) n there
tell_ok_stays m (command.FetchBody uid) is rs selected n there = tell_named_stays m (command.FetchBody uid) rs selected n there
tell_ok_stays m _ is rs selected n there = absurd is

tell_stays : (m : Mail) (x : Exchange) → IsAsked x.command → (n : ℕ) → IsSome (held_in m.folders n) → IsSome (held_in (tell m x).folders n)
tell_stays m x is n there = by x.status
  where
    by : (s : Status) → IsSome (held_in (tell_as s m x).folders n)
    by status.Ok = tell_ok_stays m x.command is x.responses x.selected n there
    by _ = there

-- ---- the fetch of a body

select_asked : (found : Option Folder) (c : Command) → select_due found ≡ due.Send c → IsAsked c
select_asked None c is = absurd (fails_not_send refusal.Lacks c is)
select_asked (Some f) c is = subst (λ (d : Command). IsAsked d) (sym (send_same (command.Select f.name (known_folder f)) c is)) tt

due_asked : (folder uid : ℕ) (at : BodyStage) (m : Mail) (c : Command) → body_due folder uid at m ≡ due.Send c → IsAsked c
due_asked folder uid stage.Selecting m c is = select_asked (folder_in m.folders folder) c is
due_asked folder uid stage.Fetching m c is = subst (λ (d : Command). IsAsked d) (sym (send_same (command.FetchBody uid) c is)) tt
due_asked folder uid (stage.Fetched body) m c is = absurd (done_not_send c is)
due_asked folder uid (stage.Failing why) m c is = absurd (fails_not_send why c is)

ran_stays : (folder uid : ℕ) (s : BodyState) {life : LinkLife} {xs : List Exchange} {after : LinkLife} {es : List Event} (m : Mail) (n : ℕ)
    → Ran (body_from folder uid s) life xs after es → IsSome (held_in m.folders n) → IsSome (held_in (fold tell m xs).folders n)
ran_stays folder uid s m n Begun there = there
ran_stays folder uid s m n (Then {heard = xs} next ran) there =
    let now : BodyState = fold (body_step folder uid) s xs in
    let asked = due_asked folder uid now.stage now.mail next.command next.asked in
    subst (λ (told : Mail). IsSome (held_in told.folders n)) (sym (fold-append tell m xs (next.exchange ∷ [])))
    (tell_stays (fold tell m xs) next.exchange (subst (λ (c : Command). IsAsked c) (sym next.completes.command_is) asked) n (ran_stays folder uid s m n ran there))

held_of : (found : Option NumberedFolder) → IsSome (option_map (λ h. h.folder) found) → IsSome found
held_of None is = is
held_of (Some h) is = refl

folder_of : (found : Option NumberedFolder) → IsSome found → IsSome (option_map (λ h. h.folder) found)
folder_of None is = is
folder_of (Some h) is = refl

-- a folder that is there stays there, unless memory ran out
pub folders_stay : (folder uid : ℕ) (before after : Mail) (life left : LinkLife) (client : ClientState) (result : Result (List ℕ) LinkEnd) (events : List Event)
    → FetchesBody folder uid before after life left client result events → result ≢ Err end.Memory → (n : ℕ)
    → IsSome (folder_in before.folders n) → IsSome (folder_in after.folders n)
folders_stay folder uid before after life left client result events f well n there =
    subst (λ (m : Mail). IsSome (folder_in m.folders n)) (sym (f.told well))
    (folder_of (held_in (fold tell before f.exchanges).folders n) (ran_stays folder uid (body_start (selected life) before folder) before n f.follows.ran (held_of (held_in before.folders n) there)))

-- ---- its beginning

send_not_fails : (c : Command) (why : Refusal) → due.Send c ≡ due.Fails why → ⊥
send_not_fails c why is = cc

begins_by : (selected : Option (List ℕ)) (folder uid : ℕ) (m : Mail) (why : Refusal) (found : Option Folder) → folder_in m.folders folder ≡ found → IsSome found
    → body_due folder uid (body_begun selected found) m ≡ due.Fails why → ⊥
begins_by selected folder uid m why None there is = absurd (cc is)
begins_by selected folder uid m why (Some f) there is = by (is_selected selected f.name)
  where
    by : (here : Bool) → body_due folder uid (if here then stage.Fetching else stage.Selecting) m ≡ due.Fails why → ⊥
    by true fails = send_not_fails (command.FetchBody uid) why fails
    by false fails = send_not_fails (command.Select f.name (known_folder f)) why (sym (ap select_due there) ∙ fails)

-- where its folder is there, it doesn't begin by failing
pub fetches_begin : (selected : Option (List ℕ)) (folder uid : ℕ) (m : Mail) (why : Refusal) → IsSome (folder_in m.folders folder)
    → body_from folder uid (body_start selected m folder) [] ≢ due.Fails why
fetches_begin selected folder uid m why there = begins_by selected folder uid m why (folder_in m.folders folder) refl there
