-- A round that is done is a whole round.
use Rattle.std.proofs.Common.{◌≡◌, ◌⊎◌, ◌++◌, ◌+◌, ◌==◌, ℕ, Bool, true, false, not, List, [], ◌∷◌, length, drop, slice_get, fold, if◌then◌else◌, Option, Some, None, Ok}
use Rattle.std.proofs.Common.{refl, sym, ◌∙◌, ap, subst, append_assoc, length-append, arith, inl, inr}
use Rattle.std.specs.List.{flat_map}
use Rattle.std.proofs.lemmas.List.{append-nil}
use Rattle.std.proofs.lemmas.List.Concat.{flat_map-append}
use Rattle.std.proofs.lemmas.List.Sums.{fold-append}
use Rattle.gate_world.specs.declared.event.Event.{Event}
use Rattle.gate_world.specs.Octets.{store_took_in}
use Rattle.imap_types.specs.declared.command.Command.{Command}
use Rattle.imap_types.specs.declared.command.Command.TheVariants as command
use Rattle.imap_types.specs.declared.response.Status.{Status}
use Rattle.imap_types.specs.declared.response.Status.TheVariants as status
use Rattle.imap_types.specs.Commands.{command_pieces, command_text}
use Rattle.told_folder.specs.declared.exchange.Exchange.{Exchange}
use Rattle.told_folder.specs.declared.message.Folder.{Folder}
use Rattle.told_folder.specs.declared.message.NumberedFolder.{NumberedFolder}
use Rattle.told_mail.specs.Mail.{Mail}
use Rattle.told_mail.specs.Exchanges.{tell}
use Rattle.imap_exchange.specs.Exchanges.{IsTaken}
use Rattle.imap_exchange.specs.Received.{Octets}
use Rattle.imap_exchange.specs.Answering.{Speaks, end_unless}
use Rattle.imap_client.specs.declared.plan.Due.{Due}
use Rattle.imap_client.specs.declared.plan.Due.TheVariants as due
use Rattle.imap_client.specs.declared.plan.Refusal.{Refusal}
use Rattle.imap_client.specs.declared.plan.Refusal.TheVariants as refusal
use Rattle.imap_client.specs.declared.round.RoundStage.{RoundStage}
use Rattle.imap_client.specs.declared.round.RoundStage.TheVariants as stage
use Rattle.imap_client.specs.Connecting.{is_ok}
use Rattle.imap_client.specs.LinkLife.{LinkLife, ClientState, next_number, selected, selected_after, special_use}
use Rattle.imap_client.specs.Plans.{Planned, Ran, Begun, Then, IsEnd, Finished, Failed, Broken, LifeHadEnded, Wanting}
use Rattle.imap_client.specs.Rounds.{Rounds, RoundState, round_due, round_step, round_from, of_folder, headers_of, is_sliced, slice_of}
use Rattle.imap_client.specs.Rounds.{new_of, sliced_to, selectable_from, selecting, next_stage, fetching, fetched_stage, selected_stage, is_sliced_in}
use Rattle.imap_client.specs.Rounds.{is_slicing, obeyed, round_after}
use Rattle.imap_client.specs.Selecting.{select_of, tells_validity}
use Rattle.imap_client.specs.WholeRounds.{IsObeyed, AnsweredAt, FetchesHeaders, Slice, Rest, FetchesFolder, WithModseqs, WithoutModseqs, AsksFolder, Asked, VisitsFrom, NoMore}
use Rattle.imap_client.specs.WholeRounds.{Visits}
use Rattle.imap_client.specs.WholeRounds.{IsWholeRound, SelectedAlong, texts_from, IsFinishedRound}
use Rattle.imap_client.proofs.Lives.{selected_of}

-- ---- what was asked

abbrev pub state : RoundStage → Mail → RoundState
state at m = record { stage = at; mail = m }

-- each exchange is of the command that was due
abbrev pub Asks : RoundState → List Exchange → Type 0
Asks s [] = Unit {0}
Asks s (x ∷ xs) = (round_due s.stage s.mail ≡ due.Send x.command) × Asks (round_step s x) xs

asks_more : (s : RoundState) (xs : List Exchange) (x : Exchange) → Asks s xs → round_from s xs ≡ due.Send x.command → Asks s (xs ++ x ∷ [])
asks_more s [] x so is = (is, tt)
asks_more s (y ∷ ys) x (here, rest) is = (here, asks_more (round_step s y) ys x rest is)

ran_asks : (s : RoundState) {life : LinkLife} {xs : List Exchange} {after : LinkLife} {es : List Event} → Ran (round_from s) life xs after es → Asks s xs
ran_asks s Begun = tt
ran_asks s (Then {heard = xs} next ran) = asks_more s xs next.exchange (ran_asks s ran) (next.asked ∙ ap due.Send (sym next.completes.command_is))

-- one command is due
pub send_same : (c d : Command) → due.Send c ≡ due.Send d → d ≡ c
send_same c d is = cc

-- what fails isn't sent
pub fails_not_send : (why : Refusal) (c : Command) → due.Fails why ≡ due.Send c → ⊥
fails_not_send why c is = cc

pub fails_not_done : (why : Refusal) → due.Fails why ≡ due.Done → ⊥
fails_not_done why is = cc

-- nor is what is done
pub done_not_send : (c : Command) → due.Done ≡ due.Send c → ⊥
done_not_send c is = cc

pub send_not_done : (c : Command) → due.Send c ≡ due.Done → ⊥
send_not_done c is = cc

-- a round that failed is never done
failing_never : (why : Refusal) (m : Mail) (xs : List Exchange) → Asks (state (stage.Failing why) m) xs → round_from (state (stage.Failing why) m) xs ≡ due.Done → ⊥
failing_never why m [] asks done = fails_not_done why done
failing_never why m (x ∷ xs) asks done = fails_not_send why x.command asks.0

-- an answer is OK, or another
pub ok_or_not : (s : Status) → (s ≡ status.Ok) ⊎ (is_ok s ≡ false)
ok_or_not status.Ok = inl refl
ok_or_not status.No = inr refl
ok_or_not status.Bad = inr refl
ok_or_not status.Preauth = inr refl
ok_or_not status.Bye = inr refl

refused_step : (s : RoundState) (x : Exchange) → is_ok x.status ≡ false → round_step s x ≡ state (stage.Failing refusal.Refused) (tell s.mail x)
refused_step s x bad = rw bad refl

-- an exchange of a round that is done was answered OK
ok_of : (s : RoundState) (x : Exchange) (xs : List Exchange) → Asks (round_step s x) xs → round_from (round_step s x) xs ≡ due.Done → x.status ≡ status.Ok
ok_of s x xs asks done =
    elim (ok_or_not x.status) as (λ c. x.status ≡ status.Ok) [
      | inl ok ↦ ok
      | inr bad ↦
          let is = refused_step s x bad in
          absurd (failing_never refusal.Refused (tell s.mail x) xs (subst (λ (t : RoundState). Asks t xs) is asks) (subst (λ (t : RoundState). round_from t xs ≡ due.Done) is done))
    ]

abbrev pub AllOk : List Exchange → Type 0
AllOk [] = Unit {0}
AllOk (x ∷ xs) = (x.status ≡ status.Ok) × AllOk xs

all_ok : (xs : List Exchange) (s : RoundState) → Asks s xs → round_from s xs ≡ due.Done → AllOk xs
all_ok [] s asks done = tt
all_ok (x ∷ xs) s (here, asks) done = (ok_of s x xs asks done, all_ok xs (round_step s x) asks done)

-- ---- what that is

-- a part of these exchanges, and then further folders
abbrev pub Parts : (Mail → List Exchange → Mail → Type 0) → ℕ → Mail → List Exchange → Type 0
Parts R from m xs = (front : List Exchange) × (rest : List Exchange) × (mid : Mail) × (xs ≡ front ++ rest) × R m front mid × VisitsFrom from mid rest (fold tell m xs)

-- all flags, and then headers
abbrev pub FlagsFirst : ℕ → ℕ → Mail → List Exchange → Mail → Type 0
FlagsFirst at uid_next m xs after =
    (y : Exchange) × (ys : List Exchange) × (xs ≡ y ∷ ys) × IsObeyed command.FetchFlags m y (tell m y) × FetchesHeaders at uid_next (tell m y) ys after

-- what a round does from a stage on, until it is done
abbrev pub DoesFrom : RoundStage → Mail → List Exchange → Type 0
DoesFrom (stage.Listing special) m xs = IsWholeRound special m xs (fold tell m xs)
DoesFrom (stage.Selecting at) m xs = Parts (AsksFolder at) (at + 1) m xs
DoesFrom (stage.FetchingFlags at uid_next) m xs = Parts (FlagsFirst at uid_next) (at + 1) m xs
DoesFrom (stage.FetchingHeaders at uid_next) m xs = Parts (FetchesHeaders at uid_next) (at + 1) m xs
DoesFrom stage.Finished m xs = xs ≡ []
DoesFrom (stage.Failing why) m xs = ⊥

obeyed_by : {asked : Command} (m : Mail) (x : Exchange) → due.Send asked ≡ due.Send x.command → x.status ≡ status.Ok → IsObeyed asked m x (tell m x)
obeyed_by {asked} m x is ok = record { command_is = send_same asked x.command is; ok = ok; told = refl }

-- an exchange about the folder at a place
abbrev answered_by : {at : ℕ} {command_for : Folder → Command} (m : Mail) (x : Exchange) (h : NumberedFolder) → slice_get m.folders at ≡ Some h
    → due.Send (command_for h.folder) ≡ due.Send x.command → x.status ≡ status.Ok → AnsweredAt at command_for m
answered_by m x h there is ok = record { place = record { held = h; there = there }; exchange = x; after = tell m x; obeyed = obeyed_by m x is ok }

-- the next folders
visits_by : (from : ℕ) (m : Mail) (xs : List Exchange) (found : Option ℕ) → selectable_from from (drop from m.folders) ≡ found → DoesFrom (selecting found) m xs
    → VisitsFrom from m xs (fold tell m xs)
visits_by from m xs None is none = subst (λ (l : List Exchange). VisitsFrom from m l (fold tell m l)) (sym none) (NoMore is)
visits_by from m xs (Some at) is (front, rest, mid, parts, asked, visits) =
    subst (λ (l : List Exchange). VisitsFrom from m l (fold tell m xs)) (sym parts)
    (Visits (record { at = at; exchanges = front; after = mid; is_next = is; asks = asked }) visits)

visits_of : (from : ℕ) (m : Mail) (xs : List Exchange) → DoesFrom (next_stage from m) m xs → VisitsFrom from m xs (fold tell m xs)
visits_of from m xs so = visits_by from m xs (selectable_from from (drop from m.folders)) refl so

-- headers were fetched
headers_by : (at uid_next : ℕ) (m : Mail) (x : Exchange) (xs : List Exchange) (h : NumberedFolder) (sliced : Bool) → slice_get m.folders at ≡ Some h → is_sliced uid_next h.folder ≡ sliced
    → (if sliced then due.Send (slice_of h.folder) else due.Send (new_of h.folder)) ≡ due.Send x.command → x.status ≡ status.Ok
    → DoesFrom (fetched_stage sliced at uid_next (tell m x)) (tell m x) xs → Parts (FetchesHeaders at uid_next) (at + 1) m (x ∷ xs)
headers_by at uid_next m x xs h true there is here ok (front, rest, mid, parts, fetches, visits) =
    (x ∷ front, rest, mid, ap (λ (l : List Exchange). x ∷ l) parts, Slice (answered_by m x h there here ok) is fetches, visits)
headers_by at uid_next m x xs h false there is here ok so =
    (x ∷ [], xs, tell m x, refl, Rest (answered_by m x h there here ok) is, visits_of (at + 1) (tell m x) xs so)

headers_at : (at uid_next : ℕ) (m : Mail) (x : Exchange) (xs : List Exchange) (found : Option NumberedFolder) → slice_get m.folders at ≡ found
    → of_folder (headers_of uid_next) found ≡ due.Send x.command → x.status ≡ status.Ok
    → DoesFrom (fetched_stage (is_sliced_in uid_next found) at uid_next (tell m x)) (tell m x) xs → Parts (FetchesHeaders at uid_next) (at + 1) m (x ∷ xs)
headers_at at uid_next m x xs None there here ok so = absurd (fails_not_send refusal.Lacks x.command here)
headers_at at uid_next m x xs (Some h) there here ok so = headers_by at uid_next m x xs h (is_sliced uid_next h.folder) there refl here ok so

-- a folder was selected
fetching_by : (at uid_next : ℕ) (m : Mail) (xs : List Exchange) (h : NumberedFolder) (none : Bool) → slice_get m.folders at ≡ Some h → (h.folder.modseq == 0) ≡ none
    → DoesFrom (if none then stage.FetchingFlags at uid_next else stage.FetchingHeaders at uid_next) m xs → Parts (FetchesFolder at uid_next) (at + 1) m xs
fetching_by at uid_next m xs h true there is (front, rest, mid, parts, (y, ys, flags, obeyed, fetches), visits) = (
  front,
  rest,
  mid,
  parts,
  subst (λ (l : List Exchange). FetchesFolder at uid_next m l mid) (sym flags)
      (WithoutModseqs (record { place = record { held = h; there = there }; exchange = y; after = tell m y; obeyed = obeyed }) (ap not is) fetches),
  visits,
)
fetching_by at uid_next m xs h false there is (front, rest, mid, parts, fetches, visits) =
    (front, rest, mid, parts, WithModseqs (record { held = h; there = there }) (ap not is) fetches, visits)

fetching_at : (at uid_next : ℕ) (m : Mail) (xs : List Exchange) (found : Option NumberedFolder) → slice_get m.folders at ≡ found → DoesFrom (fetching at uid_next found) m xs
    → Parts (FetchesFolder at uid_next) (at + 1) m xs
fetching_at at uid_next m xs None there so = absurd so
fetching_at at uid_next m xs (Some h) there so = fetching_by at uid_next m xs h (h.folder.modseq == 0) there refl so

selected_by_validity : (at : ℕ) (m : Mail) (x : Exchange) (xs : List Exchange) (h : NumberedFolder) (valid : Bool) → slice_get m.folders at ≡ Some h → select_of h.folder ≡ due.Send x.command
    → x.status ≡ status.Ok → tells_validity x.responses ≡ valid
    → DoesFrom (if valid then fetching at (sliced_to x.responses) (slice_get (tell m x).folders at) else stage.Failing refusal.Lacks) (tell m x) xs
    → Parts (AsksFolder at) (at + 1) m (x ∷ xs)
selected_by_validity at m x xs h true there here ok valid so =
    let f = fetching_at at (sliced_to x.responses) (tell m x) xs (slice_get (tell m x).folders at) refl so in
    (x ∷ f.0, f.1, f.2, ap (λ (l : List Exchange). x ∷ l) f.3, Asked (answered_by m x h there here ok) valid f.4, f.5)
selected_by_validity at m x xs h false there here ok valid so = absurd so

selected_at : (at : ℕ) (m : Mail) (x : Exchange) (xs : List Exchange) (found : Option NumberedFolder) → slice_get m.folders at ≡ found → of_folder select_of found ≡ due.Send x.command
    → x.status ≡ status.Ok → DoesFrom (selected_stage at x.responses (tell m x)) (tell m x) xs → Parts (AsksFolder at) (at + 1) m (x ∷ xs)
selected_at at m x xs None there here ok so = absurd (fails_not_send refusal.Lacks x.command here)
selected_at at m x xs (Some h) there here ok so = selected_by_validity at m x xs h (tells_validity x.responses) there here ok refl so

-- ---- stage by stage

none_done : (at : RoundStage) (m : Mail) → round_due at m ≡ due.Done → DoesFrom at m []
none_done (stage.Listing special) m done = absurd (send_not_done (command.List special) done)
none_done (stage.Selecting at) m done = absurd (never (slice_get m.folders at) done)
  where
    never : (found : Option NumberedFolder) → of_folder select_of found ≡ due.Done → ⊥
    never None is = cc
    never (Some h) is = cc
none_done (stage.FetchingFlags at uid_next) m done = absurd (send_not_done command.FetchFlags done)
none_done (stage.FetchingHeaders at uid_next) m done = absurd (never (slice_get m.folders at) done)
  where
    never_by : (h : NumberedFolder) (sliced : Bool) → (if sliced then due.Send (slice_of h.folder) else due.Send (new_of h.folder)) ≡ due.Done → ⊥
    never_by h true is = cc
    never_by h false is = cc

    never : (found : Option NumberedFolder) → of_folder (headers_of uid_next) found ≡ due.Done → ⊥
    never None is = cc
    never (Some h) is = never_by h (is_sliced uid_next h.folder) is
none_done stage.Finished m done = refl
none_done (stage.Failing why) m done = absurd (fails_not_done why done)

-- what follows an OK
obeyed_next : (at : RoundStage) (m : Mail) (x : Exchange) (xs : List Exchange) → x.status ≡ status.Ok
    → DoesFrom (round_after at (is_slicing at m) x (tell m x)) (tell m x) xs → DoesFrom (obeyed at (is_slicing at m) x.responses (tell m x)) (tell m x) xs
obeyed_next at m x xs ok so = subst (λ (s : RoundStage). DoesFrom s (tell m x) xs) (after_ok at (is_slicing at m) x (tell m x) ok) so
  where
    after_ok : (at : RoundStage) (sliced : Bool) (x : Exchange) (told : Mail) → x.status ≡ status.Ok → round_after at sliced x told ≡ obeyed at sliced x.responses told
    after_ok at sliced x told ok = rw ok refl

one_more : (at : RoundStage) (m : Mail) (x : Exchange) (xs : List Exchange) → round_due at m ≡ due.Send x.command → x.status ≡ status.Ok
    → DoesFrom (obeyed at (is_slicing at m) x.responses (tell m x)) (tell m x) xs → DoesFrom at m (x ∷ xs)
one_more (stage.Listing special) m x xs here ok so =
    record { listing = x; others = xs; listed = tell m x; parts = refl; list_is = obeyed_by m x here ok; visits = visits_of 0 (tell m x) xs so }
one_more (stage.Selecting at) m x xs here ok so = selected_at at m x xs (slice_get m.folders at) refl here ok so
one_more (stage.FetchingFlags at uid_next) m x xs here ok (front, rest, mid, parts, fetches, visits) =
    (x ∷ front, rest, mid, ap (λ (l : List Exchange). x ∷ l) parts, (x, front, refl, obeyed_by m x here ok, fetches), visits)
one_more (stage.FetchingHeaders at uid_next) m x xs here ok so = headers_at at uid_next m x xs (slice_get m.folders at) refl here ok so
one_more stage.Finished m x xs here ok so = absurd (done_not_send x.command here)
one_more (stage.Failing why) m x xs here ok so = absurd (fails_not_send why x.command here)

does_from : (xs : List Exchange) (at : RoundStage) (m : Mail) → Asks (state at m) xs → round_from (state at m) xs ≡ due.Done → DoesFrom at m xs
does_from [] at m asks done = none_done at m done
does_from (x ∷ xs) at m (here, asks) done =
    let ok = ok_of (state at m) x xs asks done in
    one_more at m x xs here ok (obeyed_next at m x xs ok (does_from xs (round_after at (is_slicing at m) x (tell m x)) (tell m x) asks done))

-- ---- what was sent

end_takes : (up : Bool) → flat_map store_took_in (end_unless up) ≡ []
end_takes true = refl
end_takes false = refl

-- what was taken in an exchange
pub spoken_takes : {pieces : List (List ℕ)} {before : Octets} {up : Bool} {events : List Event} (s : Speaks pieces before up events) → flat_map store_took_in events ≡ s.took
spoken_takes {up = up} s =
    ap (λ (l : List Event). flat_map store_took_in l) s.ended ∙ flat_map-append store_took_in s.talk (end_unless up) ∙ (λ i. s.said.took_is i ++ end_takes up i) ∙ append-nil s.took

texts_more : (n : ℕ) (xs : List Exchange) (x : Exchange) → texts_from n (xs ++ x ∷ []) ≡ texts_from n xs ++ command_text x.command (n + length xs)
texts_more n [] x = append-nil (command_text x.command n) ∙ ap (λ (k : ℕ). command_text x.command k) (omega arith)
texts_more n (y ∷ ys) x =
    ap (λ (l : List ℕ). command_text y.command n ++ l) (texts_more (n + 1) ys x ∙ ap (λ (k : ℕ). texts_from (n + 1) ys ++ command_text x.command k) (omega arith)) ∙ sym
    (append_assoc (command_text y.command n) (texts_from (n + 1) ys) (command_text x.command (n + length (y ∷ ys))))

ok_front : (xs : List Exchange) (x : Exchange) → AllOk (xs ++ x ∷ []) → AllOk xs × (x.status ≡ status.Ok)
ok_front [] x (ok, rest) = (tt, ok)
ok_front (y ∷ ys) x (ok, rest) = let so = ok_front ys x rest in ((ok, so.0), so.1)

-- the exchanges of a life after a run are those before it, and then those of the run
pub ran_exchanges : {plan : Planned} {life : LinkLife} {xs : List Exchange} {after : LinkLife} {es : List Event} → Ran plan life xs after es
    → after.exchanges ≡ life.exchanges ++ xs
ran_exchanges {life = life} Begun = sym (append-nil life.exchanges)
ran_exchanges {life = life} (Then {heard = xs} next ran) =
    ap (λ (l : LinkLife). l.exchanges) next.completes.after_is ∙ ap (λ (l : List Exchange). l ++ next.exchange ∷ []) (ran_exchanges ran)
    ∙ append_assoc life.exchanges xs (next.exchange ∷ [])

-- ---- which folder is selected

along_more : (now : Option (List ℕ)) (xs : List Exchange) (x : Exchange) → SelectedAlong now xs → x.selected ≡ fold selected_after now xs
    → SelectedAlong now (xs ++ x ∷ [])
along_more now [] x so is = (is, tt)
along_more now (y ∷ ys) x (here, so) is = (here, along_more (selected_after now y) ys x so is)

-- a life that goes on after a run went on before it
ran_on : {plan : Planned} {life : LinkLife} {xs : List Exchange} {after : LinkLife} {es : List Event} → Ran plan life xs after es → after.goes_on ≡ true
    → life.goes_on ≡ true
ran_on Begun on = on
ran_on (Then next ran) on = ran_on ran next.completes.on

-- the folder that a run leaves selected
ran_selects : {plan : Planned} {life : LinkLife} {xs : List Exchange} {after : LinkLife} {es : List Event} → Ran plan life xs after es → after.goes_on ≡ true
    → selected after ≡ fold selected_after (selected life) xs
ran_selects {life = life} {xs = xs} {after = after} ran on =
    selected_of after on ∙ ap (λ (l : List Exchange). fold selected_after None l) (ran_exchanges ran) ∙ fold-append selected_after None life.exchanges xs
    ∙ ap (λ (s : Option (List ℕ)). fold selected_after s xs) (sym (selected_of life (ran_on ran on)))

-- at each exchange of a run the folder is selected that those before it leave selected
pub ran_along : {plan : Planned} {life : LinkLife} {xs : List Exchange} {after : LinkLife} {es : List Event} → Ran plan life xs after es → SelectedAlong (selected life) xs
ran_along Begun = tt
ran_along {life = life} (Then {heard = xs} next ran) =
    along_more (selected life) xs next.exchange (ran_along ran) (next.completes.selected_is ∙ ran_selects ran next.completes.on)

-- exchanges that were answered OK took the texts of their commands
pub ran_sends : {plan : Planned} {life : LinkLife} {xs : List Exchange} {after : LinkLife} {es : List Event} → Ran plan life xs after es → AllOk xs
    → flat_map store_took_in es ≡ texts_from (next_number life) xs
ran_sends Begun ok = refl
ran_sends {life = life} (Then {heard = xs} {events = es} next ran) ok =
    let mid = next.before in
    let asked = next.command in
    let x = next.exchange in
    let c = next.completes in
    let oks = ok_front xs x ok in
    let taken : c.speaks.took ≡ command_text asked (next_number mid) = taken_of x.status oks.1 c.taken in
    let number_is : next_number mid ≡ next_number life + length xs = omega (arith, ap length (ran_exchanges ran), length-append life.exchanges xs) in
    flat_map-append store_took_in es next.events ∙ (λ i. ran_sends ran oks.0 i ++ (spoken_takes c.speaks ∙ taken) i)
    ∙ (λ i. texts_from (next_number life) xs ++ command_text (sym c.command_is i) (number_is i)) ∙ sym (texts_more (next_number life) xs x)
  where
    taken_of : (s : Status) → s ≡ status.Ok → IsTaken (command_pieces next.command (next_number next.before)) next.exchange.responses s next.completes.speaks.took
        → next.completes.speaks.took ≡ command_text next.command (next_number next.before)
    taken_of status.Ok is' taken = taken
    taken_of status.No is' taken = absurd (cc is')
    taken_of status.Bad is' taken = absurd (cc is')
    taken_of status.Preauth is' taken = absurd (cc is')
    taken_of status.Bye is' taken = absurd (cc is')

-- ---- its end

-- a plan ends in Ok where it is done
pub end_done : {now : Due} {life left : LinkLife} {events : List Event} → IsEnd now life left (Ok tt) events → (now ≡ due.Done) × (events ≡ []) × (left ≡ life)
end_done (Finished is ok none same) = (is, none, same)
end_done (Failed why is bad hangs same) = absurd (cc bad)
end_done (Broken asked e is bad b) = absurd (cc bad)
end_done (LifeHadEnded asked is over bad none same) = absurd (cc bad)
end_done (Wanting bad hangs same) = absurd (cc bad)

-- a round that ends in Ok is a whole round, of which the store took exactly the commands
pub finished_rounds_are_whole : (before after : Mail) (life left : LinkLife) (client : ClientState) (events : List Event) → Rounds before after life left client (Ok tt) events
    → IsFinishedRound before after life left events
finished_rounds_are_whole before after life left client events r =
    let ends = end_done r.follows.ends in
    let first : RoundStage = stage.Listing (special_use life) in
    let asks = ran_asks (state first before) r.follows.ran in
    let told : after ≡ fold tell before r.exchanges = r.told (λ is. cc) in
    let events_are : events ≡ r.follows.so_far = r.follows.whole ∙ ap (λ (l : List Event). r.follows.so_far ++ l) ends.1 ∙ append-nil r.follows.so_far in
    record {
      exchanges = r.exchanges;
      whole = subst (λ (m : Mail). IsWholeRound (special_use life) before r.exchanges m) (sym told) (does_from r.exchanges first before asks ends.0);
      along = ran_along r.follows.ran;
      completed = ap (λ (l : LinkLife). l.exchanges) ends.2 ∙ ran_exchanges r.follows.ran;
      sent = ap (λ (l : List Event). flat_map store_took_in l) events_are ∙ ran_sends r.follows.ran (all_ok r.exchanges (state first before) asks ends.0);
    }
