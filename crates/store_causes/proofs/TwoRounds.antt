-- Rounds that are followed.
use Rattle.std.proofs.Common.{Option, Some, Result, Ok, Err, ◌≡◌, ◌++◌, Bool, true, false, ℕ, List, [], ◌∷◌, fold, refl, sym, ◌∙◌, ap, subst, arith}
use Rattle.std.proofs.lemmas.List.Sums.{fold-append}
use Rattle.std.specs.declared.alloc.AllocError.{AllocError}
use Rattle.gate_world.specs.declared.event.Event.{Event}
use Rattle.told_folder.specs.declared.exchange.Exchange.{Exchange}
use Rattle.told_mail.specs.Mail.{Mail}
use Rattle.told_mail.specs.Told.{Told}
use Rattle.told_mail.specs.Exchanges.{tell, TellsKnown}
use Rattle.told_mail.proofs.NumberLemmas.{numbers_stay, next_by}
use Rattle.imap_exchange.specs.declared.link_end.LinkEnd.{LinkEnd}
use Rattle.imap_client.specs.LinkLife.{LinkLife, ClientState, selected_after, special_use}
use Rattle.imap_client.specs.Plans.{Follows, HearsAll, HeardNone, HeardMore, StopsAtRefusal}
use Rattle.imap_client.specs.reading.Keeping.{KeepsMirror}
use Rattle.imap_client.specs.Rounds.{RoundState, round_from, round_plan, round_step}
use Rattle.imap_client.specs.declared.plan.Due.{Due}
use Rattle.imap_client.specs.declared.round.Round.{Round}
use Rattle.imap_client.specs.declared.round.RoundStage.TheVariants as round
use Rattle.store_causes.specs.Beginnings.{beginning_told}
use Rattle.store_causes.specs.Causes.{DoesntFailAtOnce, let_in_after, StopsBy, IsOutcome, AllDone, Stopped}
use Rattle.store_causes.specs.Checks.{no_mail}
use Rattle.store_causes.specs.declared.cause.StoreCause.{StoreCause}
use Rattle.store_causes.specs.declared.check.Checked.{Checked}
use Rattle.store_causes.specs.declared.notes.Notes.{Notes}
use Rattle.store_causes.specs.declared.rounds.RoundFound.{RoundFound}
use Rattle.store_causes.specs.reading.Following.{AsksTo, Finds, beginning_by}
use Rattle.store_causes.specs.reading.Noting.{noted}
use Rattle.store_causes.specs.reading.Rounding.{FindsInRound, WantsInRound, ReadsTo, ReadsOnce, ReadsTwice, WantsOnce, WantsTwice}
use Rattle.store_causes.proofs.Outcomes.{let_in_of, selected_of, outcome_of}
use Rattle.store_causes.proofs.Telling.{outcome_told}

-- a plan's state goes by its steps
folded : {S V : Type 0} {hears : S → Exchange → S → Type 0} (view : S → V) (step : V → Exchange → V)
    → ((s d : S) (x : Exchange) → hears s x d → view d ≡ step (view s) x) → {before after : S} {xs : List Exchange} → HearsAll hears before xs after
    → view after ≡ fold step (view before) xs
folded view step steps HeardNone = refl
folded view step steps {before} (HeardMore {xs} {mid} {after} x so heard) =
    steps mid after x heard ∙ ap (λ (v : _). step v x) (folded view step steps so) ∙ sym (fold-append step (view before) xs (x ∷ []))

-- ---- a round

abbrev pub round_view : Round → RoundState
round_view r = record { stage = r.stage; mail = r.mirror.mail }

abbrev pub RoundHears : Round → Exchange → Round → Type 0
RoundHears r x s = (round_view s ≡ round_step (round_view r) x) × (TellsKnown r.mirror.mail x → s.mirror.changes ≡ r.mirror.changes)

abbrev pub RoundAsks : Round → Round → Notes → Notes → LinkLife → LinkLife → ClientState → List ℕ → Result (Option StoreCause) AllocError → List Event → Type 0
RoundAsks r s n left_notes life left client unread result es =
    AsksTo (λ (q : Round). round_from (round_view q)) RoundHears r s n left_notes life left client unread result es

-- where nothing is told yet, a mirror is kept as it is
pub keeps_none : (t : Told) → KeepsMirror t t
keeps_none t = (record { rises = omega arith; stands = λ _ _. refl }, λ is. next_by t.mail t.mail is (numbers_stay t.mail))

round_starts : (uses : Bool) (m : Mail) → DoesntFailAtOnce (round_plan uses m)
round_starts uses m why is = cc

begun_round : (r : Round) (uses : Bool) (before : Mail) → r.stage ≡ round.Listing uses → r.mirror.mail ≡ before
    → round_view r ≡ record { stage = round.Listing uses; mail = before }
begun_round r uses before stage_is mail_is = (λ i. record { stage = stage_is i; mail = mail_is i })

round_stops : (r : Round) (uses : Bool) (before : Mail) → r.stage ≡ round.Listing uses → r.mirror.mail ≡ before → StopsAtRefusal (round_plan uses before)
    → StopsAtRefusal (round_from (round_view r))
round_stops r uses before stage_is mail_is stops =
    subst (λ (v : RoundState). StopsAtRefusal (round_from v)) (sym (begun_round r uses before stage_is mail_is)) stops

-- a round that was followed
pub finds_in_round : {r s : Round} {left_notes : Notes} {life left : LinkLife} {client : ClientState} {unread : List ℕ} {es : List Event} (uses : Bool) (before : Mail)
    (n : Notes) (password : List ℕ) (cause : Option StoreCause) (found : RoundFound) → r.stage ≡ round.Listing uses → r.mirror.mail ≡ before → StopsAtRefusal (round_plan uses before)
    → found.notes ≡ left_notes → found.mirror ≡ s.mirror → found.cause ≡ cause → found.beginning ≡ beginning_by password cause unread
    → RoundAsks r s n left_notes life left client unread (Ok cause) es → FindsInRound password uses before n life left client found es
finds_in_round {r} {s} {life = life} {left} {client} {unread} {es} uses before n password cause found stage_is mail_is stops notes_is mirror_is cause_is beginning_is to =
    let begins = begun_round r uses before stage_is mail_is in
    let f : Follows (round_plan uses before) life left to.exchanges client to.ended es =
    subst (λ (v : RoundState). Follows (round_from v) life left to.exchanges client to.ended es) begins to.follows in
    let finds : Finds (round_plan uses before to.exchanges) (fold noted n to.exchanges) to.ended (Ok cause) =
    subst (λ (v : RoundState). Finds (round_from v to.exchanges) (fold noted n to.exchanges) to.ended (Ok cause)) begins to.finds in
    let told : s.mirror.mail ≡ fold tell before to.exchanges =
    folded (λ (q : Round). q.mirror.mail) tell (λ q p x so. ap (λ (v : RoundState). v.mail) so.0) (to.told tt)
    ∙ ap (λ (m : Mail). fold tell m to.exchanges) mail_is in
    let outcome = outcome_of n cause (round_starts uses before) f finds in
    record {
      exchanges = to.exchanges;
      ended = to.ended;
      follows = f;
      outcome = subst (λ (k : Option StoreCause). IsOutcome n.let_in n.selected to.exchanges (round_plan uses before to.exchanges) to.ended k) (sym cause_is) outcome;
      mail = ap (λ (t : Told). t.mail) mirror_is ∙ told;
      beginning = beginning_is ∙ outcome_told password left.gave unread outcome to.leaves ∙ ap (λ (k : Option StoreCause). beginning_told password k left.gave) (sym cause_is);
      noted_is = λ is. notes_is ∙ to.noted_is is;
      goes_on = λ is. to.goes_on is (round_stops r uses before stage_is mail_is stops);
      is_over = to.is_over;
    }

-- out of memory in a round, or after it
pub wants_in_round : {r s : Round} {left_notes : Notes} {life left : LinkLife} {client : ClientState} {unread : List ℕ} {result : Result (Option StoreCause) AllocError}
    {es : List Event} (uses : Bool) (before : Mail) (n : Notes) → r.stage ≡ round.Listing uses → r.mirror.mail ≡ before
    → RoundAsks r s n left_notes life left client unread result es → WantsInRound uses before life left client es
wants_in_round {r} {life = life} {left} {client} {es = es} uses before n stage_is mail_is to =
    record {
      exchanges = to.exchanges;
      ended = to.ended;
      follows = subst (λ (v : RoundState). Follows (round_from v) life left to.exchanges client to.ended es) (begun_round r uses before stage_is mail_is) to.follows;
    }

-- ---- two rounds

-- where the client is alive all is done
done_in : (client : ClientState) (ended : Result (Unit {0}) LinkEnd) → ((e : LinkEnd) → ended ≡ Err e → client.alive ≡ false) → client.alive ≡ true → ended ≡ Ok tt
done_in client (Ok u) over alive = refl
done_in client (Err e) over alive = let never = sym alive ∙ over e refl in absurd (cc never)

-- a plan that stopped has a cause
record HasStop (let_in : Bool) (selected : Option (List ℕ)) (xs : List Exchange) (now : Due) (ended : Result (Unit {0}) LinkEnd) (found : Option StoreCause) : Type 0 where
  ending : LinkEnd
  cause : StoreCause
  ended_is : ended ≡ Err ending
  found_is : found ≡ Some cause
  so : StopsBy let_in selected xs now ending cause

stop_of : {let_in : Bool} {selected : Option (List ℕ)} {xs : List Exchange} {now : Due} {ended : Result (Unit {0}) LinkEnd} {found : Option StoreCause} (client : ClientState)
    → (ended ≡ Ok tt → client.alive ≡ true) → client.alive ≡ false → IsOutcome let_in selected xs now ended found → HasStop let_in selected xs now ended found
stop_of client alive dead AllDone = let never = sym (alive refl) ∙ dead in absurd (cc never)
stop_of client alive dead (Stopped e c so) = record { ending = e; cause = c; ended_is = refl; found_is = refl; so = so }

abbrev FirstFinds : List ℕ → Notes → LinkLife → LinkLife → ClientState → RoundFound → List Event → Type 0
FirstFinds password n life left client found es = FindsInRound password (special_use life) no_mail n life left client found es

first_finds : {password : List ℕ} {life left : LinkLife} {client : ClientState} {found : RoundFound} {es : List Event} (uses : Bool) (before : Mail) (n : Notes) → uses ≡ special_use life
    → before ≡ no_mail → FindsInRound password uses before n life left client found es → FirstFinds password n life left client found es
first_finds {password} {life} {left} {client} {found} {es} uses before n uses_is mail_is so =
    subst (λ (b : Bool). FindsInRound password b no_mail n life left client found es) uses_is
    (subst (λ (m : Mail). FindsInRound password uses m n life left client found es) mail_is so)

first_wants : {life left : LinkLife} {client : ClientState} {es : List Event} (uses : Bool) (before : Mail) → uses ≡ special_use life → before ≡ no_mail
    → WantsInRound uses before life left client es → WantsInRound (special_use life) no_mail life left client es
first_wants {life} {left} {client} {es} uses before uses_is mail_is so =
    subst (λ (b : Bool). WantsInRound b no_mail life left client es) uses_is (subst (λ (m : Mail). WantsInRound uses m life left client es) mail_is so)

-- the first round stopped
pub reads_once : {password : List ℕ} {life left : LinkLife} {client : ClientState} {found : RoundFound} {es : List Event} (preauth uses : Bool) (before : Mail) (n : Notes) (checked : Checked)
    → uses ≡ special_use life → before ≡ no_mail → client.alive ≡ false → checked.preauth ≡ Some preauth → checked.let_in ≡ n.let_in → checked.special_use ≡ uses
    → checked.mirror ≡ found.mirror → checked.cause ≡ found.cause → checked.again ≡ false → checked.beginning ≡ found.beginning
    → FindsInRound password uses before n life left client found es → ReadsTo password preauth n life left client es (Ok checked)
reads_once {password} {life} {left} {client} {found} {es} preauth uses before n checked uses_is mail_is dead greeting let_in special mirror_is cause_is again_is beginning_is finds =
    let so = first_finds uses before n uses_is mail_is finds in
    let stop = stop_of client so.goes_on dead so.outcome in
    ReadsOnce so.exchanges stop.ending stop.cause checked
    (subst (λ (r : Result (Unit {0}) LinkEnd). Follows (round_plan (special_use life) no_mail) life left so.exchanges client r es) stop.ended_is so.follows) stop.so
    (record {
      greeting = greeting;
      let_in = let_in;
      special_use_is = special ∙ uses_is;
      mail = ap (λ (t : Told). t.mail) mirror_is ∙ so.mail;
      cause_is = cause_is ∙ stop.found_is;
      again_is = again_is;
      beginning = beginning_is ∙ so.beginning ∙ ap (λ (k : Option StoreCause). beginning_told password k left.gave) stop.found_is;
    })

-- memory ran out in the first round
pub wants_once : {password : List ℕ} {life left : LinkLife} {client : ClientState} {es : List Event} (preauth uses : Bool) (before : Mail) (n : Notes) (f : AllocError)
    → uses ≡ special_use life → before ≡ no_mail → WantsInRound uses before life left client es → ReadsTo password preauth n life left client es (Err f)
wants_once preauth uses before n f uses_is mail_is wants =
    let so = first_wants uses before uses_is mail_is wants in WantsOnce so.exchanges so.ended f so.follows

-- memory ran out after it
pub wants_after : {password : List ℕ} {life left : LinkLife} {client : ClientState} {found : RoundFound} {es : List Event} (preauth uses : Bool) (before : Mail) (n : Notes) (f : AllocError)
    → uses ≡ special_use life → before ≡ no_mail → FindsInRound password uses before n life left client found es → ReadsTo password preauth n life left client es (Err f)
wants_after preauth uses before n f uses_is mail_is finds =
    let so = first_finds uses before n uses_is mail_is finds in WantsOnce so.exchanges so.ended f so.follows

-- the first round, of which all is done
first_follows : {password : List ℕ} {n : Notes} {life left : LinkLife} {client : ClientState} {found : RoundFound} {es : List Event} (so : FirstFinds password n life left client found es) → client.alive ≡ true
    → Follows (round_plan (special_use life) no_mail) life left so.exchanges client (Ok tt) es
first_follows {life = life} {left} {client} {es = es} so alive =
    subst (λ (r : Result (Unit {0}) LinkEnd). Follows (round_plan (special_use life) no_mail) life left so.exchanges client r es) (done_in client so.ended so.is_over alive) so.follows

first_notes : {password : List ℕ} {n : Notes} {life left : LinkLife} {client : ClientState} {found : RoundFound} {es : List Event} (so : FirstFinds password n life left client found es) → client.alive ≡ true
    → found.notes ≡ fold noted n so.exchanges
first_notes {client = client} so alive = so.noted_is (done_in client so.ended so.is_over alive)

-- two rounds, of which the second is over the mail that the first told
pub reads_twice : {password : List ℕ} {life read left : LinkLife} {was client : ClientState} {first again : RoundFound} {xs : List Event} (ys : List Event) (preauth uses : Bool) (before told : Mail)
    (n : Notes) (checked : Checked) → uses ≡ special_use life → before ≡ no_mail → told ≡ first.mirror.mail → was.alive ≡ true → checked.preauth ≡ Some preauth
    → checked.let_in ≡ n.let_in → checked.special_use ≡ uses → checked.mirror ≡ first.mirror → checked.cause ≡ again.cause → checked.again ≡ true → checked.beginning ≡ again.beginning
    → FindsInRound password uses before n life read was first xs → FindsInRound password uses told first.notes read left client again ys
    → ReadsTo password preauth n life left client (xs ++ ys) (Ok checked)
reads_twice {password} {life} {read} {left} {was} {client} {first} {again} {xs} ys preauth uses before told n checked uses_is mail_is told_is alive greeting let_in special mirror_is cause_is again_is
    beginning_is one two =
    let so = first_finds uses before n uses_is mail_is one in
    let notes_are = first_notes so alive in
    let mail : told ≡ fold tell no_mail so.exchanges = told_is ∙ so.mail in
    let next : FindsInRound password (special_use life) (fold tell no_mail so.exchanges) first.notes read left client again ys =
    subst (λ (b : Bool). FindsInRound password b (fold tell no_mail so.exchanges) first.notes read left client again ys) uses_is
    (subst (λ (m : Mail). FindsInRound password uses m first.notes read left client again ys) mail two) in
    let now : Due = round_plan (special_use life) (fold tell no_mail so.exchanges) next.exchanges in
    let in_is : first.notes.let_in ≡ fold let_in_after n.let_in so.exchanges = ap (λ (m : Notes). m.let_in) notes_are ∙ let_in_of n so.exchanges in
    let selected_is : first.notes.selected ≡ fold selected_after n.selected so.exchanges = ap (λ (m : Notes). m.selected) notes_are ∙ selected_of n so.exchanges in
    ReadsTwice so.exchanges next.exchanges read was xs ys next.ended again.cause checked refl (first_follows so alive) next.follows
    (subst (λ (b : Bool). IsOutcome b (fold selected_after n.selected so.exchanges) next.exchanges now next.ended again.cause) in_is
    (subst (λ (o : Option (List ℕ)). IsOutcome first.notes.let_in o next.exchanges now next.ended again.cause) selected_is next.outcome))
    (record {
      greeting = greeting;
      let_in = let_in;
      special_use_is = special ∙ uses_is;
      mail = ap (λ (t : Told). t.mail) mirror_is ∙ so.mail;
      cause_is = cause_is;
      again_is = again_is;
      beginning = beginning_is ∙ next.beginning;
    })

-- memory ran out in the second
pub wants_twice : {password : List ℕ} {life read left : LinkLife} {was client : ClientState} {first : RoundFound} {xs : List Event} (ys : List Event) (preauth uses : Bool) (before told : Mail)
    (n : Notes) (f : AllocError) → uses ≡ special_use life → before ≡ no_mail → told ≡ first.mirror.mail → was.alive ≡ true
    → FindsInRound password uses before n life read was first xs → WantsInRound uses told read left client ys → ReadsTo password preauth n life left client (xs ++ ys) (Err f)
wants_twice {password} {life} {read} {left} {was} {client} {first} {xs} ys preauth uses before told n f uses_is mail_is told_is alive one two =
    let so = first_finds uses before n uses_is mail_is one in
    let mail : told ≡ fold tell no_mail so.exchanges = told_is ∙ so.mail in
    let next : WantsInRound (special_use life) (fold tell no_mail so.exchanges) read left client ys =
    subst (λ (b : Bool). WantsInRound b (fold tell no_mail so.exchanges) read left client ys) uses_is
    (subst (λ (m : Mail). WantsInRound uses m read left client ys) mail two) in
    WantsTwice so.exchanges next.exchanges read was xs ys next.ended f refl (first_follows so alive) next.follows
