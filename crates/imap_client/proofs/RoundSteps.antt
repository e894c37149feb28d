-- Rounds and the fetch of a body, exchange by exchange.
use Rattle.std.proofs.Common.{◌≡◌, ◌≢◌, ◌++◌, ◌-◌, ◌<◌, ◌≤◌, ◌^◌, ℕ, false, List, [], ◌∷◌, Option, Some, None, Result, Ok, Err, fold, refl, sym, ◌∙◌, ap, subst, arith}
use Rattle.std.proofs.lemmas.List.Sums.{fold-append}
use Rattle.told_folder.specs.declared.exchange.Exchange.{Exchange}
use Rattle.told_mail.specs.Mail.{Mail, folder_in, IsMail, IsNextMail}
use Rattle.told_folder.specs.declared.message.Folder.{Folder}
use Rattle.told_mail.specs.Told.{Told, Counts}
use Rattle.told_mail.proofs.NumberLemmas.{numbers_stay, next_by, next_mail_joins}
use Rattle.told_mail.specs.Exchanges.{tell, TellsKnown}
use Rattle.gate_world.specs.declared.event.Event.{Event}
use Rattle.imap_exchange.specs.declared.link_end.LinkEnd.{LinkEnd}
use Rattle.imap_exchange.specs.declared.link_end.LinkEnd.TheVariants as end
use Rattle.imap_client.specs.declared.round.Round.{Round}
use Rattle.imap_client.specs.declared.round.RoundStage.TheVariants as stage
use Rattle.imap_client.specs.declared.body.BodyFetch.{BodyFetch}
use Rattle.imap_client.specs.declared.body.BodyStage.{BodyStage}
use Rattle.imap_client.specs.declared.body.BodyStage.TheVariants as bstage
use Rattle.imap_client.specs.declared.plan.Due.TheVariants as due
use Rattle.imap_client.specs.declared.plan.Refusal.{Refusal}
use Rattle.imap_client.specs.declared.plan.Refusal.TheVariants as refusal
use Rattle.imap_client.specs.Connecting.{is_ok}
use Rattle.imap_client.specs.Plans.{StopsAtRefusal, HearsAll, HeardNone, HeardMore, Follows, FollowsTo}
use Rattle.imap_client.specs.LinkLife.{LinkLife, ClientState, selected, special_use}
use Rattle.imap_client.specs.reading.Keeping.{KeepsMirror}
use Rattle.imap_client.specs.Rounds.{AllTellKnown, CountsOn, KeepsCount, Rounds, RoundState, round_due, round_step, round_from}
use Rattle.imap_client.specs.Bodies.{BodyState, body_step, body_from, body_due, body_begun, body_start, select_due, HasBody, FetchesBody}
use Rattle.imap_client.proofs.Connections.{not_ok}

-- a plan's state goes by its steps
folded : {S V : Type 0} {hears : S → Exchange → S → Type 0} (view : S → V) (step : V → Exchange → V)
    → ((s d : S) (x : Exchange) → hears s x d → view d ≡ step (view s) x) → {before after : S} {xs : List Exchange} → HearsAll hears before xs after
    → view after ≡ fold step (view before) xs
folded view step steps HeardNone = refl
folded view step steps {before} (HeardMore {xs} {mid} {after} x so heard) =
    steps mid after x heard ∙ ap (λ (v : _). step v x) (folded view step steps so) ∙ sym (fold-append step (view before) xs (x ∷ []))

-- ---- a refusal fails them

fails_not_done : (why : Refusal) → due.Fails why ≡ due.Done → ⊥
fails_not_done why is = cc

round_refused : (s : RoundState) (x : Exchange) → is_ok x.status ≡ false → round_from s (x ∷ []) ≡ due.Fails refusal.Refused
round_refused s x bad = rw bad refl

-- in a round, a command that isn't answered OK is never the last of all that is to be done
pub round_stops : (s : RoundState) → StopsAtRefusal (round_from s)
round_stops s =
    record {
      stops = λ xs command x is other done.
          let step_is : fold round_step s (xs ++ x ∷ []) ≡ round_step (fold round_step s xs) x = fold-append round_step s xs (x ∷ []) in
          let same : round_from s (xs ++ x ∷ []) ≡ round_from (fold round_step s xs) (x ∷ []) = ap (λ (now : RoundState). round_due now.stage now.mail) step_is in
          fails_not_done refusal.Refused (sym (round_refused (fold round_step s xs) x (not_ok x.status other)) ∙ sym same ∙ done);
    }

body_refused : (folder uid : ℕ) (s : BodyState) (x : Exchange) → is_ok x.status ≡ false → body_from folder uid s (x ∷ []) ≡ due.Fails refusal.Refused
body_refused folder uid s x bad = rw bad refl

-- in the fetch of a body, a command that isn't answered OK is never the last of all that is to be done
pub body_stops : (folder uid : ℕ) (s : BodyState) → StopsAtRefusal (body_from folder uid s)
body_stops folder uid s =
    record {
      stops = λ xs command x is other done.
          let step_is : fold (body_step folder uid) s (xs ++ x ∷ []) ≡ body_step folder uid (fold (body_step folder uid) s xs) x = fold-append (body_step folder uid) s xs
          (x ∷ []) in
          let same : body_from folder uid s (xs ++ x ∷ []) ≡ body_from folder uid (fold (body_step folder uid) s xs) (x ∷ []) = ap
          (λ (now : BodyState). body_from folder uid now []) step_is in
          fails_not_done refusal.Refused (sym (body_refused folder uid (fold (body_step folder uid) s xs) x (not_ok x.status other)) ∙ sym same ∙ done);
    }

-- ---- the count of changes

-- where nothing is told, the count goes on as it should
counts_none : (t : Told) → CountsOn t t
counts_none t = record { rises = omega arith; stands = λ _ _. refl }

-- where nothing is told, the count goes on and the mail can follow
pub keeps_none : (t : Told) → KeepsMirror t t
keeps_none t = (counts_none t, λ is. next_by t.mail t.mail is (numbers_stay t.mail))

-- what is told after other exchanges lets the count go on, and leads to mail that can follow
pub keeps_told : (first old new : Told) → Counts old new → IsNextMail old.mail new.mail → KeepsMirror first old → KeepsMirror first new
keeps_told first old new counts next kept =
    let was : first.changes ≤ old.changes = kept.0.rises in
    let now : old.changes ≤ new.changes = counts.rises in (
      record {
        rises = omega (arith, was, now);
        stands = λ e l.
            let second : new.changes ≡ old.changes = omega (arith, e, was, now) in
            let one : old.changes ≡ first.changes = omega (arith, e, was, now) in
            let less : old.changes < 2 ^ 64 - 1 = omega (arith, second, l) in
            counts.stands second l ∙ kept.0.stands one less;
      },
      λ is. next_mail_joins first.mail old.mail new.mail (kept.1 is) next,
    )

-- the count goes on since the mirror was this
pub kept_counts : (before first after : Told) → first ≡ before → KeepsMirror first after → CountsOn before after
kept_counts before first after is kept = (subst (λ (t : Told). KeepsMirror t after) is kept).0

-- the mail can follow what the mirror had
pub kept_next : (before first after : Told) → first ≡ before → IsMail before.mail → KeepsMirror first after → IsNextMail before.mail after.mail
kept_next before first after is mail kept = (subst (λ (t : Told). KeepsMirror t after) is kept).1 mail

-- of exchanges that all tell what is known, each does
known_parts : (m : Mail) (xs : List Exchange) (x : Exchange) → AllTellKnown m (xs ++ x ∷ []) → AllTellKnown m xs × TellsKnown (fold tell m xs) x
known_parts m [] x all = (tt, all.0)
known_parts m (y ∷ xs) x all = let rest = known_parts (tell m y) xs x all.1 in ((all.0, rest.0), rest.1)

-- what a plan holds was told each exchange that it heard, and its count stands where the exchange tells what is known
record TellsEach {S : Type 0} (hears : S → Exchange → S → Type 0) (told : S → Told) : Type 0 where
  tells : (s d : S) (x : Exchange) → hears s x d → (told d).mail ≡ tell (told s).mail x
  stands : (s d : S) (x : Exchange) → hears s x d → TellsKnown (told s).mail x → (told d).changes ≡ (told s).changes

count_stands : {S : Type 0} {hears : S → Exchange → S → Type 0} {told : S → Told} → TellsEach hears told → {before after : S} {xs : List Exchange}
    → HearsAll hears before xs after → AllTellKnown (told before).mail xs → (told after).changes ≡ (told before).changes
count_stands each HeardNone all = refl
count_stands {told = told} each {before} (HeardMore {xs} {mid} {after} x so heard) all =
    let parts = known_parts (told before).mail xs x all in
    let mail_is : (told mid).mail ≡ fold tell (told before).mail xs = folded (λ s. (told s).mail) tell each.tells so in
    each.stands mid after x heard (subst (λ (m : Mail). TellsKnown m x) (sym mail_is) parts.1) ∙ count_stands each so parts.0

keeps_count : {S A : Type 0} {hears : S → Exchange → S → Type 0} {told : S → Told} {first last : S} {xs : List Exchange} (before after : Told) (result : Result A LinkEnd)
    → TellsEach hears told → told first ≡ before → told last ≡ after → (result ≢ Err end.Memory → HearsAll hears first xs last) → KeepsCount before after result xs
keeps_count {told = told} {xs = xs} before after result each before_is after_is heard other all =
    ap (λ (t : Told). t.changes) (sym after_is)
    ∙ count_stands each (heard other) (subst (λ (t : Told). AllTellKnown t.mail xs) (sym before_is) all) ∙ ap (λ (t : Told). t.changes) before_is

-- ---- what was followed

abbrev pub round_view : Round → RoundState
round_view r = record { stage = r.stage; mail = r.mirror.mail }

abbrev pub RoundHears : Round → Exchange → Round → Type 0
RoundHears r x s = (round_view s ≡ round_step (round_view r) x) × (TellsKnown r.mirror.mail x → s.mirror.changes ≡ r.mirror.changes)

round_tells : TellsEach RoundHears (λ r. r.mirror)
round_tells = record { tells = λ s d x heard. ap (λ (v : RoundState). v.mail) heard.0; stands = λ s d x heard known. heard.1 known }

-- a round that was followed
pub rounded : {life left : LinkLife} {client : ClientState} {result : Result (Unit {0}) LinkEnd} {es : List Event} (before after : Told) (first last : Round)
    → first.stage ≡ stage.Listing (special_use life) → first.mirror ≡ before → last.mirror ≡ after
    → FollowsTo (λ (r : Round). round_from (round_view r)) RoundHears first last life left client result es
    → (rounds : Rounds before.mail after.mail life left client result es) × KeepsCount before after result rounds.exchanges
rounded {life} {left} {client} {result} {es} before after first last stage_is before_is after_is f =
    let begins : round_view first ≡ record { stage = stage.Listing (special_use life); mail = before.mail } = (λ i. record { stage = stage_is i; mail = (before_is i).mail }) in
    let told_is : (heard : HearsAll RoundHears first f.exchanges last) → last.mirror.mail ≡ fold tell first.mirror.mail f.exchanges = λ heard.
    folded (λ (r : Round). r.mirror.mail) tell round_tells.tells heard in (
      record {
        exchanges = f.exchanges;
        follows = subst (λ (s : RoundState). Follows (round_from s) life left f.exchanges client result es) begins f.follows;
        told = λ other. ap (λ (t : Told). t.mail) (sym after_is) ∙ told_is (f.heard other) ∙ ap (λ (t : Told). fold tell t.mail f.exchanges) before_is;
      },
      keeps_count before after result round_tells before_is after_is f.heard,
    )

abbrev pub body_view : BodyFetch → BodyState
body_view f = record { stage = f.stage; mail = f.mirror.mail }

abbrev pub BodyHears : BodyFetch → Exchange → BodyFetch → Type 0
BodyHears f x g = (g.folder ≡ f.folder) × (g.uid ≡ f.uid) × (body_view g ≡ body_step f.folder f.uid (body_view f) x)
    × (TellsKnown f.mirror.mail x → g.mirror.changes ≡ f.mirror.changes)

body_tells : TellsEach BodyHears (λ f. f.mirror)
body_tells = record { tells = λ s d x heard. ap (λ (v : BodyState). v.mail) heard.2; stands = λ s d x heard known. heard.3 known }

body_folded : {first last : BodyFetch} {xs : List Exchange} → HearsAll BodyHears first xs last → (last.folder ≡ first.folder) × (last.uid ≡ first.uid)
    × (body_view last ≡ fold (body_step first.folder first.uid) (body_view first) xs)
body_folded HeardNone = (refl, refl, refl)
body_folded {first} (HeardMore {xs} {mid} {after} x so (folder_is, uid_is, is, stands)) =
    let before = body_folded so in
    let here : body_view after ≡ body_step first.folder first.uid (body_view mid) x = is ∙ (λ i. body_step (before.0 i) (before.1 i) (body_view mid) x) in (
      folder_is ∙ before.0,
      uid_is ∙ before.1,
      here ∙ ap (λ (s : BodyState). body_step first.folder first.uid s x) before.2 ∙ sym (fold-append (body_step first.folder first.uid) (body_view first) xs (x ∷ [])),
    )

-- all is done where the body is there
pub done_has_body : (folder uid : ℕ) (at : BodyStage) (m : Mail) → body_due folder uid at m ≡ due.Done → HasBody at
done_has_body folder uid bstage.Selecting m is = absurd (select_not_done (folder_in m.folders folder) is)
  where
    select_not_done : (f : Option Folder) → select_due f ≡ due.Done → ⊥
    select_not_done (Some f) done = cc
    select_not_done None done = cc
done_has_body folder uid bstage.Fetching m is = absurd (cc is)
done_has_body folder uid (bstage.Fetched body) m is = tt
done_has_body folder uid (bstage.Failing why) m is = absurd (cc is)

abbrev pub FollowsBody : BodyFetch → BodyFetch → LinkLife → LinkLife → ClientState → Result (Unit {0}) LinkEnd → List Event → Type 0
FollowsBody first last life left client result es = FollowsTo (λ (f : BodyFetch). body_from f.folder f.uid (body_view f)) BodyHears first last life left client result es

body_starts : (selected : Option (List ℕ)) (folder uid : ℕ) (before : Mail) (first : BodyFetch) → first.stage ≡ body_begun selected (folder_in before.folders folder)
    → first.mirror.mail ≡ before → body_view first ≡ body_start selected before folder
body_starts selected folder uid before first stage_is mail_is = (λ i. record { stage = stage_is i; mail = mail_is i })

body_told : (before after : Told) (first last : BodyFetch) {xs : List Exchange} → first.mirror ≡ before → last.mirror ≡ after → HearsAll BodyHears first xs last
    → after.mail ≡ fold tell before.mail xs
body_told before after first last {xs} before_is after_is heard =
    ap (λ (t : Told). t.mail) (sym after_is) ∙ folded (λ (f : BodyFetch). f.mirror.mail) tell body_tells.tells heard ∙ ap (λ (t : Told). fold tell t.mail xs) before_is

follows_body : {life left : LinkLife} {client : ClientState} {result : Result (Unit {0}) LinkEnd} {es : List Event} {xs : List Exchange} (folder uid : ℕ) (before : Mail)
    (first : BodyFetch) → first.folder ≡ folder → first.uid ≡ uid → body_view first ≡ body_start (selected life) before folder
    → Follows (body_from first.folder first.uid (body_view first)) life left xs client result es → Follows
    (body_from folder uid (body_start (selected life) before folder)) life left xs client result es
follows_body {life} {left} {client} {result} {es} {xs} folder uid before first folder_is uid_is start_is f =
    subst (λ (s : BodyState). Follows (body_from folder uid s) life left xs client result es) start_is
    (subst (λ (u : ℕ). Follows (body_from folder u (body_view first)) life left xs client result es) uid_is
    (subst (λ (n : ℕ). Follows (body_from n first.uid (body_view first)) life left xs client result es) folder_is f))

-- the end of a fetch, as it is followed
abbrev pub unit_end : LinkEnd → Result (Unit {0}) LinkEnd
unit_end e = Err e

same_end : (e f : LinkEnd) → unit_end e ≡ unit_end f → e ≡ f
same_end e f is = cc

abbrev fetch_end : LinkEnd → Result (List ℕ) LinkEnd
fetch_end e = Err e

-- the fetch of a body that was followed up to its end
pub body_ended : {life left : LinkLife} {client : ClientState} {es : List Event} (e : LinkEnd) (folder uid : ℕ) (before after : Told) (first last : BodyFetch)
    → first.folder ≡ folder → first.uid ≡ uid → first.stage ≡ body_begun (selected life) (folder_in before.mail.folders folder) → first.mirror ≡ before
    → last.mirror ≡ after → FollowsBody first last life left client (Err e) es
    → (fetches : FetchesBody folder uid before.mail after.mail life left client (Err e) es) × KeepsCount {A = List ℕ} before after (Err e) fetches.exchanges
body_ended {life = life} e folder uid before after first last folder_is uid_is stage_is before_is after_is f =
    let heard : fetch_end e ≢ Err end.Memory → HearsAll BodyHears first f.exchanges last = λ other. f.heard (λ is. other (ap Err (same_end e end.Memory is))) in
    let start_is = body_starts (selected life) folder uid before.mail first stage_is (ap (λ (t : Told). t.mail) before_is) in (
      record {
        exchanges = f.exchanges;
        follows = follows_body folder uid before.mail first folder_is uid_is start_is f.follows;
        told = λ other. body_told before after first last before_is after_is (heard other);
        body = λ octets is. absurd (cc is);
      },
      keeps_count before after (fetch_end e) body_tells before_is after_is heard,
    )

-- the fetch of a body that was followed until all is done fetched the body that its last stage has
pub body_fetched : {life left : LinkLife} {client : ClientState} {es : List Event} (body : List ℕ) (folder uid : ℕ) (before after : Told) (first last : BodyFetch)
    → first.folder ≡ folder → first.uid ≡ uid → first.stage ≡ body_begun (selected life) (folder_in before.mail.folders folder) → first.mirror ≡ before
    → last.mirror ≡ after → last.stage ≡ bstage.Fetched body → FollowsBody first last life left client (Ok tt) es
    → (fetches : FetchesBody folder uid before.mail after.mail life left client (Ok body) es) × KeepsCount before after (Ok body) fetches.exchanges
body_fetched {life = life} body folder uid before after first last folder_is uid_is stage_is before_is after_is body_is f =
    let heard = f.heard (λ is. cc) in
    let start_is = body_starts (selected life) folder uid before.mail first stage_is (ap (λ (t : Told). t.mail) before_is) in (
      record {
        exchanges = f.exchanges;
        follows = follows_body folder uid before.mail first folder_is uid_is start_is f.follows;
        told = λ other. body_told before after first last before_is after_is heard;
        body = λ octets is.
            let same : body ≡ octets = cc in
            let ends : body_view last ≡ fold (body_step folder uid) (body_start (selected life) before.mail folder) f.exchanges = (body_folded heard).2
            ∙ (λ i. fold (body_step (folder_is i) (uid_is i)) (start_is i) f.exchanges) in
            sym (ap (λ (s : BodyState). s.stage) ends) ∙ body_is ∙ ap bstage.Fetched same;
      },
      keeps_count before after (Ok body) body_tells before_is after_is (λ _. heard),
    )
