-- A session that was gone through step by step answers all that the client gave.
use Rattle.std.proofs.Common.{◌≡◌, ◌⊎◌, inl, inr, ℕ, ◌≤◌, List, [], ◌∷◌, ◌++◌, All, length, drop, Result, Ok, Err, refl, sym, ap, subst, ◌∙◌}
use Rattle.std.specs.List.{flat_map}
use Rattle.std.proofs.lemmas.Grind.{flat_map-append}
use Rattle.std.proofs.lemmas.List.{append-nil, append_assoc, drop-append-le}
use Rattle.std.proofs.lemmas.List.Elements.{All-head, All-tail}
use Rattle.gate_world.specs.Octets.{IsClientTook, client_gave_in, client_took_in}
use Rattle.gate_world.specs.Sending.{Sends}
use Rattle.gate_world.specs.declared.event.Event.{Event}
use Rattle.gate_world.specs.declared.event.Event.TheVariants.{ClientDone, ClientEnded, ClientGave, ClientTook}
use Rattle.gate_world.specs.declared.outside.Failed.{Failed as OutsideFailed}
use Rattle.imap_types.specs.declared.command.Command.{Command}
use Rattle.honest_store.specs.Sessions.{StoreAnswer, StoreSession}
use Rattle.small_answers.specs.Answers.{AnswersCommand, unselected}
use Rattle.small_responses.specs.AnswerTexts.{text_of_answer}
use Rattle.store_commands.specs.Answers.{IsFinal, IsReadAs}
use Rattle.store_commands.specs.declared.command_read.CommandRead.{CommandRead}
use Rattle.store_commands.specs.declared.command_read.CommandRead.TheVariants.{Whole, NeedMore, WantsLiteral, Bad}
use Rattle.store_sessions.specs.declared.next.Next.{Next}
use Rattle.store_sessions.specs.declared.next.Next.TheVariants as next
use Rattle.store_sessions.specs.declared.next.SessionError.{SessionError}
use Rattle.store_sessions.specs.declared.next.SessionError.TheVariants.{Failed, Memory}
use Rattle.store_sessions.specs.declared.turn.Turn.{Turn}
use Rattle.store_sessions.specs.declared.turn.Turn.TheVariants as turns
use Rattle.store_sessions.specs.Answered.{AnswersEach, EndsWith, InOrder, IsAnswered, NoneMore, OneMore, Nothing, Text, Asked}
use Rattle.store_sessions.specs.Sessions.{GreetsClient, Greeted, NotGreeted, ServesClient, Session, SoFar, Begun, Read, Came, Steps, Told, Lacking, Waited, Broken, Full, InputEnded, ReceiveFailed, NoRoom}
use Rattle.store_sessions.specs.Sessions.{greeting, next_of}
use Rattle.store_sessions.specs.Sessions as sessions
use Rattle.store_sessions.specs.Turns.{Turns, Answered, Asks, Waits, Ends, go_ahead, no_command, octets_read, octets_told}

abbrev Stays : Type 0
Stays = (b more : List ℕ) (answer : CommandRead) → IsFinal answer → IsReadAs b answer → IsReadAs (b ++ more) answer

abbrev gave : List Event → List ℕ
gave events = flat_map client_gave_in events

abbrev took : List Event → List ℕ
took events = flat_map client_took_in events

-- ---- lists

one_more_text : (text : List ℕ) {texts : List (List ℕ)} {octets : List ℕ} → InOrder texts octets → InOrder (texts ++ text ∷ []) (octets ++ text)
one_more_text text Nothing = subst (λ (l : List ℕ). InOrder (text ∷ []) l) (append-nil text) (Text text Nothing)
one_more_text text (Text {texts} {octets} first more) =
    subst (λ (l : List ℕ). InOrder (first ∷ (texts ++ text ∷ [])) l) (sym (append_assoc first octets text)) (Text first (one_more_text text more))
one_more_text text (Asked {texts} {octets} more) =
    subst (λ (l : List ℕ). InOrder (texts ++ text ∷ []) l) (sym (append_assoc go_ahead octets text)) (Asked (one_more_text text more))

asked_once_more : {texts : List (List ℕ)} {octets : List ℕ} → InOrder texts octets → InOrder texts (octets ++ go_ahead)
asked_once_more Nothing = subst (λ (l : List ℕ). InOrder [] l) (append-nil go_ahead) (Asked Nothing)
asked_once_more (Text {texts} {octets} first more) =
    subst (λ (l : List ℕ). InOrder (first ∷ texts) l) (sym (append_assoc first octets go_ahead)) (Text first (asked_once_more more))
asked_once_more (Asked {texts} {octets} more) =
    subst (λ (l : List ℕ). InOrder texts l) (sym (append_assoc go_ahead octets go_ahead)) (Asked (asked_once_more more))

one_more_answer : {s t u : StoreSession} {octets rest tag : List ℕ} {answers : List (List ℕ)} {command : Command} {count : ℕ} {a : StoreAnswer}
    → AnswersEach s octets answers t rest → IsReadAs rest (Whole count tag command) → AnswersCommand t command a u
    → AnswersEach s octets (answers ++ text_of_answer tag a ∷ []) u (drop count rest)
one_more_answer NoneMore reads does = OneMore reads does NoneMore
one_more_answer (OneMore first it more) reads does = OneMore first it (one_more_answer more reads does)

more_octets : Stays → (more : List ℕ) {s t : StoreSession} {octets rest : List ℕ} {answers : List (List ℕ)} → AnswersEach s octets answers t rest
    → AnswersEach s (octets ++ more) answers t (rest ++ more)
more_octets stays more NoneMore = NoneMore
more_octets stays more (OneMore {s} {t} {u} {octets} {tag} {rest} {command} {count} {a} {answers} reads does others) =
    OneMore (stays octets more (Whole count tag command) tt reads) does
    (subst (λ (l : List ℕ). AnswersEach t l answers u (rest ++ more)) (sym (drop-append-le count octets more reads.0)) (more_octets stays more others))

-- ---- a step

took_gives_nothing : (e : Event) → IsClientTook e → client_gave_in e ≡ []
took_gives_nothing (ClientTook octets) here = refl
took_gives_nothing _ never = absurd never

-- events by which the client takes octets have none that the client gives
pub heard_gives_nothing : (events : List Event) → All IsClientTook events → flat_map client_gave_in events ≡ []
heard_gives_nothing [] all = refl
heard_gives_nothing (e ∷ events) all = (λ i. took_gives_nothing e (All-head IsClientTook e events all) i
    ++ heard_gives_nothing events (All-tail IsClientTook e events all) i)

-- what was read once, and all that it tells was taken
record Stepped (s : StoreSession) (unread : List ℕ) (t : StoreSession) (rest : List ℕ) (n : Next) (events : List Event) : Type 0 where
  taken : Turn
  turned : Turns s unread t taken
  goes : next_of taken ≡ n
  left : rest ≡ drop (octets_read taken) unread
  took_is : took events ≡ octets_told taken
  gave_is : gave events ≡ []

abbrev Went : Next → Result Next SessionError
Went n = Ok n

same_next : {n m : Next} → Went n ≡ Went m → n ≡ m
same_next is = cc

stepped : {s t : StoreSession} {unread rest : List ℕ} {n : Next} {r : Result Next SessionError} {events : List Event} → Steps s unread t rest r events → r ≡ Ok n
    → Stepped s unread t rest n events
stepped {events = events} (Told taken (Ok u) turned sends) is =
    record { taken = taken; turned = turned; goes = same_next is; left = refl; took_is = sends.took_is; gave_is = heard_gives_nothing events sends.kind }
stepped (Told taken (Err failed) turned sends) is = absurd (cc)
stepped (Lacking lacks) is = absurd (cc)

-- a command was answered
record Answers (s : StoreSession) (unread : List ℕ) (t : StoreSession) (taken : Turn) : Type 0 where
  tag : List ℕ
  command : Command
  answer : StoreAnswer
  reads : IsReadAs unread (Whole (octets_read taken) tag command)
  does : AnswersCommand s command answer t
  tells : octets_told taken ≡ text_of_answer tag answer

answered_there : {s t : StoreSession} {unread : List ℕ} (taken : Turn) → Turns s unread t taken → next_of taken ≡ next.Read → Answers s unread t taken
answered_there {unread = unread} (turns.Answer n octets) (Answered {tag} {command} {count} {a} reads does is) goes = record {
  tag = tag;
  command = command;
  answer = a;
  reads = subst (λ (k : ℕ). IsReadAs unread (Whole k tag command)) (sym is.0) reads;
  does = does;
  tells = is.1;
}
answered_there turns.GoAhead turned goes = absurd (cc)
answered_there turns.Wait turned goes = absurd (cc)
answered_there turns.End turned goes = absurd (cc)

-- more is waited for: nothing is told, or a literal's octets are asked for
abbrev Waiting : StoreSession → List ℕ → StoreSession → Turn → Type 0
Waiting s unread t taken = (t ≡ s) × (octets_read taken ≡ 0)
    × (((octets_told taken ≡ []) × IsReadAs unread NeedMore) ⊎ ((octets_told taken ≡ go_ahead) × IsReadAs unread WantsLiteral))

waits_there : {s t : StoreSession} {unread : List ℕ} (taken : Turn) → Turns s unread t taken → next_of taken ≡ next.Wait → Waiting s unread t taken
waits_there (turns.Answer n octets) turned goes = absurd (cc)
waits_there turns.GoAhead (Answered reads does is) goes = absurd is
waits_there turns.GoAhead (Asks is) goes = (refl, refl, inr (refl, is))
waits_there turns.Wait (Answered reads does is) goes = absurd is
waits_there turns.Wait (Waits is) goes = (refl, refl, inl (refl, is))
waits_there turns.End turned goes = absurd (cc)

-- no command begins so, and that is told
abbrev Ending : StoreSession → List ℕ → StoreSession → Turn → Type 0
Ending s unread t taken = (t ≡ s) × (octets_told taken ≡ no_command) × ((at : ℕ) × IsReadAs unread (Bad at))

ends_there : {s t : StoreSession} {unread : List ℕ} (taken : Turn) → Turns s unread t taken → next_of taken ≡ next.End → Ending s unread t taken
ends_there (turns.Answer n octets) turned goes = absurd (cc)
ends_there turns.GoAhead turned goes = absurd (cc)
ends_there turns.Wait turned goes = absurd (cc)
ends_there turns.End (Answered reads does is) goes = absurd is
ends_there turns.End (Ends {at} is) goes = (refl, refl, (at, is))

-- ---- steps one after another

-- what the client gave so far is answered, and what it took are the answers
record AnsweredSoFar (s : StoreSession) (events : List Event) (t : StoreSession) (unread : List ℕ) : Type 0 where
  answers : List (List ℕ)
  each : AnswersEach s (gave events) answers t unread
  order : InOrder answers (took events)

more_events : (f : Event → List ℕ) (xs ys : List Event) (a b : List ℕ) → flat_map f xs ≡ a → flat_map f ys ≡ b → flat_map f (xs ++ ys) ≡ a ++ b
more_events f xs ys a b is so = flat_map-append f xs ys ∙ (ap (λ (l : List ℕ). l ++ flat_map f ys) is ∙ ap (λ (l : List ℕ). a ++ l) so)

gives_no_more : (xs ys : List Event) → gave ys ≡ [] → gave (xs ++ ys) ≡ gave xs
gives_no_more xs ys none = more_events client_gave_in xs ys (gave xs) [] refl none ∙ append-nil (gave xs)

-- a command more is answered
reads_on : {s t u : StoreSession} {unread rest : List ℕ} (events here : List Event) → AnsweredSoFar s events t unread → Stepped t unread u rest next.Read here
    → AnsweredSoFar s (events ++ here) u rest
reads_on {s} {t} {u} {unread} {rest} events here so step =
    let it : Answers t unread u step.taken = answered_there step.taken step.turned step.goes in
    let answers : List (List ℕ) = so.answers ++ text_of_answer it.tag it.answer ∷ [] in
    let each : AnswersEach s (gave events) answers u rest =
    subst (λ (l : List ℕ). AnswersEach s (gave events) answers u l) (sym step.left) (one_more_answer so.each it.reads it.does) in
    record {
      answers = answers;
      each = subst (λ (l : List ℕ). AnswersEach s l answers u rest) (sym (gives_no_more events here step.gave_is)) each;
      order = subst (λ (l : List ℕ). InOrder answers l)
          (sym (more_events client_took_in events here (took events) (text_of_answer it.tag it.answer) refl (step.took_is ∙ it.tells)))
          (one_more_text (text_of_answer it.tag it.answer) so.order);
    }

-- more is waited for; what was told of it is taken
waited : {s t u : StoreSession} {unread rest : List ℕ} (events here : List Event) → AnsweredSoFar s events t unread → Stepped t unread u rest next.Wait here
    → AnsweredSoFar s (events ++ here) u rest
waited {s} {t} {u} {unread} {rest} events here so step =
    let it : Waiting t unread u step.taken = waits_there step.taken step.turned step.goes in
    let left : unread ≡ rest = sym (step.left ∙ ap (λ (n : ℕ). drop n unread) it.1) in
    let each : AnswersEach s (gave events) so.answers u rest =
    subst (λ (l : List ℕ). AnswersEach s (gave events) so.answers u l) left
    (subst (λ (v : StoreSession). AnswersEach s (gave events) so.answers v unread) (sym it.0) so.each) in
    record {
      answers = so.answers;
      each = subst (λ (l : List ℕ). AnswersEach s l so.answers u rest) (sym (gives_no_more events here step.gave_is)) each;
      order = told it.2;
    }
  where
    asked : (l : List ℕ) → took here ≡ l → InOrder so.answers (took events ++ l) → InOrder so.answers (took (events ++ here))
    asked l is order = subst (λ (o : List ℕ). InOrder so.answers o) (sym (more_events client_took_in events here (took events) l refl is)) order

    told : ((octets_told step.taken ≡ []) × IsReadAs unread NeedMore) ⊎ ((octets_told step.taken ≡ go_ahead) × IsReadAs unread WantsLiteral)
        → InOrder so.answers (took (events ++ here))
    told (inl (none, is)) = asked [] (step.took_is ∙ none) (subst (λ (o : List ℕ). InOrder so.answers o) (sym (append-nil (took events))) so.order)
    told (inr (some, is)) = asked go_ahead (step.took_is ∙ some) (asked_once_more so.order)

-- octets more came
comes : Stays → {s t : StoreSession} {unread : List ℕ} (events : List Event) (octets : List ℕ) → AnsweredSoFar s events t unread
    → AnsweredSoFar s (events ++ ClientGave octets ∷ []) t (unread ++ octets)
comes stays {s} {t} {unread} events octets so = record {
  answers = so.answers;
  each = subst (λ (l : List ℕ). AnswersEach s l so.answers t (unread ++ octets))
      (sym (more_events client_gave_in events (ClientGave octets ∷ []) (gave events) octets refl (append-nil octets))) (more_octets stays octets so.each);
  order = subst (λ (l : List ℕ). InOrder so.answers l)
      (sym (more_events client_took_in events (ClientGave octets ∷ []) (took events) [] refl refl ∙ append-nil (took events))) so.order;
}

so_far : Stays → {s t : StoreSession} {events : List Event} {unread : List ℕ} {came : ℕ} → SoFar s events t unread came → AnsweredSoFar s events t unread
so_far stays Begun = record { answers = []; each = NoneMore; order = Nothing }
so_far stays (Read {events} {here} so step) = reads_on events here (so_far stays so) (stepped step refl)
so_far stays {s} (Came {events} {here} {t} {u} {unread} {rest} octets some most so step) =
    subst (λ (l : List Event). AnsweredSoFar s l u (rest ++ octets)) (append_assoc events here (ClientGave octets ∷ []))
    (comes stays (events ++ here) octets (waited events here (so_far stays so) (stepped step refl)))

-- ---- the end

-- the same, and what is told at the end
record AnsweredToTheEnd (s : StoreSession) (events : List Event) (t : StoreSession) : Type 0 where
  answers : List (List ℕ)
  rest : List ℕ
  told : List ℕ
  last : List ℕ
  each : AnswersEach s (gave events) answers t rest
  order : InOrder answers told
  ends : EndsWith rest last
  took_is : took events ≡ told ++ last

-- it ended while more was waited for
ended_waiting : {s t u : StoreSession} {unread rest : List ℕ} (events here last : List Event) → AnsweredSoFar s events t unread → Stepped t unread u rest next.Wait here
    → gave last ≡ [] → took last ≡ [] → AnsweredToTheEnd s (events ++ (here ++ last)) u
ended_waiting {s} {t} {u} {unread} {rest} events here last so step no_more nothing =
    let it : Waiting t unread u step.taken = waits_there step.taken step.turned step.goes in
    let left : unread ≡ rest = sym (step.left ∙ ap (λ (n : ℕ). drop n unread) it.1) in
    let now : AnsweredSoFar s (events ++ here) u rest = waited events here so step in
    let whole : events ++ here ++ last ≡ events ++ (here ++ last) = append_assoc events here last in
    let gave_is : gave (events ++ here) ≡ gave (events ++ (here ++ last)) = sym (gives_no_more (events ++ here) last no_more) ∙ ap gave whole in
    record {
      answers = now.answers;
      rest = rest;
      told = took (events ++ here);
      last = [];
      each = subst (λ (l : List ℕ). AnswersEach s l now.answers u rest) gave_is now.each;
      order = now.order;
      ends = inl (subst (λ (l : List ℕ). IsReadAs l NeedMore ⊎ IsReadAs l WantsLiteral) left (either it.2), refl);
      took_is = sym (ap took whole) ∙ more_events client_took_in (events ++ here) last (took (events ++ here)) [] refl nothing;
    }
  where
    either : ((octets_told step.taken ≡ []) × IsReadAs unread NeedMore) ⊎ ((octets_told step.taken ≡ go_ahead) × IsReadAs unread WantsLiteral)
        → IsReadAs unread NeedMore ⊎ IsReadAs unread WantsLiteral
    either (inl (none, is)) = inl is
    either (inr (some, is)) = inr is

-- it ended at what is no command
ended_bad : {s t u : StoreSession} {unread rest : List ℕ} (events here : List Event) → AnsweredSoFar s events t unread → Stepped t unread u rest next.End here
    → AnsweredToTheEnd s (events ++ here) u
ended_bad {s} {t} {u} {unread} {rest} events here so step =
    let it : Ending t unread u step.taken = ends_there step.taken step.turned step.goes in
    record {
      answers = so.answers;
      rest = unread;
      told = took events;
      last = no_command;
      each = subst (λ (l : List ℕ). AnswersEach s l so.answers u unread) (sym (gives_no_more events here step.gave_is))
          (subst (λ (v : StoreSession). AnswersEach s (gave events) so.answers v unread) (sym it.0) so.each);
      order = so.order;
      ends = inr (it.2, refl);
      took_is = more_events client_took_in events here (took events) no_command refl (step.took_is ∙ it.1);
    }

session_answered : Stays → {s t : StoreSession} {events : List Event} {how : Result (Unit {0}) SessionError} → Session s events t how → how ≡ Ok tt
    → AnsweredToTheEnd s events t
session_answered stays (Waited {events} {here} so step (Full is)) well = ended_waiting events here [] (so_far stays so) (stepped step refl) refl refl
session_answered stays (Waited {events} {here} so step (InputEnded less)) well = ended_waiting events here (ClientEnded ∷ []) (so_far stays so) (stepped step refl) refl refl
session_answered stays (Waited so step (ReceiveFailed less)) well = absurd (cc)
session_answered stays (Waited so step (NoRoom less)) well = absurd (cc)
session_answered stays (sessions.NoCommand {events} {here} so step) well = ended_bad events here (so_far stays so) (stepped step refl)
session_answered stays (Broken so step) well = absurd (cc)

greeted_answered : Stays → {s t : StoreSession} {events : List Event} {how : Result (Unit {0}) SessionError} → GreetsClient s events t how → how ≡ Ok tt
    → IsAnswered s events t
greeted_answered stays {s} {t} (Greeted {hello} {events} hears session) well =
    let it : AnsweredToTheEnd (unselected s) events t = session_answered stays session well in
    let gave_is : gave (hello ++ events) ≡ gave events = more_events client_gave_in hello events [] (gave events) (heard_gives_nothing hello hears.kind) refl in
    record {
      answers = it.answers;
      rest = it.rest;
      told = greeting ++ it.told;
      last = it.last;
      each = subst (λ (l : List ℕ). AnswersEach (unselected s) l it.answers t it.rest) (sym gave_is) it.each;
      order = Text greeting it.order;
      ends = it.ends;
      took = more_events client_took_in hello events greeting (it.told ++ it.last) hears.took_is it.took_is ∙ sym (append_assoc greeting it.told it.last);
    }
greeted_answered stays (NotGreeted sends) well = absurd (cc)

pub client_answered : Stays → (s t : StoreSession) (events : List Event) → ServesClient s events t (Ok tt) → IsAnswered s events t
client_answered stays s t events (served, greets, whole) =
    let it : IsAnswered s served t = greeted_answered stays greets refl in
    let gave_is : gave events ≡ gave served = ap gave whole ∙ gives_no_more served (ClientDone ∷ []) refl in
    record {
      answers = it.answers;
      rest = it.rest;
      told = it.told;
      last = it.last;
      each = subst (λ (l : List ℕ). AnswersEach (unselected s) l it.answers t it.rest) (sym gave_is) it.each;
      order = it.order;
      ends = it.ends;
      took = ap took whole ∙ (more_events client_took_in served (ClientDone ∷ []) (took served) [] refl refl ∙ (append-nil (took served) ∙ it.took));
    }
