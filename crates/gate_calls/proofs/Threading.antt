-- Calls that read, one after another, are as they are over one mail.
use Rattle.std.proofs.Common.{◌≡◌, ◌∙◌, ◌++◌, ℕ, List, [], ◌∷◌, map, append-nil, append_assoc, Result}
use Rattle.std.proofs.Common.{refl, sym, ap, subst, inl, inr}
use Rattle.std.specs.List.{All}
use Rattle.std.proofs.lemmas.List.{map-append, same_from_push}
use Rattle.std.proofs.lemmas.List.Elements.{All-cons, All-head, All-nil, All-tail}
use Rattle.gate_world.specs.declared.event.Event.{Event}
use Rattle.serde_json.specs.Data.{Data}
use Rattle.email_bodies.specs.Asking.{BodyAsk, AreDue, unanswered}
use Rattle.email_bodies.proofs.Due.{due_after, due_more, no_asks_due}
use Rattle.jmap_arguments.specs.declared.method_error.MethodError.{MethodError}
use Rattle.jmap_arguments.specs.declared.using.Using.{Using}
use Rattle.jmap_core.specs.CreatedIds.{Ids}
use Rattle.result_references.specs.Call.{CallData}
use Rattle.gate_machine.specs.Fetching.{AsksBodies, NoBodies, CallsAsk, AllAsked}
use Rattle.gate_machine.specs.Progress.{Progress}
use Rattle.gate_calls.specs.Calling.{Asked, Body, CallsState, over_at, DoesCall, Reads, Changes, AreAllAsked, ReadsInVain, ChangesInVain, NextCall, DoesCalls, NoCalls, MoreCalls, AfterLast, InCall}
use Rattle.gate_calls.specs.Calling.{LacksNext, LacksCalls}
use Rattle.gate_calls.specs.Calls.{AnswersCall, AnswersCalls, FirstCallsAsk, answered_call}
use Rattle.gate_calls.specs.Calls as over_one
use Rattle.gate_calls.specs.Mailings.{Mailing, MailAndUploads, mail_at}
use Rattle.gate_calls.specs.MethodNames.{ChangesNoMail}
use Rattle.gate_calls.specs.OneMail.{AnsweredOverOne, LacksOverOne}
use Rattle.gate_calls.proofs.Bodies.{nothing_pushed, ending, nothing_asked, nothing_tried, join_bodies, join_calls}
use Rattle.gate_calls.proofs.Bodies.{split_bodies, split_calls, bodies_keep_mail}
use Rattle.gate_calls.proofs.Due.{due_calls, first_of_more}

-- the mail beside the uploads
same_over : (uploads : List (List ℕ)) {p q : Progress} {asks : List BodyAsk} {events : List Event} → AsksBodies p asks events q
    → (let o : MailAndUploads = record { mail = mail_at q; uploads = uploads } in o) ≡ record { mail = mail_at p; uploads = uploads }
same_over uploads asked = ap (λ (m : Mailing). let o : MailAndUploads = record { mail = m; uploads = uploads } in o) (bodies_keep_mail asked)

-- calls, and then what one more asks
asks_after : {uses : Using} {o : MailAndUploads} {calls responses : List CallData} {call : CallData} {asks more : List BodyAsk} → AnswersCalls uses o calls asks responses
    → AreAllAsked uses o responses call more → FirstCallsAsk uses o (calls ++ call ∷ []) (asks ++ more)
asks_after {calls = calls} {responses = responses} {call = call} {more = more} answers all =
    record {
      firsts = calls ++ call ∷ [];
      later = [];
      responses = responses ++ answered_call call all.0 ∷ [];
      calls_are = sym (append-nil (calls ++ call ∷ []));
      answers = over_one.MoreCalls (record { call = call; asks = more; result = all.0; answers = all.1 }) answers;
    }

all_apart : {X : Type 0} (P : X → Type 0) (xs ys : List X) → All P (xs ++ ys) → All P xs × All P ys
all_apart P [] ys all = (All-nil P, all)
all_apart P (x ∷ xs) ys all =
    let rest = all_apart P xs ys (All-tail P x (xs ++ ys) all) in (All-cons P x xs (All-head P x (xs ++ ys) all) rest.0, rest.1)

-- the call reads
abbrev ReadsCall : Using → CallData → Type 0
ReadsCall uses call = ChangesNoMail uses call.name

-- all of them do
abbrev pub AllRead : Using → List CallData → Type 0
AllRead uses calls = All (λ (call : CallData). ChangesNoMail uses call.name) calls

module _ {uses : Using} {uploads : List (List ℕ)} where
  -- ---- from one after another to one mail

  one_joined : {s mid t : CallsState} {calls responses : List CallData} {asks more : List Asked} {es fs : List Event} {call : CallData} {result : Result Data MethodError}
      → ChangesNoMail uses call.name → AnsweredOverOne uses uploads s calls asks responses es mid → DoesCall uses uploads responses call mid more result fs t
      → AnsweredOverOne uses uploads s (calls ++ call ∷ []) (asks ++ more) (responses ++ answered_call call result ∷ []) (es ++ fs) t
  one_joined reads before (Changes m d h named resolved told does asks_are) = absurd (reads m named)
  one_joined {responses = responses} {call = call} {result = result} reads before (Reads bodies answers asked is created) =
      record {
        bodies = before.bodies ++ bodies;
        asks_are = (λ i. before.asks_are i ++ is i) ∙ sym (map-append Body before.bodies bodies);
        answers = over_one.MoreCalls
            (record {
              call = call;
              asks = bodies;
              result = result;
              answers = subst (λ (o : MailAndUploads). AnswersCall uses o responses call bodies result) (same_over uploads before.asked) answers;
            }) before.answers;
        asked = join_bodies before.asked asked;
        created = created ∙ before.created;
      }

  pub joined : {s : CallsState} {calls : List CallData} {asks : List Asked} {responses : List CallData} {events : List Event} {t : CallsState} → AllRead uses calls
      → DoesCalls uses uploads s calls asks responses events t
      → AnsweredOverOne uses uploads s calls asks responses events t
  joined read NoCalls = record { bodies = []; asks_are = refl; answers = over_one.NoCalls; asked = NoBodies; created = refl }
  joined read (MoreCalls {calls = calls} next rest) =
      let both = all_apart (ReadsCall uses) calls (next.call ∷ []) read in
      one_joined (All-head (ReadsCall uses) next.call [] both.1) (joined both.0 rest) next.does

  -- what is lacked in the next call
  next_lacks : {s mid : CallsState} {firsts responses later : List CallData} {asks : List Asked} {answering lacking : List Event} {q : Progress}
      → AllRead uses later → AnsweredOverOne uses uploads s firsts asks responses answering mid → LacksNext uses uploads responses mid lacking q later
      → LacksOverOne uses uploads s (firsts ++ later) (answering ++ lacking) q
  next_lacks {s} {mid} {firsts = firsts} {lacking = lacking} {q = q} read before (AfterLast none is) =
      let asked : CallsAsk mid.progress [] lacking q =
      subst (λ (l : List Event). CallsAsk mid.progress [] l q) (sym none) (subst (λ (x : Progress). CallsAsk mid.progress [] [] x) (sym is) (AllAsked NoBodies)) in
      record {
        tried = before.bodies ++ [];
        asked = join_calls before.asked asked;
        due = subst (λ (l : List BodyAsk). AreDue (FirstCallsAsk uses (over_at uploads s) (firsts ++ [])) l) (sym (append-nil before.bodies))
            (due_more (FirstCallsAsk uses (over_at uploads s) firsts) (FirstCallsAsk uses (over_at uploads s) (firsts ++ [])) before.bodies
            (λ l first. first_of_more [] refl first) (due_calls before.answers));
      }
  next_lacks read before (InCall {call = call} {later = later} (ChangesInVain m d h named resolved told lacks)) = absurd (All-head (ReadsCall uses) call later read m named)
  next_lacks {s} {mid} {firsts = firsts} {responses = responses} read before (InCall {call = call} {later = later} (ReadsInVain tried asked due)) =
      record {
        tried = before.bodies ++ tried;
        asked = join_calls before.asked asked;
        due = due_after (AreAllAsked uses (over_at uploads s) responses call) (FirstCallsAsk uses (over_at uploads s) (firsts ++ call ∷ later)) before.bodies tried
            (due_more (FirstCallsAsk uses (over_at uploads s) firsts) (FirstCallsAsk uses (over_at uploads s) (firsts ++ call ∷ later)) before.bodies
            (λ l first. first_of_more (call ∷ later) refl first) (due_calls before.answers))
            (λ more all. first_of_more later (sym (append_assoc firsts (call ∷ []) later)) (asks_after before.answers all))
            (due_more (AreAllAsked uses (over_at uploads mid) responses call) (AreAllAsked uses (over_at uploads s) responses call) tried
            (λ l all. subst (λ (o : MailAndUploads). AreAllAsked uses o responses call l) (same_over uploads before.asked) all) due);
      }

  pub lacks_over_one : {s : CallsState} {calls : List CallData} {events : List Event} {q : Progress} → AllRead uses calls → LacksCalls uses uploads s calls events q
      → LacksOverOne uses uploads s calls events q
  lacks_over_one {s} {events = events} {q = q} read lacks =
      let both = all_apart (ReadsCall uses) lacks.firsts lacks.later (subst (λ (cs : List CallData). AllRead uses cs) lacks.calls_are read) in
      subst (λ (cs : List CallData). LacksOverOne uses uploads s cs events q) (sym lacks.calls_are)
      (subst (λ (l : List Event). LacksOverOne uses uploads s (lacks.firsts ++ lacks.later) l q) (sym lacks.whole) (next_lacks both.1 (joined both.0 lacks.does) lacks.lacks))

  -- ---- from one mail to one after another

  none_apart : (s : CallsState) (q : Progress) {events : List Event} → AsksBodies s.progress [] events q
      → DoesCalls uses uploads s [] [] [] events (record { progress = q; created = s.created })
  none_apart s q asked =
      let none = nothing_asked asked refl in
      subst (λ (l : List Event). DoesCalls uses uploads s [] [] [] l (record { progress = q; created = s.created })) (sym none.0)
      (subst (λ (x : Progress). DoesCalls uses uploads s [] [] [] [] (record { progress = x; created = s.created })) (sym none.1) NoCalls)

  pub apart : (s : CallsState) {calls responses : List CallData} {bodies : List BodyAsk} → AnswersCalls uses (over_at uploads s) calls bodies responses
      → {events : List Event} (q : Progress) → AsksBodies s.progress bodies events q
      → DoesCalls uses uploads s calls (map Body bodies) responses events (record { progress = q; created = s.created })
  apart s over_one.NoCalls q asked = none_apart s q asked
  apart s (over_one.MoreCalls {calls = calls} {responses = responses} {asks = bodies} next rest) {events} q asked =
      let parts = split_bodies bodies next.asks asked refl in
      let mid : CallsState = record { progress = parts.mid; created = s.created } in
      let after : CallsState = record { progress = q; created = s.created } in
      let more : NextCall uses uploads responses mid =
      record {
        call = next.call;
        asks = map Body next.asks;
        result = next.result;
        events = parts.second;
        after = after;
        does = Reads next.asks
            (subst (λ (o : MailAndUploads). AnswersCall uses o responses next.call next.asks next.result) (sym (same_over uploads parts.one)) next.answers)
            parts.two refl refl;
      } in
      subst (λ (l : List Asked). DoesCalls uses uploads s (calls ++ next.call ∷ []) l (responses ++ answered_call next.call next.result ∷ []) events after)
      (sym (map-append Body bodies next.asks))
      (subst (λ (l : List Event). DoesCalls uses uploads s (calls ++ next.call ∷ []) (map Body bodies ++ map Body next.asks)
      (responses ++ answered_call next.call next.result ∷ []) l after) (sym parts.whole) (MoreCalls more (apart s rest parts.mid parts.one)))

  pub apart_of : {s t : CallsState} {calls responses : List CallData} {asks : List Asked} {events : List Event}
      → AnsweredOverOne uses uploads s calls asks responses events t → DoesCalls uses uploads s calls asks responses events t
  apart_of {s} {t} {calls} {responses} {events = events} a =
      subst (λ (l : List Asked). DoesCalls uses uploads s calls l responses events t) (sym a.asks_are)
      (subst (λ (ids : Ids). DoesCalls uses uploads s calls (map Body a.bodies) responses events (record { progress = t.progress; created = ids })) (sym a.created)
      (apart s a.answers t.progress a.asked))

  -- memory runs out before a body was asked
  lacks_next : (s : CallsState) (later : List CallData) {tried : List BodyAsk} {events : List Event} {q : Progress} → CallsAsk s.progress tried events q → tried ≡ []
      → LacksNext uses uploads [] s events q later
  lacks_next s [] asked none = let nothing = nothing_tried asked none in AfterLast nothing.0 nothing.1
  lacks_next s (call ∷ later) {tried} asked none = InCall (ReadsInVain tried asked (no_asks_due (AreAllAsked uses (over_at uploads s) [] call) tried none))

  lacks_at_once : (s : CallsState) (calls : List CallData) {tried : List BodyAsk} {events : List Event} {q : Progress} → CallsAsk s.progress tried events q → tried ≡ []
      → LacksCalls uses uploads s calls events q
  lacks_at_once s calls {events = events} asked none =
      record {
        firsts = [];
        later = calls;
        asks = [];
        responses = [];
        answering = [];
        lacking = events;
        mid = s;
        calls_are = refl;
        does = NoCalls;
        lacks = lacks_next s calls asked none;
        whole = refl;
      }

  -- memory runs out where the last of these bodies was asked, in the call that asks it
  lacks_within : (s : CallsState) {firsts responses all : List CallData} {bodies tried : List BodyAsk} {events : List Event} {q : Progress}
      → AnswersCalls uses (over_at uploads s) firsts bodies responses → (asks : List BodyAsk) (last : BodyAsk) → bodies ≡ asks ++ unanswered last.message ∷ []
      → (later : List CallData) → all ≡ firsts ++ later → CallsAsk s.progress tried events q → tried ≡ asks ++ last ∷ [] → LacksCalls uses uploads s all events q
  lacks_within s over_one.NoCalls asks last is later all_are asked tried_are = absurd (nothing_pushed asks (unanswered last.message) is)
  lacks_within s (over_one.MoreCalls {calls = firsts} {responses = responses} {asks = bodies} next rest) asks last is later all_are asked tried_are =
      elim (ending next.asks) [
        | inl none ↦ lacks_within s rest asks last (sym (append-nil bodies) ∙ ap (λ (l : List BodyAsk). bodies ++ l) (sym none) ∙ is) (next.call ∷ later)
            (all_are ∙ append_assoc firsts (next.call ∷ []) later) asked tried_are
        | inr ends ↦
            let same = same_from_push (bodies ++ ends.0) asks ends.1 (unanswered last.message)
            (append_assoc bodies ends.0 (ends.1 ∷ []) ∙ ap (λ (l : List BodyAsk). bodies ++ l) (sym ends.2) ∙ is) in
            let parts = split_calls bodies ends.0 last asked
            (tried_are ∙ ap (λ (l : List BodyAsk). l ++ last ∷ []) (sym same.0) ∙ append_assoc bodies ends.0 (last ∷ [])) in
            record {
              firsts = firsts;
              later = next.call ∷ later;
              asks = map Body bodies;
              responses = responses;
              answering = parts.first;
              lacking = parts.second;
              mid = record { progress = parts.mid; created = s.created };
              calls_are = all_are ∙ append_assoc firsts (next.call ∷ []) later;
              does = apart s rest parts.mid parts.one;
              lacks = InCall (ReadsInVain (ends.0 ++ last ∷ []) parts.two (λ before final tried_is.
                  let both = same_from_push ends.0 before last final tried_is in (
                    next.result,
                    subst (λ (o : MailAndUploads). AnswersCall uses o responses next.call (before ++ unanswered final.message ∷ []) next.result)
                        (sym (same_over uploads parts.one))
                        (subst (λ (l : List BodyAsk). AnswersCall uses (over_at uploads s) responses next.call l next.result)
                        (ends.2 ∙ (λ i. both.0 i ++ (same.1 ∙ ap (λ (ask : BodyAsk). unanswered ask.message) both.1) i ∷ [])) next.answers),
                  )));
              whole = parts.whole;
            }
      ]

  pub lacks_apart : (s : CallsState) {calls : List CallData} {events : List Event} {q : Progress} → LacksOverOne uses uploads s calls events q
      → LacksCalls uses uploads s calls events q
  lacks_apart s {calls} lacks = elim (ending lacks.tried) [
    | inl none ↦ lacks_at_once s calls lacks.asked none
    | inr ends ↦
        let first = lacks.due ends.0 ends.1 ends.2 in
        lacks_within s first.answers ends.0 ends.1 refl first.later first.calls_are lacks.asked ends.2
  ]
