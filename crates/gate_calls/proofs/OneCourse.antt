-- The calls of a request, one after another, come to one thing.
use Rattle.std.proofs.Common.{◌≡◌, ◌∙◌, ◌++◌, ℕ, List, [], ◌∷◌, map, append_assoc, Result, Ok, Err, refl, sym, ap, subst}
use Rattle.std.proofs.lemmas.List.{append_cancel_left, same_from_push}
use Rattle.gate_world.specs.declared.event.Event.{Event}
use Rattle.serde_json.specs.Data.{Data}
use Rattle.email_bodies.specs.Asking.{BodyAsk}
use Rattle.jmap_arguments.specs.declared.method_error.MethodError.{MethodError}
use Rattle.jmap_arguments.specs.declared.using.Using.{Using}
use Rattle.result_references.specs.Call.{CallData}
use Rattle.mail_state.specs.History.{HasRoom, MailHistory}
use Rattle.set_arguments.specs.declared.set_method.SetMethod.{SetMethod}
use Rattle.gate_changes.specs.Answering.{DoesChange}
use Rattle.gate_calls.specs.Calling.{Asked, Body, Tried, Committed, CallsState, asks_of, over_at, DoesCall, Reads, Changes, DoesCalls, NoCalls, MoreCalls}
use Rattle.gate_calls.specs.ItemChecks.{item_checks}
use Rattle.result_references.specs.References.{resolved_arguments}
use Rattle.gate_calls.specs.Calls.{AnswersCall, NoMethod, Unresolved, Resolved, answered_call}
use Rattle.gate_calls.specs.MethodNames.{method_asked}
use Rattle.gate_calls.specs.Methods.{RepliesTo}
use Rattle.gate_calls.specs.declared.method.Method.{Method}
use Rattle.gate_calls.specs.declared.method.Method.TheVariants.{Set}
use Rattle.gate_calls.proofs.OneChange.{SameCall}
use Rattle.gate_calls.specs.Mailings.{Mailing, MailAndUploads, mail_at}
use Rattle.gate_calls.specs.Places.{HasPlaces}
use Rattle.gate_calls.proofs.Bodies.{bodies_keep_mail, nothing_pushed}

-- ---- the bodies among what was asked

pub bodies_in : List Asked → List BodyAsk
bodies_in [] = []
bodies_in (Body ask ∷ asks) = ask ∷ bodies_in asks
bodies_in (Tried item exchanges ends selected ∷ asks) = []
bodies_in (Committed history ∷ asks) = []

bodies_first : (bodies : List BodyAsk) (more : List Asked) → bodies_in (map Body bodies ++ more) ≡ bodies ++ bodies_in more
unfolding bodies_in
bodies_first [] more = refl
bodies_first (ask ∷ bodies) more = (λ i. ask ∷ bodies_first bodies more i)

-- where what was asked, and what was after it, are the same, so are the bodies
pub same_bodies : {asks also : List Asked} (bodies others : List BodyAsk) (more later : List Asked) → asks ≡ map Body bodies → also ≡ map Body others
    → asks ++ more ≡ also ++ later → bodies ++ bodies_in more ≡ others ++ bodies_in later
same_bodies bodies others more later is js same =
    sym (bodies_first bodies more) ∙ ap (λ (l : List Asked). bodies_in (l ++ more)) (sym is) ∙ ap bodies_in same ∙ ap (λ (l : List Asked). bodies_in (l ++ later)) js
    ∙ bodies_first others later

-- ---- calls

-- what is proved of one call that reads
abbrev pub CallLaw : Type 0
CallLaw = (uses : Using) (o : MailAndUploads) (earlier : List CallData) (call : CallData) (asks more also later : List BodyAsk) (r s : Result Data MethodError) → HasPlaces o.mail
    → AnswersCall uses o earlier call asks r → AnswersCall uses o earlier call also s → asks ++ more ≡ also ++ later → (asks ≡ also) × (r ≡ s)

-- what is proved of one that changes mail, where that is told
abbrev pub ChangeLaw : Type 0
ChangeLaw = (uploads : List (List ℕ)) (m : SetMethod) (d : Data) (h : MailHistory) (s t after then : CallsState) (more later : List Asked) (r q : Result Data MethodError) (es fs : List Event)
    → mail_at s.progress ≡ Ok h → mail_at t.progress ≡ Ok h → s.created ≡ t.created → HasRoom h → (does : DoesChange (item_checks uploads) m d (Ok h) s r es after)
    (also : DoesChange (item_checks uploads) m d (Ok h) t q fs then) → asks_of does ++ more ≡ asks_of also ++ later → SameCall (asks_of does) (asks_of also) r q after then

-- at both moments the same mail is served, and the same ids were created
pub record SameMoment (s t : CallsState) : Type 0 where
  pub mail : mail_at s.progress ≡ mail_at t.progress
  pub ids : s.created ≡ t.created

-- a call that changes mail, where that is told, isn't one that changes none
no_reading : {uses : Using} {o : MailAndUploads} {earlier : List CallData} {call : CallData} {asks : List BodyAsk} {r : Result Data MethodError} (m : SetMethod) (d : Data)
    (h : MailHistory) → method_asked uses call.name ≡ Ok (Set m) → resolved_arguments earlier call.arguments ≡ Ok d → o.mail ≡ Ok h → AnswersCall uses o earlier call asks r
    → ⊥
no_reading m d h named is told (NoMethod e refused) = let both : (let x : Result Method MethodError = Err e in x) ≡ Ok (Set m) = sym refused ∙ named in cc
no_reading m d h named is told (Unresolved n e asked refused) = let both : (let x : Result Data MethodError = Err e in x) ≡ Ok d = sym refused ∙ is in cc
no_reading {o = o} {asks = asks} {r = r} m d h named is told (Resolved n c asked resolved replies) =
    let same : n ≡ Set m = let both : (let x : Result Method MethodError = Ok n in x) ≡ Ok (Set m) = sym asked ∙ named in cc in
    let there : RepliesTo (Set m) o c asks r = subst (λ (k : Method). RepliesTo k o c asks r) same replies in
    let never : RepliesTo (Set m) (record { mail = Ok h; uploads = o.uploads }) c asks r =
    subst (λ (mail : Mailing). RepliesTo (Set m) (record { mail = mail; uploads = o.uploads }) c asks r) told there in
    never

-- two that change mail
one_set_step : ChangeLaw → {uploads : List (List ℕ)} {s t after then : CallsState} {asks others : List Asked} {r q : Result Data MethodError} {es fs : List Event} {m n : SetMethod} {d c : Data} {h k : MailHistory}
    (more later : List Asked) → SameMoment s t → HasPlaces (mail_at s.progress) → mail_at s.progress ≡ Ok h → mail_at t.progress ≡ Ok k → n ≡ m → c ≡ d → k ≡ h
    → (does : DoesChange (item_checks uploads) m d (Ok h) s r es after) (also : DoesChange (item_checks uploads) n c (Ok k) t q fs then) → asks ≡ asks_of does → others ≡ asks_of also
    → asks ++ more ≡ others ++ later
    → (asks ≡ others) × (r ≡ q) × SameMoment after then × HasPlaces (mail_at after.progress)
one_set_step changes {uploads} {s} {t} {after} {then} {others = others} {r = r} {q = q} {es} {fs} {m} {n} {d} {c} {h} {k} more later moment room told there method data_is history
    does also asks_are also_are same =
    let alike : (x : DoesChange (item_checks uploads) m d (Ok h) t q fs then) × (others ≡ asks_of x) =
    subst (λ (n' : SetMethod). (x : DoesChange (item_checks uploads) n' d (Ok h) t q fs then) × (others ≡ asks_of x)) method
    (subst (λ (c' : Data). (x : DoesChange (item_checks uploads) n c' (Ok h) t q fs then) × (others ≡ asks_of x)) data_is
    (subst (λ (k' : MailHistory). (x : DoesChange (item_checks uploads) n c (Ok k') t q fs then) × (others ≡ asks_of x)) history (also, also_are))) in
    let both = changes uploads m d h s t after then more later r q es fs told (sym moment.mail ∙ told) moment.ids
    (subst (λ (x : Mailing). HasPlaces x) told room) does alike.0
    (ap (λ (l : List Asked). l ++ more) (sym asks_are) ∙ same ∙ ap (λ (l : List Asked). l ++ later) alike.1) in (
      asks_are ∙ both.0 ∙ sym alike.1,
      both.1,
      record { mail = both.3; ids = both.2 },
      both.4,
    )

module _ (law : CallLaw) (changes : ChangeLaw) {uses : Using} {uploads : List (List ℕ)} where
  -- one call
  one_step : {earlier others : List CallData} {call other : CallData} {s t after then : CallsState} {asks also : List Asked} {r q : Result Data MethodError} {es fs : List Event}
      (more later : List Asked) → SameMoment s t → HasPlaces (mail_at s.progress) → earlier ≡ others → call ≡ other
      → DoesCall uses uploads earlier call s asks r es after → DoesCall uses uploads others other t also q fs then → asks ++ more ≡ also ++ later
      → (asks ≡ also) × (r ≡ q) × SameMoment after then × HasPlaces (mail_at after.progress)
  one_step {earlier} {others} {call} {other} {s} {t} {r = r} {q = q} more later moment room same_earlier same_call (Reads bodies answers asked is created)
      (Reads those told were js ids) same =
      let over : over_at uploads t ≡ over_at uploads s =
      ap (λ (m : Mailing). let o : MailAndUploads = record { mail = m; uploads = uploads } in o) (sym moment.mail) in
      let there : AnswersCall uses (over_at uploads s) earlier call those q =
      subst (λ (c : CallData). AnswersCall uses (over_at uploads s) earlier c those q) (sym same_call)
      (subst (λ (l : List CallData). AnswersCall uses (over_at uploads s) l other those q) (sym same_earlier)
      (subst (λ (o : MailAndUploads). AnswersCall uses o others other those q) over told)) in
      let both = law uses (over_at uploads s) earlier call bodies (bodies_in more) those (bodies_in later) r q room answers there
      (same_bodies bodies those more later is js same) in (
        is ∙ ap (λ (l : List BodyAsk). map Body l) both.0 ∙ sym js,
        both.1,
        record { mail = bodies_keep_mail asked ∙ moment.mail ∙ sym (bodies_keep_mail were); ids = created ∙ moment.ids ∙ sym ids },
        subst (λ (m : Mailing). HasPlaces m) (sym (bodies_keep_mail asked)) room,
      )
  one_step {earlier} {others} {call} {other} {s} {t} {r = r} {q = q} more later moment room same_earlier same_call (Reads bodies answers asked is created)
      (Changes m d h named resolved told does asks_are) same =
      absurd (no_reading m d h (ap (λ (c : CallData). method_asked uses c.name) same_call ∙ named)
      ((λ i. resolved_arguments (same_earlier i) (same_call i).arguments) ∙ resolved) (moment.mail ∙ told) answers)
  one_step {earlier} {others} {call} {other} {s} {t} {r = r} {q = q} more later moment room same_earlier same_call (Changes m d h named resolved told does asks_are)
      (Reads bodies answers asked is created) same =
      absurd (no_reading m d h (ap (λ (c : CallData). method_asked uses c.name) (sym same_call) ∙ named)
      ((λ i. resolved_arguments (sym same_earlier i) (sym same_call i).arguments) ∙ resolved) (sym moment.mail ∙ told) answers)
  one_step {earlier} {others} {call} {other} {s} {t} {after} {then} {r = r} {q = q} {es} {fs} more later moment room same_earlier same_call
      (Changes m d h named resolved told does asks_are) (Changes n c k called given there also also_are) same =
      let method : n ≡ m =
      let both : (let x : Result Method MethodError = Ok (Set n) in x) ≡ Ok (Set m) = sym called ∙ ap (λ (x : CallData). method_asked uses x.name) (sym same_call) ∙ named in cc in
      let data_is : c ≡ d =
      let both : (let x : Result Data MethodError = Ok c in x) ≡ Ok d =
      sym given ∙ (λ i. resolved_arguments (sym same_earlier i) (sym same_call i).arguments) ∙ resolved in cc in
      let history : k ≡ h = let both : (let x : Mailing = Ok k in x) ≡ Ok h = sym there ∙ sym moment.mail ∙ told in cc in
      one_set_step changes more later moment room told there method data_is history does also asks_are also_are same

  -- whatever is asked after them
  courses : {s t after then : CallsState} {calls others xs ys : List CallData} {asks also : List Asked} {es fs : List Event} (more later : List Asked) → SameMoment s t
      → HasPlaces (mail_at s.progress) → DoesCalls uses uploads s calls asks xs es after → DoesCalls uses uploads t others also ys fs then → calls ≡ others
      → asks ++ more ≡ also ++ later → (asks ≡ also) × (xs ≡ ys) × SameMoment after then × HasPlaces (mail_at after.progress)
  courses more later moment room NoCalls NoCalls is same = (refl, refl, moment, room)
  courses more later moment room NoCalls (MoreCalls {calls = others} other those) is same = absurd (nothing_pushed others other.call is)
  courses more later moment room (MoreCalls {calls = calls} next rest) NoCalls is same = absurd (nothing_pushed calls next.call (sym is))
  courses more later moment room (MoreCalls {calls = calls} {responses = xs} {asks = asks} next rest)
      (MoreCalls {calls = others} {responses = ys} {asks = also} other those) is same =
      let both = same_from_push calls others next.call other.call is in
      let apart : asks ++ (next.asks ++ more) ≡ also ++ (other.asks ++ later) =
      sym (append_assoc asks next.asks more) ∙ same ∙ append_assoc also other.asks later in
      let before = courses (next.asks ++ more) (other.asks ++ later) moment room rest those both.0 apart in
      let last : next.asks ++ more ≡ other.asks ++ later =
      append_cancel_left also (next.asks ++ more) (other.asks ++ later) (ap (λ (l : List Asked). l ++ (next.asks ++ more)) (sym before.0) ∙ apart) in
      let now = one_step more later before.2 before.3 before.1 both.1 next.does other.does last in (
        ap (λ (l : List Asked). l ++ next.asks) before.0 ∙ ap (λ (l : List Asked). also ++ l) now.0,
        (λ i. before.1 i ++ answered_call (both.1 i) (now.1 i) ∷ []),
        now.2,
        now.3,
      )

pub one_course : CallLaw → ChangeLaw → (uses : Using) (uploads : List (List ℕ)) (calls : List CallData) (s t after then : CallsState) (asks more also later : List Asked)
    (xs ys : List CallData) (es fs : List Event) → mail_at s.progress ≡ mail_at t.progress → s.created ≡ t.created → HasPlaces (mail_at s.progress)
    → DoesCalls uses uploads s calls asks xs es after → DoesCalls uses uploads t calls also ys fs then → asks ++ more ≡ also ++ later
    → (asks ≡ also) × (xs ≡ ys) × (after.created ≡ then.created) × (mail_at after.progress ≡ mail_at then.progress)
one_course law changes uses uploads calls s t after then asks more also later xs ys es fs same_mail same_ids room a b same =
    let all = courses law changes more later (record { mail = same_mail; ids = same_ids }) room a b refl same in (all.0, all.1, all.2.ids, all.2.mail)
