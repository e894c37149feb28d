-- Bodies that are asked in one go, in two parts.
use Rattle.std.proofs.Common.{◌≡◌, ◌∙◌, ◌⊎◌, ◌++◌, ℕ, List, [], ◌∷◌, append-nil, append_assoc, Option, Some, Ok, refl, sym, ap, subst, inl, inr}
use Rattle.std.proofs.lemmas.List.{same_from_push}
use Rattle.gate_world.specs.declared.event.Event.{Event}
use Rattle.email_bodies.specs.Asking.{BodyAsk, unanswered}
use Rattle.email_bodies.specs.declared.source.MessagePlace.{MessagePlace}
use Rattle.mail_state.specs.History.{MailHistory}
use Rattle.gate_machine.specs.Fetching.{AsksBody, IsKept, IsTold, Ends, HasEnded, AsksBodies, NoBodies, MoreBodies, CallsAsk, AllAsked, RunsShort}
use Rattle.gate_machine.specs.History.{KnownMail}
use Rattle.gate_machine.specs.Progress.{Progress}
use Rattle.gate_machine.specs.declared.mail_status.MailStatus.{MailStatus}
use Rattle.gate_machine.specs.declared.mail_status.MailStatus.TheVariants as standing
use Rattle.gate_machine.proofs.Asking.{StaysKnown, bodies_stay}
use Rattle.gate_calls.specs.Mailings.{Mailing, history_of, mail_at, mailing_by}

-- ---- lists

pub nothing_pushed : {X : Type 0} (xs : List X) (x : X) → [] ≡ xs ++ x ∷ [] → ⊥
nothing_pushed [] x is = cc
nothing_pushed (y ∷ ys) x is = cc

-- a list has no last one, or ends in it
pub ending : {X : Type 0} (xs : List X) → (xs ≡ []) ⊎ ((ys : List X) × (y : X) × (xs ≡ ys ++ y ∷ []))
ending [] = inl refl
ending (x ∷ xs) = elim (ending xs) [
  | inl none ↦ inr ([], x, (λ i. x ∷ none i))
  | inr ends ↦ inr (x ∷ ends.0, ends.1, (λ i. x ∷ ends.2 i))
]

-- ---- none

pub nothing_asked : {p q : Progress} {asks : List BodyAsk} {events : List Event} → AsksBodies p asks events q → asks ≡ [] → (events ≡ []) × (q ≡ p)
nothing_asked NoBodies none = (refl, refl)
nothing_asked (MoreBodies {asks = asks} next bodies) none = absurd (nothing_pushed asks next.ask (sym none))

pub nothing_tried : {p q : Progress} {asks : List BodyAsk} {events : List Event} → CallsAsk p asks events q → asks ≡ [] → (events ≡ []) × (q ≡ p)
nothing_tried (AllAsked bodies) none = nothing_asked bodies none
nothing_tried (RunsShort short) none = absurd (nothing_pushed short.asks (unanswered short.message) (sym none ∙ short.tried_are))

-- ---- joined

pub join_bodies : {p q r : Progress} {xs ys : List BodyAsk} {es fs : List Event} → AsksBodies p xs es q → AsksBodies q ys fs r → AsksBodies p (xs ++ ys) (es ++ fs) r
join_bodies {p} {q} {xs = xs} {es = es} one NoBodies =
    subst (λ (l : List BodyAsk). AsksBodies p l (es ++ []) q) (sym (append-nil xs)) (subst (λ (l : List Event). AsksBodies p xs l q) (sym (append-nil es)) one)
join_bodies {p} {xs = xs} {es = es} one (MoreBodies {asks = ys} {events = fs} next bodies) =
    subst (λ (l : List BodyAsk). AsksBodies p l (es ++ (fs ++ next.events)) next.after) (append_assoc xs ys (next.ask ∷ []))
    (subst (λ (l : List Event). AsksBodies p ((xs ++ ys) ++ next.ask ∷ []) l next.after) (append_assoc es fs next.events) (MoreBodies next (join_bodies one bodies)))

pub join_calls : {p q r : Progress} {xs ys : List BodyAsk} {es fs : List Event} → AsksBodies p xs es q → CallsAsk q ys fs r → CallsAsk p (xs ++ ys) (es ++ fs) r
join_calls one (AllAsked bodies) = AllAsked (join_bodies one bodies)
join_calls {xs = xs} {es = es} one (RunsShort short) =
    RunsShort (record {
      asks = xs ++ short.asks;
      mid = short.mid;
      message = short.message;
      asking = es ++ short.asking;
      lacking = short.lacking;
      tried_are = ap (λ (l : List BodyAsk). xs ++ l) short.tried_are ∙ sym (append_assoc xs short.asks (unanswered short.message ∷ []));
      asked = join_bodies one short.asked;
      lacks = short.lacks;
      whole = ap (λ (l : List Event). es ++ l) short.whole ∙ sym (append_assoc es short.asking short.lacking);
    })

-- ---- split

pub record SplitBodies (p : Progress) (xs ys : List BodyAsk) (events : List Event) (r : Progress) : Type 0 where
  pub mid : Progress
  pub first : List Event
  pub second : List Event
  pub one : AsksBodies p xs first mid
  pub two : AsksBodies mid ys second r
  pub whole : events ≡ first ++ second

all_first : {p r : Progress} {zs : List BodyAsk} {events : List Event} (xs ys : List BodyAsk) → AsksBodies p zs events r → zs ≡ xs ++ ys → ys ≡ [] → SplitBodies p xs ys events r
all_first {p} {r} {events = events} xs ys bodies is none =
    record {
      mid = r;
      first = events;
      second = [];
      one = subst (λ (l : List BodyAsk). AsksBodies p l events r) (is ∙ ap (λ (l : List BodyAsk). xs ++ l) none ∙ append-nil xs) bodies;
      two = subst (λ (l : List BodyAsk). AsksBodies r l [] r) (sym none) NoBodies;
      whole = sym (append-nil events);
    }

pub split_bodies : {p r : Progress} {zs : List BodyAsk} {events : List Event} (xs ys : List BodyAsk) → AsksBodies p zs events r → zs ≡ xs ++ ys → SplitBodies p xs ys events r
split_bodies {p} xs ys NoBodies is = elim (ending ys) [
  | inl none ↦ all_first xs ys NoBodies is none
  | inr ends ↦ absurd (nothing_pushed (xs ++ ends.0) ends.1
      (is ∙ ap (λ (l : List BodyAsk). xs ++ l) ends.2 ∙ sym (append_assoc xs ends.0 (ends.1 ∷ []))))
]
split_bodies {p} xs ys (MoreBodies {asks = asks} {events = events} next bodies) is = elim (ending ys) [
  | inl none ↦ all_first xs ys (MoreBodies next bodies) is none
  | inr ends ↦
      let both = same_from_push asks (xs ++ ends.0) next.ask ends.1
      (is ∙ ap (λ (l : List BodyAsk). xs ++ l) ends.2 ∙ sym (append_assoc xs ends.0 (ends.1 ∷ []))) in
      let before = split_bodies xs ends.0 bodies both.0 in
      record {
        mid = before.mid;
        first = before.first;
        second = before.second ++ next.events;
        one = before.one;
        two = subst (λ (l : List BodyAsk). AsksBodies before.mid l (before.second ++ next.events) next.after)
            (ap (λ (ask : BodyAsk). ends.0 ++ ask ∷ []) both.1 ∙ sym ends.2) (MoreBodies next before.two);
        whole = ap (λ (l : List Event). l ++ next.events) before.whole ∙ append_assoc before.first before.second next.events;
      }
]

pub record SplitCalls (p : Progress) (xs ys : List BodyAsk) (events : List Event) (r : Progress) : Type 0 where
  pub mid : Progress
  pub first : List Event
  pub second : List Event
  pub one : AsksBodies p xs first mid
  pub two : CallsAsk mid ys second r
  pub whole : events ≡ first ++ second

-- the last one stands in the second part
pub split_calls : {p r : Progress} {zs : List BodyAsk} {events : List Event} (xs ys : List BodyAsk) (last : BodyAsk) → CallsAsk p zs events r → zs ≡ xs ++ (ys ++ last ∷ [])
    → SplitCalls p xs (ys ++ last ∷ []) events r
split_calls xs ys last (AllAsked bodies) is =
    let parts = split_bodies xs (ys ++ last ∷ []) bodies is in
    record { mid = parts.mid; first = parts.first; second = parts.second; one = parts.one; two = AllAsked parts.two; whole = parts.whole }
split_calls xs ys last (RunsShort short) is =
    let both = same_from_push short.asks (xs ++ ys) (unanswered short.message) last (sym short.tried_are ∙ is ∙ sym (append_assoc xs ys (last ∷ []))) in
    let parts = split_bodies xs ys short.asked both.0 in
    record {
      mid = parts.mid;
      first = parts.first;
      second = parts.second ++ short.lacking;
      one = parts.one;
      two = RunsShort (record {
        asks = ys;
        mid = short.mid;
        message = short.message;
        asking = parts.second;
        lacking = short.lacking;
        tried_are = ap (λ (ask : BodyAsk). ys ++ ask ∷ []) (sym both.1);
        asked = parts.two;
        lacks = short.lacks;
        whole = refl;
      });
      whole = short.whole ∙ ap (λ (l : List Event). l ++ short.lacking) parts.whole ∙ append_assoc parts.first parts.second short.lacking;
    }

-- ---- the mail that is served

same_mailing : (s : MailStatus) (known : Option KnownMail) (k l : KnownMail) → known ≡ Some k → l.history ≡ k.history → mailing_by s (Some l) ≡ mailing_by s known
same_mailing standing.Stands known k l is same = ap (λ (h : MailHistory). let m : Mailing = Ok h in m) same ∙ sym (ap history_of is)
same_mailing (standing.Unserved why) known k l is same = refl
same_mailing standing.OutOfMemory known k l is same = refl

stays_mail : {p q : Progress} (k : KnownMail) → p.machine.known ≡ Some k → StaysKnown p q k → mail_at q ≡ mail_at p
stays_mail {p} k is stays =
    (λ i. mailing_by (stays.standing i) (stays.ready i)) ∙ same_mailing p.standing p.machine.known k stays.known is stays.history

-- a body is asked of what is known
knows_mail : {message : MessagePlace} {p q : Progress} {body : Option (List ℕ)} {events : List Event} → AsksBody message p body events q
    → (k : KnownMail) × (p.machine.known ≡ Some k)
knows_mail (IsKept octets kept body_is none is) = (kept.known, kept.ready)
knows_mail (IsTold octets asks body_is is) = (asks.kept.known, asks.kept.ready)
knows_mail (Ends e asks other body_is is) = (asks.kept.known, asks.kept.ready)
knows_mail (HasEnded kept ended body_is none is) = (kept.known, kept.ready)

-- whatever bodies are asked, the same mail is served
pub bodies_keep_mail : {p q : Progress} {asks : List BodyAsk} {events : List Event} → AsksBodies p asks events q → mail_at q ≡ mail_at p
bodies_keep_mail NoBodies = refl
bodies_keep_mail (MoreBodies next bodies) =
    let k = knows_mail next.asks in stays_mail k.0 k.1 (bodies_stay k.0 k.1 (MoreBodies next NoBodies)) ∙ bodies_keep_mail bodies
