-- How a link life begins.
use Rattle.std.proofs.Common.{Option, Some, None, ◌+◌, ◌≡◌, ◌++◌, ℕ, Bool, true, false, List, [], ◌∷◌, Result, Ok, Err, length, refl, sym, ◌∙◌, ap, subst, arith, inl, inr}
use Rattle.std.proofs.lemmas.List.{append-nil}
use Rattle.gate_world.specs.declared.event.Event.{Event}
use Rattle.gate_world.specs.declared.event.Event.TheVariants.{Dialed, LinkEnded}
use Rattle.imap_types.specs.declared.response.Response.{Response}
use Rattle.imap_types.specs.declared.response.Response.TheVariants.{Untagged}
use Rattle.imap_types.specs.declared.response.Status.TheVariants as status
use Rattle.imap_exchange.specs.declared.link_end.LinkEnd.{LinkEnd}
use Rattle.imap_exchange.specs.declared.link_end.LinkEnd.TheVariants as end
use Rattle.imap_client.specs.declared.connection.Stage.{Stage}
use Rattle.imap_client.specs.declared.connection.Stage.TheVariants as stage
use Rattle.imap_exchange.specs.Received.{Octets, nothing_given}
use Rattle.imap_client.specs.LinkLife.{LinkLife, ClientState, Stands, begun_with}
use Rattle.imap_exchange.specs.Answering.{end_unless}
use Rattle.imap_exchange.specs.Responses.{ReadsResponse, IsOver}
use Rattle.imap_exchange.specs.Answering.{IsTooMuch, HangsUp}
use Rattle.told_folder.specs.declared.exchange.Exchange.{Exchange}
use Rattle.imap_client.specs.Plans.{Follows}
use Rattle.imap_client.specs.Unread.{LeavesUnread}
use Rattle.imap_client.specs.Connecting.{GivesFirst, Greets, GreetsBy, greeting_says, planned_from, IsUnwelcome, IsMet, IsGreeted, IsGreetedKeeping, Lives, Unwelcome, Welcome, Connects, Lived}

-- no greeting came
pub ungreeted : {es : List Event} (after : Octets) (up : Bool) (e : LinkEnd) → ReadsResponse 0 true up nothing_given after (Err e) es → Greets after up (Err e) es
ungreeted after up end.Lost r = record {
  talk = r.talk;
  gave = r.gave;
  ended = r.ended;
  first = record { said = r.said; needed = r.needed };
  greets =
      (r.reads.0, room r.gave r.reads.1);
  left = tt;
}
  where
    room : (gave : List ℕ) → (IsOver 0 (0 + length gave) → ⊥) → IsTooMuch nothing_given gave → ⊥
    room gave none (inl over) = none (inl (omega (arith, over)))
    room gave none (inr over) = none (inr over)
ungreeted after up end.TooMuch r = record {
  talk = r.talk;
  gave = r.gave;
  ended = r.ended;
  first = record { said = r.said; needed = r.needed };
  greets =
      (r.reads.0, too_much r.gave r.reads.1);
  left = tt;
}
  where
    too_much : (gave : List ℕ) → IsOver 0 (0 + length gave) → IsTooMuch nothing_given gave
    too_much gave (inl over) = inl (omega (arith, over))
    too_much gave (inr over) = inr over
ungreeted after up (end.Bad at) r = record {
  talk = r.talk;
  gave = r.gave;
  ended = r.ended;
  first = record { said = r.said; needed = r.needed };
  greets =
      (r.reads.0, r.reads.1, omega (arith, r.reads.2));
  left = ([], sym r.reads.3, omega (arith, r.reads.2));
}
ungreeted after up end.Memory r = record { talk = r.talk; gave = r.gave; ended = r.ended; first = record { said = r.said; needed = r.needed }; greets = tt; left = tt }
ungreeted after up end.Stray r = absurd r.reads
ungreeted after up end.Bye r = absurd r.reads
ungreeted after up end.Refused r = absurd r.reads
ungreeted after up end.NoQresync r = absurd r.reads
ungreeted after up end.Lacks r = absurd r.reads

-- a greeting came
only_bye : (w : Response) (e : LinkEnd) → greeting_says w ≡ Err e → e ≡ end.Bye
only_bye (Untagged status.Bye k) e is = cc
only_bye (Untagged status.Preauth k) e is = absurd (cc is)
only_bye _ e is = absurd (cc is)

-- the first response that is read of a life is its greeting, which lets the client in unless it is BYE
pub greeted : {es : List Event} (after : Octets) (up : Bool) (w : Response) (says : Result Bool LinkEnd) → greeting_says w ≡ says → ReadsResponse 0 true up nothing_given after
    (Ok w) es
    → Greets after up says es
greeted after up w (Ok preauth) is r =
    record {
      talk = r.talk;
      gave = r.gave;
      ended = r.ended;
      first = record { said = r.said; needed = r.needed };
      greets =
          (w, is, (r.reads.0, after.octets, r.reads.1, r.reads.2, refl), omega (arith, r.reads.3));
      left = tt;
    }
greeted after up w (Err end.Bye) is r =
    record {
      talk = r.talk;
      gave = r.gave;
      ended = r.ended;
      first = record { said = r.said; needed = r.needed };
      greets =
          (w, after.octets, is, (r.reads.0, after.octets, r.reads.1, r.reads.2, refl));
      left = tt;
    }
greeted after up w (Err end.Lost) is r = let never = only_bye w end.Lost is in absurd (cc never)
greeted after up w (Err end.TooMuch) is r = let never = only_bye w end.TooMuch is in absurd (cc never)
greeted after up w (Err (end.Bad at)) is r = let never = only_bye w (end.Bad at) is in absurd (cc never)
greeted after up w (Err end.Memory) is r = let never = only_bye w end.Memory is in absurd (cc never)
greeted after up w (Err end.Stray) is r = let never = only_bye w end.Stray is in absurd (cc never)
greeted after up w (Err end.Refused) is r = let never = only_bye w end.Refused is in absurd (cc never)
greeted after up w (Err end.NoQresync) is r = let never = only_bye w end.NoQresync is in absurd (cc never)
greeted after up w (Err end.Lacks) is r = let never = only_bye w end.Lacks is in absurd (cc never)

-- why there is no greeting doesn't depend on what is unread
unwelcome_alone : (gave : List ℕ) (after : Octets) (e : LinkEnd) → GreetsBy gave after (Err e) → GreetsBy gave nothing_given (Err e)
unwelcome_alone gave after end.Lost so = so
unwelcome_alone gave after end.TooMuch so = so
unwelcome_alone gave after (end.Bad at) so = so
unwelcome_alone gave after end.Memory so = so
unwelcome_alone gave after end.Stray so = so
unwelcome_alone gave after end.Bye so = so
unwelcome_alone gave after end.Refused so = so
unwelcome_alone gave after end.NoQresync so = so
unwelcome_alone gave after end.Lacks so = so

ended_by : (up : Bool) (xs ys talk : List Event) → xs ≡ talk ++ end_unless up → HangsUp up ys → xs ++ ys ≡ talk ++ LinkEnded ∷ []
ended_by true xs ys talk is hung = (λ i. (is ∙ append-nil talk) i ++ hung i)
ended_by false xs ys talk is none = ap (λ (l : List Event). xs ++ l) none ∙ append-nil xs ∙ is

-- no greeting that lets the client in, and then the link's end, are a life that was unwelcome
pub unwelcome : {xs : List Event} (ys : List Event) (after : Octets) (up : Bool) (e : LinkEnd) → Greets after up (Err e) xs → HangsUp up ys
    → (unwelcome : IsUnwelcome e (xs ++ ys)) × LeavesUnread e unwelcome.gave after.octets
unwelcome {xs} ys after up e g hangs = (
  record { talk = g.talk; gave = g.gave; whole = ended_by up xs ys g.talk g.ended hangs; first = g.first; greets = unwelcome_alone g.gave after e g.greets },
  g.left,
)

-- how a life begins, whatever stays unread
pub greeted_alone : (es : List Event) (client : ClientState) (unread : Octets) (result : Result Bool LinkEnd) → IsGreetedKeeping client unread result es → IsGreeted client result es
greeted_alone es client unread (Ok preauth) so = so
greeted_alone es client unread (Err e) so = so.0

-- a life that was unwelcome is what a client does in it
pub unwelcomed : {es : List Event} (user password : List ℕ) (e : LinkEnd) (client : ClientState) → IsUnwelcome e es
    → (left : Option LinkLife) × Lives user password left client (Err e) es
unwelcomed user password e client so = (None, Unwelcome e so refl refl)

-- a greeting that lets the client in, over a link that is up, begins a life in which the client stands
pub met : {xs : List Event} (after : Octets) (up preauth : Bool) (client : ClientState) → client ≡ begun_with after → up ≡ true → Greets after up (Ok preauth) xs
    → IsGreeted client (Ok preauth) xs
met {xs} after up preauth client client_is up_is g = (
  life,
  record {
    first = subst (λ (es : List Event). GivesFirst g.gave es) (sym events_are) g.first;
    new = record { greeted = g.greets.2; unasked = refl; untaken = refl; whole = refl; alive = refl };
    says = g.greets.1;
    stands = subst (λ (p : ClientState). Stands p life) (sym client_is) stands;
  },
)
  where
    life : LinkLife
    life = record { gave = g.gave; greeting = g.greets.0; exchanges = []; took = []; rest = after.octets; part = []; goes_on = true }

    events_are : xs ≡ g.talk
    events_are = g.ended ∙ ap (λ (b : Bool). g.talk ++ end_unless b) up_is ∙ append-nil g.talk

    stands : Stands (begun_with after) life
    stands = record {
      alive = refl;
      selected_is = refl;
      unread_is = λ _. (λ i. record { octets = after.octets; given = g.greets.3 i });
      number_is = λ _. refl;
      special_use_is = λ _. refl;
      spelled = record { remaining = after.octets; greeted = g.greets.2; completed = (refl, refl); whole = λ _. refl };
    }

-- a greeting that lets the client in, and then the plan of connecting that is followed, are a life
pub lived : {xs : List Event} (ys : List Event) (user password : List ℕ) (preauth : Bool) (at : Stage) (before client : ClientState) (result : Result (Unit {0}) LinkEnd)
    → at ≡ stage.Asking → IsGreeted before (Ok preauth) xs
    → ((life : LinkLife) → Stands before life → (left : LinkLife) × (exchanges : List Exchange) × Follows
    (planned_from preauth user password at) life left exchanges client result ys)
    → (left : Option LinkLife) × Lives user password left client result (xs ++ ys)
lived {xs} ys user password preauth at before client result at_is (life, greeted_so) follows =
    let so = follows life greeted_so.stands in (
      Some so.0,
      Welcome life so.0
          (record {
            preauth = preauth;
            exchanges = so.1;
            talk = xs;
            last = ys;
            whole = refl;
            first = greeted_so.first;
            new = greeted_so.new;
            says = greeted_so.says;
            follows = subst (λ (s : Stage). Follows (planned_from preauth user password s) life so.0 so.1 client result ys) at_is so.2;
          })
          refl,
    )

-- a dial and then a life are what connecting adds
pub connected : {xs : List Event} (ys : List Event) (user password user' password' : List ℕ) (client : ClientState) (result : Result (Unit {0}) LinkEnd) → xs ≡ Dialed ∷ []
    → user' ≡ user → password' ≡ password → (left : Option LinkLife) × Lives user' password' left client result ys
    → (left : Option LinkLife) × Connects user password left client result (xs ++ ys)
connected ys user password user' password' client result is same same' (left, lives) = (
  left,
  Lived ys (ap (λ (l : List Event). l ++ ys) is)
      (subst (λ (p : List ℕ). Lives user p left client result ys) same' (subst (λ (u : List ℕ). Lives u password' left client result ys) same lives)),
)
