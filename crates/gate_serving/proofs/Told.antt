-- What comes of a client of whom nothing fails.
use Rattle.std.proofs.Common.{arith, ◌≡◌, ◌+◌, ◌++◌, ◌∷◌, ℕ, List, [], Result, Ok, Err, ◌⊎◌, inl, inr, ◌∙◌, ap, subst}
use Rattle.gate_world.specs.Causes.{Faults, no_faults}
use Rattle.gate_world.specs.Octets.{Hears}
use Rattle.gate_world.specs.Sending.{Sends}
use Rattle.gate_world.specs.declared.event.Event.{Event}
use Rattle.gate_world.specs.declared.event.Event.TheVariants.{Accepted, ClientDone}
use Rattle.gate_world.specs.declared.outside.Failed.{Failed}
use Rattle.gate_machine.specs.declared.mail_status.MailStatus.TheVariants.{OutOfMemory}
use Rattle.gate_serving.specs.declared.door.Door.{Door}
use Rattle.gate_serving.specs.declared.outcomes.ClientOutcome.{ClientOutcome}
use Rattle.gate_serving.specs.declared.outcomes.ClientOutcome.TheVariants as served
use Rattle.gate_serving.specs.Complete.{IsAnsweredFrom, IsReplyObeyed, IsSegmentObeyed, IsClientTold, NobodyComes, EndsEarly, IsAnswered, LacksMemory, IsRunTold}
use Rattle.gate_serving.specs.Complete.{AreObeyedTold}
use Rattle.gate_serving.specs.GateState.{GateState}
use Rattle.gate_serving.specs.Requests.{Account}
use Rattle.gate_serving.specs.Run.{Run, Begun, Then, run_blamed, sum_of_faults}
use Rattle.gate_serving.specs.Segment.{AnswersAsking, Replies, Answered, LacksReading, LacksAnswering, Segment, NoneComes, NotAccepted, Left, Unasked, Replied}
use Rattle.gate_serving.specs.Segment.{blame_front, blamed, reply_blamed, unsent, went}
use Rattle.gate_serving.proofs.Needs.{AnsweredLaw}

-- one more is never none
never : (n : ℕ) → n + 1 ≡ 0 → ⊥
never n is = absurd (omega (arith, is))

nothing : (n : ℕ) → n + 0 ≡ 0 → n ≡ 0
nothing n is = omega (arith, is)

-- where none is added and nothing is blamed, nothing was blamed
blameless : (f : Faults) → blame_front 0 f ≡ no_faults → f ≡ no_faults
blameless f is = λ i. record {
  link = ap (λ (g : Faults). g.link) is i;
  keep = ap (λ (g : Faults). g.keep) is i;
  front = nothing f.front (ap (λ (g : Faults). g.front) is) i;
  say = ap (λ (g : Faults). g.say) is i;
}

blamed_once : (f : Faults) → blame_front 1 f ≡ no_faults → ⊥
blamed_once f is = never f.front (ap (λ (g : Faults). g.front) is)

takes : (door : Door) (account : Account) (events replied heard : List Event) (text : List ℕ) (how : ClientOutcome) (before after : GateState)
    → events ≡ Accepted ∷ ((replied ++ heard) ++ ClientDone ∷ []) → (a : AnswersAsking door account before replied text after) → Hears text heard → how ≡ served.Whole
    → IsAnsweredFrom account after.uploads a.asking a.answer a.worked a.done ⊎ (a.done.standing ≡ OutOfMemory) → IsClientTold door account events how after
takes door account events replied heard text how before after is a hears whole (inl from) =
    IsAnswered record {
      asked = a.asked;
      worked = a.worked;
      heard = heard;
      asking = a.asking;
      answer = a.answer;
      done = a.done;
      whole = is ∙ (λ i. Accepted ∷ ((a.whole i ++ heard) ++ ClientDone ∷ []));
      reads = a.reads;
      answered = from;
      machine_is = a.machine_is;
      hears = subst (λ (t : List ℕ). Hears t heard) a.text_is hears;
    } whole
takes door account events replied heard text how before after is a hears whole (inr out) = absurd (a.stands out)

told_by : AnsweredLaw → (door : Door) (account : Account) (before : GateState) (events replied heard : List Event) (text : List ℕ) (how : ClientOutcome) (after : GateState)
    → events ≡ Accepted ∷ ((replied ++ heard) ++ ClientDone ∷ []) → (replies : Replies door account before replied text after) → Hears text heard → how ≡ served.Whole
    → IsReplyObeyed replies → reply_blamed replies ≡ no_faults → IsClientTold door account events how after
told_by law door account before events replied heard text how after is (Answered a) hears whole obeyed none =
    takes door account events replied heard text how before after is a hears whole
    (law account after.uploads before.machine a.asking a.worked a.answer a.done a.work obeyed none)
told_by law door account before events replied heard text how after is (LacksReading reads text_is after_is) hears whole obeyed none =
    LacksMemory replied heard is (subst (λ (t : List ℕ). Hears t heard) text_is hears) whole
told_by law door account before events replied heard text how after is (LacksAnswering a) hears whole obeyed none =
    LacksMemory replied heard is (subst (λ (t : List ℕ). Hears t heard) a.text_is hears) whole

-- what was sent whole is told; what wasn't is blamed on the front
told_sent : AnsweredLaw → (door : Door) (account : Account) (before : GateState) (events replied heard : List Event) (text : List ℕ) (sent : Result (Unit {0}) Failed)
    (how : ClientOutcome)
    (after : GateState) → events ≡ Accepted ∷ ((replied ++ heard) ++ ClientDone ∷ []) → (replies : Replies door account before replied text after) → Sends text sent heard
    → how ≡ went sent → IsReplyObeyed replies → blame_front (unsent sent) (reply_blamed replies) ≡ no_faults → IsClientTold door account events how after
told_sent law door account before events replied heard text (Ok u) how after is replies sends how_is obeyed none =
    told_by law door account before events replied heard text how after is replies sends how_is obeyed (blameless (reply_blamed replies) none)
told_sent law door account before events replied heard text (Err e) how after is replies sends how_is obeyed none = absurd (blamed_once (reply_blamed replies) none)

-- what comes of one client or none, where the store obeyed and nothing is blamed
pub told : AnsweredLaw → (door : Door) (account : Account) (before : GateState) (events : List Event) (how : ClientOutcome) (after : GateState)
    (segment : Segment door account before events how after) → IsSegmentObeyed segment → blamed segment ≡ no_faults → IsClientTold door account events how after
told law door account before events how after (NoneComes is how_is same) obeyed none = NobodyComes is how_is
told law door account before events how after (NotAccepted is how_is same) obeyed none = absurd (blamed_once no_faults none)
told law door account before events how after (Left asked is reads how_is same) obeyed none = EndsEarly asked is reads how_is
told law door account before events how after (Unasked asked is reads how_is same) obeyed none = absurd (blamed_once no_faults none)
told law door account before events how after (Replied a) obeyed none =
    told_sent law door account before events a.replied a.heard a.text a.sent how after a.whole a.replies a.sends a.how_is obeyed none

-- ---- runs

-- what is proved of each client
abbrev pub ToldLaw : Type 0
ToldLaw = (door : Door) (account : Account) (before : GateState) (events : List Event) (how : ClientOutcome) (after : GateState)
    (segment : Segment door account before events how after) → IsSegmentObeyed segment → blamed segment ≡ no_faults → IsClientTold door account events how after

-- what comes of each client of a run for whom the store obeyed and of whom nothing is blamed
pub run_told : ToldLaw → {door : Door} {account : Account} {before after : GateState} {events : List Event} {went : List ClientOutcome} (run : Run door account before events went after)
    → IsRunTold run
run_told law Begun = tt
run_told law {door} {account} (Then next run) =
    (run_told law run, λ obeyed none. law door account next.before next.events next.how next.after next.segment obeyed none)

-- a sum of none has parts of none
left_none : (m n : ℕ) → m + n ≡ 0 → m ≡ 0
left_none m n is = omega (arith, is)

right_none : (m n : ℕ) → m + n ≡ 0 → n ≡ 0
right_none m n is = omega (arith, is)

parts_none : (f g : Faults) → sum_of_faults f g ≡ no_faults → (f ≡ no_faults) × (g ≡ no_faults)
parts_none f g is = (
  (λ i. record {
    link = left_none f.link g.link (ap (λ (s : Faults). s.link) is) i;
    keep = left_none f.keep g.keep (ap (λ (s : Faults). s.keep) is) i;
    front = left_none f.front g.front (ap (λ (s : Faults). s.front) is) i;
    say = left_none f.say g.say (ap (λ (s : Faults). s.say) is) i;
  }),
  (λ i. record {
    link = right_none f.link g.link (ap (λ (s : Faults). s.link) is) i;
    keep = right_none f.keep g.keep (ap (λ (s : Faults). s.keep) is) i;
    front = right_none f.front g.front (ap (λ (s : Faults). s.front) is) i;
    say = right_none f.say g.say (ap (λ (s : Faults). s.say) is) i;
  }),
)

-- what comes of each client for whom the store obeyed, where nothing is blamed over the run
pub run_quiet : ToldLaw → {door : Door} {account : Account} {before after : GateState} {events : List Event} {went : List ClientOutcome} (run : Run door account before events went after)
    → run_blamed run ≡ no_faults → AreObeyedTold run
run_quiet law Begun none = tt
run_quiet law {door} {account} (Then next run) none =
    let both = parts_none (run_blamed run) (blamed next.segment) none in
    (run_quiet law run both.0, (λ obeyed. law door account next.before next.events next.how next.after next.segment obeyed both.1))
