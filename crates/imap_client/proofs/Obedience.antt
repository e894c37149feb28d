-- Octets that obey a plan whole let it end well.
use Rattle.std.proofs.Common.{◌≡◌, ◌⊎◌, ◌++◌, ◌+◌, ℕ, Bool, true, false, List, [], ◌∷◌, Option, None, Result, Ok, Err, refl, sym, ◌∙◌, ap, subst, append_assoc, length-append, inl}
use Rattle.std.proofs.Common.{inr}
use Rattle.std.specs.List.{flat_map}
use Rattle.std.proofs.lemmas.List.{append-nil}
use Rattle.std.proofs.lemmas.List.Concat.{flat_map-append}
use Rattle.std.proofs.lemmas.List.Sums.{fold-append}
use Rattle.gate_world.specs.declared.event.Event.{Event}
use Rattle.gate_world.specs.Octets.{store_gave_in}
use Rattle.imap_types.specs.declared.command.Command.{Command}
use Rattle.imap_types.specs.declared.code.Code.{Code}
use Rattle.imap_types.specs.declared.response.Response.{Response}
use Rattle.imap_types.specs.declared.response.Status.{Status}
use Rattle.imap_types.specs.Commands.{command_pieces, tag_of}
use Rattle.told_folder.specs.declared.exchange.Exchange.{Exchange}
use Rattle.imap_exchange.specs.declared.link_end.LinkEnd.{LinkEnd}
use Rattle.imap_exchange.specs.declared.link_end.LinkEnd.TheVariants as end
use Rattle.imap_exchange.specs.Exchanges.{Done, Stray, Bye, BadAt, Open, VerdictOf}
use Rattle.imap_exchange.specs.Received.{Octets}
use Rattle.imap_exchange.specs.Answering.{Speaks, IsCause, end_unless, selected_by}
use Rattle.imap_exchange.proofs.Verdicts.{one_verdict}
use Rattle.imap_client.specs.declared.plan.Due.TheVariants as due
use Rattle.imap_client.specs.declared.plan.Refusal.{Refusal}
use Rattle.imap_client.specs.LinkLife.{LinkLife, ClientState, next_number, selected, selected_after, with_exchange, unread}
use Rattle.imap_client.specs.Calls.{CompletesExchange, Breaks}
use Rattle.imap_client.specs.Plans.{Planned, Ran, Begun, Then, IsEnd, Finished, Failed, Broken, LifeHadEnded, Wanting, Follows}
use Rattle.imap_client.specs.Obeying.{Obeys, AllDone, Answered}
use Rattle.imap_client.proofs.Lives.{verdict_more, selected_of}

-- ---- what events gave

end_gives : (up : Bool) → flat_map store_gave_in (end_unless up) ≡ []
end_gives true = refl
end_gives false = refl

-- what the events of an exchange gave
pub spoken_gives : {pieces : List (List ℕ)} {before : Octets} {up : Bool} {events : List Event} (s : Speaks pieces before up events) → flat_map store_gave_in events ≡ s.gave
spoken_gives {up = up} s =
    ap (λ (l : List Event). flat_map store_gave_in l) s.ended ∙ flat_map-append store_gave_in s.talk (end_unless up) ∙ (λ i. s.said.gave_is i ++ end_gives up i) ∙ append-nil s.gave

-- ---- exchanges are those that obey

-- what is left of octets that obey the plan, in a life that goes on
pub record Left (plan : Planned) (heard : List Exchange) (after : LinkLife) (octets : List ℕ) : Type 0 where
  pub number : ℕ
  pub folder : Option (List ℕ)
  pub left : List ℕ
  pub obeys : Obeys plan heard number folder left
  pub here : after.goes_on ≡ true → (number ≡ next_number after) × (folder ≡ selected after) × (left ≡ octets)

-- where a command is due not all is done
pub send_not_done : (c : Command) → due.Done ≡ due.Send c → ⊥
send_not_done c is = cc

-- the command that is due is one
pub send_same : (c d : Command) → due.Send c ≡ due.Send d → c ≡ d
send_same c d is = cc

-- two equal answers say the same
pub done_same : (rs rs' : List Response) (s s' : Status) (k k' : Code) (t t' : List ℕ) → Done rs s k t ≡ Done rs' s' k' t' → (rs ≡ rs') × (s ≡ s') × (k ≡ k') × (t ≡ t')
done_same rs rs' s s' k k' t t' is = (cc, cc, cc, cc)

-- two exchanges are one where each part is
pub same_exchange : (x y : Exchange) → x.command ≡ y.command → x.selected ≡ y.selected → x.responses ≡ y.responses → x.status ≡ y.status → x.code ≡ y.code → x ≡ y
same_exchange x y a b c d e = (λ i. record { command = a i; selected = b i; responses = c i; status = d i; code = e i })

-- the folder that is selected after an exchange
pub selected_next : (mid after : LinkLife) (gave took rest : List ℕ) (x : Exchange) → mid.goes_on ≡ true → after ≡ with_exchange mid gave took x rest after.goes_on
    → after.goes_on ≡ true → selected_by x.command x.status (selected mid) ≡ selected after
selected_next mid after gave took rest x on is on' =
    let next = with_exchange mid gave took x rest after.goes_on in
    ap (λ (f : Option (List ℕ)). selected_by x.command x.status f) (selected_of mid on) ∙ sym (fold-append selected_after None mid.exchanges (x ∷ [])) ∙ sym (selected_of next on')
    ∙ ap selected (sym is)

-- the next exchange is the one that obeys
obeyed_next : {plan : Planned} {heard : List Exchange} {mid after : LinkLife} {events : List Event} (octets : List ℕ) (command : Command) (x : Exchange)
    → plan heard ≡ due.Send command → (c : CompletesExchange mid command x after events)
    → Obeys plan heard (next_number mid) (selected mid) (mid.rest ++ (c.speaks.gave ++ octets)) → Left plan (heard ++ x ∷ []) after (after.rest ++ octets)
obeyed_next octets command x is c (AllDone over) = absurd (send_not_done command (sym over ∙ is))
obeyed_next {plan} {heard} {mid} {after} octets command x is c (Answered next more) =
    let y = next.exchange in
    let command_is : y.command ≡ command = send_same y.command command (sym next.asked ∙ is) in
    let there : VerdictOf (next_number mid) command (mid.rest ++ (c.speaks.gave ++ octets)) (Done y.responses y.status y.code next.rest) = subst
    (λ (d : Command). VerdictOf (next_number mid) d (mid.rest ++ (c.speaks.gave ++ octets)) (Done y.responses y.status y.code next.rest)) command_is next.verdict in
    let here : VerdictOf (next_number mid) command (mid.rest ++ (c.speaks.gave ++ octets)) (Done x.responses x.status x.code (c.rest ++ octets)) =
    subst (λ (o : List ℕ). VerdictOf (next_number mid) command o (Done x.responses x.status x.code (c.rest ++ octets))) (append_assoc mid.rest c.speaks.gave octets)
    (verdict_more octets c.verdict) in
    let parts = done_same _ _ _ _ _ _ _ _ (one_verdict (tag_of (next_number mid)) (command_pieces command (next_number mid))
    (mid.rest ++ (c.speaks.gave ++ octets)) _ _ there here) in
    let same : y ≡ x = same_exchange y x (command_is ∙ sym c.command_is) (next.selected_is ∙ sym c.selected_is) parts.0 parts.1 parts.2 in
    record {
      number = next_number mid + 1;
      folder = selected_by y.command y.status (selected mid);
      left = next.rest;
      obeys = subst (λ (z : Exchange). Obeys plan (heard ++ z ∷ []) (next_number mid + 1) (selected_by y.command y.status (selected mid)) next.rest) same more;
      here = λ on. (
        ap (λ (k : ℕ). k + 1) (sym (length-append mid.exchanges (x ∷ []))) ∙ ap next_number (sym c.after_is),
        ap (λ (z : Exchange). selected_by z.command z.status (selected mid)) same ∙ selected_next mid after c.speaks.gave c.speaks.took c.rest x c.on c.after_is on,
        parts.3 ∙ ap (λ (l : LinkLife). l.rest ++ octets) (sym c.after_is),
      );
    }

-- where octets obey a plan, what is left of them after the completed exchanges obeys what is left of the plan
pub obeyed_so_far : {plan : Planned} {life : LinkLife} {heard : List Exchange} {after : LinkLife} {events : List Event} (octets : List ℕ) → Ran plan life heard after events
    → Obeys plan [] (next_number life) (selected life) (life.rest ++ (flat_map store_gave_in events ++ octets)) → Left plan heard after (after.rest ++ octets)
obeyed_so_far {life = life} octets Begun o = record { number = next_number life; folder = selected life; left = life.rest ++ octets; obeys = o; here = λ on. (refl, refl, refl) }
obeyed_so_far {plan} {life} octets (Then {heard = xs} {events = es} next ran) o =
    let mid = next.before in
    let c = next.completes in
    let fs = next.events in
    let gave_is : flat_map store_gave_in (es ++ fs) ++ octets ≡ flat_map store_gave_in es ++ (c.speaks.gave ++ octets) =
    ap (λ (l : List ℕ). l ++ octets) (flat_map-append store_gave_in es fs) ∙ append_assoc (flat_map store_gave_in es) (flat_map store_gave_in fs) octets ∙ ap
    (λ (l : List ℕ). flat_map store_gave_in es ++ (l ++ octets)) (spoken_gives c.speaks) in
    let so = obeyed_so_far (c.speaks.gave ++ octets) ran (subst (λ (l : List ℕ). Obeys plan [] (next_number life) (selected life) (life.rest ++ l)) gave_is o) in
    let at = so.here c.on in
    let there : Obeys plan xs (next_number mid) (selected mid) (mid.rest ++ (c.speaks.gave ++ octets)) =
    subst (λ (l : List ℕ). Obeys plan xs (next_number mid) (selected mid) l) at.2
    (subst (λ (f : Option (List ℕ)). Obeys plan xs (next_number mid) f so.left) at.1 (subst (λ (n : ℕ). Obeys plan xs n so.folder so.left) at.0 so.obeys)) in
    obeyed_next octets next.command next.exchange next.asked c there

-- ---- its end

-- Ok, a lost link or out of memory
abbrev pub EndsWell : Result (Unit {0}) LinkEnd → Type 0
EndsWell result = (result ≡ Ok tt) ⊎ (result ≡ Err end.Lost) ⊎ (result ≡ Err end.Memory)

never_fails : {plan : Planned} {heard : List Exchange} {n : ℕ} {folder : Option (List ℕ)} {octets : List ℕ} (why : Refusal) → plan heard ≡ due.Fails why
    → Obeys plan heard n folder octets → ⊥
never_fails why is (AllDone over) = let both : due.Done ≡ due.Fails why = sym over ∙ is in cc
never_fails why is (Answered next more) = let both : due.Send next.exchange.command ≡ due.Fails why = sym next.asked ∙ is in cc

done_not_open : (rs : List Response) (s : Status) (k : Code) (t : List ℕ) → Done rs s k t ≡ Open → ⊥
done_not_open rs s k t is = cc

done_not_stray : (rs : List Response) (s : Status) (k : Code) (t : List ℕ) → Done rs s k t ≡ Stray → ⊥
done_not_stray rs s k t is = cc

done_not_bye : (rs : List Response) (s : Status) (k : Code) (t : List ℕ) → Done rs s k t ≡ Bye → ⊥
done_not_bye rs s k t is = cc

done_not_bad : (rs : List Response) (s : Status) (k : Code) (t : List ℕ) (at : ℕ) → Done rs s k t ≡ BadAt at → ⊥
done_not_bad rs s k t at is = cc

-- why an exchange that is answered isn't completed
answered_cause : (life : LinkLife) (command : Command) (gave took rest : List ℕ) (rs : List Response) (s : Status) (k : Code) (e : LinkEnd) → VerdictOf (next_number life) command
    (life.rest ++ gave) (Done rs s k rest)
    → IsCause (tag_of (next_number life)) (command_pieces command (next_number life)) (unread life) gave took e → (e ≡ end.Lost) ⊎ (e ≡ end.Memory)
answered_cause life command gave took rest rs s k end.Lost v so = inl refl
answered_cause life command gave took rest rs s k (end.Bad at) v (place, w, there) = absurd (done_not_bad _ _ _ _ _ (one_verdict _ _ _ _ _ v w))
answered_cause life command gave took rest rs s k end.Stray v w = absurd (done_not_stray _ _ _ _ (one_verdict _ _ _ _ _ v w))
answered_cause life command gave took rest rs s k end.Bye v w = absurd (done_not_bye _ _ _ _ (one_verdict _ _ _ _ _ v w))
answered_cause life command gave took rest rs s k end.TooMuch v (w, over, sent) = absurd (done_not_open _ _ _ _ (one_verdict _ _ _ _ _ v w))
answered_cause life command gave took rest rs s k end.Refused v never = absurd never
answered_cause life command gave took rest rs s k end.NoQresync v never = absurd never
answered_cause life command gave took rest rs s k end.Lacks v never = absurd never
answered_cause life command gave took rest rs s k end.Memory v so = inr refl

broken_end : {plan : Planned} {heard : List Exchange} {after left : LinkLife} {events : List Event} (command : Command) (e : LinkEnd) → plan heard ≡ due.Send command
    → (b : Breaks after command e left events)
    → Obeys plan heard (next_number after) (selected after) (after.rest ++ b.speaks.gave) → (e ≡ end.Lost) ⊎ (e ≡ end.Memory)
broken_end command e is b (AllDone over) = absurd (send_not_done command (sym over ∙ is))
broken_end {after = after} command e is b (Answered next more) =
    let y = next.exchange in
    let command_is : y.command ≡ command = send_same y.command command (sym next.asked ∙ is) in
    answered_cause after command b.speaks.gave b.speaks.took next.rest y.responses y.status y.code e
    (subst (λ (d : Command). VerdictOf (next_number after) d (after.rest ++ b.speaks.gave) (Done y.responses y.status y.code next.rest)) command_is next.verdict) b.cause

either_well : (e : LinkEnd) (result : Result (Unit {0}) LinkEnd) → result ≡ Err e → (e ≡ end.Lost) ⊎ (e ≡ end.Memory) → EndsWell result
either_well e result is (inl lost) = inr (inl (is ∙ ap Err lost))
either_well e result is (inr memory) = inr (inr (is ∙ ap Err memory))

ends_well : {plan : Planned} {heard : List Exchange} {after left : LinkLife} {result : Result (Unit {0}) LinkEnd} {last : List Event} → IsEnd (plan heard) after left result last
    → Left plan heard after (after.rest ++ flat_map store_gave_in last) → EndsWell result
ends_well (Finished is ok none same) so = inl ok
ends_well (Failed why is failed hangs same) so = absurd (never_fails why is so.obeys)
ends_well {plan} {heard} {after} {result = result} (Broken command e is failed b) so =
    let at = so.here b.on in
    let there : Obeys plan heard (next_number after) (selected after) (after.rest ++ b.speaks.gave) =
    subst (λ (l : List ℕ). Obeys plan heard (next_number after) (selected after) l) (at.2 ∙ ap (λ (l : List ℕ). after.rest ++ l) (spoken_gives b.speaks))
    (subst (λ (f : Option (List ℕ)). Obeys plan heard (next_number after) f so.left) at.1 (subst (λ (n : ℕ). Obeys plan heard n so.folder so.left) at.0 so.obeys)) in
    either_well e result failed (broken_end command e is b there)
ends_well (LifeHadEnded command is over lost none same) so = inr (inl lost)
ends_well (Wanting memory hangs same) so = inr (inr memory)

-- a plan that octets obey ends in Ok, with a lost link or out of memory
pub obeyed_plans_end_ok : (plan : Planned) (life left : LinkLife) (exchanges : List Exchange) (client : ClientState) (result : Result (Unit {0}) LinkEnd) (events : List Event)
    → Follows plan life left exchanges client result events
    → Obeys plan [] (next_number life) (selected life) (life.rest ++ flat_map store_gave_in events) → EndsWell result
obeyed_plans_end_ok plan life left exchanges client result events f o =
    let gave_is : flat_map store_gave_in events ≡ flat_map store_gave_in f.so_far ++ flat_map store_gave_in f.last = ap (λ (l : List Event). flat_map store_gave_in l) f.whole
    ∙ flat_map-append store_gave_in f.so_far f.last in
    ends_well f.ends (obeyed_so_far (flat_map store_gave_in f.last) f.ran (subst (λ (l : List ℕ). Obeys plan [] (next_number life) (selected life) (life.rest ++ l)) gave_is o))
