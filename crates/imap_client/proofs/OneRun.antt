-- A plan that is followed twice over one stream of octets comes to the same.
use Rattle.std.proofs.Common.{◌≡◌, ◌⊎◌, ◌++◌, ◌+◌, ◌<◌, ◌≤◌, ℕ, true, List, [], ◌∷◌, Option, Result, Ok, Err, length, take, fold, refl, sym, ◌∙◌, ap, subst, append_assoc}
use Rattle.std.proofs.Common.{length-append, arith, inl, inr}
use Rattle.std.specs.List.{flat_map}
use Rattle.std.proofs.lemmas.List.{append-nil, take-append-le}
use Rattle.std.proofs.lemmas.List.Concat.{flat_map-append}
use Rattle.std.proofs.lemmas.List.Sums.{fold-append}
use Rattle.gate_world.specs.declared.event.Event.{Event}
use Rattle.gate_world.specs.Octets.{store_gave_in}
use Rattle.imap_types.specs.declared.command.Command.{Command}
use Rattle.imap_types.specs.declared.response.Response.{Response}
use Rattle.imap_types.specs.declared.response.Response.TheVariants.{Tagged, Untagged}
use Rattle.imap_types.specs.declared.response.Status.TheVariants as status
use Rattle.imap_types.specs.Commands.{command_pieces, tag_of}
use Rattle.imap_grammar.specs.Scan.{ScanOf, IsResponsePrefix, IsProperResponsePrefix}
use Rattle.imap_grammar.specs.declared.answer.Scan.TheVariants as scan
use Rattle.told_folder.specs.declared.exchange.Exchange.{Exchange}
use Rattle.told_mail.specs.Mail.{Mail}
use Rattle.told_mail.specs.Exchanges.{tell}
use Rattle.imap_exchange.specs.declared.link_end.LinkEnd.{LinkEnd}
use Rattle.imap_exchange.specs.declared.link_end.LinkEnd.TheVariants as end
use Rattle.imap_exchange.specs.Received.{Octets}
use Rattle.imap_exchange.specs.Exchanges.{Verdict, Done, Stray, Bye, BadAt, Open, Decides, IsVerdict, VerdictOf}
use Rattle.imap_exchange.specs.Answering.{IsCause, selected_by}
use Rattle.imap_exchange.proofs.Verdicts.{one_verdict, Begins-more, Passes-more}
use Rattle.imap_client.specs.declared.plan.Due.{Due}
use Rattle.imap_client.specs.declared.plan.Due.TheVariants as due
use Rattle.imap_client.specs.declared.plan.Refusal.{Refusal}
use Rattle.imap_client.specs.Refusals.{refusal_end}
use Rattle.imap_client.specs.LinkLife.{LinkLife, ClientState, next_number, selected, selected_after, special_use, unread}
use Rattle.imap_client.specs.Plans.{Planned, Ran, Begun, Then, IsEnd, Finished, Failed, Broken, LifeHadEnded, Wanting, Follows}
use Rattle.imap_client.specs.Decided.{IsDecided}
use Rattle.imap_client.specs.Bodies.{BodyState, FetchesBody, body_from, body_start, body_step, without_body}
use Rattle.imap_client.specs.declared.body.BodyStage.TheVariants as stage
use Rattle.imap_client.specs.Rounds.{Rounds, round_plan}
use Rattle.imap_client.proofs.Lives.{verdict_more}
use Rattle.imap_client.proofs.Finishing.{ran_exchanges}
use Rattle.imap_client.proofs.Obedience.{spoken_gives, send_not_done, send_same, done_same, same_exchange, selected_next}

-- ---- ends that octets decide

-- how octets of this verdict end an exchange that began with these
abbrev EndOf : Octets → Verdict → LinkEnd → Type 0
EndOf before Stray e = e ≡ end.Stray
EndOf before Bye e = e ≡ end.Bye
EndOf before (BadAt place) e = (at : ℕ) × (e ≡ end.Bad at) × (at + length before.octets ≡ before.given + place)
EndOf before _ e = ⊥

record EndsBy (tag : List ℕ) (pieces : List (List ℕ)) (before : Octets) (octets : List ℕ) (e : LinkEnd) : Type 0 where
  verdict : Verdict
  is : IsVerdict tag pieces octets verdict
  ends : EndOf before verdict e

-- further octets leave a place at which no response begins
bad_more : (r g : List ℕ) (place : ℕ) → ScanOf r (scan.Bad place) → ScanOf (r ++ g) (scan.Bad place)
bad_more r g place (within, none, proper) = (
  omega (arith, within, length-append r g),
  λ p. none (subst IsResponsePrefix (take-append-le (place + 1) r g (omega (arith, within))) p),
  subst IsProperResponsePrefix (sym (take-append-le place r g (omega (arith, within)))) proper,
)

decides_more : (tag : List ℕ) (pieces : List (List ℕ)) (octets : List ℕ) (vs : List Response) (r g : List ℕ) (before : Octets) (e : LinkEnd) (v : Verdict) → EndOf before v e
    → Decides tag pieces octets vs r v → Decides tag pieces (octets ++ g) vs (r ++ g) v
decides_more tag pieces octets vs r g before e (Done rs s k t) ends d = absurd ends
decides_more tag pieces octets vs r g before e Stray ends (other, s, code, rest, begins, why) =
    (other, s, code, rest ++ g, Begins-more (Tagged other s code ∷ []) rest r g begins, why)
decides_more tag pieces octets vs r g before e Bye ends (code, rest, begins) = (code, rest ++ g, Begins-more (Untagged status.Bye code ∷ []) rest r g begins)
decides_more tag pieces octets vs r g before e (BadAt at) ends (place, so, is) =
    (place, bad_more r g place so, omega (arith, is, length-append r g, length-append octets g))
decides_more tag pieces octets vs r g before e Open ends d = absurd ends

-- further octets leave such an end
ends_more : {tag : List ℕ} {pieces : List (List ℕ)} {before : Octets} {octets : List ℕ} {e : LinkEnd} (g : List ℕ) → EndsBy tag pieces before octets e
    → EndsBy tag pieces before (octets ++ g) e
ends_more {tag} {pieces} {before} {octets} {e} g so = record {
  verdict = so.verdict;
  is = record {
    responses = so.is.responses;
    remaining = so.is.remaining ++ g;
    passed = Passes-more g so.is.passed;
    decided = decides_more tag pieces octets so.is.responses so.is.remaining g before e so.verdict so.ends so.is.decided;
  };
  ends = so.ends;
}

-- the cause of an end that octets decide
cause_ends : (tag : List ℕ) (pieces : List (List ℕ)) (before : Octets) (gave took : List ℕ) (e : LinkEnd) → IsDecided (Err e) → IsCause tag pieces before gave took e
    → EndsBy tag pieces before (before.octets ++ gave) e
cause_ends tag pieces before gave took end.Lost decided so = absurd decided
cause_ends tag pieces before gave took (end.Bad at) decided (place, v, there) = record { verdict = BadAt place; is = v; ends = (at, refl, there) }
cause_ends tag pieces before gave took end.Stray decided v = record { verdict = Stray; is = v; ends = refl }
cause_ends tag pieces before gave took end.Bye decided v = record { verdict = Bye; is = v; ends = refl }
cause_ends tag pieces before gave took end.TooMuch decided so = absurd decided
cause_ends tag pieces before gave took end.Refused decided so = absurd so
cause_ends tag pieces before gave took end.NoQresync decided so = absurd so
cause_ends tag pieces before gave took end.Lacks decided so = absurd so
cause_ends tag pieces before gave took end.Memory decided so = absurd decided

-- octets whose front stands at one place of a life have one such end
ends_alike : (before also : Octets) (v : Verdict) (e f : LinkEnd) → before.given + length also.octets ≡ also.given + length before.octets → EndOf before v e → EndOf also v f
    → e ≡ f
ends_alike before also (Done rs s k t) e f same one two = absurd one
ends_alike before also Stray e f same one two = one ∙ sym two
ends_alike before also Bye e f same one two = one ∙ sym two
ends_alike before also (BadAt place) e f same (at, e_is, there) (at', f_is, there') =
    e_is ∙ ap (λ (k : ℕ). end.Bad k) (omega (arith, same, there, there')) ∙ sym f_is
ends_alike before also Open e f same one two = absurd one

-- ---- exchanges, one after another

-- These exchanges are answered at the octets' front, each to the command that is due, and the rest stands after them.
abbrev AnswersAll : Planned → ℕ → Option (List ℕ) → List Exchange → List Exchange → List ℕ → List ℕ → Type 0
AnswersAll plan n folder heard [] octets rest = octets ≡ rest
AnswersAll plan n folder heard (x ∷ xs) octets rest =
    (mid : List ℕ) × (plan heard ≡ due.Send x.command) × (x.selected ≡ folder) × VerdictOf n x.command octets (Done x.responses x.status x.code mid)
    × AnswersAll plan (n + 1) (selected_by x.command x.status folder) (heard ++ x ∷ []) xs mid rest

-- one exchange more
answers_snoc : (plan : Planned) (n : ℕ) (folder : Option (List ℕ)) (heard xs : List Exchange) (octets rest mid : List ℕ) (x : Exchange)
    → AnswersAll plan n folder heard xs octets rest
    → plan (heard ++ xs) ≡ due.Send x.command → x.selected ≡ fold selected_after folder xs
    → VerdictOf (n + length xs) x.command rest (Done x.responses x.status x.code mid) → AnswersAll plan n folder heard (xs ++ x ∷ []) octets mid
answers_snoc plan n folder heard [] octets rest mid x is asked there v = (
  mid,
  ap plan (sym (append-nil heard)) ∙ asked,
  there,
  subst (λ (k : ℕ). VerdictOf k x.command octets (Done x.responses x.status x.code mid)) (omega arith)
      (subst (λ (l : List ℕ). VerdictOf (n + 0) x.command l (Done x.responses x.status x.code mid)) (sym is) v),
  refl,
)
answers_snoc plan n folder heard (y ∷ ys) octets rest mid x (next, due_is, sel, here, more) asked there v = (
  next,
  due_is,
  sel,
  here,
  answers_snoc plan (n + 1) (selected_by y.command y.status folder) (heard ++ y ∷ []) ys next rest mid x more
      (ap plan (append_assoc heard (y ∷ []) ys) ∙ asked) there
      (subst (λ (k : ℕ). VerdictOf k x.command rest (Done x.responses x.status x.code mid)) (omega arith) v),
)

-- what a run answered, and the folder that it left selected
record Answers (plan : Planned) (life : LinkLife) (heard : List Exchange) (after : LinkLife) (octets rest : List ℕ) : Type 0 where
  all : AnswersAll plan (next_number life) (selected life) [] heard octets rest
  folder : after.goes_on ≡ true → selected after ≡ fold selected_after (selected life) heard

-- the number of the next command after a run
pub ran_number : {plan : Planned} {life : LinkLife} {heard : List Exchange} {after : LinkLife} {events : List Event} → Ran plan life heard after events
    → next_number after ≡ next_number life + length heard
ran_number {life = life} {heard = heard} ran = omega (arith, ap length (ran_exchanges ran), length-append life.exchanges heard)

-- a run over a stream of octets
ran_answers : {plan : Planned} {life : LinkLife} {heard : List Exchange} {after : LinkLife} {events : List Event} (octets : List ℕ) → Ran plan life heard after events
    → Answers plan life heard after (life.rest ++ (flat_map store_gave_in events ++ octets)) (after.rest ++ octets)
ran_answers octets Begun = record { all = refl; folder = λ on. refl }
ran_answers {plan} {life} octets (Then {heard = xs} {events = es} next ran) =
    let mid = next.before in
    let x = next.exchange in
    let c = next.completes in
    let so = ran_answers (c.speaks.gave ++ octets) ran in
    let gave_is : flat_map store_gave_in (es ++ next.events) ++ octets ≡ flat_map store_gave_in es ++ (c.speaks.gave ++ octets) =
    ap (λ (l : List ℕ). l ++ octets) (flat_map-append store_gave_in es next.events) ∙ append_assoc (flat_map store_gave_in es) (flat_map store_gave_in next.events) octets
    ∙ ap (λ (l : List ℕ). flat_map store_gave_in es ++ (l ++ octets)) (spoken_gives c.speaks) in
    let v : VerdictOf (next_number mid) x.command (mid.rest ++ (c.speaks.gave ++ octets)) (Done x.responses x.status x.code (c.rest ++ octets)) =
    subst (λ (d : Command). VerdictOf (next_number mid) d (mid.rest ++ (c.speaks.gave ++ octets)) (Done x.responses x.status x.code (c.rest ++ octets))) (sym c.command_is)
    (subst (λ (o : List ℕ). VerdictOf (next_number mid) next.command o (Done x.responses x.status x.code (c.rest ++ octets))) (append_assoc mid.rest c.speaks.gave octets)
    (verdict_more octets c.verdict)) in
    let more : AnswersAll plan (next_number life) (selected life) [] (xs ++ x ∷ []) (life.rest ++ (flat_map store_gave_in es ++ (c.speaks.gave ++ octets))) (c.rest ++ octets) =
    answers_snoc plan (next_number life) (selected life) [] xs (life.rest ++ (flat_map store_gave_in es ++ (c.speaks.gave ++ octets))) (mid.rest ++ (c.speaks.gave ++ octets))
    (c.rest ++ octets) x so.all (next.asked ∙ ap (λ (d : Command). due.Send d) (sym c.command_is)) (c.selected_is ∙ so.folder c.on)
    (subst (λ (k : ℕ). VerdictOf k x.command (mid.rest ++ (c.speaks.gave ++ octets)) (Done x.responses x.status x.code (c.rest ++ octets))) (ran_number ran) v) in
    record {
      all = subst (λ (r : List ℕ). AnswersAll plan (next_number life) (selected life) [] (xs ++ x ∷ [])
          (life.rest ++ (flat_map store_gave_in (es ++ next.events) ++ octets)) r) (ap (λ (l : LinkLife). l.rest ++ octets) (sym c.after_is))
          (subst (λ (l : List ℕ). AnswersAll plan (next_number life) (selected life) [] (xs ++ x ∷ []) (life.rest ++ l) (c.rest ++ octets)) (sym gave_is) more);
      folder = λ on.
          sym (selected_next mid next.after c.speaks.gave c.speaks.took c.rest x c.on c.after_is on)
          ∙ ap (λ (f : Option (List ℕ)). selected_by x.command x.status f) (so.folder c.on) ∙ sym (fold-append selected_after (selected life) xs (x ∷ []));
    }

-- what a run's life gave
ran_gives : {plan : Planned} {life : LinkLife} {heard : List Exchange} {after : LinkLife} {events : List Event} → Ran plan life heard after events
    → after.gave ≡ life.gave ++ flat_map store_gave_in events
ran_gives {life = life} Begun = sym (append-nil life.gave)
ran_gives {life = life} (Then {events = es} next ran) =
    let c = next.completes in
    ap (λ (l : LinkLife). l.gave) c.after_is ∙ ap (λ (l : List ℕ). l ++ c.speaks.gave) (ran_gives ran) ∙ append_assoc life.gave (flat_map store_gave_in es) c.speaks.gave
    ∙ ap (λ (l : List ℕ). life.gave ++ l) (ap (λ (l : List ℕ). flat_map store_gave_in es ++ l) (sym (spoken_gives c.speaks)) ∙ sym (flat_map-append store_gave_in es next.events))

-- ---- two runs

-- a further exchange is answered at the octets' front, to the command that is due
record GoesFurther (plan : Planned) (n : ℕ) (heard : List Exchange) (octets : List ℕ) : Type 0 where
  next : Exchange
  mid : List ℕ
  asked : plan heard ≡ due.Send next.command
  verdict : VerdictOf n next.command octets (Done next.responses next.status next.code mid)

-- both answered the same, or one of them goes further
abbrev Compared : Planned → ℕ → List Exchange → List Exchange → List Exchange → List ℕ → List ℕ → Type 0
Compared plan n heard xs ys r s =
    ((xs ≡ ys) × (r ≡ s)) ⊎ GoesFurther plan (n + length xs) (heard ++ xs) r ⊎ GoesFurther plan (n + length ys) (heard ++ ys) s

further_at : {plan : Planned} {n m : ℕ} {heard also : List Exchange} {octets : List ℕ} → n ≡ m → heard ≡ also → GoesFurther plan n heard octets → GoesFurther plan m also octets
further_at {plan} {n} {m} {heard} {also} {octets} number same so =
    subst (λ (l : List Exchange). GoesFurther plan m l octets) same (subst (λ (k : ℕ). GoesFurther plan k heard octets) number so)

-- the same with an exchange in front
compared_more : (plan : Planned) (n : ℕ) (heard : List Exchange) (x y : Exchange) (xs ys : List Exchange) {r s : List ℕ} → x ≡ y
    → Compared plan (n + 1) (heard ++ x ∷ []) xs ys r s → Compared plan n heard (x ∷ xs) (y ∷ ys) r s
compared_more plan n heard x y xs ys same (inl both) = inl ((λ i. same i ∷ both.0 i), both.1)
compared_more plan n heard x y xs ys same (inr (inl so)) = inr (inl (further_at (omega arith) (append_assoc heard (x ∷ []) xs) so))
compared_more plan n heard x y xs ys same (inr (inr so)) =
    inr (inr (further_at (omega arith) (append_assoc heard (x ∷ []) ys ∙ ap (λ (z : Exchange). heard ++ z ∷ ys) same) so))

compared : (plan : Planned) (n : ℕ) (folder : Option (List ℕ)) (heard xs ys : List Exchange) (octets r s : List ℕ) → AnswersAll plan n folder heard xs octets r
    → AnswersAll plan n folder heard ys octets s → Compared plan n heard xs ys r s
compared plan n folder heard [] [] octets r s is is' = inl (refl, sym is ∙ is')
compared plan n folder heard [] (y ∷ ys) octets r s is (mid, asked, sel, v, more) =
    inr (inl (further_at {n = n} (omega arith) (sym (append-nil heard)) (record {
      next = y;
      mid = mid;
      asked = asked;
      verdict = subst (λ (l : List ℕ). VerdictOf n y.command l (Done y.responses y.status y.code mid)) is v;
    })))
compared plan n folder heard (x ∷ xs) [] octets r s (mid, asked, sel, v, more) is =
    inr (inr (further_at {n = n} (omega arith) (sym (append-nil heard)) (record {
      next = x;
      mid = mid;
      asked = asked;
      verdict = subst (λ (l : List ℕ). VerdictOf n x.command l (Done x.responses x.status x.code mid)) is v;
    })))
compared plan n folder heard (x ∷ xs) (y ∷ ys) octets r s (mid, asked, sel, v, more) (mid', asked', sel', v', more') =
    let command_is : x.command ≡ y.command = send_same x.command y.command (sym asked ∙ asked') in
    let there : VerdictOf n y.command octets (Done x.responses x.status x.code mid) = subst
    (λ (d : Command). VerdictOf n d octets (Done x.responses x.status x.code mid)) command_is v in
    let parts = done_same _ _ _ _ _ _ _ _ (one_verdict (tag_of n) (command_pieces y.command n) octets _ _ there v') in
    let same : x ≡ y = same_exchange x y command_is (sel ∙ sym sel') parts.0 parts.1 parts.2 in
    let moved : AnswersAll plan (n + 1) (selected_by x.command x.status folder) (heard ++ x ∷ []) ys mid s =
    subst (λ (z : Exchange). AnswersAll plan (n + 1) (selected_by z.command z.status folder) (heard ++ z ∷ []) ys mid s) (sym same)
    (subst (λ (m : List ℕ). AnswersAll plan (n + 1) (selected_by y.command y.status folder) (heard ++ y ∷ []) ys m s) (sym parts.3) more') in
    compared_more plan n heard x y xs ys same (compared plan (n + 1) (selected_by x.command x.status folder) (heard ++ x ∷ []) xs ys mid r s more moved)

-- ---- their ends

-- how a run ends that the octets decide
data Ending (now : Due) (n : ℕ) (before : Octets) (octets : List ℕ) (result : Result (Unit {0}) LinkEnd) : Type 0 where
  Over : now ≡ due.Done → result ≡ Ok tt → Ending now n before octets result
  Fell : (why : Refusal) → now ≡ due.Fails why → result ≡ Err (refusal_end why) → Ending now n before octets result
  Cut : (command : Command) (e : LinkEnd) → now ≡ due.Send command → result ≡ Err e → EndsBy (tag_of n) (command_pieces command n) before octets e
      → Ending now n before octets result

ending_of : {now : Due} {after left : LinkLife} {result : Result (Unit {0}) LinkEnd} {last : List Event} (more : List ℕ) → IsDecided result → IsEnd now after left result last
    → Ending now (next_number after) (unread after) (after.rest ++ (flat_map store_gave_in last ++ more)) result
ending_of more decided (Finished is ok none same) = Over is ok
ending_of more decided (Failed why is failed hangs same) = Fell why is failed
ending_of {after = after} {last = last} more decided (Broken command e is failed b) =
    let so = ends_more more (cause_ends (tag_of (next_number after)) (command_pieces command (next_number after)) (unread after) b.speaks.gave b.speaks.took e
    (subst IsDecided failed decided) b.cause) in
    Cut command e is failed
    (subst (λ (l : List ℕ). EndsBy (tag_of (next_number after)) (command_pieces command (next_number after)) (unread after) l e)
    (append_assoc after.rest b.speaks.gave more ∙ ap (λ (l : List ℕ). after.rest ++ (l ++ more)) (sym (spoken_gives b.speaks))) so)
ending_of more decided (LifeHadEnded command is over lost none same) = absurd (subst IsDecided lost decided)
ending_of more decided (Wanting memory hangs same) = absurd (subst IsDecided memory decided)

-- a run that ends doesn't go further
not_further : {plan : Planned} {n : ℕ} {heard : List Exchange} {before : Octets} {octets : List ℕ} {result : Result (Unit {0}) LinkEnd}
    → Ending (plan heard) n before octets result → GoesFurther plan n heard octets → ⊥
not_further (Over is ok) so = send_not_done so.next.command (sym is ∙ so.asked)
not_further (Fell why is failed) so = let both : due.Send so.next.command ≡ due.Fails why = sym so.asked ∙ is in cc
not_further {n = n} {before = before} {octets = octets} (Cut command e is failed ends) so =
    let y = so.next in
    let command_is : y.command ≡ command = send_same y.command command (sym so.asked ∙ is) in
    let v : VerdictOf n command octets (Done y.responses y.status y.code so.mid) = subst
    (λ (d : Command). VerdictOf n d octets (Done y.responses y.status y.code so.mid)) command_is so.verdict in
    subst (λ (w : Verdict). EndOf before w e) (one_verdict (tag_of n) (command_pieces command n) octets ends.verdict (Done y.responses y.status y.code so.mid) ends.is v) ends.ends

fails_same : (v w : Refusal) → due.Fails v ≡ due.Fails w → v ≡ w
fails_same v w is = cc

same_ending : {now : Due} {n : ℕ} {before also : Octets} {octets : List ℕ} {r s : Result (Unit {0}) LinkEnd}
    → before.given + length also.octets ≡ also.given + length before.octets → Ending now n before octets r → Ending now n also octets s → r ≡ s
same_ending place (Over is ok) (Over is' ok') = ok ∙ sym ok'
same_ending place (Over is ok) (Fell why is' failed) = let both : due.Done ≡ due.Fails why = sym is ∙ is' in absurd cc
same_ending place (Over is ok) (Cut command e is' failed ends) = absurd (send_not_done command (sym is ∙ is'))
same_ending place (Fell why is failed) (Over is' ok) = let both : due.Done ≡ due.Fails why = sym is' ∙ is in absurd cc
same_ending place (Fell why is failed) (Fell why' is' failed') =
    failed ∙ ap (λ (w : Refusal). Err (refusal_end w)) (fails_same why why' (sym is ∙ is')) ∙ sym failed'
same_ending place (Fell why is failed) (Cut command e is' failed' ends) = let both : due.Fails why ≡ due.Send command = sym is ∙ is' in absurd cc
same_ending place (Cut command e is failed ends) (Over is' ok) = absurd (send_not_done command (sym is' ∙ is))
same_ending place (Cut command e is failed ends) (Fell why is' failed') = let both : due.Fails why ≡ due.Send command = sym is' ∙ is in absurd cc
same_ending {n = n} {before = before} {also = also} {octets = octets} place (Cut command e is failed ends) (Cut command' e' is' failed' ends') =
    let command_is : command' ≡ command = send_same command' command (sym is' ∙ is) in
    let v : IsVerdict (tag_of n) (command_pieces command n) octets ends'.verdict = subst
    (λ (d : Command). IsVerdict (tag_of n) (command_pieces d n) octets ends'.verdict) command_is ends'.is in
    let one = one_verdict (tag_of n) (command_pieces command n) octets ends'.verdict ends.verdict v ends.is in
    failed ∙ ap Err (ends_alike before also ends.verdict e e' place ends.ends (subst (λ (w : Verdict). EndOf also w e') one ends'.ends)) ∙ sym failed'

-- where both runs answered the same, they end alike; else the one that goes further contradicts the other's end
same_by : (plan : Planned) (n : ℕ) (xs ys : List Exchange) (before also : Octets) (octets rest : List ℕ) (r s : Result (Unit {0}) LinkEnd)
    → (octets ≡ rest → before.given + length also.octets ≡ also.given + length before.octets) → Ending (plan xs) (n + length xs) before octets r
    → Ending (plan ys) (n + length ys) also rest s → Compared plan n [] xs ys octets rest → (xs ≡ ys) × (r ≡ s)
same_by plan n xs ys before also octets rest r s place first second (inl both) =
    let moved : Ending (plan xs) (n + length xs) also octets s = subst (λ (l : List ℕ). Ending (plan xs) (n + length xs) also l s) (sym both.1)
    (subst (λ (l : List Exchange). Ending (plan l) (n + length l) also rest s) (sym both.0) second) in
    (both.0, same_ending (place both.1) first moved)
same_by plan n xs ys before also octets rest r s place first second (inr (inl so)) = absurd (not_further first so)
same_by plan n xs ys before also octets rest r s place first second (inr (inr so)) = absurd (not_further second so)

-- two runs of one plan over one stream of octets, whose ends these decide, complete the same exchanges and end alike
pub one_run : (plan : Planned) (life left other : LinkLife) (xs ys : List Exchange) (client also : ClientState) (r s : Result (Unit {0}) LinkEnd) (es fs : List Event)
    (more later : List ℕ) → Follows plan life left xs client r es → Follows plan life other ys also s fs
    → flat_map store_gave_in es ++ more ≡ flat_map store_gave_in fs ++ later → IsDecided r → IsDecided s → (xs ≡ ys) × (r ≡ s)
one_run plan life left other xs ys client also r s es fs more later f g stream first second =
    let gave_f : flat_map store_gave_in es ≡ flat_map store_gave_in f.so_far ++ flat_map store_gave_in f.last = ap (λ (l : List Event). flat_map store_gave_in l) f.whole
    ∙ flat_map-append store_gave_in f.so_far f.last in
    let gave_g : flat_map store_gave_in fs ≡ flat_map store_gave_in g.so_far ++ flat_map store_gave_in g.last = ap (λ (l : List Event). flat_map store_gave_in l) g.whole
    ∙ flat_map-append store_gave_in g.so_far g.last in
    let all_f : flat_map store_gave_in f.so_far ++ (flat_map store_gave_in f.last ++ more) ≡ flat_map store_gave_in es ++ more =
    sym (append_assoc (flat_map store_gave_in f.so_far) (flat_map store_gave_in f.last) more) ∙ ap (λ (l : List ℕ). l ++ more) (sym gave_f) in
    let all_g : flat_map store_gave_in g.so_far ++ (flat_map store_gave_in g.last ++ later) ≡ flat_map store_gave_in fs ++ later =
    sym (append_assoc (flat_map store_gave_in g.so_far) (flat_map store_gave_in g.last) later) ∙ ap (λ (l : List ℕ). l ++ later) (sym gave_g) in
    let both : flat_map store_gave_in g.so_far ++ (flat_map store_gave_in g.last ++ later) ≡ flat_map store_gave_in f.so_far ++ (flat_map store_gave_in f.last ++ more) =
    all_g ∙ sym stream ∙ sym all_f in
    let rest_f = f.after.rest ++ (flat_map store_gave_in f.last ++ more) in
    let rest_g = g.after.rest ++ (flat_map store_gave_in g.last ++ later) in
    let answers_f = ran_answers (flat_map store_gave_in f.last ++ more) f.ran in
    let answers_g = ran_answers (flat_map store_gave_in g.last ++ later) g.ran in
    let moved : AnswersAll plan (next_number life) (selected life) [] ys
    (life.rest ++ (flat_map store_gave_in f.so_far ++ (flat_map store_gave_in f.last ++ more))) rest_g =
    subst (λ (l : List ℕ). AnswersAll plan (next_number life) (selected life) [] ys (life.rest ++ l) rest_g) both answers_g.all in
    let ending_f : Ending (plan xs) (next_number life + length xs) (unread f.after) rest_f r =
    subst (λ (k : ℕ). Ending (plan xs) k (unread f.after) rest_f r) (ran_number f.ran) (ending_of more first f.ends) in
    let ending_g : Ending (plan ys) (next_number life + length ys) (unread g.after) rest_g s =
    subst (λ (k : ℕ). Ending (plan ys) k (unread g.after) rest_g s) (ran_number g.ran) (ending_of later second g.ends) in
    same_by plan (next_number life) xs ys (unread f.after) (unread g.after) rest_f rest_g r s (same_place f.after g.after _ _ _ _ (ran_gives f.ran) (ran_gives g.ran) both)
    ending_f ending_g
    (compared plan (next_number life) (selected life) [] xs ys _ rest_f rest_g answers_f.all moved)
  where
    same_place : (a b : LinkLife) (gave_a gave_b on_a on_b : List ℕ) → a.gave ≡ life.gave ++ gave_a → b.gave ≡ life.gave ++ gave_b → gave_b ++ on_b ≡ gave_a ++ on_a
        → a.rest ++ on_a ≡ b.rest ++ on_b → length a.gave + length b.rest ≡ length b.gave + length a.rest
    same_place a b gave_a gave_b on_a on_b is_a is_b stream' rests =
        omega (
          arith,
          ap length is_a,
          length-append life.gave gave_a,
          ap length is_b,
          length-append life.gave gave_b,
          ap length stream',
          length-append gave_b on_b,
          length-append gave_a on_a,
          ap length rests,
          length-append a.rest on_a,
          length-append b.rest on_b,
        )

-- two rounds over one stream of octets, whose ends these decide, come to the same mail and end alike
pub one_round : (before after mail : Mail) (life left other : LinkLife) (client also : ClientState) (r s : Result (Unit {0}) LinkEnd) (es fs : List Event) (more later : List ℕ)
    → Rounds before after life left client r es → Rounds before mail life other also s fs
    → flat_map store_gave_in es ++ more ≡ flat_map store_gave_in fs ++ later → IsDecided r → IsDecided s → (after ≡ mail) × (r ≡ s)
one_round before after mail life left other client also r s es fs more later f g stream first second =
    let same = one_run (round_plan (special_use life) before) life left other f.exchanges g.exchanges client also r s es fs more later f.follows g.follows stream first second in
    (f.told (λ is. subst IsDecided is first) ∙ ap (λ (xs : List Exchange). fold tell before xs) same.0 ∙ sym (g.told (λ is. subst IsDecided is second)), same.1)

-- what is fetched where the exchanges and the ends are the same
one_body : (folder uid : ℕ) (start : BodyState) (xs ys : List Exchange) (r s : Result (List ℕ) LinkEnd) → xs ≡ ys → without_body r ≡ without_body s
    → ((octets : List ℕ) → r ≡ Ok octets → (fold (body_step folder uid) start xs).stage ≡ stage.Fetched octets)
    → ((octets : List ℕ) → s ≡ Ok octets → (fold (body_step folder uid) start ys).stage ≡ stage.Fetched octets) → r ≡ s
one_body folder uid start xs ys (Ok a) (Ok b) same ends first second =
    let both : stage.Fetched a ≡ stage.Fetched b =
    sym (first a refl) ∙ ap (λ (l : List Exchange). (fold (body_step folder uid) start l).stage) same ∙ second b refl in
    let is : a ≡ b = cc in
    ap (λ (o : List ℕ). let q : Result (List ℕ) LinkEnd = Ok o in q) is
one_body folder uid start xs ys (Err e) (Err f) same ends first second =
    let is : e ≡ f = cc in
    ap (λ (g : LinkEnd). let q : Result (List ℕ) LinkEnd = Err g in q) is
one_body folder uid start xs ys (Ok a) (Err f) same ends first second = absurd (cc ends)
one_body folder uid start xs ys (Err e) (Ok b) same ends first second = absurd (cc ends)

-- two fetches of a body over one stream of octets, whose ends these decide, come to the same mail, end alike, and give the same body
pub one_fetch : (folder uid : ℕ) (before after mail : Mail) (life left other : LinkLife) (client also : ClientState) (r s : Result (List ℕ) LinkEnd) (es fs : List Event)
    (more later : List ℕ) → FetchesBody folder uid before after life left client r es → FetchesBody folder uid before mail life other also s fs
    → flat_map store_gave_in es ++ more ≡ flat_map store_gave_in fs ++ later → IsDecided (without_body r) → IsDecided (without_body s) → (after ≡ mail) × (r ≡ s)
one_fetch folder uid before after mail life left other client also r s es fs more later f g stream first second =
    let start = body_start (selected life) before folder in
    let same = one_run (body_from folder uid start) life left other f.exchanges g.exchanges client also (without_body r) (without_body s) es fs more later f.follows g.follows
    stream first second in (
      f.told (λ is. subst (λ (x : Result (List ℕ) LinkEnd). IsDecided (without_body x)) is first) ∙ ap (λ (xs : List Exchange). fold tell before xs) same.0
          ∙ sym (g.told (λ is. subst (λ (x : Result (List ℕ) LinkEnd). IsDecided (without_body x)) is second)),
      one_body folder uid start f.exchanges g.exchanges r s same.0 same.1 f.body g.body,
    )
