-- What a store takes is a front of what is due, in order.
use Rattle.std.proofs.Common.{◌≡◌, ◌⊎◌, ◌≢◌, ◌++◌, ◌+◌, ℕ, zero, suc, Bool, true, false, List, [], ◌∷◌, Result, length, take, refl, sym, ◌∙◌, ap, subst}
use Rattle.std.proofs.Common.{append_assoc, arith, inl, inr}
use Rattle.std.specs.List.{flat_map}
use Rattle.std.proofs.lemmas.List.{append-nil}
use Rattle.std.proofs.lemmas.List.Concat.{flat_map-append}
use Rattle.gate_world.specs.declared.event.Event.{Event}
use Rattle.gate_world.specs.Octets.{store_took_in}
use Rattle.imap_types.specs.Commands.{command_pieces, command_text, joined_pieces}
use Rattle.imap_types.specs.declared.command.Command.{Command}
use Rattle.imap_types.specs.declared.response.Response.{Response}
use Rattle.imap_types.specs.declared.response.Status.{Status}
use Rattle.imap_types.specs.declared.response.Status.TheVariants as status
use Rattle.told_folder.specs.declared.exchange.Exchange.{Exchange}
use Rattle.imap_exchange.specs.declared.link_end.LinkEnd.{LinkEnd}
use Rattle.imap_exchange.specs.Exchanges.{IsTaken, IsDuePart, continuations, pieces_due}
use Rattle.imap_exchange.specs.Answering.{HangsUp, is_some_taken}
use Rattle.imap_client.specs.declared.plan.Due.{Due}
use Rattle.imap_client.specs.declared.plan.Due.TheVariants as due
use Rattle.imap_client.specs.LinkLife.{LinkLife, ClientState, next_number}
use Rattle.imap_client.specs.Calls.{CompletesExchange, Breaks}
use Rattle.imap_client.specs.Plans.{Planned, Ran, Begun, Then, IsEnd, Finished, Failed, Broken, LifeHadEnded, Wanting, Follows, ends_torn}
use Rattle.imap_client.specs.Sent.{due_texts, next_text}
use Rattle.imap_client.proofs.Finishing.{spoken_takes}
use Rattle.imap_client.proofs.OneRun.{ran_number}

-- ---- pieces

-- some pieces are a front of all
front_pieces : (pieces : List (List ℕ)) (m : ℕ) → (left : List ℕ) × (joined_pieces (take m pieces) ++ left ≡ joined_pieces pieces)
front_pieces pieces zero = (joined_pieces pieces, refl)
front_pieces [] (suc m) = ([], refl)
front_pieces (p ∷ ps) (suc m) =
    let rest = front_pieces ps m in
    (rest.0, append_assoc p (joined_pieces (take m ps)) rest.0 ∙ ap (λ (l : List ℕ). p ++ l) rest.1)

-- what is taken of a command that isn't completed is a front of its text
part_is_front : (pieces : List (List ℕ)) (octets took : List ℕ) → IsDuePart pieces octets took → (left : List ℕ) × (took ++ left ≡ joined_pieces pieces)
part_is_front pieces octets took part =
    let more = front_pieces pieces (continuations part.responses + 1) in
    (part.left ++ more.0, sym (append_assoc took part.left more.0) ∙ ap (λ (l : List ℕ). l ++ more.0) part.within ∙ more.1)

-- what is taken of a command that was refused is a front of what was due
refused_is_front : (pieces : List (List ℕ)) (responses : List Response) (s : Status) (took : List ℕ) → s ≢ status.Ok → IsTaken pieces responses s took
    → (left : List ℕ) × (took ++ left ≡ joined_pieces (pieces_due pieces responses))
refused_is_front pieces responses status.Ok took other taken = absurd (other refl)
refused_is_front pieces responses status.No took other taken = taken
refused_is_front pieces responses status.Bad took other taken = taken
refused_is_front pieces responses status.Preauth took other taken = taken
refused_is_front pieces responses status.Bye took other taken = taken

-- ---- a run

due_more : (n : ℕ) (xs : List Exchange) (x : Exchange) → due_texts n (xs ++ x ∷ [])
    ≡ due_texts n xs ++ joined_pieces (pieces_due (command_pieces x.command (n + length xs)) x.responses)
due_more n [] x =
    append-nil (joined_pieces (pieces_due (command_pieces x.command n) x.responses))
    ∙ ap (λ (k : ℕ). joined_pieces (pieces_due (command_pieces x.command k) x.responses)) (omega arith)
due_more n (y ∷ ys) x =
    ap (λ (l : List ℕ). joined_pieces (pieces_due (command_pieces y.command n) y.responses) ++ l)
    (due_more (n + 1) ys x ∙ ap (λ (k : ℕ). due_texts (n + 1) ys ++ joined_pieces (pieces_due (command_pieces x.command k) x.responses)) (omega arith))
    ∙ sym (append_assoc (joined_pieces (pieces_due (command_pieces y.command n) y.responses)) (due_texts (n + 1) ys)
    (joined_pieces (pieces_due (command_pieces x.command (n + length (y ∷ ys))) x.responses)))

-- what is left of what is due once this was taken: nothing while the life goes on
record TakesFront (on : Bool) (took whole : List ℕ) : Type 0 where
  left : List ℕ
  front : took ++ left ≡ whole
  none : on ≡ true → left ≡ []

-- one exchange
exchange_takes : {life after : LinkLife} {command : Command} {x : Exchange} {events : List Event} (on : Bool) → after.goes_on ≡ on
    → (c : CompletesExchange life command x after events)
    → TakesFront on c.speaks.took (joined_pieces (pieces_due (command_pieces command (next_number life)) x.responses))
exchange_takes true is c = record { left = []; front = append-nil c.speaks.took ∙ c.all_taken is; none = λ _. refl }
exchange_takes {life} {command = command} {x = x} false is c =
    let so = refused_is_front (command_pieces command (next_number life)) x.responses x.status c.speaks.took (c.refused is) c.taken in
    record { left = so.0; front = so.1; none = λ never. absurd (cc never) }

ran_takes : {plan : Planned} {life : LinkLife} {xs : List Exchange} {after : LinkLife} {es : List Event} → Ran plan life xs after es
    → TakesFront after.goes_on (flat_map store_took_in es) (due_texts (next_number life) xs)
ran_takes Begun = record { left = []; front = refl; none = λ _. refl }
ran_takes {life = life} (Then {heard = xs} {events = es} next ran) =
    let mid = next.before in
    let x = next.exchange in
    let c = next.completes in
    let so = ran_takes ran in
    let here = exchange_takes next.after.goes_on refl c in
    let before : flat_map store_took_in es ≡ due_texts (next_number life) xs =
    sym (append-nil (flat_map store_took_in es)) ∙ ap (λ (l : List ℕ). flat_map store_took_in es ++ l) (sym (so.none c.on)) ∙ so.front in
    let text : joined_pieces (pieces_due (command_pieces next.command (next_number mid)) x.responses)
    ≡ joined_pieces (pieces_due (command_pieces x.command (next_number life + length xs)) x.responses) =
    (λ i. joined_pieces (pieces_due (command_pieces (sym c.command_is i) (ran_number ran i)) x.responses)) in
    record {
      left = here.left;
      front =
          ap (λ (l : List ℕ). l ++ here.left) (flat_map-append store_took_in es next.events)
          ∙ append_assoc (flat_map store_took_in es) (flat_map store_took_in next.events) here.left
          ∙ (λ i. before i ++ (spoken_takes c.speaks i ++ here.left)) ∙ ap (λ (l : List ℕ). due_texts (next_number life) xs ++ l) (here.front ∙ text)
          ∙ sym (due_more (next_number life) xs x);
      none = here.none;
    }

-- ---- its end

-- nothing more was taken, or a front of the command that is due in a life that went on
abbrev EndTakes : Bool → Due → ℕ → List ℕ → Type 0
EndTakes on now n took = (took ≡ []) ⊎ ((on ≡ true) × ((left : List ℕ) × (took ++ left ≡ next_text now n)))

hangs_takes : (on : Bool) (events : List Event) → HangsUp on events → flat_map store_took_in events ≡ []
hangs_takes true events is = ap (λ (l : List Event). flat_map store_took_in l) is
hangs_takes false events is = ap (λ (l : List Event). flat_map store_took_in l) is

end_takes : {now : Due} {after left : LinkLife} {result : Result (Unit {0}) LinkEnd} {last : List Event} → IsEnd now after left result last
    → EndTakes after.goes_on now (next_number after) (flat_map store_took_in last)
end_takes (Finished is ok none same) = inl (ap (λ (l : List Event). flat_map store_took_in l) none)
end_takes {after = after} {last = last} (Failed why is failed hangs same) = inl (hangs_takes after.goes_on last hangs)
end_takes {now} {after} {last = last} (Broken command e is failed b) =
    let held = b.speaks.paced.at_each b.speaks.talk [] (sym (append-nil b.speaks.talk)) in
    let part = part_is_front (command_pieces command (next_number after)) _ (flat_map store_took_in b.speaks.talk) held in
    let same : flat_map store_took_in last ≡ flat_map store_took_in b.speaks.talk = spoken_takes b.speaks ∙ sym b.speaks.said.took_is in
    inr (b.on, (part.0, ap (λ (l : List ℕ). l ++ part.0) same ∙ part.1 ∙ ap (λ (d : Due). next_text d (next_number after)) (sym is)))
end_takes (LifeHadEnded command is over lost none same) = inl (ap (λ (l : List Event). flat_map store_took_in l) none)
end_takes {after = after} {last = last} (Wanting memory hangs same) = inl (hangs_takes after.goes_on last hangs)

joined_by : (on : Bool) (now : Due) (n : ℕ) (so_far last whole : List ℕ) → TakesFront on so_far whole → EndTakes on now n last
    → (left : List ℕ) × ((so_far ++ last) ++ left ≡ whole ++ next_text now n)
joined_by on now n so_far last whole so (inl none) = (
  so.left ++ next_text now n,
  ap (λ (l : List ℕ). (so_far ++ l) ++ (so.left ++ next_text now n)) none ∙ ap (λ (l : List ℕ). l ++ (so.left ++ next_text now n)) (append-nil so_far)
      ∙ sym (append_assoc so_far so.left (next_text now n)) ∙ ap (λ (l : List ℕ). l ++ next_text now n) so.front,
)
joined_by on now n so_far last whole so (inr (is, (left, part))) =
    let all : so_far ≡ whole = sym (append-nil so_far) ∙ ap (λ (l : List ℕ). so_far ++ l) (sym (so.none is)) ∙ so.front in
    (left, append_assoc so_far last left ∙ (λ i. all i ++ part i))

-- however a plan ends, what was taken is a front of what is due, in order
pub commands_are_sent_in_order : (plan : Planned) (life left : LinkLife) (xs : List Exchange) (client : ClientState) (result : Result (Unit {0}) LinkEnd) (events : List Event)
    → Follows plan life left xs client result events → (unsent : List ℕ)
    × (flat_map store_took_in events ++ unsent ≡ due_texts (next_number life) xs ++ next_text (plan xs) (next_number life + length xs))
commands_are_sent_in_order plan life left xs client result events f =
    let took_is : flat_map store_took_in events ≡ flat_map store_took_in f.so_far ++ flat_map store_took_in f.last = ap (λ (l : List Event). flat_map store_took_in l) f.whole
    ∙ flat_map-append store_took_in f.so_far f.last in
    let ended : EndTakes f.after.goes_on (plan xs) (next_number life + length xs) (flat_map store_took_in f.last) =
    subst (λ (k : ℕ). EndTakes f.after.goes_on (plan xs) k (flat_map store_took_in f.last)) (ran_number f.ran) (end_takes f.ends) in
    let so = joined_by f.after.goes_on (plan xs) (next_number life + length xs) (flat_map store_took_in f.so_far) (flat_map store_took_in f.last)
    (due_texts (next_number life) xs) (ran_takes f.ran) ended in
    (so.0, ap (λ (l : List ℕ). l ++ so.0) took_is ∙ so.1)

-- ---- a command that is torn

-- where nothing was taken
untaken : (events : List Event) → flat_map store_took_in events ≡ [] → false ≡ is_some_taken (flat_map store_took_in events)
untaken events none = ap is_some_taken (sym none)

end_torn : {now : Due} {after left : LinkLife} {result : Result (Unit {0}) LinkEnd} {last : List Event} (e : IsEnd now after left result last)
    → ends_torn e ≡ is_some_taken (flat_map store_took_in last)
end_torn {last = last} (Finished is ok none same) = untaken last (ap (λ (l : List Event). flat_map store_took_in l) none)
end_torn {after = after} {last = last} (Failed why is failed hangs same) = untaken last (hangs_takes after.goes_on last hangs)
end_torn (Broken command e is failed b) = ap (λ (l : LinkLife). is_some_taken l.part) b.after_is ∙ ap is_some_taken (sym (spoken_takes b.speaks))
end_torn {last = last} (LifeHadEnded command is over lost none same) = untaken last (ap (λ (l : List Event). flat_map store_took_in l) none)
end_torn {after = after} {last = last} (Wanting memory hangs same) = untaken last (hangs_takes after.goes_on last hangs)

-- a plan ends with a torn command exactly where octets were taken after its exchanges
pub torn_commands_were_taken : (plan : Planned) (life left : LinkLife) (xs : List Exchange) (client : ClientState) (result : Result (Unit {0}) LinkEnd) (events : List Event)
    (follows : Follows plan life left xs client result events) → ends_torn follows.ends ≡ is_some_taken (flat_map store_took_in follows.last)
torn_commands_were_taken plan life left xs client result events follows = end_torn follows.ends
