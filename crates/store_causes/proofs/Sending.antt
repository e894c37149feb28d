-- What a store takes of plans that only read, and that end at a refusal.
use Rattle.std.proofs.Common.{◌≡◌, ◌≢◌, ◌⊎◌, ◌++◌, ◌+◌, ℕ, zero, suc, Bool, true, false, List, [], ◌∷◌, Result, Ok, length, take, refl, sym, ◌∙◌, ap, subst, append_assoc, length-append, arith, inl, inr, All}
use Rattle.std.specs.List.{flat_map}
use Rattle.std.proofs.lemmas.List.{append-nil}
use Rattle.std.proofs.lemmas.List.Concat.{flat_map-append}
use Rattle.std.proofs.lemmas.List.Elements.{All-nil, All-cons, All-head, All-tail, All-append}
use Rattle.gate_world.specs.declared.event.Event.{Event}
use Rattle.gate_world.specs.Octets.{store_took_in}
use Rattle.imap_types.specs.Commands.{command_pieces, command_text, joined_pieces}
use Rattle.imap_types.specs.declared.command.Command.{Command}
use Rattle.imap_types.specs.declared.response.Response.{Response}
use Rattle.imap_types.specs.declared.response.Status.{Status}
use Rattle.imap_types.specs.declared.response.Status.TheVariants as status
use Rattle.told_folder.specs.declared.exchange.Exchange.{Exchange}
use Rattle.imap_exchange.specs.declared.link_end.LinkEnd.{LinkEnd}
use Rattle.imap_exchange.specs.Received.{Octets}
use Rattle.imap_exchange.specs.Exchanges.{IsTaken, continuations, pieces_due}
use Rattle.imap_exchange.specs.Answering.{HangsUp, Speaks, end_unless}
use Rattle.imap_client.specs.declared.plan.Due.{Due}
use Rattle.imap_client.specs.declared.plan.Due.TheVariants as due
use Rattle.imap_client.specs.declared.plan.Refusal.{Refusal}
use Rattle.imap_client.specs.Calls.{Breaks}
use Rattle.imap_client.specs.Connecting.{is_ok}
use Rattle.imap_client.specs.LinkLife.{LinkLife, ClientState, next_number}
use Rattle.imap_client.specs.Plans.{Planned, Ran, Begun, Then, IsEnd, Finished, Failed, Broken, LifeHadEnded, Wanting, Follows}
use Rattle.store_causes.specs.Reads.{OnlyReads, TakesReads, texts_of}

-- a refusal is the last that is heard
abbrev pub Halts : Planned → Type 0
Halts plan = (xs : List Exchange) (command : Command) (x : Exchange) → plan xs ≡ due.Send command → is_ok x.status ≡ false
    → (why : Refusal) × (plan (xs ++ x ∷ []) ≡ due.Fails why)

-- what is asked only reads
abbrev pub AsksReads : Planned → Type 0
AsksReads plan = (xs : List Exchange) (command : Command) → plan xs ≡ due.Send command → OnlyReads command

-- ---- texts

abbrev asked : List Exchange → List Command
asked [] = []
asked (x ∷ xs) = x.command ∷ asked xs

asked_length : (xs : List Exchange) → length (asked xs) ≡ length xs
asked_length [] = refl
asked_length (x ∷ xs) = omega (arith, asked_length xs)

only_more : (xs : List Exchange) (x : Exchange) → All OnlyReads (asked xs) → OnlyReads x.command → All OnlyReads (asked (xs ++ x ∷ []))
only_more [] x only reads = All-cons OnlyReads x.command [] reads (All-nil OnlyReads)
only_more (y ∷ ys) x only reads =
    All-cons OnlyReads y.command (asked (ys ++ x ∷ [])) (All-head OnlyReads y.command (asked ys) only)
    (only_more ys x (All-tail OnlyReads y.command (asked ys) only) reads)

texts_append : (n : ℕ) (cs ds : List Command) → texts_of n (cs ++ ds) ≡ texts_of n cs ++ texts_of (n + length cs) ds
texts_append n [] ds = ap (λ (k : ℕ). texts_of k ds) (omega arith)
texts_append n (c ∷ cs) ds =
    ap (λ (l : List ℕ). command_text c n ++ l)
    (texts_append (n + 1) cs ds ∙ ap (λ (k : ℕ). texts_of (n + 1) cs ++ texts_of k ds) (omega arith))
    ∙ sym (append_assoc (command_text c n) (texts_of (n + 1) cs) (texts_of (n + length (c ∷ cs)) ds))

texts_more : (n : ℕ) (xs : List Exchange) (x : Exchange) → texts_of n (asked (xs ++ x ∷ [])) ≡ texts_of n (asked xs) ++ command_text x.command (n + length xs)
texts_more n [] x = append-nil (command_text x.command n) ∙ ap (λ (k : ℕ). command_text x.command k) (omega arith)
texts_more n (y ∷ ys) x =
    ap (λ (l : List ℕ). command_text y.command n ++ l)
    (texts_more (n + 1) ys x ∙ ap (λ (k : ℕ). texts_of (n + 1) (asked ys) ++ command_text x.command k) (omega arith))
    ∙ sym (append_assoc (command_text y.command n) (texts_of (n + 1) (asked ys)) (command_text x.command (n + length (y ∷ ys))))

-- ---- one exchange

-- some pieces are a front of all
front_pieces : (pieces : List (List ℕ)) (m : ℕ) → (unsent : List ℕ) × (joined_pieces (take m pieces) ++ unsent ≡ joined_pieces pieces)
front_pieces pieces zero = (joined_pieces pieces, refl)
front_pieces [] (suc m) = ([], refl)
front_pieces (p ∷ ps) (suc m) =
    let rest = front_pieces ps m in
    (rest.0, append_assoc p (joined_pieces (take m ps)) rest.0 ∙ ap (λ (l : List ℕ). p ++ l) rest.1)

part_front : (pieces : List (List ℕ)) (responses : List Response) (part left : List ℕ) → part ++ left ≡ joined_pieces (pieces_due pieces responses)
    → (unsent : List ℕ) × (part ++ unsent ≡ joined_pieces pieces)
part_front pieces responses part left within =
    let more = front_pieces pieces (continuations responses + 1) in
    (left ++ more.0, sym (append_assoc part left more.0) ∙ ap (λ (l : List ℕ). l ++ more.0) within ∙ more.1)

-- what was taken of a command that was answered is a front of its text: all of it where that was OK
record TakesText (ok : Bool) (part text : List ℕ) : Type 0 where
  unsent : List ℕ
  front : part ++ unsent ≡ text
  all : ok ≡ true → unsent ≡ []

refused_text : (pieces : List (List ℕ)) (responses : List Response) (part left : List ℕ) → part ++ left ≡ joined_pieces (pieces_due pieces responses)
    → TakesText false part (joined_pieces pieces)
refused_text pieces responses part left within =
    let so = part_front pieces responses part left within in
    record { unsent = so.0; front = so.1; all = λ never. absurd (cc never) }

taken_text : (pieces : List (List ℕ)) (responses : List Response) (s : Status) (part : List ℕ) → IsTaken pieces responses s part
    → TakesText (is_ok s) part (joined_pieces pieces)
taken_text pieces responses status.Ok part is = record { unsent = []; front = append-nil part ∙ is; all = λ _. refl }
taken_text pieces responses status.No part (left, is) = refused_text pieces responses part left is
taken_text pieces responses status.Bad part (left, is) = refused_text pieces responses part left is
taken_text pieces responses status.Preauth part (left, is) = refused_text pieces responses part left is
taken_text pieces responses status.Bye part (left, is) = refused_text pieces responses part left is

end_takes : (up : Bool) → flat_map store_took_in (end_unless up) ≡ []
end_takes true = refl
end_takes false = refl

spoken_takes : {pieces : List (List ℕ)} {before : Octets} {up : Bool} {events : List Event} (s : Speaks pieces before up events) → flat_map store_took_in events ≡ s.took
spoken_takes {up = up} s =
    ap (λ (l : List Event). flat_map store_took_in l) s.ended ∙ flat_map-append store_took_in s.talk (end_unless up)
    ∙ ap (λ (l : List ℕ). flat_map store_took_in s.talk ++ l) (end_takes up) ∙ append-nil (flat_map store_took_in s.talk) ∙ s.said.took_is

-- ---- a run

fails_not_send : (why : Refusal) (command : Command) → due.Fails why ≡ due.Send command → ⊥
fails_not_send why command is = cc

-- of the exchanges of a run: all their texts were taken, but where the plan fails then
record RunTakes (plan : Planned) (n : ℕ) (xs : List Exchange) (next : ℕ) (part : List ℕ) : Type 0 where
  only : All OnlyReads (asked xs)
  unsent : List ℕ
  front : part ++ unsent ≡ texts_of n (asked xs)
  all : ((why : Refusal) → plan xs ≢ due.Fails why) → unsent ≡ []
  number : next ≡ n + length xs

ok_by : (plan : Planned) (xs : List Exchange) (command : Command) (x : Exchange) (ok : Bool) → is_ok x.status ≡ ok → Halts plan → plan xs ≡ due.Send command
    → ((why : Refusal) → plan (xs ++ x ∷ []) ≢ due.Fails why) → ok ≡ true
ok_by plan xs command x true is halts sends other = refl
ok_by plan xs command x false is halts sends other = let so = halts xs command x sends is in absurd (other so.0 so.1)

run_takes : (plan : Planned) → Halts plan → AsksReads plan → {life after : LinkLife} {xs : List Exchange} {es : List Event} → Ran plan life xs after es
    → RunTakes plan (next_number life) xs (next_number after) (flat_map store_took_in es)
run_takes plan halts reads Begun = record { only = All-nil OnlyReads; unsent = []; front = refl; all = λ _. refl; number = omega arith }
run_takes plan halts reads {life} {after} (Then {heard = xs} {events = es} next ran) =
    let n = next_number life in
    let x = next.exchange in
    let c = next.completes in
    let so = run_takes plan halts reads ran in
    let none : so.unsent ≡ [] = so.all (λ why fails. fails_not_send why next.command (sym fails ∙ next.asked)) in
    let before : flat_map store_took_in es ≡ texts_of n (asked xs) =
    sym (append-nil (flat_map store_took_in es)) ∙ ap (λ (l : List ℕ). flat_map store_took_in es ++ l) (sym none) ∙ so.front in
    let here = taken_text (command_pieces next.command (next_number next.before)) x.responses x.status c.speaks.took c.taken in
    let text : command_text next.command (next_number next.before) ≡ command_text x.command (n + length xs) =
    (λ i. command_text (sym c.command_is i) (so.number i)) in
    record {
      only = only_more xs x so.only (subst OnlyReads (sym c.command_is) (reads xs next.command next.asked));
      unsent = here.unsent;
      front = ap (λ (l : List ℕ). l ++ here.unsent) (flat_map-append store_took_in es next.events)
          ∙ append_assoc (flat_map store_took_in es) (flat_map store_took_in next.events) here.unsent
          ∙ (λ i. before i ++ (spoken_takes c.speaks i ++ here.unsent))
          ∙ ap (λ (l : List ℕ). texts_of n (asked xs) ++ l) (here.front ∙ text) ∙ sym (texts_more n xs x);
      all = λ other. here.all (ok_by plan xs next.command x (is_ok x.status) refl halts next.asked other);
      number = omega (arith, so.number, ap (λ (l : LinkLife). length l.exchanges) c.after_is, length-append next.before.exchanges (x ∷ []), length-append xs (x ∷ []));
    }

-- ---- its end

hangs_takes : (on : Bool) (events : List Event) → HangsUp on events → flat_map store_took_in events ≡ []
hangs_takes true events is = ap (λ (l : List Event). flat_map store_took_in l) is
hangs_takes false events is = ap (λ (l : List Event). flat_map store_took_in l) is

-- a front of the text of the command that is due was taken
record TakesNext (now : Due) (n : ℕ) (part : List ℕ) : Type 0 where
  command : Command
  sends : now ≡ due.Send command
  unsent : List ℕ
  front : part ++ unsent ≡ command_text command n

broken_takes : {now : Due} {after left : LinkLife} {last : List Event} (command : Command) (e : LinkEnd) → now ≡ due.Send command
    → Breaks after command e left last → TakesNext now (next_number after) (flat_map store_took_in last)
broken_takes {after = after} {last = last} command e is b =
    let held = b.speaks.paced.at_each b.speaks.talk [] (sym (append-nil b.speaks.talk)) in
    let so = part_front (command_pieces command (next_number after)) held.responses (flat_map store_took_in b.speaks.talk) held.left held.within in
    let same : flat_map store_took_in last ≡ flat_map store_took_in b.speaks.talk = spoken_takes b.speaks ∙ sym b.speaks.said.took_is in
    record { command = command; sends = is; unsent = so.0; front = ap (λ (l : List ℕ). l ++ so.0) same ∙ so.1 }

last_takes : {now : Due} {after left : LinkLife} {result : Result (Unit {0}) LinkEnd} {last : List Event} → IsEnd now after left result last
    → (flat_map store_took_in last ≡ []) ⊎ TakesNext now (next_number after) (flat_map store_took_in last)
last_takes (Finished is ok none same) = inl (ap (λ (l : List Event). flat_map store_took_in l) none)
last_takes {after = after} {last = last} (Failed why is failed hangs same) = inl (hangs_takes after.goes_on last hangs)
last_takes (Broken command e is failed b) = inr (broken_takes command e is b)
last_takes (LifeHadEnded command is over lost none same) = inl (ap (λ (l : List Event). flat_map store_took_in l) none)
last_takes {after = after} {last = last} (Wanting memory hangs same) = inl (hangs_takes after.goes_on last hangs)

followed_by : (plan : Planned) (n : ℕ) (xs : List Exchange) (next : ℕ) (so_far last events : List Event) → AsksReads plan
    → flat_map store_took_in events ≡ flat_map store_took_in so_far ++ flat_map store_took_in last
    → RunTakes plan n xs next (flat_map store_took_in so_far)
    → (flat_map store_took_in last ≡ []) ⊎ TakesNext (plan xs) next (flat_map store_took_in last) → TakesReads n events
followed_by plan n xs next so_far last events reads whole so (inl none) =
    record {
      commands = asked xs;
      only = so.only;
      unsent = so.unsent;
      taken = ap (λ (l : List ℕ). l ++ so.unsent) (whole ∙ ap (λ (l : List ℕ). flat_map store_took_in so_far ++ l) none ∙ append-nil (flat_map store_took_in so_far))
          ∙ so.front;
    }
followed_by plan n xs next so_far last events reads whole so (inr more) =
    let none : so.unsent ≡ [] = so.all (λ why fails. fails_not_send why more.command (sym fails ∙ more.sends)) in
    let before : flat_map store_took_in so_far ≡ texts_of n (asked xs) =
    sym (append-nil (flat_map store_took_in so_far)) ∙ ap (λ (l : List ℕ). flat_map store_took_in so_far ++ l) (sym none) ∙ so.front in
    let number : next ≡ n + length (asked xs) = omega (arith, so.number, asked_length xs) in
    record {
      commands = asked xs ++ more.command ∷ [];
      only = All-append OnlyReads (asked xs) (more.command ∷ []) so.only
          (All-cons OnlyReads more.command [] (reads xs more.command more.sends) (All-nil OnlyReads));
      unsent = more.unsent;
      taken = ap (λ (l : List ℕ). l ++ more.unsent) whole
          ∙ append_assoc (flat_map store_took_in so_far) (flat_map store_took_in last) more.unsent
          ∙ (λ i. before i ++ more.front i) ∙ ap (λ (k : ℕ). texts_of n (asked xs) ++ command_text more.command k) number
          ∙ ap (λ (l : List ℕ). texts_of n (asked xs) ++ l) (sym (append-nil (command_text more.command (n + length (asked xs)))))
          ∙ sym (texts_append n (asked xs) (more.command ∷ []));
    }

parts_took : {plan : Planned} {life left : LinkLife} {xs : List Exchange} {client : ClientState} {result : Result (Unit {0}) LinkEnd} {es : List Event}
    (f : Follows plan life left xs client result es) → flat_map store_took_in es ≡ flat_map store_took_in f.so_far ++ flat_map store_took_in f.last
parts_took f = ap (λ (l : List Event). flat_map store_took_in l) f.whole ∙ flat_map-append store_took_in f.so_far f.last

-- however a plan ends
pub follow_takes : (plan : Planned) → Halts plan → AsksReads plan → {life left : LinkLife} {xs : List Exchange} {client : ClientState} {result : Result (Unit {0}) LinkEnd}
    {es : List Event} → Follows plan life left xs client result es → TakesReads (next_number life) es
follow_takes plan halts reads {life} {xs = xs} {es = es} f =
    followed_by plan (next_number life) xs (next_number f.after) f.so_far f.last es reads (parts_took f) (run_takes plan halts reads f.ran) (last_takes f.ends)

-- a plan that is done took all texts of its commands
pub record DoneTakes (n next : ℕ) (events : List Event) : Type 0 where
  pub commands : List Command
  pub only : All OnlyReads commands
  pub taken : flat_map store_took_in events ≡ texts_of n commands
  pub number : next ≡ n + length commands

done_end : {now : Due} {after left : LinkLife} {last : List Event} → IsEnd now after left (Ok tt) last → (now ≡ due.Done) × (last ≡ []) × (left ≡ after)
done_end (Finished is ok none same) = (is, none, same)
done_end (Failed why is bad hangs same) = absurd (cc bad)
done_end (Broken command e is bad b) = absurd (cc bad)
done_end (LifeHadEnded command is over bad none same) = absurd (cc bad)
done_end (Wanting bad hangs same) = absurd (cc bad)

done_not_fails : (why : Refusal) → due.Done ≡ due.Fails why → ⊥
done_not_fails why is = cc

pub done_takes : (plan : Planned) → Halts plan → AsksReads plan → {life left : LinkLife} {xs : List Exchange} {client : ClientState} {es : List Event}
    → Follows plan life left xs client (Ok tt) es → DoneTakes (next_number life) (next_number left) es
done_takes plan halts reads {life} {left} {xs} {es = es} f =
    let ended = done_end f.ends in
    let so = run_takes plan halts reads f.ran in
    let none : so.unsent ≡ [] = so.all (λ why fails. done_not_fails why (sym ended.0 ∙ fails)) in
    record {
      commands = asked xs;
      only = so.only;
      taken = parts_took f
          ∙ ap (λ (l : List Event). flat_map store_took_in f.so_far ++ flat_map store_took_in l) ended.1
          ∙ ap (λ (l : List ℕ). flat_map store_took_in f.so_far ++ l) (sym none) ∙ so.front;
      number = omega (arith, ap (λ (l : LinkLife). length l.exchanges) ended.2, so.number, asked_length xs);
    }

-- ---- one after another

pub then_takes : {n next : ℕ} (es fs : List Event) → DoneTakes n next es → TakesReads next fs → TakesReads n (es ++ fs)
then_takes {n} {next} es fs first more = record {
  commands = first.commands ++ more.commands;
  only = All-append OnlyReads first.commands more.commands first.only more.only;
  unsent = more.unsent;
  taken = ap (λ (l : List ℕ). l ++ more.unsent) (flat_map-append store_took_in es fs)
      ∙ append_assoc (flat_map store_took_in es) (flat_map store_took_in fs) more.unsent ∙ (λ i. first.taken i ++ more.taken i)
      ∙ ap (λ (k : ℕ). texts_of n first.commands ++ texts_of k more.commands) first.number ∙ sym (texts_append n first.commands more.commands);
}

-- events of which the store takes nothing
pub none_takes : (n : ℕ) (es : List Event) → flat_map store_took_in es ≡ [] → TakesReads n es
none_takes n es none = record { commands = []; only = All-nil OnlyReads; unsent = []; taken = ap (λ (l : List ℕ). l ++ []) none }

pub before_takes : {n : ℕ} (es fs : List Event) → flat_map store_took_in es ≡ [] → TakesReads n fs → TakesReads n (es ++ fs)
before_takes es fs none more = record {
  commands = more.commands;
  only = more.only;
  unsent = more.unsent;
  taken = ap (λ (l : List ℕ). l ++ more.unsent) (flat_map-append store_took_in es fs ∙ ap (λ (l : List ℕ). l ++ flat_map store_took_in fs) none) ∙ more.taken;
}

pub after_takes : {n : ℕ} (es fs : List Event) → TakesReads n es → flat_map store_took_in fs ≡ [] → TakesReads n (es ++ fs)
after_takes es fs first none = record {
  commands = first.commands;
  only = first.only;
  unsent = first.unsent;
  taken = ap (λ (l : List ℕ). l ++ first.unsent)
      (flat_map-append store_took_in es fs ∙ ap (λ (l : List ℕ). flat_map store_took_in es ++ l) none ∙ append-nil (flat_map store_took_in es)) ∙ first.taken;
}

pub hung_takes : (on : Bool) (events : List Event) → HangsUp on events → flat_map store_took_in events ≡ []
hung_takes = hangs_takes
