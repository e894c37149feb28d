-- A reader of commands answers what octets are, and no octets have two answers.
use Rattle.std.proofs.Common.{◌≡◌, ℕ, suc, ◌+◌, ◌-◌, ◌<◌, ◌≤◌, Bool, true, false, List, [], ◌∷◌, ◌++◌, length, take, drop, get_or, cond, refl, sym, ap, subst, ◌∙◌, append_assoc}
use Rattle.std.proofs.Common.{arith, inl, inr}
use Rattle.std.specs.Prelude.{Result, Ok, Err, IfOk, MatchResult}
use Rattle.std.proofs.lemmas.List.{length-append, length-drop, take-append-drop, take-take, take-map, take_at, take-append-le, append-nil}
use Rattle.std.proofs.lemmas.Bool.{lt-ltb, cases_lt, cases_order}
use Rattle.imap_types.specs.declared.command.Command.{Command}
use Rattle.imap_types.specs.Texts.{plain_of, plain_octets}
use Rattle.command_parts.specs.Fields.{AreOctets}
use Rattle.store_commands.specs.Requests.{IsCommandText}
use Rattle.store_commands.specs.Answers.{IsCommand, IsCommandPrefix, IsProperCommandPrefix, IsReadAs, IsFinal, BeginsWithCommand}
use Rattle.store_commands.specs.declared.command_read.CommandRead.{CommandRead}
use Rattle.store_commands.specs.declared.command_read.CommandRead.TheVariants.{Whole, NeedMore, WantsLiteral, Bad}
use Rattle.command_parts.specs.declared.no_command.NoCommand.{NoCommand}
use Rattle.command_parts.specs.declared.no_command.NoCommand.TheVariants as none
use Rattle.store_commands.specs.reading.Commands.{answer_without, answer_to}
use Rattle.command_parts.proofs.Readers.{ends_with_line, stop_of, IsOpen, IsWrong, Stopped, IsReader}
use Rattle.command_parts.proofs.Heads.{head_ends}
use Rattle.store_commands.proofs.RequestHeads.{front_headed}

-- a command with its tag, as a language
abbrev pub Commands : List ℕ × Command → List ℕ → Type 0
Commands v t = IsCommandText v.0 v.1 t

abbrev pub Reading : Type 0
Reading = List ℕ → Result ((List ℕ × Command) × List ℕ) NoCommand

-- ---- how fronts stop

abbrev stop_at : Bool → NoCommand
stop_at b = cond b none.WantsLiteral none.NeedMore

-- a front stops by how it ends
stop_is : (t : List ℕ) (line : Bool) → ends_with_line t ≡ line → stop_of none.NeedMore t ≡ stop_at line
stop_is [] line e = ap stop_at e
stop_is (c ∷ t) line e = ap stop_at e

stop_same : (a b : Bool) → stop_at a ≡ stop_at b → a ≡ b
stop_same true true e = refl
stop_same true false e = absurd cc
stop_same false true e = absurd cc
stop_same false false e = refl

-- how a front ends, by how it stops
stop_ends : (t : List ℕ) (line : Bool) → stop_at line ≡ stop_of none.NeedMore t → ends_with_line t ≡ line
stop_ends t line e = stop_same (ends_with_line t) line (sym (stop_is t (ends_with_line t) refl) ∙ sym e)

no_bad_at : (line : Bool) (n : ℕ) → stop_at line ≡ none.Bad n → ⊥
no_bad_at true n e = cc
no_bad_at false n e = cc

-- a front of a command is never wrong
no_bad : (t : List ℕ) (n : ℕ) → ◌≡◌ {A = Result ((List ℕ × Command) × List ℕ) NoCommand} (Err (stop_of none.NeedMore t)) (Err (none.Bad n)) → ⊥
no_bad t n e = let f : stop_of none.NeedMore t ≡ none.Bad n = cc in no_bad_at (ends_with_line t) n (sym (stop_is t (ends_with_line t) refl) ∙ f)

-- ---- what is read is answered rightly

abbrev proper_of : (b : List ℕ) (e : NoCommand) → IsOpen Commands none.NeedMore b e → IsProperCommandPrefix b
proper_of b e o = record {
  tag = o.value.0;
  command = o.value.1;
  text = o.text;
  more = o.more;
  reads = o.reads;
  octets = o.octets;
  proper = o.proper;
}

needs_answer : (b : List ℕ) → IsOpen Commands none.NeedMore b none.NeedMore → IsReadAs b NeedMore
needs_answer b o = (proper_of b none.NeedMore o, λ h. let e = sym (stop_ends o.text false o.stop) ∙ head_ends o.text h in cc)

wants_answer : (b : List ℕ) → IsOpen Commands none.NeedMore b none.WantsLiteral → IsReadAs b WantsLiteral
wants_answer b o = (proper_of b none.WantsLiteral o, front_headed o.value.0 o.value.1 o.text o.more o.reads o.proper (stop_ends o.text true o.stop))

whole_answer : (R : Reading) → IsReader none.NeedMore Commands R → (b : List ℕ) (v : List ℕ × Command) (rest : List ℕ) → AreOctets b → R b ≡ Ok (v, rest)
    → IsReadAs b (Whole (length b - length rest) v.0 v.1)
whole_answer R r b v rest are e =
    let x = r.found b v rest are e in
    let long : length b ≡ length (plain_octets x.0) + length rest = ap length x.2 ∙ length-append (plain_octets x.0) rest in
    let count : length (plain_octets x.0) ≡ length b - length rest = omega (arith, long) in (
      omega (arith, long),
      record {
        text = x.0;
        reads = x.1;
        octets = sym (ap (take (length b - length rest)) x.2 ∙ take_at (plain_octets x.0) rest (length b - length rest) count);
      },
    )

-- octets that are wrong at their last one begin no command
no_front : (R : Reading) → IsReader none.NeedMore Commands R → (c : List ℕ) → R c ≡ Err (none.Bad 1) → IsCommandPrefix c → ⊥
no_front R r c bad p = by p.more refl
  where
    by : (more : List ℕ) → p.more ≡ more → ⊥
    by [] e =
        let text : p.text ++ p.more ≡ p.text = ap (λ (u : List ℕ). p.text ++ u) e ∙ append-nil p.text in
        let g : R c ≡ Ok ((p.tag, p.command), []) =
        ap R (sym p.octets ∙ sym (append-nil (plain_octets p.text))) ∙ r.whole (p.tag, p.command) p.text [] (subst (Commands (p.tag, p.command)) text p.reads) in
        let h = sym g ∙ bad in cc
    by (d ∷ m) e =
        let g : R c ≡ Err (stop_of none.NeedMore p.text) =
        ap R (sym p.octets) ∙ r.short (p.tag, p.command) p.text p.more p.reads (λ z. let q : d ∷ m ≡ [] = sym e ∙ z in cc) in
        no_bad p.text 1 (sym g ∙ bad)

-- the octets before the wrong one begin a command, and none with it
bad_answer : (R : Reading) → IsReader none.NeedMore Commands R → (b : List ℕ) (left : ℕ) → IsWrong Commands R b left → IsReadAs b (Bad (length b - left))
bad_answer R r b left o =
    let front : List ℕ = plain_octets o.text in
    let at : ℕ = length b - left in
    let long : length b ≡ length front + suc (length o.rest) = ap length o.whole ∙ length-append front (o.octet ∷ o.rest) in
    let place : length front ≡ at = omega (arith, long, o.left_is) in
    let upto : take at b ≡ front = ap (take at) o.whole ∙ take_at front (o.octet ∷ o.rest) at place in
    let longer : length (front ++ o.octet ∷ []) ≡ at + 1 = length-append front (o.octet ∷ []) ∙ omega (arith, place) in
    let beyond : take (at + 1) b ≡ front ++ o.octet ∷ [] =
    ap (take (at + 1)) (o.whole ∙ sym (append_assoc front (o.octet ∷ []) o.rest)) ∙ take_at (front ++ o.octet ∷ []) o.rest (at + 1) longer in (
      omega (arith, long, o.left_is),
      no_front R r (take (at + 1) b) (ap R beyond ∙ o.stays []),
      record {
        tag = o.value.0;
        command = o.value.1;
        text = o.text;
        more = o.more;
        reads = o.reads;
        octets = sym upto;
        proper = o.proper;
      },
    )

stopped_answer : (R : Reading) → IsReader none.NeedMore Commands R → (b : List ℕ) (e : NoCommand) → Stopped Commands R none.NeedMore b e → IsReadAs b (answer_without e (length b))
stopped_answer R r b none.NeedMore o = needs_answer b o
stopped_answer R r b none.WantsLiteral o = wants_answer b o
stopped_answer R r b (none.Bad left) o = bad_answer R r b left o

-- what a reader of commands gives is what octets are
pub answer_right : (R : Reading) → IsReader none.NeedMore Commands R → (b : List ℕ) → AreOctets b → (q : Result ((List ℕ × Command) × List ℕ) NoCommand) → R b ≡ q
    → IsReadAs b (answer_to b q)
answer_right R r b are (Ok x) e = whole_answer R r b x.0 x.1 are e
answer_right R r b are (Err s) e = stopped_answer R r b s (r.stopped b s are e)

-- ---- no octets have two answers

whole_given : (R : Reading) → IsReader none.NeedMore Commands R → (b : List ℕ) (count : ℕ) (tag : List ℕ) (command : Command) → count ≤ length b
    → IsCommand tag command (take count b)
    → Whole count tag command ≡ answer_to b (R b)
whole_given R r b count tag command le h =
    let e : R b ≡ Ok ((tag, command), drop count b) =
    ap R (sym (take-append-drop count b) ∙ ap (λ (u : List ℕ). u ++ drop count b) (sym h.octets)) ∙ r.whole (tag, command) h.text (drop count b) h.reads in
    let left : length (drop count b) ≡ length b - count = length-drop count b in
    let same : count ≡ length b - length (drop count b) = omega (arith, left, le) in
    ap (λ (n : ℕ). Whole n tag command) same ∙ sym (ap (answer_to b) e)

proper_given : (R : Reading) → IsReader none.NeedMore Commands R → (b : List ℕ) (p : IsProperCommandPrefix b) → R b ≡ Err (stop_of none.NeedMore p.text)
proper_given R r b p = ap R (sym p.octets) ∙ r.short (p.tag, p.command) p.text p.more p.reads p.proper

needs_given : (R : Reading) → IsReader none.NeedMore Commands R → (b : List ℕ) → IsReadAs b NeedMore → R b ≡ Err none.NeedMore
needs_given R r b k = proper_given R r b p ∙ ap (λ (e : NoCommand). Err e) (stop_is p.text false (by (ends_with_line p.text) refl))
  where
    p : IsProperCommandPrefix b
    p = k.0

    by : (line : Bool) → ends_with_line p.text ≡ line → ends_with_line p.text ≡ false
    by true e = absurd (k.1 (front_headed p.tag p.command p.text p.more p.reads p.proper e))
    by false e = e

wants_given : (R : Reading) → IsReader none.NeedMore Commands R → (b : List ℕ) → IsReadAs b WantsLiteral → R b ≡ Err none.WantsLiteral
wants_given R r b k = proper_given R r b k.0 ∙ ap (λ (e : NoCommand). Err e) (stop_is k.0.text true (head_ends k.0.text k.1))

-- fronts of what begins a command begin one
front_of : (tag : List ℕ) (command : Command) (text more b : List ℕ) (n : ℕ) → IsCommandText tag command (text ++ more) → plain_octets text ≡ b → IsCommandPrefix (take n b)
front_of tag command text more b n reads octets = record {
  tag = tag;
  command = command;
  text = take n text;
  more = drop n text ++ more;
  reads = subst (IsCommandText tag command) (ap (λ (u : List ℕ). u ++ more) (sym (take-append-drop n text)) ∙ append_assoc (take n text) (drop n text) more) reads;
  octets = sym (take-map plain_of n text) ∙ ap (take n) octets;
}

-- with the octet at a place no command begins, and one does before it
record StopsAt (b : List ℕ) (at : ℕ) : Type 0 where
  within : at < length b
  no_command : IsCommandPrefix (take (at + 1) b) → ⊥
  before : IsProperCommandPrefix (take at b)

proper_bad : (b : List ℕ) (at : ℕ) → IsProperCommandPrefix b → StopsAt b at → ⊥
proper_bad b at f s = s.no_command (front_of f.tag f.command f.text f.more b (at + 1) f.reads f.octets)

bad_later : (b : List ℕ) (at later : ℕ) → at < later → StopsAt b at → StopsAt b later → ⊥
bad_later b at later lt s t =
    let f = t.before in
    s.no_command (subst IsCommandPrefix (take-take (at + 1) later b (omega (arith, lt))) (front_of f.tag f.command f.text f.more (take later b) (at + 1) f.reads f.octets))

bad_bad : (b : List ℕ) (at other : ℕ) → StopsAt b at → StopsAt b other → at ≡ other
bad_bad b at other s t = elim (cases_order at other) [
  | inl e ↦ e
  | inr h ↦ elim h [ inl lt ↦ absurd (bad_later b at other lt s t) | inr lt ↦ absurd (bad_later b other at lt t s) ]
]

whole_bad : (R : Reading) → IsReader none.NeedMore Commands R → (b : List ℕ) (count at : ℕ) (tag : List ℕ) (command : Command) → count ≤ length b
    → IsCommand tag command (take count b)
    → StopsAt b at → ⊥
whole_bad R r b count at tag command le h s = elim (cases_lt at count) [
  | inl lt ↦ s.no_command (subst IsCommandPrefix (take-take (at + 1) count b (omega (arith, lt)))
      (front_of tag command h.text [] (take count b) (at + 1) (subst (IsCommandText tag command) (sym (append-nil h.text)) h.reads) h.octets))
  | inr le ↦
      let front : take at b ≡ plain_octets h.text ++ drop count (take at b) =
      sym (take-append-drop count (take at b)) ∙ ap (λ (u : List ℕ). u ++ drop count (take at b)) (take-take count at b le ∙ sym h.octets) in
      let g : R (take at b) ≡ Ok ((tag, command), drop count (take at b)) = ap R front ∙ r.whole (tag, command) h.text (drop count (take at b)) h.reads in
      let k = sym g ∙ proper_given R r (take at b) s.before in
      cc
]

stops_at : (b : List ℕ) (at : ℕ) → IsReadAs b (Bad at) → StopsAt b at
stops_at b at h = record { within = h.0; no_command = h.1; before = h.2 }

-- no octets have two right answers
pub one_answer_of : (R : Reading) → IsReader none.NeedMore Commands R → (b : List ℕ) (p q : CommandRead) → IsReadAs b p → IsReadAs b q → p ≡ q
one_answer_of R r b (Bad at) (Bad other) h k = ap (λ (n : ℕ). Bad n) (bad_bad b at other (stops_at b at h) (stops_at b other k))
one_answer_of R r b (Bad at) (Whole count tag command) h k = absurd (whole_bad R r b count at tag command k.0 k.1 (stops_at b at h))
one_answer_of R r b (Bad at) NeedMore h k = absurd (proper_bad b at k.0 (stops_at b at h))
one_answer_of R r b (Bad at) WantsLiteral h k = absurd (proper_bad b at k.0 (stops_at b at h))
one_answer_of R r b (Whole count tag command) (Bad at) h k = absurd (whole_bad R r b count at tag command h.0 h.1 (stops_at b at k))
one_answer_of R r b NeedMore (Bad at) h k = absurd (proper_bad b at h.0 (stops_at b at k))
one_answer_of R r b WantsLiteral (Bad at) h k = absurd (proper_bad b at h.0 (stops_at b at k))
one_answer_of R r b (Whole count tag command) (Whole n t c) h k = whole_given R r b count tag command h.0 h.1 ∙ sym (whole_given R r b n t c k.0 k.1)
one_answer_of R r b (Whole count tag command) NeedMore h k = whole_given R r b count tag command h.0 h.1 ∙ ap (answer_to b) (needs_given R r b k)
one_answer_of R r b (Whole count tag command) WantsLiteral h k = whole_given R r b count tag command h.0 h.1 ∙ ap (answer_to b) (wants_given R r b k)
one_answer_of R r b NeedMore (Whole n t c) h k = sym (ap (answer_to b) (needs_given R r b h)) ∙ sym (whole_given R r b n t c k.0 k.1)
one_answer_of R r b WantsLiteral (Whole n t c) h k = sym (ap (answer_to b) (wants_given R r b h)) ∙ sym (whole_given R r b n t c k.0 k.1)
one_answer_of R r b NeedMore NeedMore h k = refl
one_answer_of R r b WantsLiteral WantsLiteral h k = refl
one_answer_of R r b NeedMore WantsLiteral h k = let e = sym (needs_given R r b h) ∙ wants_given R r b k in absurd cc
one_answer_of R r b WantsLiteral NeedMore h k = let e = sym (wants_given R r b h) ∙ needs_given R r b k in absurd cc

-- ---- what stays

whole_stays : (b more : List ℕ) (count : ℕ) (tag : List ℕ) (command : Command) → IsReadAs b (Whole count tag command) → IsReadAs (b ++ more) (Whole count tag command)
whole_stays b more count tag command h =
    let long = length-append b more in
    (omega (arith, h.0, long), subst (IsCommand tag command) (sym (take-append-le count b more h.0)) h.1)

bad_stays : (b more : List ℕ) (at : ℕ) → IsReadAs b (Bad at) → IsReadAs (b ++ more) (Bad at)
bad_stays b more at h =
    let long = length-append b more in (
      omega (arith, h.0, long),
      λ k. h.1 (subst IsCommandPrefix (take-append-le (at + 1) b more (omega (arith, h.0))) k),
      subst IsProperCommandPrefix (sym (take-append-le at b more (omega (arith, h.0)))) h.2,
    )

-- a command and a wrong octet stay what they are, whatever comes behind
pub final_stays : (b more : List ℕ) (answer : CommandRead) → IsFinal answer → IsReadAs b answer → IsReadAs (b ++ more) answer
final_stays b more (Whole count tag command) f h = whole_stays b more count tag command h
final_stays b more NeedMore f h = absurd f
final_stays b more WantsLiteral f h = absurd f
final_stays b more (Bad at) f h = bad_stays b more at h

-- ---- what is returned

-- the octets that a function takes are octets
pub octets_taken : (b : List ℕ) → ((i : ℕ) → get_or b i 0 < 256) → AreOctets b
octets_taken [] small = tt
octets_taken (c ∷ b) small = (lt-ltb c 256 (small 0), octets_taken b (λ i. small (suc i)))

-- a command that stands there is given, or memory was wanting for it
pub whole_matches : {E : Type 0} (b : List ℕ) (count : ℕ) (tag : List ℕ) (command : Command) (r : Result CommandRead E) → IsReadAs b (Whole count tag command)
    → IfOk r (λ read. read ≡ Whole count tag command) → MatchResult r (λ read. IsReadAs b read) (λ e. BeginsWithCommand b)
whole_matches b count tag command (Ok read) right same = subst (IsReadAs b) (sym same) right
whole_matches b count tag command (Err e) right same = (count, tag, command, right)
