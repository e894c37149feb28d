-- An exchange, piece by piece and response by response.
use Rattle.std.proofs.Common.{◌-◌, ◌≡◌, ◌≢◌, ◌⊎◌, ◌<◌, ◌≤◌, ◌++◌, ◌+◌, ◌||◌, ℕ, zero, suc, Bool, true, false, List, [], ◌∷◌, Ok, Err, length, take, drop, min, refl, sym, ◌∙◌, ap, subst}
use Rattle.std.proofs.Common.{append_assoc, length-append, length-drop, arith, inl, inr, nat_eq, nat_lt}
use Rattle.std.proofs.Math.Seq.{take-add}
use Rattle.std.proofs.lemmas.List.{append-nil, drop_all, take_all, take-append-drop}
use Rattle.std.proofs.lemmas.List.Sums.{sum_by-append}
use Rattle.std.proofs.lemmas.List.Elements.{All-nil}
use Rattle.std.proofs.lemmas.Bool.Decides.{nat_tests}
use Rattle.gate_world.specs.declared.event.Event.{Event}
use Rattle.gate_world.specs.declared.event.Event.TheVariants.{LinkEnded, StoreTook}
use Rattle.std.specs.List.{flat_map}
use Rattle.gate_world.specs.Octets.{store_took_in, Talk}
use Rattle.gate_world.specs.Causes.{Rose}
use Rattle.gate_world.proofs.Joins.{Talk-append, Talk-took}
use Rattle.imap_types.specs.declared.command.Command.{Command}
use Rattle.imap_types.specs.declared.code.Code.{Code}
use Rattle.imap_types.specs.declared.response.Response.{Response}
use Rattle.imap_types.specs.declared.response.Response.TheVariants.{Tagged, Continue}
use Rattle.imap_types.specs.declared.response.Status.{Status}
use Rattle.imap_types.specs.declared.response.Status.TheVariants as status
use Rattle.imap_types.specs.Commands.{command_pieces, put_before, joined_pieces, tag_of, pieces_of, parts_of}
use Rattle.imap_exchange.specs.declared.link_end.LinkEnd.{LinkEnd}
use Rattle.imap_exchange.specs.declared.link_end.LinkEnd.TheVariants as end
use Rattle.imap_exchange.specs.declared.turn.Turn.TheVariants as turn
use Rattle.imap_exchange.specs.Received.{Octets}
use Rattle.imap_exchange.specs.Begins.{Begins}
use Rattle.imap_exchange.specs.Needed.{ReadsWhile}
use Rattle.imap_exchange.specs.Exchanges.{IsOpen, Passes, is_continue, continuations, pieces_due, AreAllDue, Done, EndsExchange, IsVerdict, IsTaken}
use Rattle.imap_exchange.specs.Answering.{end_unless}
use Rattle.imap_exchange.specs.Answering.{Speaks, Awaits, AllDueTaken, IsTooMuch, IsCause, Converses, is_some_taken}
use Rattle.imap_exchange.specs.Responses.{IsOver, HasRoom, AwaitsResponse, EndsTalk, ReadsResponse}
use Rattle.imap_exchange.specs.reading.Sending.{Offers, Takes, piece_at}
use Rattle.imap_exchange.specs.reading.Turns.{SettlesNow, is_settled_by, Judges}
use Rattle.imap_exchange.proofs.Needing.{reads_none, reads_append, reads_taking, reads_widen}
use Rattle.imap_exchange.proofs.Responses.{Talk-none}
use Rattle.imap_exchange.proofs.Verdicts.{Begins-length, Begins-parts, Passes-more, Passes-push}
use Rattle.imap_exchange.proofs.Pacing.{paced_none, paced_reading, paced_writing, joined_more, take_min}

-- ---- sending

-- a count is that of all
all_counted : (count all : ℕ) → count ≤ all → all ≤ count → nat_eq count all ≡ true
all_counted count all within whole = grind (arith, nat_tests)

not_all_counted : (count all : ℕ) → count < all → nat_eq count all ≡ false
not_all_counted count all less = grind (arith, nat_tests)

counted_all : (count all : ℕ) → nat_eq count all ≡ true → count ≡ all
counted_all count all is = grind (arith, nat_tests)

-- a write failed
pub stopped : {xs : List Event} (octets : List ℕ) (count : ℕ) → count < length octets → Talk [] (take count octets) xs → Takes octets count (xs ++ LinkEnded ∷ [])
stopped {xs} octets count less said =
    record { talk = xs; ended = ap (λ (b : Bool). xs ++ end_unless b) (sym (not_all_counted count (length octets) less)); said = said }

-- all was written
pub written : {xs : List Event} (octets : List ℕ) (count : ℕ) → count ≤ length octets → length octets ≤ count → Talk [] (take count octets) xs → Takes octets count xs
written {xs} octets count within whole said =
    record {
      talk = xs;
      ended = sym (append-nil xs) ∙ ap (λ (b : Bool). xs ++ end_unless b) (sym (all_counted count (length octets) within whole));
      said = said;
    }

some_counted : (count : ℕ) → 0 < count → nat_lt 0 count ≡ true
some_counted count some = grind (arith, nat_tests)

-- a piece more was written
pub wrote_more : {xs : List Event} (octets rest : List ℕ) (count more : ℕ) → rest ≡ drop count octets → Talk [] (take count octets) xs
    → Talk [] (take (count + more) octets) (xs ++ StoreTook (take more rest) ∷ [])
wrote_more {xs} octets rest count more is said =
    subst (λ (t : List ℕ). Talk [] t (xs ++ StoreTook (take more rest) ∷ []))
    (ap (λ (l : List ℕ). take count octets ++ take more l) is ∙ sym (take-add count more octets)) (Talk-append said (Talk-took (take more rest)))

-- some octets were taken where the count isn't 0
pub counted_some : (count : ℕ) (text : List ℕ) → count ≤ length text → nat_lt 0 count ≡ is_some_taken (take count text)
counted_some zero text within = refl
counted_some (suc count) [] within = absurd (omega arith)
counted_some (suc count) (c ∷ text) within = some_counted (suc count) (omega arith)

-- the text was written as far as it was taken
pub offered : {es : List Event} (up had has : Bool) (text : List ℕ) (count : ℕ) → count ≤ length text → up ≡ nat_eq count (length text)
    → has ≡ (had || nat_lt 0 count) → Takes text count es → Offers true up had has text es
offered {es} up had has text count within up_is has_is t =
    record {
      talk = t.talk;
      took = take count text;
      left = drop count text;
      ended = t.ended ∙ ap (λ (b : Bool). t.talk ++ end_unless b) (sym up_is);
      said = t.said;
      whole = take-append-drop count text;
      all_taken = λ is. drop_all count text (omega (arith, counted_all count (length text) (sym up_is ∙ is)));
      some_left = λ _ is. omega (arith, within, left_of is, length-drop count text);
      some_taken = has_is ∙ ap (λ (b : Bool). had || b) (counted_some count text within);
    }
  where
    left_of : up ≡ false → count ≢ length text
    left_of is same = absurd (cc (is, up_is, all_counted count (length text) (omega (arith, same)) (omega (arith, same))))

-- no octets more
pub or_none : (had : Bool) → had ≡ (had || false)
or_none true = refl
or_none false = refl

-- octets of two texts are some where those of either are
some_append : (a b : List ℕ) → is_some_taken (a ++ b) ≡ (is_some_taken a || is_some_taken b)
some_append [] b = refl
some_append (c ∷ a) b = refl

-- octets were taken of some texts, and then of others
taken_more : (had has : Bool) (a b : List ℕ) → had ≡ is_some_taken a → has ≡ (had || is_some_taken b) → has ≡ is_some_taken (a ++ b)
taken_more had has a b before now = now ∙ ap (λ (t : Bool). t || is_some_taken b) before ∙ sym (some_append a b)

-- The front of a text was written whole, and then the rest of it as far as it was taken.
pub offers_both : {es fs : List Event} (up had mid has : Bool) (front rest : List ℕ) → Offers true true had mid front es → Offers true up mid has rest fs
    → Offers true up had has (front ++ rest) (es ++ fs)
offers_both {es} {fs} up had mid has front rest o p =
    record {
      talk = o.talk ++ p.talk;
      took = o.took ++ p.took;
      left = p.left;
      ended = (λ i. (o.ended ∙ append-nil o.talk) i ++ p.ended i) ∙ sym (append_assoc o.talk p.talk (end_unless up));
      said = Talk-append o.said p.said;
      whole = append_assoc o.took p.took p.left ∙ (λ i. front_taken i ++ p.whole i);
      all_taken = p.all_taken;
      some_left = p.some_left;
      some_taken = p.some_taken ∙ ap (λ (b : Bool). b || is_some_taken p.took) o.some_taken ∙ or_assoc had (is_some_taken o.took) (is_some_taken p.took)
          ∙ ap (λ (b : Bool). had || b) (sym (some_append o.took p.took));
    }
  where
    front_taken : o.took ≡ front
    front_taken = sym (append-nil o.took) ∙ ap (λ (l : List ℕ). o.took ++ l) (sym (o.all_taken refl)) ∙ o.whole

    or_assoc : (a b c : Bool) → ((a || b) || c) ≡ (a || (b || c))
    or_assoc true b c = refl
    or_assoc false b c = refl

-- The front of a text wasn't taken whole, and nothing of the rest was written.
pub offers_front : {es : List Event} (had has : Bool) (front rest : List ℕ) → Offers true false had has front es → Offers true false had has (front ++ rest) es
offers_front {es} had has front rest o =
    record {
      talk = o.talk;
      took = o.took;
      left = o.left ++ rest;
      ended = o.ended;
      said = o.said;
      whole = sym (append_assoc o.took o.left rest) ∙ ap (λ (l : List ℕ). l ++ rest) o.whole;
      all_taken = λ never. absurd (cc never);
      some_left = λ was is. omega (arith, o.some_left was is, length-append o.left rest);
      some_taken = o.some_taken;
    }

-- there is no piece at this place
pub offers_none : (up had : Bool) (pieces : List (List ℕ)) (at : ℕ) → up ≡ true → length pieces ≤ at → Offers up true had had (piece_at pieces at) []
offers_none up had pieces at is past =
    subst (λ (b : Bool). Offers b true had had (piece_at pieces at) []) (sym is)
    (record {
      talk = [];
      took = [];
      left = [];
      ended = refl;
      said = Talk-none;
      whole = sym (none_past pieces at past);
      all_taken = λ _. refl;
      some_left = λ _ never. absurd
          (cc (never));
      some_taken = or_none had;
    })
  where
    none_past : (pieces : List (List ℕ)) (at : ℕ) → length pieces ≤ at → piece_at pieces at ≡ []
    none_past [] at past = refl
    none_past (p ∷ ps) zero past = absurd (omega arith)
    none_past (p ∷ ps) (suc at) past = none_past ps at (omega arith)

-- the link is down
pub offers_down : (up had : Bool) (pieces : List (List ℕ)) (at : ℕ) → up ≡ false → Offers up false had had (piece_at pieces at) []
offers_down up had pieces at is =
    subst (λ (b : Bool). Offers b false had had (piece_at pieces at) []) (sym is)
    (record {
      talk = [];
      took = [];
      left = piece_at pieces at;
      ended = (refl, refl, refl);
      said = Talk-none;
      whole = refl;
      all_taken = λ never. absurd (cc never);
      some_left = λ never _. absurd (cc never);
      some_taken = or_none had;
    })

-- a command has a piece
pub some_pieces : (command : Command) (n : ℕ) → 0 < length (command_pieces command n)
some_pieces command n = put_some (tag_of n ++ 32 ∷ []) (pieces_of (parts_of command))
  where
    put_some : (t : List ℕ) (ps : List (List ℕ)) → 0 < length (put_before t ps)
    put_some t [] = omega arith
    put_some t (p ∷ ps) = omega arith

-- ---- the course of an exchange

-- events after those after which the link was up or not
pub ends_append : (was up : Bool) (xs talk ys more : List Event) → xs ≡ talk ++ end_unless was → EndsTalk was up more ys → xs ++ ys ≡ (talk ++ more) ++ end_unless up
ends_append true up xs talk ys more is ends =
    (λ i. is i ++ ends i) ∙ ap (λ (l : List Event). l ++ (more ++ end_unless up)) (append-nil talk) ∙ sym (append_assoc talk more (end_unless up))
ends_append false up xs talk ys more is (none, no_talk, down) =
    let no_more : [] ≡ more = sym no_talk in
    let was_down : false ≡ up = sym down in
    ap (λ (l : List Event). xs ++ l) none ∙ append-nil xs ∙ is ∙ (λ i. sym (append-nil talk) i ++ end_unless false) ∙ (λ i. (talk ++ no_more i) ++ end_unless (was_down i))

-- The responses up to here are open, and of the pieces up to this place all were taken, or the link is down.
pub record Course (pieces : List (List ℕ)) (before after : Octets) (responses : List Response) (at : ℕ) (up has : Bool) (events : List Event) : Type 0 where
  pub speaks : Speaks pieces before up events
  pub taken_is : has ≡ is_some_taken speaks.took
  pub passed : Passes responses after.octets (before.octets ++ speaks.gave)
  pub given : after.given ≡ before.given + length speaks.gave
  pub left : List ℕ
  pub taken : speaks.took ++ left ≡ joined_pieces (take at pieces)
  pub all_taken : up ≡ true → left ≡ []
  pub some_left : up ≡ false → 0 < length left

-- the same, and then came one response more
pub record Heard (pieces : List (List ℕ)) (before after : Octets) (responses : List Response) (next : Response) (at : ℕ) (up has : Bool) (events : List Event) : Type 0 where
  pub speaks : Speaks pieces before up events
  pub taken_is : has ≡ is_some_taken speaks.took
  pub remaining : List ℕ
  pub passed : Passes responses remaining (before.octets ++ speaks.gave)
  pub begins : Begins (next ∷ []) after.octets remaining
  pub given : after.given ≡ before.given + length speaks.gave
  pub left : List ℕ
  pub taken : speaks.took ++ left ≡ joined_pieces (take at pieces)
  pub all_taken : up ≡ true → left ≡ []
  pub some_left : up ≡ false → 0 < length left

-- the first piece was sent
pub first_piece : {events : List Event} (pieces : List (List ℕ)) (before : Octets) (up has : Bool) → Offers true up false has (piece_at pieces 0) events
    → Course pieces before before [] 1 up has events
first_piece {events} pieces before up has o =
    let passed : Passes [] (before.octets ++ []) (before.octets ++ []) = record { all_open = All-nil IsOpen; spelled = refl } in
    let within : [] ++ (o.took ++ o.left) ≡ joined_pieces (pieces_due pieces []) = o.whole ∙ sym (joined_more pieces 0) in
    record {
      speaks = record {
        talk = o.talk;
        gave = [];
        took = o.took;
        ended = o.ended;
        said = o.said;
        paced = paced_writing o.took o.left o.talk Talk-none
            (paced_none pieces before.octets) o.said passed within;
        needed = reads_taking (Awaits pieces before) o.said;
      };
      taken_is = o.some_taken;
      passed = record { all_open = All-nil IsOpen; spelled = append-nil before.octets };
      given = omega arith;
      left = o.left;
      taken = o.whole ∙ sym (joined_more pieces 0);
      all_taken = o.all_taken;
      some_left = o.some_left refl;
    }

-- what was spoken, and then octets came
abbrev pub spoken_more : {xs : List Event} (ys : List Event) (pieces : List (List ℕ)) (before : Octets) (was up : Bool) (more : List Event) (g : List ℕ)
    (s : Speaks pieces before was xs) → EndsTalk was up more ys → Talk g [] more → ReadsWhile (λ x t. Awaits pieces before (s.gave ++ x) (s.took ++ t)) more
    → Speaks pieces before up (xs ++ ys)
spoken_more {xs} ys pieces before was up more g s ends said needed =
    record {
      talk = s.talk ++ more;
      gave = s.gave ++ g;
      took = s.took;
      ended = ends_append was up xs s.talk ys more s.ended ends;
      said = subst (λ (t : List ℕ). Talk (s.gave ++ g) t (s.talk ++ more)) (append-nil s.took) (Talk-append s.said said);
      paced = paced_reading g more s.said s.paced said;
      needed = reads_append (Awaits pieces before) more s.said s.needed needed;
    }

passed_more : {responses : List Response} (before mid : Octets) (gave g : List ℕ) → Passes responses mid.octets (before.octets ++ gave) → Passes responses (mid.octets ++ g)
    (before.octets ++ (gave ++ g))
passed_more {responses} before mid gave g passed = subst (λ (l : List ℕ). Passes responses (mid.octets ++ g) l) (append_assoc before.octets gave g) (Passes-more g passed)

-- ---- what is awaited

-- all that is due by the responses was taken, where nothing is left up to the place
due_taken : (pieces : List (List ℕ)) (responses : List Response) (at : ℕ) (took left : List ℕ) → at ≡ min (continuations responses + 1) (length pieces)
    → took ++ left ≡ joined_pieces (take at pieces) → left ≡ [] → AllDueTaken pieces responses took
due_taken pieces responses at took left place taken none =
    sym (append-nil took) ∙ ap (λ (l : List ℕ). took ++ l) (sym none) ∙ taken ∙ ap joined_pieces (sym (take_min pieces (continuations responses + 1) at place))

-- something is lacking of the pieces
lacking : (took left all : List ℕ) → 0 < length left → took ++ left ≡ all → took ≡ all → ⊥
lacking took left all some parts same = omega (arith, some, ap length parts, ap length same, length-append took left)

-- too much for the exchange that began so is too much to read on
over_of : (begun : ℕ) (before mid : Octets) (gave x : List ℕ) → begun + length before.octets ≡ before.given → mid.given ≡ before.given + length gave
    → IsTooMuch before (gave ++ x) → IsOver begun (mid.given + length x)
over_of begun before mid gave x from given (inl over) = inl (omega (arith, over, from, given, length-append gave x, length-append before.octets (gave ++ x)))
over_of begun before mid gave x from given (inr over) = inr (omega (arith, over, given, length-append gave x))

too_much_of : (begun : ℕ) (before mid : Octets) (gave x : List ℕ) → begun + length before.octets ≡ before.given → mid.given ≡ before.given + length gave
    → IsOver begun (mid.given + length x) → IsTooMuch before (gave ++ x)
too_much_of begun before mid gave x from given (inl over) = inl (omega (arith, over, from, given, length-append gave x, length-append before.octets (gave ++ x)))
too_much_of begun before mid gave x from given (inr over) = inr (omega (arith, over, given, length-append gave x))

-- octets of a response are octets of the exchange, where the link is up; where it is down none come
awaited : {xs talk : List Event} (ys : List Event) {pieces : List (List ℕ)} {before mid : Octets} {responses : List Response} {at : ℕ} {has : Bool} {g : List ℕ} (begun : ℕ) (was up : Bool)
    → begun + length before.octets ≡ before.given → at ≡ min (continuations responses + 1) (length pieces) → (c : Course pieces before mid responses at was has xs)
    → EndsTalk was up talk ys → Talk g [] talk → ReadsWhile (AwaitsResponse begun mid) talk
    → ReadsWhile (λ x t. Awaits pieces before (c.speaks.gave ++ x) (c.speaks.took ++ t)) talk
awaited ys {pieces = pieces} {before} {mid} {responses} {at} begun true up from place c ends said needed =
    reads_widen (AwaitsResponse begun mid) (λ x t. Awaits pieces before (c.speaks.gave ++ x) (c.speaks.took ++ t)) wider said needed
  where
    wider : (x : List ℕ) → AwaitsResponse begun mid x [] → Awaits pieces before (c.speaks.gave ++ x) (c.speaks.took ++ [])
    wider x so =
        record {
          responses = responses;
          remaining = mid.octets ++ x;
          passed = passed_more before mid c.speaks.gave x c.passed;
          more = so.more;
          sent = append-nil c.speaks.took ∙ due_taken pieces responses at c.speaks.took c.left place c.taken (c.all_taken refl);
          room = λ over. so.room (over_of begun before mid c.speaks.gave x from c.given over);
        }
awaited ys {pieces = pieces} {before} begun false up from place c ends said needed =
    let P : List ℕ → List ℕ → Type 0 = λ x t. Awaits pieces before (c.speaks.gave ++ x) (c.speaks.took ++ t) in
    subst (λ (l : List Event). ReadsWhile P l) (sym ends.1) (reads_none P)

-- where no more came, too much stands there only if something that is due wasn't taken
not_all_taken : (was : Bool) (pieces : List (List ℕ)) (responses : List Response) (at begun given : ℕ) (took left : List ℕ)
    → at ≡ min (continuations responses + 1) (length pieces) → took ++ left ≡ joined_pieces (take at pieces) → (was ≡ false → 0 < length left) → HasRoom was begun given
    → IsOver begun given → AllDueTaken pieces responses took → ⊥
not_all_taken true pieces responses at begun given took left place taken some room over same = room over
not_all_taken false pieces responses at begun given took left place taken some room over same =
    lacking took left (joined_pieces (take at pieces)) (some refl) taken (same ∙ ap joined_pieces (take_min pieces (continuations responses + 1) at place))

-- a response came
pub heard : {xs ys : List Event} {pieces : List (List ℕ)} {before mid after : Octets} {responses : List Response} {at : ℕ} {was has : Bool} (begun : ℕ) (up : Bool) (w : Response)
    → begun + length before.octets ≡ before.given → at ≡ min (continuations responses + 1) (length pieces) → up ≡ was → Course pieces before mid responses at was has xs
    → ReadsResponse begun was up mid after (Ok w) ys → Heard pieces before after responses w at up has (xs ++ ys)
heard {xs} {ys} {pieces} {before} {mid} {after} {responses} {at} {was} {has} begun up w from place same c r =
    record {
      taken_is = c.taken_is;
      speaks = spoken_more ys pieces before was up r.talk r.gave c.speaks r.ended r.said (awaited ys begun was up from place c r.ended r.said r.needed);
      remaining = mid.octets ++ r.gave;
      passed = passed_more before mid c.speaks.gave r.gave c.passed;
      begins = (r.reads.0, after.octets, r.reads.1, r.reads.2, refl);
      given = omega (arith, r.reads.3, c.given, length-append c.speaks.gave r.gave);
      left = c.left;
      taken = c.taken;
      all_taken = λ is. c.all_taken (sym same ∙ is);
      some_left = λ is. c.some_left (sym same ∙ is);
    }

-- out of memory
pub wanting : {xs : List Event} {pieces : List (List ℕ)} {before : Octets} {up has : Bool} (tag : List ℕ) (after : Octets) (s : Speaks pieces before up xs)
    → has ≡ is_some_taken s.took → Converses tag pieces before after up has (Err end.Memory) xs
wanting tag after s is = record { speaks = s; taken_is = is; comes = tt; held = tt }

-- no response came
pub unheard : {xs ys : List Event} {pieces : List (List ℕ)} {before mid : Octets} {responses : List Response} {at : ℕ} {was has : Bool} (tag : List ℕ) (begun : ℕ)
    (after : Octets) (up : Bool) (e : LinkEnd) → begun + length before.octets ≡ before.given → at ≡ min (continuations responses + 1) (length pieces) → Course pieces before mid responses at was has xs
    → ReadsResponse begun was up mid after (Err e) ys
    → Converses tag pieces before after up has (Err e) (xs ++ ys)
unheard {xs} {ys} {pieces} {before} {mid} {responses} {at} {was} {has} tag begun after up end.Lost from place c r =
    record {
      speaks = spoken_more ys pieces before was up r.talk r.gave c.speaks r.ended r.said (awaited ys begun was up from place c r.ended r.said r.needed);
      taken_is = c.taken_is;
      comes = inl (
        record { responses = responses; remaining = mid.octets ++ r.gave; passed = passed_more before mid c.speaks.gave r.gave c.passed; decided = r.reads.0 },
        λ over. not_all_taken was pieces responses at begun (mid.given + length r.gave) c.speaks.took c.left place c.taken c.some_left r.reads.1
            (over_of begun before mid c.speaks.gave r.gave from c.given over),
      );
      held = tt;
    }
unheard {xs} {ys} {pieces} {before} {mid} {responses} {at} {was} {has} tag begun after up end.TooMuch from place c r =
    record {
      speaks = spoken_more ys pieces before was up r.talk r.gave c.speaks r.ended r.said (awaited ys begun was up from place c r.ended r.said r.needed);
      taken_is = c.taken_is;
      comes = (
        record { responses = responses; remaining = mid.octets ++ r.gave; passed = passed_more before mid c.speaks.gave r.gave c.passed; decided = r.reads.0 },
        too_much_of begun before mid c.speaks.gave r.gave from c.given r.reads.1,
        due_taken pieces responses at c.speaks.took c.left place c.taken (c.all_taken r.reads.2),
      );
      held = tt;
    }
unheard {xs} {ys} {pieces} {before} {mid} {responses} {at} {was} {has} tag begun after up (end.Bad offset) from place c r =
    record {
      speaks = spoken_more ys pieces before was up r.talk r.gave c.speaks r.ended r.said (awaited ys begun was up from place c r.ended r.said r.needed);
      taken_is = c.taken_is;
      comes = (
        length (before.octets ++ (c.speaks.gave ++ r.gave)) - length (mid.octets ++ r.gave),
        record {
          responses = responses;
          remaining = mid.octets ++ r.gave;
          passed = passed_more before mid c.speaks.gave r.gave c.passed;
          decided = (r.reads.0, r.reads.1, omega (arith, within));
        },
        omega (arith, within, r.reads.2, c.given, length-append before.octets (c.speaks.gave ++ r.gave), length-append c.speaks.gave r.gave),
      );
      held = (
        parts.0,
        parts.1 ∙ ap (λ (l : List ℕ). parts.0 ++ l) (sym r.reads.3),
        place_held,
      );
    }
  where
    within : length (mid.octets ++ r.gave) ≤ length (before.octets ++ (c.speaks.gave ++ r.gave))
    within = let passed = passed_more before mid c.speaks.gave r.gave c.passed in Begins-length responses _ _ passed.spelled

    parts : (front : List ℕ) × (before.octets ++ (c.speaks.gave ++ r.gave) ≡ front ++ (mid.octets ++ r.gave))
    parts = let passed = passed_more before mid c.speaks.gave r.gave c.passed in Begins-parts responses _ _ passed.spelled

    place_held : offset + length before.octets ≡ before.given + length parts.0
    place_held = omega (
      arith,
      r.reads.2,
      c.given,
      ap length parts.1,
      length-append before.octets (c.speaks.gave ++ r.gave),
      length-append c.speaks.gave r.gave,
      length-append parts.0 (mid.octets ++ r.gave),
    )
unheard {xs} {ys} {pieces} {before} {mid} {responses} {at} {was} {has} tag begun after up end.Memory from place c r =
    wanting tag after (spoken_more ys pieces before was up r.talk r.gave c.speaks r.ended r.said (awaited ys begun was up from place c r.ended r.said r.needed)) c.taken_is
unheard tag begun after up end.Stray from place c r = absurd r.reads
unheard tag begun after up end.Bye from place c r = absurd r.reads
unheard tag begun after up end.Refused from place c r = absurd r.reads
unheard tag begun after up end.NoQresync from place c r = absurd r.reads
unheard tag begun after up end.Lacks from place c r = absurd r.reads

-- one open response more
pub opened : {r : Response} {es : List Event} {pieces : List (List ℕ)} {before after : Octets} {responses : List Response} {at : ℕ} {up has : Bool} (w : Response) → r ≡ w → IsOpen w
    → Heard pieces before after responses w at up has es → Course pieces before after (responses ++ r ∷ []) at up has es
opened {r} {es} {pieces} {before} {after} {responses} {at} {up} {has} w is here h =
    let so : Course pieces before after (responses ++ w ∷ []) at up has es =
    record {
      speaks = h.speaks;
      taken_is = h.taken_is;
      passed = Passes-push w h.passed here h.begins;
      given = h.given;
      left = h.left;
      taken = h.taken;
      all_taken = h.all_taken;
      some_left = h.some_left;
    } in
    subst (λ (v : Response). Course pieces before after (responses ++ v ∷ []) at up has es) (sym is) so

-- how many continuations came, with one response more
pub one_not_continue : (responses : List Response) (w : Response) → is_continue w ≡ false → continuations (responses ++ w ∷ []) ≡ continuations responses
one_not_continue responses w is = sum_by-append _ responses (w ∷ []) ∙ grind (arith, nat_tests)

-- with one continuation more, the continuations are one more
pub one_continue : (responses : List Response) → continuations (responses ++ Continue ∷ []) ≡ continuations responses + 1
one_continue responses = sum_by-append _ responses (Continue ∷ [])

-- what is left of the pieces, where a further one was offered
record Left (up now : Bool) (left took after piece : List ℕ) : Type 0 where
  joined : took ++ (left ++ after) ≡ left ++ piece
  all_taken : now ≡ true → left ++ after ≡ []
  some_left : now ≡ false → 0 < length (left ++ after)

left_more : {zs : List Event} {had has : Bool} (up now : Bool) (left piece : List ℕ) (o : Offers up now had has piece zs) → (up ≡ true → left ≡ []) → (up ≡ false → 0 < length left)
    → Left up now left o.took o.left piece
left_more true now left piece o all some =
    let none : left ≡ [] = all refl in
    record {
      joined = subst (λ (l : List ℕ). o.took ++ (l ++ o.left) ≡ l ++ piece) (sym none) o.whole;
      all_taken = λ is. (λ i. none i ++ o.all_taken is i);
      some_left = λ is. omega (arith, o.some_left refl is, length-append left o.left);
    }
left_more false now left piece o all some =
    let took_none : [] ≡ o.took = ap (λ (l : List Event). flat_map store_took_in l) (sym o.ended.1) ∙ o.said.took_is in
    record {
      joined = ap (λ (l : List ℕ). l ++ (left ++ o.left)) (sym took_none) ∙ ap (λ (l : List ℕ). left ++ l) (ap (λ (l : List ℕ). l ++ o.left) took_none ∙ o.whole);
      all_taken = λ is. absurd (cc (is, o.ended.2));
      some_left = λ is. omega (arith, some refl, length-append left o.left);
    }

-- a continuation came, and the next piece was offered
pub continued : {xs zs : List Event} {pieces : List (List ℕ)} {before after : Octets} {responses : List Response} {at : ℕ} {up had : Bool} (w : Response) (place : ℕ)
    (now has : Bool) → w ≡ Continue → at ≡ min (continuations responses + 1) (length pieces) → place ≡ min (at + 1) (length pieces) → Heard pieces before after responses w at up had xs
    → Offers up now had has (piece_at pieces at) zs → Course pieces before after (responses ++ Continue ∷ []) place now has (xs ++ zs)
continued {xs} {zs} {pieces} {before} {after} {responses} {at} {up} {had} w place now has is here there h o =
    let left = left_more up now h.left (piece_at pieces at) o h.all_taken h.some_left in
    let is_open : IsOpen w = subst IsOpen (sym is) tt in
    let passed = Passes-push w h.passed is_open h.begins in
    let counted : continuations (responses ++ w ∷ []) ≡ continuations responses + 1 = ap (λ (r : Response). continuations (responses ++ r ∷ [])) is ∙ one_continue responses in
    let whole : h.speaks.took ++ (o.took ++ (h.left ++ o.left)) ≡ joined_pieces (take (at + 1) pieces) =
    ap (λ (l : List ℕ). h.speaks.took ++ l) left.joined ∙ sym (append_assoc h.speaks.took h.left (piece_at pieces at)) ∙ ap (λ (l : List ℕ). l ++ piece_at pieces at) h.taken ∙ sym
    (joined_more pieces at) in
    let to_place : take (at + 1) pieces ≡ take place pieces = take_min pieces (at + 1) place there in
    let due : pieces_due pieces (responses ++ w ∷ []) ≡ take place pieces = take_min pieces (continuations (responses ++ w ∷ []) + 1) place (omega (arith, here, there, counted)) in
    let within : h.speaks.took ++ (o.took ++ (h.left ++ o.left)) ≡ joined_pieces (pieces_due pieces (responses ++ w ∷ [])) = whole ∙ ap joined_pieces (to_place ∙ sym due) in
    let so : Course pieces before after (responses ++ w ∷ []) place now has (xs ++ zs) = record {
      taken_is = taken_more had has h.speaks.took o.took h.taken_is o.some_taken;
      speaks = record {
        talk = h.speaks.talk ++ o.talk;
        gave = h.speaks.gave;
        took = h.speaks.took ++ o.took;
        ended = ends_append up now xs h.speaks.talk zs o.talk h.speaks.ended o.ended;
        said = subst (λ (g : List ℕ). Talk g (h.speaks.took ++ o.took) (h.speaks.talk ++ o.talk)) (append-nil h.speaks.gave) (Talk-append h.speaks.said o.said);
        paced = paced_writing o.took (h.left ++ o.left) o.talk h.speaks.said h.speaks.paced o.said passed within;
        needed = reads_append (Awaits pieces before) o.talk h.speaks.said h.speaks.needed
            (reads_taking (λ x t. Awaits pieces before (h.speaks.gave ++ x) (h.speaks.took ++ t)) o.said);
      };
      passed = passed;
      given = h.given;
      left = h.left ++ o.left;
      taken = append_assoc h.speaks.took o.took (h.left ++ o.left) ∙ whole ∙ ap joined_pieces to_place;
      all_taken = left.all_taken;
      some_left = left.some_left;
    } in
    subst (λ (r : Response). Course pieces before after (responses ++ r ∷ []) place now has (xs ++ zs)) is so

-- a fault that came before or now
pub rose_later : (up : Bool) (a b c : ℕ) → (up ≡ false → Rose a b) → (up ≡ true → Rose b c) → a ≤ b → b ≤ c → Rose a c
rose_later true a b c before now first second = omega (arith, now refl, first)
rose_later false a b c before now first second = omega (arith, before refl, second)

-- ---- its end

-- a status that settles the exchange as the code tests it
pub settles_of : (pieces : List (List ℕ)) (responses : List Response) (all_due : Bool) (s : Status) → (all_due ≡ true → AreAllDue pieces responses) → SettlesNow all_due s
    → EndsExchange pieces responses s
settles_of pieces responses all_due status.Ok due settles = due settles
settles_of pieces responses all_due status.No due settles = tt
settles_of pieces responses all_due status.Bad due settles = tt
settles_of pieces responses all_due status.Preauth due settles = tt
settles_of pieces responses all_due status.Bye due settles = tt

-- the place is the last, or not
pub at_end : (at n : ℕ) → nat_eq at n ≡ true → at ≡ n
at_end at n is = grind (arith, nat_tests)

pub not_end : (at n : ℕ) → nat_eq at n ≡ false → at ≢ n
not_end at n is = grind (arith, nat_tests)

-- all pieces are due at the last place
pub due_at_end : (pieces : List (List ℕ)) (responses : List Response) (at : ℕ) → at ≡ min (continuations responses + 1) (length pieces) → at ≡ length pieces
    → AreAllDue pieces responses
due_at_end pieces responses at place end = omega (arith, place, end)

-- the verdict of a tagged line
done_verdict : {es : List Event} {pieces : List (List ℕ)} {before after : Octets} {responses : List Response} {at : ℕ} {up has : Bool} (tag : List ℕ) (w : Response) (s : Status)
    (code : Code) (h : Heard pieces before after responses w at up has es) → w ≡ Tagged tag s code → EndsExchange pieces responses s → IsVerdict tag pieces
    (before.octets ++ h.speaks.gave)
    (Done responses s code after.octets)
done_verdict {after = after} {responses} tag w s code h is settles =
    record {
      responses = responses;
      remaining = h.remaining;
      passed = h.passed;
      decided = (refl, subst (λ (r : Response). Begins (r ∷ []) after.octets h.remaining) is h.begins, settles);
    }

-- what was taken of a command that is answered
taken_of : (pieces : List (List ℕ)) (responses : List Response) (at : ℕ) (up : Bool) (s : Status) (took left : List ℕ) → at ≡ min (continuations responses + 1) (length pieces)
    → took ++ left ≡ joined_pieces (take at pieces) → (up ≡ true → left ≡ []) → is_settled_by up s ≡ true → EndsExchange pieces responses s → IsTaken pieces responses s took
taken_of pieces responses at up status.Ok took left place taken all settled due =
    sym (append-nil took) ∙ ap (λ (l : List ℕ). took ++ l) (sym (all settled)) ∙ taken ∙ ap joined_pieces (take_all at pieces (omega (arith, place, due)))
taken_of pieces responses at up status.No took left place taken all settled due = (left, taken ∙ ap joined_pieces (sym (take_min pieces (continuations responses + 1) at place)))
taken_of pieces responses at up status.Bad took left place taken all settled due = (left, taken ∙ ap joined_pieces (sym (take_min pieces (continuations responses + 1) at place)))
taken_of pieces responses at up status.Preauth took left place taken all settled due =
    (left, taken ∙ ap joined_pieces (sym (take_min pieces (continuations responses + 1) at place)))
taken_of pieces responses at up status.Bye took left place taken all settled due = (left, taken ∙ ap joined_pieces (sym (take_min pieces (continuations responses + 1) at place)))

-- the tagged line answers the command
pub done : {es : List Event} {pieces : List (List ℕ)} {before after : Octets} {responses : List Response} {at : ℕ} {up has : Bool} (tag : List ℕ) (w : Response) (s : Status)
    (code : Code) → at ≡ min (continuations responses + 1) (length pieces) → w ≡ Tagged tag s code → SettlesNow (nat_eq at (length pieces)) s → is_settled_by up s ≡ true
    → Heard pieces before after responses w at up has es → Converses tag pieces before after up has (Ok (record { responses = responses; status = s; code = code })) es
done {pieces = pieces} {before} {after} {responses} {at} {up} tag w s code place is now settled h =
    let settles = settles_of pieces responses (nat_eq at (length pieces)) s (λ all. due_at_end pieces responses at place (at_end at (length pieces) all)) now in
    record {
      speaks = h.speaks;
      taken_is = h.taken_is;
      comes = (
        done_verdict tag w s code h is settles,
        taken_of pieces responses at up s h.speaks.took h.left place h.taken h.all_taken settled settles,
        h.given,
        refused up s settled,
        λ is. sym (append-nil h.speaks.took) ∙ ap (λ (l : List ℕ). h.speaks.took ++ l) (sym (h.all_taken is)) ∙ h.taken ∙ ap joined_pieces
            (sym (take_min pieces (continuations responses + 1) at place)),
      );
      held = tt;
    }
  where
    refused : (up : Bool) (s : Status) → is_settled_by up s ≡ true → up ≡ false → s ≢ status.Ok
    refused up status.Ok settled down = absurd (cc (settled, down))
    refused up status.No settled down = λ is. cc
    refused up status.Bad settled down = λ is. cc
    refused up status.Preauth settled down = λ is. cc
    refused up status.Bye settled down = λ is. cc

-- an OK to a command that wasn't taken whole
pub not_whole : {es : List Event} {pieces : List (List ℕ)} {before after : Octets} {responses : List Response} {at : ℕ} {up has : Bool} (tag : List ℕ) (w : Response) (s : Status)
    (code : Code) → at ≡ min (continuations responses + 1) (length pieces) → w ≡ Tagged tag s code → SettlesNow (nat_eq at (length pieces)) s → is_settled_by up s ≡ false
    → Heard pieces before after responses w at up has es → Converses tag pieces before after up has (Err end.Lost) es
not_whole {pieces = pieces} {before} {after} {responses} {at} {up} tag w status.Ok code place is now settled h =
    let due = due_at_end pieces responses at place (at_end at (length pieces) now) in
    let whole : joined_pieces (take at pieces) ≡ joined_pieces pieces = ap joined_pieces (take_all at pieces (omega (arith, place, due))) in
    record {
      speaks = h.speaks;
      taken_is = h.taken_is;
      comes = inr (
        responses,
        code,
        after.octets,
        done_verdict tag w status.Ok code h is due,
        λ same. lacking h.speaks.took h.left (joined_pieces pieces) (h.some_left settled)
            (h.taken ∙ whole) same,
      );
      held = tt;
    }
not_whole tag w status.No code place is now settled h = absurd (cc settled)
not_whole tag w status.Bad code place is now settled h = absurd (cc settled)
not_whole tag w status.Preauth code place is now settled h = absurd (cc settled)
not_whole tag w status.Bye code place is now settled h = absurd (cc settled)

-- a response that ends the life
pub ends : {es : List Event} {pieces : List (List ℕ)} {before after : Octets} {responses : List Response} {at : ℕ} {up has : Bool} (tag : List ℕ) (w : Response) (e : LinkEnd)
    → at ≡ min (continuations responses + 1) (length pieces) → Judges w tag (nat_eq at (length pieces)) (turn.Ends e) → Heard pieces before after responses w at up has es
    → Converses tag pieces before after up has (Err e) es
ends {pieces = pieces} {before} {after} {responses} {at} {up} tag w end.Stray place (other, s, code, is, why) h =
    record {
      speaks = h.speaks;
      taken_is = h.taken_is;
      comes = record {
        responses = responses;
        remaining = h.remaining;
        passed = h.passed;
        decided = (other, s, code, after.octets, subst (λ (r : Response). Begins (r ∷ []) after.octets h.remaining) is h.begins, because why);
      };
      held = tt;
    }
  where
    because : (other ≢ tag) ⊎ ((s ≡ status.Ok) × (nat_eq at (length pieces) ≡ false)) → (other ≢ tag) ⊎ ((s ≡ status.Ok) × (continuations responses + 1 < length pieces))
    because (inl differs) = inl differs
    because (inr (ok, not_all)) = inr (ok, omega (arith, place, not_end at (length pieces) not_all))
ends {pieces = pieces} {before} {after} {responses} {at} {up} tag w end.Bye place (code, is) h =
    record {
      speaks = h.speaks;
      taken_is = h.taken_is;
      comes = record {
        responses = responses;
        remaining = h.remaining;
        passed = h.passed;
        decided = (code, after.octets, subst (λ (r : Response). Begins (r ∷ []) after.octets h.remaining) is h.begins);
      };
      held = tt;
    }
ends tag w end.Lost place never h = absurd never
ends tag w (end.Bad at) place never h = absurd never
ends tag w end.TooMuch place never h = absurd never
ends tag w end.Refused place never h = absurd never
ends tag w end.NoQresync place never h = absurd never
ends tag w end.Lacks place never h = absurd never
ends tag w end.Memory place never h = absurd never

-- nothing was said, and memory ran out
pub silent : (tag : List ℕ) (pieces : List (List ℕ)) (before after : Octets) → Converses tag pieces before after true false (Err end.Memory) []
silent tag pieces before after = record {
  speaks = record {
    talk = [];
    gave = [];
    took = [];
    ended = refl;
    said = Talk-none;
    paced = paced_none pieces before.octets;
    needed = reads_none (Awaits pieces before);
  };
  taken_is = refl;
  comes = tt;
  held = tt;
}
