-- A link life, exchange by exchange.
use Rattle.std.proofs.Common.{◌≡◌, ◌++◌, ◌+◌, ℕ, Bool, true, false, List, [], ◌∷◌, Option, None, Ok, Err, length, fold, refl, sym, ◌∙◌, ap, subst, append_assoc, length-append}
use Rattle.std.proofs.Common.{arith}
use Rattle.std.proofs.lemmas.List.{append-nil}
use Rattle.std.proofs.lemmas.List.Sums.{fold-append}
use Rattle.gate_world.specs.declared.event.Event.{Event}
use Rattle.gate_world.specs.declared.event.Event.TheVariants.{LinkEnded}
use Rattle.imap_types.specs.declared.command.Command.{Command}
use Rattle.imap_types.specs.declared.code.Code.{Code}
use Rattle.imap_types.specs.declared.response.Response.{Response}
use Rattle.imap_types.specs.declared.response.Response.TheVariants.{Tagged}
use Rattle.imap_types.specs.declared.response.Status.{Status}
use Rattle.imap_types.specs.Commands.{command_pieces, tag_of}
use Rattle.imap_exchange.specs.declared.link_end.LinkEnd.{LinkEnd}
use Rattle.imap_exchange.specs.declared.link_end.LinkEnd.TheVariants as end
use Rattle.told_folder.specs.declared.exchange.Exchange.{Exchange}
use Rattle.imap_exchange.specs.Received.{Octets}
use Rattle.imap_exchange.specs.Exchanges.{Done, IsVerdict, VerdictOf, IsTaken}
use Rattle.imap_client.specs.LinkLife.{with_part, hung_up, LinkLife, IsLife, IsExchange, Completed, ClientState, Stands, fresh, next_number, selected, selected_after, unread}
use Rattle.imap_client.specs.LinkLife.{with_exchange}
use Rattle.imap_client.specs.Unread.{LeavesUnread}
use Rattle.imap_client.specs.Capabilities.{special_use_after}
use Rattle.imap_exchange.specs.Answering.{selected_by, end_unless}
use Rattle.imap_exchange.specs.Answering.{Converses, HoldsUnread, answer_of, IsOf, HangsUp}
use Rattle.imap_client.specs.Calls.{IsExchanged, is_torn}
use Rattle.imap_exchange.proofs.Verdicts.{Begins-more, Begins-parts, Passes-more}

-- further octets after a tagged line
pub verdict_more : {tag : List ℕ} {pieces : List (List ℕ)} {octets rest : List ℕ} {responses : List Response} {s : Status} {code : Code} (g : List ℕ) → IsVerdict tag pieces octets
    (Done responses s code rest) → IsVerdict tag pieces (octets ++ g) (Done responses s code (rest ++ g))
verdict_more {tag} {pieces} {octets} {rest} {responses} {s} {code} g v =
    record {
      responses = v.responses;
      remaining = v.remaining ++ g;
      passed = Passes-more g v.passed;
      decided = (v.decided.0, Begins-more (Tagged tag s code ∷ []) rest v.remaining g v.decided.1, v.decided.2);
    }

exchange_more : {n : ℕ} {x : Exchange} {rest gave took : List ℕ} (g : List ℕ) → IsExchange n x rest gave took → IsExchange n x (rest ++ g) (gave ++ g) took
exchange_more g so = record { verdict = verdict_more g so.verdict; taken = so.taken }

-- one exchange more
completed_more : (n : ℕ) (xs : List Exchange) (x : Exchange) (rest gave took g rest' t : List ℕ) → Completed n xs rest gave took → IsExchange (n + length xs) x rest' (rest ++ g) t
    → Completed n (xs ++ x ∷ []) rest' (gave ++ g) (took ++ t)
completed_more n [] x rest gave took g rest' t (gave_is, took_is) so =
    let here = subst (λ (k : ℕ). IsExchange k x rest' (rest ++ g) t) (omega arith) so in
    (rest', t, [], subst (λ (l : List ℕ). IsExchange n x rest' (l ++ g) t) (sym gave_is) here, ap (λ (l : List ℕ). l ++ t) took_is ∙ sym (append-nil t), (refl, refl))
completed_more n (y ∷ xs) x rest gave took g rest' t (remaining, first, others, here, took_is, more) so =
    let next : IsExchange (n + 1 + length xs) x rest' (rest ++ g) t = subst (λ (k : ℕ). IsExchange k x rest' (rest ++ g) t) (omega arith) so in (
      remaining ++ g,
      first,
      others ++ t,
      exchange_more g here,
      ap (λ (l : List ℕ). l ++ t) took_is ∙ append_assoc first others t,
      completed_more
          (n + 1) xs x rest remaining others g rest' t more next,
    )

-- further octets after the last exchange
completed_rest : (n : ℕ) (xs : List Exchange) (rest gave took g : List ℕ) → Completed n xs rest gave took → Completed n xs (rest ++ g) (gave ++ g) took
completed_rest n [] rest gave took g (gave_is, took_is) = (ap (λ (l : List ℕ). l ++ g) gave_is, took_is)
completed_rest n (x ∷ xs) rest gave took g (remaining, first, others, here, took_is, more) =
    (remaining ++ g, first, others, exchange_more g here, took_is, completed_rest (n + 1) xs rest remaining others g more)

life_more : (life : LinkLife) (gave took rest : List ℕ) (x : Exchange) (up : Bool) → life.goes_on ≡ true → IsLife life → IsExchange (next_number life) x rest
    (life.rest ++ gave) took
    → IsLife (with_exchange life gave took x rest up)
life_more life gave took rest x up on so here =
    record {
      remaining = so.remaining ++ gave;
      greeted = Begins-more (life.greeting ∷ []) so.remaining life.gave gave so.greeted;
      completed = completed_more 1 life.exchanges x life.rest so.remaining life.took gave rest took so.completed
          (subst (λ (k : ℕ). IsExchange k x rest (life.rest ++ gave) took) (omega arith) here);
      whole = λ _. so.whole on;
    }

-- a life that ended while a command was taken in part
life_part : (life : LinkLife) (gave took : List ℕ) → IsLife life → IsLife (with_part life gave took)
life_part life gave took so =
    record {
      remaining = so.remaining ++ gave;
      greeted = Begins-more (life.greeting ∷ []) so.remaining life.gave gave so.greeted;
      completed = completed_rest 1 life.exchanges life.rest so.remaining life.took gave so.completed;
      whole = λ never. absurd (cc never);
    }

-- octets that spell a life still spell it when it is hung up
pub life_hung : (life : LinkLife) → IsLife life → IsLife (hung_up life)
life_hung life so = record { remaining = so.remaining; greeted = so.greeted; completed = so.completed; whole = λ never. absurd (cc never) }

-- ---- what stays unread

-- octets that begin with some octets and more begin with all of them
parts_more : (a front mid more rest : List ℕ) → a ≡ front ++ mid → mid ≡ more ++ rest → a ≡ (front ++ more) ++ rest
parts_more a front mid more rest first second = first ∙ ap (λ (l : List ℕ). front ++ l) second ∙ sym (append_assoc front more rest)

-- what no completed exchange has stands at the end of what the store gave
completed_parts : (n : ℕ) (xs : List Exchange) (rest gave took : List ℕ) → Completed n xs rest gave took → (front : List ℕ) × (gave ≡ front ++ rest)
completed_parts n [] rest gave took (gave_is, took_is) = ([], gave_is)
completed_parts n (x ∷ xs) rest gave took (remaining, first, others, here, took_is, more) =
    let v = here.verdict in
    let open_ones = Begins-parts v.responses v.remaining gave v.passed.spelled in
    let tagged = Begins-parts (Tagged (tag_of n) x.status x.code ∷ []) remaining v.remaining v.decided.1 in
    let later = completed_parts (n + 1) xs rest remaining others more in (
      (open_ones.0 ++ tagged.0) ++ later.0,
      parts_more gave (open_ones.0 ++ tagged.0) remaining later.0 rest (parts_more gave open_ones.0 v.remaining tagged.0 remaining open_ones.1 tagged.1) later.1,
    )

life_parts : (life : LinkLife) → IsLife life → (front : List ℕ) × (life.gave ≡ front ++ life.rest)
life_parts life so =
    let greeted = Begins-parts (life.greeting ∷ []) so.remaining life.gave so.greeted in
    let later = completed_parts 1 life.exchanges life.rest so.remaining life.took so.completed in
    (greeted.0 ++ later.0, parts_more life.gave greeted.0 so.remaining later.0 life.rest greeted.1 later.1)

-- what is held from an offset on, of octets that no completed exchange has, stands there in the life
leaves : (life : LinkLife) (gave : List ℕ) (after : Octets) (e : LinkEnd) → IsLife life → HoldsUnread (unread life) gave after (Err e)
    → LeavesUnread e (life.gave ++ gave) after.octets
leaves life gave after (end.Bad at) so (read, is, place) =
    let parts = life_parts life so in (
      parts.0 ++ read,
      parts_more (life.gave ++ gave) parts.0 (life.rest ++ gave) read after.octets
          (ap (λ (l : List ℕ). l ++ gave) parts.1 ∙ append_assoc parts.0 life.rest gave) is,
      omega (arith, place, ap length parts.1, length-append parts.0 life.rest, length-append parts.0 read),
    )
leaves life gave after end.Lost so held = tt
leaves life gave after end.Stray so held = tt
leaves life gave after end.Bye so held = tt
leaves life gave after end.TooMuch so held = tt
leaves life gave after end.Memory so held = tt
leaves life gave after end.Refused so held = tt
leaves life gave after end.NoQresync so held = tt
leaves life gave after end.Lacks so held = tt

-- ---- exchanges

-- what a client knows
abbrev pub place_of : Bool → Octets → ℕ → Option (List ℕ) → Bool → ClientState
place_of alive held number folder special = record { alive = alive; unread = held; number = number; selected = folder; special_use = special }

-- a client that isn't alive
pub stands_ended : (life : LinkLife) → life.goes_on ≡ false → IsLife life → Stands fresh life
stands_ended life is spelled =
    record {
      alive = sym is;
      selected_is = rw is refl;
      unread_is = λ on. absurd (cc (on, is));
      number_is = λ on. absurd (cc (on, is));
      special_use_is = λ on. absurd (cc (on, is));
      spelled = spelled;
    }

-- in a life that goes on the selected folder is the one that its exchanges leave selected
pub selected_of : (life : LinkLife) → life.goes_on ≡ true → selected life ≡ fold selected_after None life.exchanges
selected_of life is = rw is refl

-- the exchange by the life's own words
goes_ok : {es : List Event} (life : LinkLife) → life.goes_on ≡ true → (command : Command) (x : Exchange) (n : ℕ) (before after : Octets) (up taken : Bool) (client : ClientState)
    (folder : Option (List ℕ)) → n ≡ next_number life → before ≡ unread life → folder ≡ selected life → x.command ≡ command → x.selected ≡ folder → Converses (tag_of n)
    (command_pieces command n) before after up taken (Ok (record { responses = x.responses; status = x.status; code = x.code })) es
    → ((gave took : List ℕ) → IsExchange (next_number life) x after.octets (life.rest ++ gave) took → after.given ≡ length life.gave + length gave → Stands client
    (with_exchange life gave took x after.octets up)) → (left : LinkLife) × IsExchanged life command left client (Ok x) es × (false ≡ is_torn (Ok x) left)
goes_ok {es} life on command x n before after up taken client folder n_is before_is folder_is command_is selected_is so stands =
    let there : Converses (tag_of (next_number life)) (command_pieces command (next_number life)) (unread life) after up taken
    (Ok (record { responses = x.responses; status = x.status; code = x.code })) es =
    subst (λ (u : Octets). Converses (tag_of (next_number life)) (command_pieces command (next_number life)) u after up taken
    (Ok (record { responses = x.responses; status = x.status; code = x.code })) es) before_is
    (subst (λ (k : ℕ). Converses (tag_of k) (command_pieces command k) before after up taken (Ok (record { responses = x.responses; status = x.status; code = x.code })) es) n_is
    so) in
    let verdict : VerdictOf (next_number life) x.command (life.rest ++ there.speaks.gave) (Done x.responses x.status x.code after.octets) =
    subst (λ (c : Command). VerdictOf (next_number life) c (life.rest ++ there.speaks.gave) (Done x.responses x.status x.code after.octets)) (sym command_is) there.comes.0 in
    let part : IsTaken (command_pieces x.command (next_number life)) x.responses x.status there.speaks.took =
    subst (λ (c : Command). IsTaken (command_pieces c (next_number life)) x.responses x.status there.speaks.took) (sym command_is) there.comes.1 in (
      with_exchange life there.speaks.gave there.speaks.took x after.octets up,
      record {
        ends = record {
          on = on;
          speaks = there.speaks;
          rest = after.octets;
          after_is = refl;
          command_is = command_is;
          selected_is = selected_is ∙ folder_is;
          verdict = there.comes.0;
          taken = there.comes.1;
          refused = there.comes.3;
          all_taken = there.comes.4;
        };
        stands = stands there.speaks.gave there.speaks.took (record { verdict = verdict; taken = part }) there.comes.2;
      },
      refl,
    )

-- the life goes on
pub goes_on : {es : List Event} (life : LinkLife) (command : Command) (x : Exchange) (now folder : Option (List ℕ)) (special : Bool) (n : ℕ) (alive up taken : Bool)
    (before after : Octets) → alive ≡ true → up ≡ true → Stands (place_of alive before n folder special) life → IsOf command folder x now → Converses (tag_of n) (command_pieces command n) before after up taken
    (answer_of (Ok (x, now))) es → (left : LinkLife) × IsExchanged life command left (place_of alive after (n + 1) now (special_use_after special x)) (Ok x) es
    × (false ≡ is_torn (Ok x) left)
goes_on life command x now folder special n alive up taken before after is_alive is_up stands of so =
    let on : life.goes_on ≡ true = sym stands.alive ∙ is_alive in
    goes_ok life on command x n before after up taken (place_of alive after (n + 1) now (special_use_after special x)) folder (stands.number_is on)
    (stands.unread_is on) stands.selected_is of.command_is of.selected_is so (λ gave took here given.
    let next = with_exchange life gave took x after.octets up in
    record {
      alive = is_alive ∙ sym is_up;
      selected_is = of.now_is ∙ (λ i. selected_after_by (of.command_is) (stands.selected_is ∙ selected_of life on) i) ∙ sym
          (fold-append selected_after None life.exchanges (x ∷ [])) ∙ sym (selected_of next is_up);
      unread_is = λ _. (λ i. record { octets = after.octets; given = (given ∙ sym (length-append life.gave gave)) i });
      number_is = λ _. ap (λ (k : ℕ). k + 1) (stands.number_is on ∙ sym (length-append life.exchanges (x ∷ [])));
      special_use_is = λ _. ap (λ (b : Bool). special_use_after b x) (stands.special_use_is on)
          ∙ sym (fold-append special_use_after false life.exchanges (x ∷ []));
      spelled = life_more life gave took after.octets x up on stands.spelled here;
    })
  where
    selected_after_by : {folder' : Option (List ℕ)} → x.command ≡ command → folder ≡ folder' → selected_by command x.status folder ≡ selected_after folder' x
    selected_after_by same same' = (λ i. selected_by (sym same i) x.status (same' i))

-- the store refused while the link failed
pub goes_down : {es : List Event} (life : LinkLife) (command : Command) (x : Exchange) (now folder : Option (List ℕ)) (special : Bool) (n : ℕ) (alive up taken : Bool)
    (before after : Octets) → alive ≡ true → up ≡ false → Stands (place_of alive before n folder special) life → IsOf command folder x now → Converses (tag_of n) (command_pieces command n) before after up taken
    (answer_of (Ok (x, now))) es → (left : LinkLife) × IsExchanged life command left fresh (Ok x) es × (false ≡ is_torn (Ok x) left)
goes_down life command x now folder special n alive up taken before after is_alive is_down stands of so =
    let on : life.goes_on ≡ true = sym stands.alive ∙ is_alive in
    goes_ok life on command x n before after up taken fresh folder (stands.number_is on) (stands.unread_is on) stands.selected_is of.command_is of.selected_is so
    (λ gave took here given. stands_ended (with_exchange life gave took x after.octets up) is_down (life_more life gave took after.octets x up on stands.spelled here))

-- the exchange isn't completed
pub goes_not : {xs : List Event} (ys : List Event) (life : LinkLife) (command : Command) (e : LinkEnd) (folder : Option (List ℕ)) (special : Bool) (n : ℕ) (alive up taken : Bool)
    (before after : Octets) → alive ≡ true → Stands (place_of alive before n folder special) life → Converses (tag_of n) (command_pieces command n) before after up taken (Err e) xs → HangsUp up ys
    → (left : LinkLife) × IsExchanged life command left fresh (Err e) (xs ++ ys) × (taken ≡ is_torn (Err e) left) × LeavesUnread e left.gave after.octets
goes_not {xs} ys life command e folder special n alive up taken before after is_alive stands so hangs =
    let on : life.goes_on ≡ true = sym stands.alive ∙ is_alive in
    let there : Converses (tag_of (next_number life)) (command_pieces command (next_number life)) (unread life) after up taken (Err e) xs =
    subst (λ (u : Octets). Converses (tag_of (next_number life)) (command_pieces command (next_number life)) u after up taken (Err e) xs) (stands.unread_is on)
    (subst (λ (k : ℕ). Converses (tag_of k) (command_pieces command k) before after up taken (Err e) xs) (stands.number_is on) so) in (
      with_part life there.speaks.gave there.speaks.took,
      record {
        ends = record {
          on = on;
          speaks = record {
            talk = there.speaks.talk;
            gave = there.speaks.gave;
            took = there.speaks.took;
            ended = ended_by up there.speaks.talk there.speaks.ended hangs;
            said = there.speaks.said;
            paced = there.speaks.paced;
            needed = there.speaks.needed;
          };
          after_is = refl;
          cause = there.comes;
        };
        stands = stands_ended (with_part life there.speaks.gave there.speaks.took) refl (life_part life there.speaks.gave there.speaks.took stands.spelled);
      },
      there.taken_is,
      leaves life there.speaks.gave after e stands.spelled there.held,
    )
  where
    ended_by : (up : Bool) (talk : List Event) → xs ≡ talk ++ end_unless up → HangsUp up ys → xs ++ ys ≡ talk ++ LinkEnded ∷ []
    ended_by true talk is hung = (λ i. (is ∙ append-nil talk) i ++ hung i)
    ended_by false talk is none = ap (λ (l : List Event). xs ++ l) none ∙ append-nil xs ∙ is
