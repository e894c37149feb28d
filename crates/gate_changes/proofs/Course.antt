-- The items of a call, in a row or one by one, as the code does them.
use Rattle.std.proofs.Common.{◌≡◌, ◌≢◌, ◌∙◌, ◌++◌, ◌+◌, ◌<◌, ◌||◌, inl, inr, ℕ, Bool, true, false, List, [], ◌∷◌, Option, append-nil, append_assoc, length, map, take, drop, get_or, Result, Ok, Err, Vec, Global, refl, sym, ap, subst}
use Rattle.std.proofs.lemmas.List.{take_more, take-append-drop, map-append}
use Rattle.std.specs.Borrow.{Bor}
use Rattle.std.specs.BTreeSet.{BTreeSet}
use Rattle.gate_world.specs.Causes.{Faults}
use Rattle.gate_world.specs.Tape.{Adds}
use Rattle.gate_world.specs.declared.event.Event.{Event}
use Rattle.gate_world.proofs.Joins.{join, widen}
use Rattle.email_bodies.specs.Asking.{BodyAsk}
use Rattle.imap_client.specs.LinkLife.{ClientState}
use Rattle.jmap_arguments.specs.declared.method_error.MethodError.TheVariants.{ServerUnavailable}
use Rattle.gate_machine.specs.Progress.{CameTo, Progress}
use Rattle.gate_machine.specs.declared.machine.Machine.{Machine}
use Rattle.gate_machine.specs.declared.mail_status.MailStatus.TheVariants.{Stands}
use Rattle.set_jobs.specs.declared.done.Done.{Done}
use Rattle.jmap_core.specs.CreatedIds.{Ids}
use Rattle.set_order.specs.Ordered as spec
use Rattle.set_order.specs.reading.Creating.{HasKeys}
use Rattle.set_order.specs.reading.Items.{item_data}
use Rattle.set_order.specs.declared.item.Item.{Item}
use Rattle.set_items.specs.declared.item.ItemEnd.{ItemEnd}
use Rattle.set_items.specs.declared.item.ItemEnd.TheVariants.{Comes, OutOfMemory}
use Rattle.set_calls.specs.Calls.{SetCall}
use Rattle.set_calls.specs.declared.call.CallEnd.{CallEnd}
use Rattle.set_calls.specs.declared.call.CallEnd.TheVariants as ends
use Rattle.set_calls.specs.reading.Calling.{call_end, came_data, done_data}
use Rattle.set_methods.specs.Checks.{ImportRules, Rules}
use Rattle.set_methods.specs.declared.checks.SetChecks.{SetChecks}
use Rattle.set_methods.specs.declared.checks.SetChecks.TheVariants.{Email, Mailbox}
use Rattle.set_methods.specs.reading.Choosing.{rules_of}
use Rattle.gate_changes.specs.Changing.{AreInRow, InRow, OneByOne}
use Rattle.gate_changes.specs.Importing.{IsServing, TakesImport, DoesImports, NoImports, OutBefore, ImportDone, ImportEnds, NoRoom, before_these, ends_after, is_made}
use Rattle.gate_changes.specs.Items.{DoesItemsOver, ItemsCame}
use Rattle.gate_changes.specs.reading.Asking.{CourseCame, IsAtEnd, IsOver}
use Rattle.gate_changes.specs.reading.Imports.{ImportCame, end_after}
use Rattle.gate_changes.proofs.Taking.{import_over, serves}

-- ---- in a row

in_row : (checks : SetChecks) → AreInRow (rules_of checks)
in_row (Email uploads) = tt
in_row (Mailbox removes) = tt

at_end : (came : Result (Vec (Item × Done) Global) CallEnd) (machine : Machine) (client : ClientState) (was now : Faults) (mid : Progress) → CameTo machine client Stands was now mid
    → IsAtEnd came machine client was now mid
at_end (Ok done) machine client was now mid at = at
at_end (Err (ends.Fails e)) machine client was now mid at = at
at_end (Err ends.Memory) machine client was now mid at = record { in_life = at.in_life; bears = at.bears }

pub row_came : {call : SetCall} {items : List spec.Item} {before : Progress} {events : List Event} (checks : SetChecks) (came : Result (Vec (Item × Done) Global) CallEnd) (machine : Machine)
    (client : ClientState) (was now : Faults) → call.rules ≡ rules_of checks
    → (mid : Progress) × DoesItemsOver call items before (came_data came) events mid × CameTo machine client Stands was now mid
    → CourseCame call items before came machine client was now events
row_came checks came machine client was now rules (mid, does, at) =
    record {
      mid = mid;
      does = InRow (subst (λ (r : Rules). AreInRow r) (sym rules) (in_row checks)) does;
      at = at_end came machine client was now mid at;
    }

-- ---- one by one

-- what comes of all, where these were done first
abbrev pub after_these : List (spec.Item × Done) → ItemsCame → ItemsCame
after_these [] came = came
after_these (e ∷ es) came = before_these e (after_these es came)

abbrev pub made_by : Bool → List (spec.Item × Done) → Bool
made_by made [] = made
made_by made (e ∷ es) = made_by (made || is_made e.1) es

-- These imports were done up to here: what comes of those that are left comes of all, after these.
pub record AreDone (call : SetCall) (uploads : List (List ℕ)) (before : Progress) (done : List (spec.Item × Done)) (made : Bool) (events : List Event) (mid : Progress) : Type 0 where
  pub more : {items : List spec.Item} {came : ItemsCame} {later : List Event} {after : Progress} → DoesImports call uploads made mid items came later after
      → DoesImports call uploads false before (map (λ (e : spec.Item × Done). e.0) done ++ items) (after_these done came) (events ++ later) after

pub none_done : (call : SetCall) (uploads : List (List ℕ)) (before : Progress) → AreDone call uploads before [] false [] before
none_done call uploads before = record { more = λ imports. imports }

after_pushed : (done : List (spec.Item × Done)) (e : spec.Item × Done) (came : ItemsCame) → after_these (done ++ e ∷ []) came ≡ after_these done (before_these e came)
after_pushed [] e came = refl
after_pushed (x ∷ xs) e came = ap (before_these x) (after_pushed xs e came)

names_pushed : (done : List (spec.Item × Done)) (e : spec.Item × Done) (items : List spec.Item)
    → map (λ (x : spec.Item × Done). x.0) (done ++ e ∷ []) ++ items ≡ map (λ (x : spec.Item × Done). x.0) done ++ (e.0 ∷ items)
names_pushed [] e items = refl
names_pushed (x ∷ xs) e items = ap (λ (l : List spec.Item). x.0 ∷ l) (names_pushed xs e items)

-- one more
pub one_more : {call : SetCall} {uploads : List (List ℕ)} {before mid next : Progress} {done : List (spec.Item × Done)} {made : Bool} {events first : List Event} {asks : List BodyAsk}
    (item : spec.Item) (one : Done) → AreDone call uploads before done made events mid → TakesImport call uploads item mid asks (Comes one) first next
    → AreDone call uploads before (done ++ (item, one) ∷ []) (made || is_made one) (events ++ first) next
one_more {call = call} {uploads = uploads} {before = before} {done = done} {events = events} {first = first} item one are takes =
    record {
      more = λ {items} {came} {later} {after} imports.
          let all = are.more (ImportDone item one takes imports) in
          subst (λ (l : List spec.Item). DoesImports call uploads false before l (after_these (done ++ (item, one) ∷ []) came) ((events ++ first) ++ later) after)
          (sym (names_pushed done (item, one) items))
          (subst (λ (x : ItemsCame). DoesImports call uploads false before (map (λ (x : spec.Item × Done). x.0) done ++ (item ∷ items)) x ((events ++ first) ++ later) after)
          (sym (after_pushed done (item, one) came))
          (subst (λ (l : List Event). DoesImports call uploads false before (map (λ (x : spec.Item × Done). x.0) done ++ (item ∷ items)) (after_these done (before_these (item, one) came)) l after)
          (sym (append_assoc events first later)) all));
    }

after_end : (done : List (spec.Item × Done)) (e : ItemEnd) → after_these done (Err e) ≡ Err e
after_end [] e = refl
after_end (x ∷ xs) e = ap (before_these x) (after_end xs e)

after_none : (done : List (spec.Item × Done)) → after_these done (Ok []) ≡ Ok done
after_none [] = refl
after_none (x ∷ xs) = ap (before_these x) (after_none xs)

end_data : (made : Bool) (e : CallEnd) → call_end (end_after made e) ≡ ends_after made (call_end e)
end_data true (ends.Fails ServerUnavailable) = refl
end_data true (ends.Fails e) = refl
end_data true ends.Memory = refl
end_data false (ends.Fails e) = refl
end_data false ends.Memory = refl

-- all are done
pub all_done : {call : SetCall} {uploads : List (List ℕ)} {before mid : Progress} {done : List (spec.Item × Done)} {made : Bool} {events : List Event}
    → AreDone call uploads before done made events mid → IsServing call mid → DoesImports call uploads false before (map (λ (e : spec.Item × Done). e.0) done) (Ok done) events mid
all_done {call = call} {uploads = uploads} {before = before} {mid = mid} {done = done} {events = events} are here =
    subst (λ (l : List spec.Item). DoesImports call uploads false before l (Ok done) events mid) (append-nil (map (λ (e : spec.Item × Done). e.0) done))
    (subst (λ (r : ItemsCame). DoesImports call uploads false before (map (λ (e : spec.Item × Done). e.0) done ++ []) r events mid) (after_none done)
    (subst (λ (l : List Event). DoesImports call uploads false before (map (λ (e : spec.Item × Done). e.0) done ++ []) (after_these done (Ok [])) l mid) (append-nil events)
    (are.more (NoImports here))))

-- one ends the call
pub one_ends : {call : SetCall} {uploads : List (List ℕ)} {before mid after : Progress} {done : List (spec.Item × Done)} {made : Bool} {events last : List Event} {asks : List BodyAsk}
    (item : spec.Item) (later : List spec.Item) (ends : ItemEnd) → AreDone call uploads before done made events mid → ((x : Done) → ends ≢ Comes x)
    → TakesImport call uploads item mid asks ends last after
    → DoesImports call uploads false before (map (λ (e : spec.Item × Done). e.0) done ++ item ∷ later) (Err (ends_after made ends)) (events ++ last) after
one_ends {call = call} {uploads = uploads} {before = before} {after = after} {done = done} {made = made} {events = events} {last = last} item later ends are not takes =
    subst (λ (r : ItemsCame). DoesImports call uploads false before (map (λ (e : spec.Item × Done). e.0) done ++ item ∷ later) r (events ++ last) after) (after_end done (ends_after made ends))
    (are.more (ImportEnds item ends not takes))

-- memory runs out before the next one, or after the last
pub out_before : {call : SetCall} {uploads : List (List ℕ)} {before mid : Progress} {done : List (spec.Item × Done)} {made : Bool} {events : List Event} (items : List spec.Item)
    → AreDone call uploads before done made events mid → IsServing call mid
    → DoesImports call uploads false before (map (λ (e : spec.Item × Done). e.0) done ++ items) (Err OutOfMemory) events mid
out_before {call = call} {uploads = uploads} {before = before} {mid = mid} {done = done} {events = events} items are here =
    subst (λ (r : ItemsCame). DoesImports call uploads false before (map (λ (e : spec.Item × Done). e.0) done ++ items) r events mid) (after_end done OutOfMemory)
    (subst (λ (l : List Event). DoesImports call uploads false before (map (λ (e : spec.Item × Done). e.0) done ++ items) (after_these done (Err OutOfMemory)) l mid) (append-nil events)
    (are.more (OutBefore here)))

-- The loop's imports up to here: what was done of them, in which the machine and the client stand.
abbrev pub Imported : List (List ℕ) → Ids → BTreeSet (Bor (List ℕ)) → Machine → ClientState → Faults → List (spec.Item × Done) → Bool → Machine → ClientState → Faults → List Event → Type 0
Imported uploads created making first begun at_first done made machine client now events = (call : SetCall) (before : Progress) (was : Faults) → call.created ≡ created
    → HasKeys making call.making → call.rules ≡ ImportRules uploads → IsOver call before → CameTo first begun Stands was at_first before
    → (mid : Progress) × AreDone call uploads before done made events mid × IsOver call mid × CameTo machine client Stands was now mid

pub none_imported : (uploads : List (List ℕ)) (created : Ids) (making : BTreeSet (Bor (List ℕ))) (machine : Machine) (client : ClientState) (now : Faults)
    → Imported uploads created making machine client now [] false machine client now []
none_imported uploads created making machine client now call before was created_is keys rules over came = (before, none_done call uploads before, over, came)

-- ---- the loop

-- the code's import, in which the machine and the client stand after it
abbrev pub One : List (List ℕ) → Ids → BTreeSet (Bor (List ℕ)) → spec.Item → Machine → ClientState → Faults → Result Done CallEnd → Machine → ClientState → Faults → List Event → Type 0
One uploads created making item first begun at_first came machine client now events = (call : SetCall) (before : Progress) (was : Faults) → call.created ≡ created
    → HasKeys making call.making → IsOver call before → CameTo first begun Stands was at_first before → ImportCame call uploads item before came machine client was now events

-- what the code's imports came to
abbrev pub AllCame : List (List ℕ) → Ids → BTreeSet (Bor (List ℕ)) → List spec.Item → Machine → ClientState → Faults → Result (Vec (Item × Done) Global) CallEnd → Machine → ClientState → Faults
    → List Event → Type 0
AllCame uploads created making items first begun at_first came machine client now events = (call : SetCall) (before : Progress) (was : Faults) → call.created ≡ created
    → HasKeys making call.making → call.rules ≡ ImportRules uploads → IsOver call before → CameTo first begun Stands was at_first before
    → CourseCame call items before came machine client was now events

ends_at : (machine : Machine) (client : ClientState) (was now : Faults) (mid : Progress) (made : Bool) (e : CallEnd) → IsAtEnd (Err e) machine client was now mid
    → IsAtEnd (Err (end_after made e)) machine client was now mid
ends_at machine client was now mid true (ends.Fails ServerUnavailable) at = at
ends_at machine client was now mid true (ends.Fails e) at = at
ends_at machine client was now mid true ends.Memory at = at
ends_at machine client was now mid false (ends.Fails e) at = at
ends_at machine client was now mid false ends.Memory at = at

-- how an import ended the call, or that memory ran out before it
data Ended (call : SetCall) (uploads : List (List ℕ)) (item : spec.Item) (before : Progress) (e : CallEnd) (events : List Event) (after : Progress) : Type 0 where
  Tried : (asks : List BodyAsk) → TakesImport call uploads item before asks (call_end e) events after → Ended call uploads item before e events after
  Before : e ≡ ends.Memory → IsServing call before → events ≡ [] → after ≡ before → Ended call uploads item before e events after

ended : {call : SetCall} {uploads : List (List ℕ)} {item : spec.Item} {before : Progress} {events : List Event} (machine : Machine) (client : ClientState) (was now : Faults) (e : CallEnd)
    → ImportCame call uploads item before (Err e) machine client was now events
    → (after : Progress) × Ended call uploads item before e events after × IsAtEnd (Err e) machine client was now after
ended machine client was now (ends.Fails e) (asks, after, takes, at) = (after, Tried asks takes, at)
ended machine client was now ends.Memory (after, inl (asks, takes), at) = (after, Tried asks takes, at)
ended machine client was now ends.Memory (after, inr (inl lacks), at) = (after, Tried [] (NoRoom lacks), at)
ended machine client was now ends.Memory (after, inr (inr (here, none, same)), at) = (after, Before refl here none same, at)

not_done : (e : CallEnd) (done : Done) → call_end e ≢ Comes done
not_done (ends.Fails e) done is = cc
not_done ends.Memory done is = cc

-- so it ends them
ends_all : {call : SetCall} {uploads : List (List ℕ)} {before mid after : Progress} {done : List (spec.Item × Done)} {made : Bool} {events last : List Event} (item : spec.Item)
    (later : List spec.Item) (e : CallEnd) → AreDone call uploads before done made events mid → Ended call uploads item mid e last after
    → DoesImports call uploads false before (map (λ (x : spec.Item × Done). x.0) done ++ item ∷ later) (Err (call_end (end_after made e))) (events ++ last) after
ends_all {call = call} {uploads = uploads} {before = before} {after = after} {done = done} {made = made} {events = events} {last = last} item later e are (Tried asks takes) =
    subst (λ (x : ItemEnd). DoesImports call uploads false before (map (λ (x : spec.Item × Done). x.0) done ++ item ∷ later) (Err x) (events ++ last) after) (sym (end_data made e))
    (one_ends item later (call_end e) are (not_done e) takes)
ends_all {call = call} {uploads = uploads} {before = before} {mid = mid} {after = after} {done = done} {made = made} {events = events} {last = last} item later e are (Before is here none same) =
    let out : DoesImports call uploads false before (map (λ (x : spec.Item × Done). x.0) done ++ item ∷ later) (Err OutOfMemory) events mid = out_before (item ∷ later) are here in
    let end_is : OutOfMemory ≡ call_end (end_after made e) = sym (end_data made e ∙ ap (λ (x : CallEnd). ends_after made (call_end x)) is ∙ memory_after made) in
    let events_are : events ≡ events ++ last = sym (ap (λ (l : List Event). events ++ l) none ∙ append-nil events) in
    subst (λ (x : ItemEnd). DoesImports call uploads false before (map (λ (x : spec.Item × Done). x.0) done ++ item ∷ later) (Err x) (events ++ last) after) end_is
    (subst (λ (l : List Event). DoesImports call uploads false before (map (λ (x : spec.Item × Done). x.0) done ++ item ∷ later) (Err OutOfMemory) l after) events_are
    (subst (λ (q : Progress). DoesImports call uploads false before (map (λ (x : spec.Item × Done). x.0) done ++ item ∷ later) (Err OutOfMemory) events q) (sym same) out))
  where
    memory_after : (made : Bool) → ends_after made OutOfMemory ≡ OutOfMemory
    memory_after true = refl
    memory_after false = refl

module _ (uploads : List (List ℕ)) (created : Ids) (making : BTreeSet (Bor (List ℕ))) (first : Machine) (begun : ClientState) (at_first : Faults) where
  -- one more
  pub imported_more : {done : List (spec.Item × Done)} {made : Bool} {mid machine : Machine} {left client : ClientState} {then now : Faults} {es fs : List Event} (item : spec.Item) (came : Done)
      → Imported uploads created making first begun at_first done made mid left then es → One uploads created making item mid left then (Ok came) machine client now fs
      → Imported uploads created making first begun at_first (done ++ (item, came) ∷ []) (made || is_made came) machine client now (es ++ fs)
  imported_more item came so one call before was created_is keys rules over at =
      let d = so call before was created_is keys rules over at in
      let t = one call d.0 was created_is keys d.2 d.3 in
      (t.1, one_more item came d.1 t.2, import_over t.2 (λ is. cc) d.2, t.3)

  -- one ends the call
  pub imported_end : {done : List (spec.Item × Done)} {made : Bool} {mid : Machine} {left : ClientState} {then : Faults} {es : List Event} (machine : Machine) (client : ClientState) (now : Faults) (fs : List Event) (items later : List spec.Item)
      (item : spec.Item) (e : CallEnd) → map (λ (x : spec.Item × Done). x.0) done ++ item ∷ later ≡ items
      → Imported uploads created making first begun at_first done made mid left then es → One uploads created making item mid left then (Err e) machine client now fs
      → AllCame uploads created making items first begun at_first (Err (end_after made e)) machine client now (es ++ fs)
  imported_end {made = made} {es = es} machine client now fs items later item e all so one call before was created_is keys rules over at =
      let d = so call before was created_is keys rules over at in
      let t = ended machine client was now e (one call d.0 was created_is keys d.2 d.3) in
      record {
        mid = t.0;
        does = OneByOne uploads rules
            (subst (λ (l : List spec.Item). DoesImports call uploads false before l (Err (call_end (end_after made e))) (es ++ fs) t.0) all (ends_all item later e d.1 t.1));
        at = ends_at machine client was now t.0 made e t.2;
      }

  -- memory runs out before the next one, or after the last
  pub imported_out : {done : List (spec.Item × Done)} {made : Bool} {machine : Machine} {client : ClientState} {now : Faults} {es : List Event} (items later : List spec.Item)
      → map (λ (x : spec.Item × Done). x.0) done ++ later ≡ items → Imported uploads created making first begun at_first done made machine client now es
      → AllCame uploads created making items first begun at_first (Err ends.Memory) machine client now es
  imported_out {es = es} items later all so call before was created_is keys rules over at =
      let d = so call before was created_is keys rules over at in
      record {
        mid = d.0;
        does = OneByOne uploads rules
            (subst (λ (l : List spec.Item). DoesImports call uploads false before l (Err OutOfMemory) es d.0) all (out_before later d.1 (serves d.2 d.3.standing_is)));
        at = record { in_life = d.3.in_life; bears = d.3.bears };
      }

  -- all are done
  pub imported_all : {made : Bool} {machine : Machine} {client : ClientState} {now : Faults} {es : List Event} (items : List spec.Item) (done : Vec (Item × Done) Global)
      → map (λ (x : spec.Item × Done). x.0) (map done_data done.items) ≡ items → Imported uploads created making first begun at_first (map done_data done.items) made machine client now es
      → AllCame uploads created making items first begun at_first (Ok done) machine client now es
  imported_all {es = es} items done all so call before was created_is keys rules over at =
      let d = so call before was created_is keys rules over at in
      record {
        mid = d.0;
        does = OneByOne uploads rules
            (subst (λ (l : List spec.Item). DoesImports call uploads false before l (Ok (map done_data done.items)) es d.0) all (all_done d.1 (serves d.2 d.3.standing_is)));
        at = d.3;
      }

  -- the same of what was told meanwhile
  module _ {from told to : Option (List Event)} (done : List (spec.Item × Done)) (made : Bool) (mid machine : Machine) (left client : ClientState) (then now : Faults) (item : spec.Item)
      (result : Result Done CallEnd) (so_far : Adds from told (Imported uploads created making first begun at_first done made mid left then))
      (one : Adds told to (One uploads created making item mid left then result machine client now)) where
    pub adds_more : (came : Done) → result ≡ Ok came
        → Adds from to (Imported uploads created making first begun at_first (done ++ (item, came) ∷ []) (made || is_made came) machine client now)
    adds_more came is =
        join {P = Imported uploads created making first begun at_first done made mid left then} {Q = One uploads created making item mid left then result machine client now} _ so_far one
        (λ es fs so next. imported_more item came so
        (subst (λ (r : Result Done CallEnd). One uploads created making item mid left then r machine client now fs) is next))

    pub adds_end : (items later : List spec.Item) (e : CallEnd) → result ≡ Err e → map (λ (x : spec.Item × Done). x.0) done ++ item ∷ later ≡ items
        → Adds from to (AllCame uploads created making items first begun at_first (Err (end_after made e)) machine client now)
    adds_end items later e is all =
        join {P = Imported uploads created making first begun at_first done made mid left then} {Q = One uploads created making item mid left then result machine client now} _ so_far one
        (λ es fs so next. imported_end machine client now fs items later item e all so
        (subst (λ (r : Result Done CallEnd). One uploads created making item mid left then r machine client now fs) is next))

    pub adds_out : (items later : List spec.Item) (came : Done) → result ≡ Ok came → map (λ (x : spec.Item × Done). x.0) (done ++ (item, came) ∷ []) ++ later ≡ items
        → Adds from to (AllCame uploads created making items first begun at_first (Err ends.Memory) machine client now)
    adds_out items later came is all = widen _ (adds_more came is) (λ es so. imported_out items later all so)

-- ---- the items that were done, and those that follow

items_pushed : (xs : List Item) (x : Item) (ys : List Item) → (xs ++ x ∷ []) ++ ys ≡ xs ++ x ∷ ys
items_pushed [] x ys = refl
items_pushed (y ∷ xs) x ys = ap (λ (l : List Item). y ∷ l) (items_pushed xs x ys)

module _ (items : List Item) (i : ℕ) where
  -- these were done
  abbrev pub AreTaken : List (spec.Item × Done) → Type 0
  AreTaken done = map (λ (e : spec.Item × Done). e.0) done ≡ map item_data (take i items)

  -- those that weren't follow
  pub left_after : (done : List (spec.Item × Done)) → AreTaken done → map (λ (e : spec.Item × Done). e.0) done ++ map item_data (drop i items) ≡ map item_data items
  left_after done so =
      ap (λ (l : List spec.Item). l ++ map item_data (drop i items)) so ∙ sym (map-append item_data (take i items) (drop i items))
      ∙ ap (λ (l : List Item). map item_data l) (take-append-drop i items)

  -- this one follows, and those after it
  pub next_after : (item : Item) (done : List (spec.Item × Done)) → i < length items → item ≡ get_or items i item → AreTaken done
      → map (λ (e : spec.Item × Done). e.0) done ++ item_data item ∷ map item_data (drop (i + 1) items) ≡ map item_data items
  next_after item done within is so =
      let taken : take (i + 1) items ≡ take i items ++ item ∷ [] = take_more items i item within ∙ ap (λ (x : Item). take i items ++ x ∷ []) (sym is) in
      ap (λ (l : List spec.Item). l ++ item_data item ∷ map item_data (drop (i + 1) items)) so
      ∙ sym (map-append item_data (take i items) (item ∷ drop (i + 1) items))
      ∙ ap (λ (l : List Item). map item_data l)
      (sym (items_pushed (take i items) item (drop (i + 1) items)) ∙ ap (λ (l : List Item). l ++ drop (i + 1) items) (sym taken) ∙ take-append-drop (i + 1) items)

-- one more was done
pub taken_more : (items : List Item) (i : ℕ) (item : Item) (done : List (spec.Item × Done)) (came : Done) → i < length items → item ≡ get_or items i item → AreTaken items i done
    → AreTaken items (i + 1) (done ++ (item_data item, came) ∷ [])
taken_more items i item done came within is so =
    map-append (λ (e : spec.Item × Done). e.0) done ((item_data item, came) ∷ [])
    ∙ ap (λ (l : List spec.Item). l ++ item_data item ∷ []) so
    ∙ sym (map-append item_data (take i items) (item ∷ []))
    ∙ ap (λ (l : List Item). map item_data l) (sym (take_more items i item within ∙ ap (λ (x : Item). take i items ++ x ∷ []) (sym is)))
