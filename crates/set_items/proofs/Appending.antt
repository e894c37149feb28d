-- APPENDs of an item.
use Rattle.std.proofs.Common.{◌≡◌, ◌≤◌, ◌+◌, ◌||◌, ◌⊎◌, ℕ, ℤ, Bool, true, false, List, [], ◌∷◌, Option, Some, None, length, refl, sym, ap, subst, arith, inl, inr}
use Rattle.imap_types.specs.declared.code.Code.{Code}
use Rattle.imap_types.specs.declared.command.Command.{Command}
use Rattle.imap_types.specs.declared.command.Command.TheVariants as command
use Rattle.imap_types.specs.declared.response.Status.TheVariants as status
use Rattle.told_folder.specs.declared.exchange.Exchange.{Exchange}
use Rattle.told_folder.specs.declared.message.Folder.{Folder}
use Rattle.told_folder.specs.declared.message.NumberedFolder.{NumberedFolder}
use Rattle.told_mail.specs.Mail.{Mail, folder_in, named, folder_number}
use Rattle.imap_client.specs.Bodies.{select_due}
use Rattle.imap_client.specs.Connecting.{is_ok}
use Rattle.imap_client.specs.Selecting.{tells_validity}
use Rattle.imap_client.specs.declared.plan.Due.{Due}
use Rattle.imap_client.specs.declared.plan.Due.TheVariants as due
use Rattle.told_changes.specs.Changes.{named_by}
use Rattle.told_changes.specs.declared.landing.Landing.{Landing}
use Rattle.told_changes.specs.Landings.{told_landing}
use Rattle.told_changes.specs.Told.{told, is_changing}
use Rattle.set_jobs.specs.declared.done.Done.{Done}
use Rattle.set_jobs.specs.declared.done.Done.TheVariants as came
use Rattle.set_jobs.specs.declared.step.Step.{Step}
use Rattle.set_jobs.specs.declared.step.Step.TheVariants as step
use Rattle.set_items.specs.Commands.{append_count, appends_in, appends_of, step_appends, IsNotMade, MakesNothing, MakesBy}
use Rattle.set_jobs.specs.declared.job.Job.{Job}
use Rattle.set_items.specs.Items.{ItemStage, Doing, Settled, Partly, Failing, ItemState, item_at, item_step, item_due, step_due, item_start, going, folder_of, Answers}
use Rattle.set_items.specs.Items.{stage_after, doing_after, obeyed, refused, refused_if, change_refused, changed_stage, selected_stage, made_folder, listed_stage}
use Rattle.set_items.specs.Items.{moved_stage, made_stage, deleted_stage, shows, is_deleted, in_selected, deleted_flag}
use Rattle.set_items.proofs.Staging.{ok_is}

-- ---- how many are left

abbrev appends_left : ItemStage → ℕ
appends_left (Doing s ss changed done) = step_appends s + appends_of ss
appends_left _ = 0

left_going : (ss : List Step) (changed : Bool) (done : Done) → appends_left (going ss changed done) ≤ appends_of ss
left_going [] changed done = omega arith
left_going (s ∷ ss) changed done = omega arith

left_selected : (ss : List Step) (changed : Bool) (done : Done) (told_it shows_it : Bool)
    → appends_left (selected_stage ss changed done told_it shows_it) ≤ appends_of ss
left_selected ss changed done true true = left_going ss changed done
left_selected ss changed done true false = omega arith
left_selected ss changed done false s = omega arith

left_changed : (c : Command) (ss : List Step) (changed : Bool) (done : Done) (before : Mail) (x : Exchange)
    → appends_left (changed_stage c ss changed done before x) ≤ appends_of ss
left_changed (command.Move uid name) ss changed done before x =
    elim (told_landing before x) as (λ (o : Option Landing). appends_left (moved_stage ss changed done o) ≤ appends_of ss)
    [ None ↦ omega arith | Some l ↦ left_going ss changed done ]
left_changed (command.Append name flags date message) ss changed done before x =
    elim (told_landing before x) as (λ (o : Option Landing). appends_left (made_stage ss changed before.next_mark (length message) o) ≤ appends_of ss)
    [ None ↦ omega arith | Some l ↦ left_going ss changed (came.Made before.next_mark (length message)) ]
left_changed _ ss changed done before x = left_going ss changed done

left_deleted : (ss : List Step) (changed : Bool) (done : Done) (is : Bool) → appends_left (deleted_stage ss changed done is) ≤ appends_of ss
left_deleted ss changed done true = left_going ss changed done
left_deleted ss changed done false = omega arith

left_listed : (ss : List Step) (changed : Bool) (done : Done) (o : Option NumberedFolder) → appends_left (listed_stage ss changed done o) ≤ appends_of ss
left_listed ss true done None = omega arith
left_listed ss false done None = omega arith
left_listed ss true done (Some h) = left_going ss true done
left_listed ss false done (Some h) = left_going ss false done

left_folder : (ss : List Step) (changed told_it : Bool) (o : Option NumberedFolder) → appends_left (made_folder ss changed told_it o) ≤ appends_of ss
left_folder ss changed told_it None = omega arith
left_folder ss changed true (Some h) = left_going ss changed (came.MadeMailbox (folder_number h))
left_folder ss changed false (Some h) = omega arith

left_obeyed : (s : Step) (ss : List Step) (changed : Bool) (done : Done) (before : Mail) (x : Exchange) (after : Mail)
    → appends_left (obeyed s ss changed done before x after) ≤ appends_of ss
left_obeyed (step.Select folder mark) ss changed done before x after = left_selected ss changed done (tells_validity x.responses) (shows after mark)
left_obeyed step.Unselect ss changed done before x after = left_going ss changed done
left_obeyed (step.Change c) ss changed done before x after = left_changed c ss changed done before x
left_obeyed (step.Delete uid) ss changed done before x after =
    left_deleted ss changed done (is_deleted (in_selected after (named_by after x.selected) uid) uid x.responses)
left_obeyed (step.Expunge uid) ss changed done before x after = left_going ss changed done
left_obeyed (step.List name special_use) ss changed done before x after = left_listed ss changed done (named after.folders name)
left_obeyed (step.SelectMade name) ss changed done before x after = left_folder ss changed (tells_validity x.responses) (named after.folders name)

left_change_refused : (changed : Bool) (c : Code) (n : ℕ) → appends_left (change_refused changed c) ≤ n
left_change_refused true c n = omega arith
left_change_refused false c n = omega arith

left_refused_if : (k changed : Bool) (c : Code) (n : ℕ) → appends_left (refused_if k changed c) ≤ n
left_refused_if true changed c n = left_change_refused changed c n
left_refused_if false changed c n = omega arith

left_refused : (s : Step) (ss : List Step) (changed : Bool) (done : Done) (x : Exchange) → appends_left (refused s ss changed done x) ≤ appends_of ss
left_refused (step.Change c) ss changed done x = left_refused_if (is_changing c) changed x.code (appends_of ss)
left_refused (step.Delete uid) ss changed done x = left_change_refused changed x.code (appends_of ss)
left_refused (step.Expunge uid) ss changed done x = left_going ss changed done
left_refused (step.Select folder mark) ss changed done x = omega arith
left_refused step.Unselect ss changed done x = omega arith
left_refused (step.List name special_use) ss changed done x = omega arith
left_refused (step.SelectMade name) ss changed done x = omega arith

left_doing : (k : Bool) (s : Step) (ss : List Step) (changed : Bool) (done : Done) (before : Mail) (x : Exchange) (after : Mail)
    → appends_left (doing_after k s ss changed done before x after) ≤ appends_of ss
left_doing true s ss changed done before x after = left_obeyed s ss (changed || is_changing x.command) done before x after
left_doing false s ss changed done before x after = left_refused s ss changed done x

-- ---- what is sent

sent_is : (c d : Command) → due.Send c ≡ due.Send d → c ≡ d
sent_is c d e = ap sent e
  where
    sent : Due → Command
    sent (due.Send c) = c
    sent _ = command.Capability

select_appends : (f : Option Folder) (c : Command) → select_due f ≡ due.Send c → append_count c ≡ 0
select_appends None c e = absurd (cc)
select_appends (Some f) c e = sym (ap append_count (sent_is _ c e))

step_sends : (m : Mail) (s : Step) (c : Command) → step_due m s ≡ due.Send c → append_count c ≡ step_appends s
step_sends m (step.Select folder mark) c e = select_appends (folder_in m.folders folder) c e
step_sends m step.Unselect c e = sym (ap append_count (sent_is command.Unselect c e))
step_sends m (step.Change d) c e = sym (ap append_count (sent_is d c e))
step_sends m (step.Delete uid) c e = sym (ap append_count (sent_is (command.Store uid true (deleted_flag ∷ [])) c e))
step_sends m (step.Expunge uid) c e = sym (ap append_count (sent_is (command.Expunge uid) c e))
step_sends m (step.List name special_use) c e = sym (ap append_count (sent_is (command.List special_use) c e))
step_sends m (step.SelectMade name) c e = select_appends (folder_of (named m.folders name)) c e

left_step : (stage : ItemStage) (m : Mail) (x : Exchange) (after : Mail) → item_due stage m ≡ due.Send x.command
    → append_count x.command + appends_left (stage_after stage m x after) ≤ appends_left stage
left_step (Doing s ss changed done) m x after asked =
    let one : append_count x.command ≡ step_appends s = step_sends m s x.command asked in
    let rest : appends_left (doing_after (is_ok x.status) s ss changed done m x after) ≤ appends_of ss = left_doing (is_ok x.status) s ss changed done m x after in
    omega (arith, one, rest)
left_step (Settled done) m x after asked = absurd (cc)
left_step Partly m x after asked = absurd (cc)
left_step (Failing w) m x after asked = absurd (cc)

sent_within : (s : ItemState) (xs : List Exchange) → Answers s xs → appends_in xs ≤ appends_left s.stage
sent_within s [] a = omega arith
sent_within s (x ∷ xs) a =
    let now : append_count x.command + appends_left (item_step s x).stage ≤ appends_left s.stage = left_step s.stage s.mail x (told s.mail x) a.0 in
    let later : appends_in xs ≤ appends_left (item_step s x).stage = sent_within (item_step s x) xs a.1 in
    omega (arith, now, later)

pub one_append : (job : Job) (m : Mail) (xs : List Exchange) → Answers (item_start job m) xs → appends_in xs ≤ appends_of job.steps
one_append job m xs a =
    let sent : appends_in xs ≤ appends_left (going job.steps false job.done) = sent_within (item_start job m) xs a in
    let most : appends_left (going job.steps false job.done) ≤ appends_of job.steps = left_going job.steps false job.done in
    omega (arith, sent, most)

-- ---- what is made

-- what the item comes to, or would once all steps are done
abbrev Holds : (Done → Type 0) → ItemStage → Type 0
Holds P (Doing s ss changed done) = P done
Holds P (Settled done) = P done
Holds P _ = Unit {0}

holds_going : (P : Done → Type 0) (ss : List Step) (changed : Bool) (done : Done) → P done → Holds P (going ss changed done)
holds_going P [] changed done p = p
holds_going P (s ∷ ss) changed done p = p

-- a message is made by this exchange, of the mail before it
record MadeHere (before : Mail) (x : Exchange) (mark size : ℕ) : Type 0 where
  name : List ℕ
  flags : List (List ℕ)
  date : ℤ
  message : List ℕ
  there : Landing
  is_append : x.command ≡ command.Append name flags date message
  is_ok : x.status ≡ status.Ok
  landed : told_landing before x ≡ Some there
  mark_is : mark ≡ before.next_mark
  size_is : size ≡ length message

-- whatever it comes to is no message, or was there before, or is made here
abbrev Comes : (Done → Type 0) → Mail → Exchange → Done → Type 0
Comes P before x (came.Made mark size) = P (came.Made mark size) ⊎ MadeHere before x mark size
Comes P before x _ = Unit {0}

comes_before : (P : Done → Type 0) (before : Mail) (x : Exchange) (done : Done) → P done → Comes P before x done
comes_before P before x (came.Made mark size) p = inl p
comes_before P before x (came.MadeMailbox number) p = tt
comes_before P before x (came.Changed number asked) p = tt
comes_before P before x (came.Gone number) p = tt
comes_before P before x (came.Not e) p = tt

module _ (P : Done → Type 0) (before : Mail) (x : Exchange) where
  comes_going : (ss : List Step) (changed : Bool) (done : Done) → P done → Holds (Comes P before x) (going ss changed done)
  comes_going ss changed done p = holds_going (Comes P before x) ss changed done (comes_before P before x done p)

  comes_selected : (ss : List Step) (changed : Bool) (done : Done) (told_it shows_it : Bool) → P done
      → Holds (Comes P before x) (selected_stage ss changed done told_it shows_it)
  comes_selected ss changed done true true p = comes_going ss changed done p
  comes_selected ss changed done true false p = tt
  comes_selected ss changed done false s p = tt

  comes_moved : (ss : List Step) (changed : Bool) (done : Done) (o : Option Landing) → P done → Holds (Comes P before x) (moved_stage ss changed done o)
  comes_moved ss changed done None p = tt
  comes_moved ss changed done (Some l) p = comes_going ss changed done p

  comes_made : (name : List ℕ) (flags : List (List ℕ)) (date : ℤ) (message : List ℕ) (ss : List Step) (changed : Bool) (o : Option Landing)
      → x.command ≡ command.Append name flags date message → x.status ≡ status.Ok → told_landing before x ≡ o
      → Holds (Comes P before x) (made_stage ss changed before.next_mark (length message) o)
  comes_made name flags date message ss changed None is ok at = tt
  comes_made name flags date message ss changed (Some l) is ok at =
      holds_going (Comes P before x) ss changed (came.Made before.next_mark (length message)) (inr (record {
        name = name;
        flags = flags;
        date = date;
        message = message;
        there = l;
        is_append = is;
        is_ok = ok;
        landed = at;
        mark_is = refl;
        size_is = refl;
      }))

  comes_changed : (c : Command) (ss : List Step) (changed : Bool) (done : Done) → x.command ≡ c → x.status ≡ status.Ok → P done
      → Holds (Comes P before x) (changed_stage c ss changed done before x)
  comes_changed (command.Move uid name) ss changed done is ok p = comes_moved ss changed done (told_landing before x) p
  comes_changed (command.Append name flags date message) ss changed done is ok p =
      comes_made name flags date message ss changed (told_landing before x) is ok refl
  comes_changed _ ss changed done is ok p = comes_going ss changed done p

  comes_deleted : (ss : List Step) (changed : Bool) (done : Done) (is : Bool) → P done → Holds (Comes P before x) (deleted_stage ss changed done is)
  comes_deleted ss changed done true p = comes_going ss changed done p
  comes_deleted ss changed done false p = tt

  comes_listed : (ss : List Step) (changed : Bool) (done : Done) (o : Option NumberedFolder) → P done → Holds (Comes P before x) (listed_stage ss changed done o)
  comes_listed ss true done None p = tt
  comes_listed ss false done None p = tt
  comes_listed ss true done (Some h) p = comes_going ss true done p
  comes_listed ss false done (Some h) p = comes_going ss false done p

  comes_folder : (ss : List Step) (changed told_it : Bool) (o : Option NumberedFolder) → Holds (Comes P before x) (made_folder ss changed told_it o)
  comes_folder ss changed told_it None = tt
  comes_folder ss changed true (Some h) = holds_going (Comes P before x) ss changed (came.MadeMailbox (folder_number h)) tt
  comes_folder ss changed false (Some h) = tt

  comes_obeyed : (s : Step) (ss : List Step) (changed : Bool) (done : Done) (after : Mail) → step_due before s ≡ due.Send x.command → x.status ≡ status.Ok → P done
      → Holds (Comes P before x) (obeyed s ss changed done before x after)
  comes_obeyed (step.Select folder mark) ss changed done after asked ok p =
      comes_selected ss changed done (tells_validity x.responses) (shows after mark) p
  comes_obeyed step.Unselect ss changed done after asked ok p = comes_going ss changed done p
  comes_obeyed (step.Change c) ss changed done after asked ok p = comes_changed c ss changed done (sym (sent_is c x.command asked)) ok p
  comes_obeyed (step.Delete uid) ss changed done after asked ok p =
      comes_deleted ss changed done (is_deleted (in_selected after (named_by after x.selected) uid) uid x.responses) p
  comes_obeyed (step.Expunge uid) ss changed done after asked ok p = comes_going ss changed done p
  comes_obeyed (step.List name special_use) ss changed done after asked ok p = comes_listed ss changed done (named after.folders name) p
  comes_obeyed (step.SelectMade name) ss changed done after asked ok p = comes_folder ss changed (tells_validity x.responses) (named after.folders name)

  comes_change_refused : (changed : Bool) (c : Code) → Holds (Comes P before x) (change_refused changed c)
  comes_change_refused true c = tt
  comes_change_refused false c = tt

  comes_refused_if : (k changed : Bool) (c : Code) → Holds (Comes P before x) (refused_if k changed c)
  comes_refused_if true changed c = comes_change_refused changed c
  comes_refused_if false changed c = tt

  comes_refused : (s : Step) (ss : List Step) (changed : Bool) (done : Done) → P done → Holds (Comes P before x) (refused s ss changed done x)
  comes_refused (step.Change c) ss changed done p = comes_refused_if (is_changing c) changed x.code
  comes_refused (step.Delete uid) ss changed done p = comes_change_refused changed x.code
  comes_refused (step.Expunge uid) ss changed done p = comes_going ss changed done p
  comes_refused (step.Select folder mark) ss changed done p = tt
  comes_refused step.Unselect ss changed done p = tt
  comes_refused (step.List name special_use) ss changed done p = tt
  comes_refused (step.SelectMade name) ss changed done p = tt

  comes_doing : (k : Bool) (s : Step) (ss : List Step) (changed : Bool) (done : Done) (after : Mail) → is_ok x.status ≡ k → step_due before s ≡ due.Send x.command
      → P done → Holds (Comes P before x) (doing_after k s ss changed done before x after)
  comes_doing true s ss changed done after ok asked p = comes_obeyed s ss (changed || is_changing x.command) done after asked (ok_is x.status ok) p
  comes_doing false s ss changed done after fails asked p = comes_refused s ss changed done p

  comes_after : (stage : ItemStage) (after : Mail) → item_due stage before ≡ due.Send x.command → Holds P stage
      → Holds (Comes P before x) (stage_after stage before x after)
  comes_after (Doing s ss changed done) after asked p = comes_doing (is_ok x.status) s ss changed done after refl asked p
  comes_after (Settled done) after asked p = absurd (cc)
  comes_after Partly after asked p = tt
  comes_after (Failing w) after asked p = tt

-- made by one of these exchanges, from this state on
abbrev MadeBy : ItemState → List Exchange → Done → Type 0
MadeBy s xs (came.Made mark size) = MakesBy s xs mark size
MadeBy s xs _ = Unit {0}

-- by what was before, or by one of these exchanges
abbrev MadeOr : (Done → Type 0) → ItemState → List Exchange → Done → Type 0
MadeOr P s xs (came.Made mark size) = P (came.Made mark size) ⊎ MakesBy s xs mark size
MadeOr P s xs _ = Unit {0}

holds_map : (P Q : Done → Type 0) (stage : ItemStage) → ((done : Done) → P done → Q done) → Holds P stage → Holds Q stage
holds_map P Q (Doing s ss changed done) f p = f done p
holds_map P Q (Settled done) f p = f done p
holds_map P Q Partly f p = tt
holds_map P Q (Failing w) f p = tt

made_first : (s : ItemState) (x : Exchange) (xs : List Exchange) (mark size : ℕ) → MadeHere s.mail x mark size → MakesBy s (x ∷ xs) mark size
made_first s x xs mark size m = record {
  earlier = [];
  append = x;
  later = xs;
  name = m.name;
  flags = m.flags;
  date = m.date;
  message = m.message;
  there = m.there;
  whole = refl;
  is_append = m.is_append;
  is_ok = m.is_ok;
  landed = m.landed;
  mark_is = m.mark_is;
  size_is = m.size_is;
}

made_later : (s : ItemState) (x : Exchange) (xs : List Exchange) (mark size : ℕ) → MakesBy (item_step s x) xs mark size → MakesBy s (x ∷ xs) mark size
made_later s x xs mark size m = record {
  earlier = x ∷ m.earlier;
  append = m.append;
  later = m.later;
  name = m.name;
  flags = m.flags;
  date = m.date;
  message = m.message;
  there = m.there;
  whole = ap (λ (ys : List Exchange). x ∷ ys) m.whole;
  is_append = m.is_append;
  is_ok = m.is_ok;
  landed = m.landed;
  mark_is = m.mark_is;
  size_is = m.size_is;
}

join_made : (P : Done → Type 0) (s : ItemState) (x : Exchange) (xs : List Exchange) (done : Done) → MadeOr (Comes P s.mail x) (item_step s x) xs done → MadeOr P s (x ∷ xs) done
join_made P s x xs (came.Made mark size) (inl (inl p)) = inl p
join_made P s x xs (came.Made mark size) (inl (inr here)) = inr (made_first s x xs mark size here)
join_made P s x xs (came.Made mark size) (inr later) = inr (made_later s x xs mark size later)
join_made P s x xs (came.MadeMailbox number) m = tt
join_made P s x xs (came.Changed number asked) m = tt
join_made P s x xs (came.Gone number) m = tt
join_made P s x xs (came.Not e) m = tt

left_made : (P : Done → Type 0) (s : ItemState) (done : Done) → P done → MadeOr P s [] done
left_made P s (came.Made mark size) p = inl p
left_made P s (came.MadeMailbox number) p = tt
left_made P s (came.Changed number asked) p = tt
left_made P s (came.Gone number) p = tt
left_made P s (came.Not e) p = tt

made_ran : (P : Done → Type 0) (s : ItemState) (xs : List Exchange) → Answers s xs → Holds P s.stage → Holds (MadeOr P s xs) (item_at s xs).stage
made_ran P s [] a h = holds_map P (MadeOr P s []) s.stage (left_made P s) h
made_ran P s (x ∷ xs) a h =
    holds_map (MadeOr (Comes P s.mail x) (item_step s x) xs) (MadeOr P s (x ∷ xs)) (item_at (item_step s x) xs).stage (join_made P s x xs)
    (made_ran (Comes P s.mail x) (item_step s x) xs a.1 (comes_after P s.mail x s.stage (told s.mail x) a.0 h))

made_is : (s : ItemState) (xs : List Exchange) (mark size : ℕ) → MadeOr IsNotMade s xs (came.Made mark size) → MakesBy s xs mark size
made_is s xs mark size (inl none) = absurd none
made_is s xs mark size (inr made) = made

pub made_by : (job : Job) (m : Mail) (xs : List Exchange) (mark size : ℕ) → MakesNothing job → Answers (item_start job m) xs
    → (item_at (item_start job m) xs).stage ≡ Settled (came.Made mark size) → MakesBy (item_start job m) xs mark size
made_by job m xs mark size nothing a is =
    made_is (item_start job m) xs mark size
    (subst (Holds (MadeOr IsNotMade (item_start job m) xs)) is
    (made_ran IsNotMade (item_start job m) xs a (holds_going IsNotMade job.steps false job.done nothing)))
