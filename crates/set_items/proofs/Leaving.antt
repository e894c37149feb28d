-- The steps that an exchange leaves, and what was done by then: each changing command was obeyed, and a folder that is to be listed was made.
use Rattle.std.proofs.Common.{◌≡◌, ◌⊎◌, ◌++◌, ◌||◌, ℕ, Bool, true, false, length, List, [], ◌∷◌, Option, Some, None, refl, sym, ◌∙◌, ap, subst, append_assoc, inl, inr}
use Rattle.std.proofs.lemmas.List.{append-nil}
use Rattle.gate_world.specs.declared.event.Event.{Event}
use Rattle.imap_types.specs.declared.command.Command.{Command}
use Rattle.imap_types.specs.declared.command.Command.TheVariants as command
use Rattle.imap_types.specs.declared.response.Status.TheVariants as status
use Rattle.told_folder.specs.declared.exchange.Exchange.{Exchange}
use Rattle.told_folder.specs.declared.message.NumberedFolder.{NumberedFolder}
use Rattle.told_folder.specs.declared.message.Folder.{Folder}
use Rattle.told_mail.specs.Mail.{Mail, folder_in, named}
use Rattle.imap_client.specs.Bodies.{select_due}
use Rattle.imap_client.specs.Connecting.{is_ok}
use Rattle.imap_client.specs.LinkLife.{LinkLife}
use Rattle.imap_client.specs.Plans.{Ran, Begun, Then}
use Rattle.imap_client.specs.Selecting.{known_folder, tells_validity}
use Rattle.imap_client.specs.declared.plan.Due.{Due}
use Rattle.imap_client.specs.declared.plan.Due.TheVariants as due
use Rattle.told_changes.specs.declared.landing.Landing.{Landing}
use Rattle.told_changes.specs.Landings.{told_landing}
use Rattle.told_changes.specs.Changes.{named_by}
use Rattle.told_changes.specs.Told.{told, is_changing}
use Rattle.set_jobs.specs.declared.done.Done.{Done}
use Rattle.set_jobs.specs.declared.step.Step.{Step}
use Rattle.set_jobs.specs.declared.step.Step.TheVariants as step
use Rattle.set_items.specs.Causes.{HasCreated}
use Rattle.set_items.specs.Commands.{FitsAfter, FitsChange, IsFit, MustBeObeyed, made_by, made_then}
use Rattle.set_jobs.specs.declared.job.Job.{Job}
use Rattle.set_items.specs.Items.{ItemStage, Doing, Settled, Partly, Failing, Answers, ItemState, item_at, item_step, item_due, item_plan, item_start, going}
use Rattle.set_items.specs.Items.{stage_after, doing_after, obeyed, changed_stage, selected_stage, made_folder, listed_stage, moved_stage, made_stage, deleted_stage}
use Rattle.set_items.specs.Items.{shows, is_deleted, in_selected, step_due, deleted_flag, folder_of}
use Rattle.set_items.proofs.Refusing.{IsStill, still_if, still_refused}
use Rattle.set_items.proofs.Staging.{item_more, ok_is}

-- ---- the steps that are left

-- these are left, or none
abbrev pub Left : List Step → ItemStage → Type 0
Left ss (Doing t ts changed done) = ss ≡ t ∷ ts
Left ss _ = Unit {0}

pub left_going : (ss : List Step) (changed : Bool) (done : Done) → Left ss (going ss changed done)
left_going [] changed done = tt
left_going (s ∷ ss) changed done = refl

left_selected : (ss : List Step) (changed : Bool) (done : Done) (told_it shows_it : Bool) → Left ss (selected_stage ss changed done told_it shows_it)
left_selected ss changed done true true = left_going ss changed done
left_selected ss changed done true false = tt
left_selected ss changed done false s = tt

left_moved : (ss : List Step) (changed : Bool) (done : Done) (o : Option Landing) → Left ss (moved_stage ss changed done o)
left_moved ss changed done None = tt
left_moved ss changed done (Some l) = left_going ss changed done

left_made : (ss : List Step) (changed : Bool) (mark size : ℕ) (o : Option Landing) → Left ss (made_stage ss changed mark size o)
left_made ss changed mark size None = tt
left_made ss changed mark size (Some l) = left_going ss changed _

left_changed : (c : Command) (ss : List Step) (changed : Bool) (done : Done) (before : Mail) (x : Exchange) → Left ss (changed_stage c ss changed done before x)
left_changed (command.Move uid name) ss changed done before x = left_moved ss changed done (told_landing before x)
left_changed (command.Append name flags date message) ss changed done before x = left_made ss changed before.next_mark (length message) (told_landing before x)
left_changed _ ss changed done before x = left_going ss changed done

left_deleted : (ss : List Step) (changed : Bool) (done : Done) (is : Bool) → Left ss (deleted_stage ss changed done is)
left_deleted ss changed done true = left_going ss changed done
left_deleted ss changed done false = tt

left_listed : (ss : List Step) (changed : Bool) (done : Done) (o : Option NumberedFolder) → Left ss (listed_stage ss changed done o)
left_listed ss true done None = tt
left_listed ss false done None = tt
left_listed ss true done (Some h) = left_going ss true done
left_listed ss false done (Some h) = left_going ss false done

left_folder : (ss : List Step) (changed told_it : Bool) (o : Option NumberedFolder) → Left ss (made_folder ss changed told_it o)
left_folder ss changed told_it None = tt
left_folder ss changed true (Some h) = left_going ss changed _
left_folder ss changed false (Some h) = tt

pub left_obeyed : (s : Step) (ss : List Step) (changed : Bool) (done : Done) (before : Mail) (x : Exchange) (after : Mail) → Left ss (obeyed s ss changed done before x after)
left_obeyed (step.Select folder mark) ss changed done before x after = left_selected ss changed done (tells_validity x.responses) (shows after mark)
left_obeyed step.Unselect ss changed done before x after = left_going ss changed done
left_obeyed (step.Change c) ss changed done before x after = left_changed c ss changed done before x
left_obeyed (step.Delete uid) ss changed done before x after =
    left_deleted ss changed done (is_deleted (in_selected after (named_by after x.selected) uid) uid x.responses)
left_obeyed (step.Expunge uid) ss changed done before x after = left_going ss changed done
left_obeyed (step.List name special_use) ss changed done before x after = left_listed ss changed done (named after.folders name)
left_obeyed (step.SelectMade name) ss changed done before x after = left_folder ss changed (tells_validity x.responses) (named after.folders name)

-- ---- what was done by then

-- the steps that are left fit what these exchanges made
pub record Knowing (heard : List Exchange) (ss : List Step) : Type 0 where
  pub made : Option (List ℕ)
  pub fits : FitsAfter made ss
  pub created : (name : List ℕ) → made ≡ Some name → HasCreated name heard
  pub only : (name : List ℕ) → HasCreated name heard → made ≡ Some name

abbrev pub Knows : List Exchange → ItemStage → Type 0
Knows heard (Doing s ss changed done) = Knowing heard (s ∷ ss)
Knows heard _ = Unit {0}

knows_left : (heard : List Exchange) (ss : List Step) (stage : ItemStage) → Left ss stage → Knowing heard ss → Knows heard stage
knows_left heard ss (Doing t ts changed done) left k = subst (Knowing heard) left k
knows_left heard ss (Settled done) left k = tt
knows_left heard ss Partly left k = tt
knows_left heard ss (Failing w) left k = tt

still_knows : (heard : List Exchange) (stage : ItemStage) → IsStill stage → Knows heard stage
still_knows heard (Doing t ts changed done) still = absurd still
still_knows heard (Settled done) still = tt
still_knows heard Partly still = tt
still_knows heard (Failing w) still = tt

created_more : (name : List ℕ) (xs : List Exchange) (x : Exchange) → HasCreated name xs → HasCreated name (xs ++ x ∷ [])
created_more name xs x h = record {
  earlier = h.earlier;
  exchange = h.exchange;
  later = h.later ++ x ∷ [];
  there = ap (λ (l : List Exchange). l ++ x ∷ []) h.there ∙ append_assoc h.earlier (h.exchange ∷ h.later) (x ∷ []);
  command_is = h.command_is;
  is_ok = h.is_ok;
}

-- a name in Some
pub name_is : (a b : List ℕ) → Some a ≡ Some b → a ≡ b
name_is a b e = ap had e
  where
    had : Option (List ℕ) → List ℕ
    had None = a
    had (Some c) = c

-- a CREATE that was OK made its folder
created_by : (c : Command) (made : Option (List ℕ)) (heard : List Exchange) (x : Exchange) → c ≡ x.command → x.status ≡ status.Ok
    → ((name : List ℕ) → made ≡ Some name → HasCreated name heard) → (name : List ℕ) → made_then made c ≡ Some name → HasCreated name (heard ++ x ∷ [])
created_by (command.Create n) made heard x same ok old name e = record {
  earlier = heard;
  exchange = x;
  later = [];
  there = refl;
  command_is = sym same ∙ ap command.Create (name_is n name e);
  is_ok = ok;
}
created_by _ made heard x same ok old name e = created_more name heard x (old name e)

sent_is : (c d : Command) → due.Send c ≡ due.Send d → c ≡ d
sent_is c d e = ap sent e
  where
    sent : Due → Command
    sent (due.Send c) = c
    sent _ = command.Capability

nil_split : (ys : List Exchange) (e : Exchange) (zs : List Exchange) → [] ≡ ys ++ e ∷ zs → ⊥
nil_split [] e zs is = absurd (cc)
nil_split (y ∷ ys) e zs is = absurd (cc)

-- a CREATE that was OK is the last exchange, or one before it
created_split : (name : List ℕ) (heard : List Exchange) (x : Exchange) → HasCreated name (heard ++ x ∷ [])
    → HasCreated name heard ⊎ ((x.command ≡ command.Create name) × (x.status ≡ status.Ok))
created_split name heard x h = by heard h.earlier h.exchange h.later h.there h.command_is h.is_ok
  where
    by : (xs earlier : List Exchange) (e : Exchange) (later : List Exchange) → xs ++ x ∷ [] ≡ earlier ++ e ∷ later → e.command ≡ command.Create name → e.status ≡ status.Ok
        → HasCreated name xs ⊎ ((x.command ≡ command.Create name) × (x.status ≡ status.Ok))
    by [] [] e later is c o =
        let f : ◌≡◌ {A = List Exchange} (x ∷ []) (e ∷ later) = is in
        let same : x ≡ e = cc in
        inr (ap (λ (y : Exchange). y.command) same ∙ c, ap (λ (y : Exchange). y.status) same ∙ o)
    by [] (y ∷ ys) e later is c o =
        let f : ◌≡◌ {A = List Exchange} (x ∷ []) (y ∷ (ys ++ e ∷ later)) = is in
        let none : [] ≡ ys ++ e ∷ later = cc in
        absurd (nil_split ys e later none)
    by (z ∷ zs) [] e later is c o =
        let f : ◌≡◌ {A = List Exchange} (z ∷ (zs ++ x ∷ [])) (e ∷ later) = is in
        let same : z ≡ e = cc in
        inl (record { earlier = []; exchange = z; later = zs; there = refl; command_is = ap (λ (y : Exchange). y.command) same ∙ c; is_ok = ap (λ (y : Exchange). y.status) same ∙ o })
    by (z ∷ zs) (y ∷ ys) e later is c o =
        let f : ◌≡◌ {A = List Exchange} (z ∷ (zs ++ x ∷ [])) (y ∷ (ys ++ e ∷ later)) = is in
        let rest : zs ++ x ∷ [] ≡ ys ++ e ∷ later = cc in
        elim (by zs ys e later rest c o) [
          | inl h ↦ inl (record {
            earlier = z ∷ h.earlier;
            exchange = h.exchange;
            later = h.later;
            there = ap (λ (l : List Exchange). z ∷ l) h.there;
            command_is = h.command_is;
            is_ok = h.is_ok;
          })
          | inr k ↦ inr k
        ]

-- and its folder alone is the one that was made
created_only : (c : Command) (made : Option (List ℕ)) (heard : List Exchange) (x : Exchange) → c ≡ x.command → FitsChange made c
    → ((name : List ℕ) → HasCreated name heard → made ≡ Some name) → (name : List ℕ) → HasCreated name (heard ++ x ∷ []) → made_then made c ≡ Some name
created_only (command.Create n) made heard x same fits only name h =
    elim (created_split name heard x h) [
      | inl old ↦ let was : made ≡ Some name = only name old in let none : made ≡ None = fits in absurd (cc)
      | inr new ↦ let e : command.Create n ≡ command.Create name = same ∙ new.0 in let is : n ≡ name = cc in ap (λ (q : List ℕ). Some q) is
    ]
created_only c made heard x same fits only name h =
    elim (created_split name heard x h) [
      | inl old ↦ only name old
      | inr new ↦ let e : c ≡ command.Create name = same ∙ new.0 in absurd (cc)
    ]

-- ---- steps that send no CREATE

selects_no_create : (f : Option Folder) (c : Command) (name : List ℕ) → select_due f ≡ due.Send c → c ≡ command.Create name → ⊥
selects_no_create None c name e is = absurd (cc)
selects_no_create (Some f) c name e is =
    let both : command.Select f.name (known_folder f) ≡ command.Create name = sent_is (command.Select f.name (known_folder f)) c e ∙ is in absurd (cc)

abbrev IsOther : Step → Type 0
IsOther (step.Change c) = ⊥
IsOther _ = Unit {0}

no_create : (s : Step) (m : Mail) (c : Command) → IsOther s → step_due m s ≡ due.Send c → (name : List ℕ) → c ≡ command.Create name → ⊥
no_create (step.Change k) m c other asked name is = other
no_create (step.Select folder mark) m c other asked name is = selects_no_create (folder_in m.folders folder) c name asked is
no_create step.Unselect m c other asked name is = let both : command.Unselect ≡ command.Create name = sent_is command.Unselect c asked ∙ is in absurd (cc)
no_create (step.Delete uid) m c other asked name is =
    let both : command.Store uid true (deleted_flag ∷ []) ≡ command.Create name = sent_is (command.Store uid true (deleted_flag ∷ [])) c asked ∙ is in absurd (cc)
no_create (step.Expunge uid) m c other asked name is = let both : command.Expunge uid ≡ command.Create name = sent_is (command.Expunge uid) c asked ∙ is in absurd (cc)
no_create (step.List n special_use) m c other asked name is =
    let both : command.List special_use ≡ command.Create name = sent_is (command.List special_use) c asked ∙ is in absurd (cc)
no_create (step.SelectMade n) m c other asked name is = selects_no_create (folder_of (named m.folders n)) c name asked is

-- any other step makes none
keeps : (heard : List Exchange) (ss : List Step) (x : Exchange) (s : Step) (k : Knowing heard (s ∷ ss)) → made_by k.made s ≡ k.made
    → ((name : List ℕ) → x.command ≡ command.Create name → ⊥) → Knowing (heard ++ x ∷ []) ss
keeps heard ss x s k same none = record {
  made = made_by k.made s;
  fits = k.fits.1;
  created = λ name e. created_more name heard x (k.created name (sym same ∙ e));
  only = λ name h. elim (created_split name heard x h) [
    | inl old ↦ same ∙ k.only name old
    | inr new ↦ absurd (none name new.0)
  ];
}

knows_doing : (b : Bool) (s : Step) (ss : List Step) (changed : Bool) (done : Done) (before : Mail) (x : Exchange) (after : Mail) (heard : List Exchange)
    → is_ok x.status ≡ b → step_due before s ≡ due.Send x.command → Knowing heard (s ∷ ss) → Knows (heard ++ x ∷ []) (doing_after b s ss changed done before x after)
knows_doing true (step.Change c) ss changed done before x after heard ok asked k =
    knows_left (heard ++ x ∷ []) ss _ (left_obeyed (step.Change c) ss (changed || is_changing x.command) done before x after) (record {
      made = made_then k.made c;
      fits = k.fits.1;
      created = created_by c k.made heard x (sent_is c x.command asked) (ok_is x.status ok) k.created;
      only = created_only c k.made heard x (sent_is c x.command asked) k.fits.0 k.only;
    })
knows_doing false (step.Change c) ss changed done before x after heard ok asked k = still_knows (heard ++ x ∷ []) _ (still_if (is_changing c) changed x.code)
knows_doing true (step.Select folder mark) ss changed done before x after heard ok asked k =
    knows_left (heard ++ x ∷ []) ss _ (left_obeyed (step.Select folder mark) ss (changed || is_changing x.command) done before x after) (keeps heard ss x (step.Select folder mark) k refl (no_create (step.Select folder mark) before x.command tt asked))
knows_doing true step.Unselect ss changed done before x after heard ok asked k =
    knows_left (heard ++ x ∷ []) ss _ (left_obeyed step.Unselect ss (changed || is_changing x.command) done before x after) (keeps heard ss x step.Unselect k refl (no_create step.Unselect before x.command tt asked))
knows_doing true (step.Delete uid) ss changed done before x after heard ok asked k =
    knows_left (heard ++ x ∷ []) ss _ (left_obeyed (step.Delete uid) ss (changed || is_changing x.command) done before x after) (keeps heard ss x (step.Delete uid) k refl (no_create (step.Delete uid) before x.command tt asked))
knows_doing true (step.Expunge uid) ss changed done before x after heard ok asked k =
    knows_left (heard ++ x ∷ []) ss _ (left_obeyed (step.Expunge uid) ss (changed || is_changing x.command) done before x after) (keeps heard ss x (step.Expunge uid) k refl (no_create (step.Expunge uid) before x.command tt asked))
knows_doing true (step.List name special_use) ss changed done before x after heard ok asked k =
    knows_left (heard ++ x ∷ []) ss _ (left_obeyed (step.List name special_use) ss (changed || is_changing x.command) done before x after)
    (keeps heard ss x (step.List name special_use) k refl (no_create (step.List name special_use) before x.command tt asked))
knows_doing true (step.SelectMade name) ss changed done before x after heard ok asked k =
    knows_left (heard ++ x ∷ []) ss _ (left_obeyed (step.SelectMade name) ss (changed || is_changing x.command) done before x after) (keeps heard ss x (step.SelectMade name) k refl (no_create (step.SelectMade name) before x.command tt asked))
knows_doing false (step.Expunge uid) ss changed done before x after heard ok asked k =
    knows_left (heard ++ x ∷ []) ss _ (left_going ss changed done) (keeps heard ss x (step.Expunge uid) k refl (no_create (step.Expunge uid) before x.command tt asked))
knows_doing false (step.Delete uid) ss changed done before x after heard ok asked k = still_knows (heard ++ x ∷ []) _ (still_refused changed x.code)
knows_doing false (step.Select folder mark) ss changed done before x after heard ok asked k = tt
knows_doing false step.Unselect ss changed done before x after heard ok asked k = tt
knows_doing false (step.List name special_use) ss changed done before x after heard ok asked k = tt
knows_doing false (step.SelectMade name) ss changed done before x after heard ok asked k = tt

pub knows_after : (stage : ItemStage) (before : Mail) (x : Exchange) (after : Mail) (heard : List Exchange) → item_due stage before ≡ due.Send x.command → Knows heard stage
    → Knows (heard ++ x ∷ []) (stage_after stage before x after)
knows_after (Doing s ss changed done) before x after heard asked k = knows_doing (is_ok x.status) s ss changed done before x after heard refl asked k
knows_after (Settled done) before x after heard asked k = tt
knows_after Partly before x after heard asked k = tt
knows_after (Failing w) before x after heard asked k = tt

pub knows_begun : (job : Job) (m : Mail) → IsFit job → Knows [] (item_start job m).stage
knows_begun job m fit =
    knows_left [] job.steps (going job.steps false job.done) (left_going job.steps false job.done) (record {
      made = None;
      fits = fit;
      created = λ name e. absurd (cc);
      only = λ name h. absurd (nil_split h.earlier h.exchange h.later h.there);
    })

-- along a life
pub knows_ran : (s : ItemState) → Knows [] s.stage → {life after : LinkLife} {heard : List Exchange} {events : List Event} → Ran (item_plan s) life heard after events
    → Knows heard (item_at s heard).stage
knows_ran s k Begun = k
knows_ran s k (Then {heard = heard} next ran) =
    let x : Exchange = next.exchange in
    let asked : item_due (item_at s heard).stage (item_at s heard).mail ≡ due.Send x.command = next.asked ∙ ap due.Send (sym next.completes.command_is) in
    subst (λ (t : ItemState). Knows (heard ++ x ∷ []) t.stage) (sym (item_more s heard x))
    (knows_after (item_at s heard).stage (item_at s heard).mail x (told (item_at s heard).mail x) heard asked (knows_ran s k ran))

-- along answers
pub knows_answers : (s : ItemState) (heard xs : List Exchange) → Knows heard s.stage → Answers s xs → Knows (heard ++ xs) (item_at s xs).stage
knows_answers s heard [] k a = subst (λ (l : List Exchange). Knows l s.stage) (sym (append-nil heard)) k
knows_answers s heard (x ∷ xs) k a =
    subst (λ (l : List Exchange). Knows l (item_at (item_step s x) xs).stage) (append_assoc heard (x ∷ []) xs)
    (knows_answers (item_step s x) (heard ++ x ∷ []) xs (knows_after s.stage s.mail x (told s.mail x) heard a.0 k) a.1)

-- ---- what steps that fit say

pub must_be : (c : Command) (made : Option (List ℕ)) → FitsChange made c → MustBeObeyed c
must_be (command.Create name) made fits = tt
must_be _ made fits = fits
