-- The jobs of items of Mailbox/set send what is asked.
use Rattle.std.proofs.Common.{◌≡◌, ◌≢◌, ◌⊎◌, ◌↔◌, ◌∙◌, ◌||◌, ℕ, Bool, true, false, not, cond, if◌then◌else◌, bytes_eq, codes, List, Option, Some, None, Ok, refl, sym, ap, subst, inl, inr}
use Rattle.std.specs.List.{Contains}
use Rattle.std.proofs.lemmas.List.Elements.{Contains-append_cases, Contains-append_left, Contains-append_right}
use Rattle.std.proofs.lemmas.Slice.Eq.{bytes_eq-Decides}
use Rattle.imap_types.specs.declared.command.Command.{Command}
use Rattle.imap_types.specs.declared.command.Command.TheVariants as command
use Rattle.serde_json.specs.Data.{Data, Members}
use Rattle.serde_json.specs.Find.{get_member}
use Rattle.told_folder.specs.declared.message.Folder.{Folder}
use Rattle.mailbox_names.specs.FullNames.{full_name}
use Rattle.mailbox_names.specs.Siblings.{is_served_as, same_folder}
use Rattle.set_given.specs.Given.{Given, folder_named, folder_to_destroy}
use Rattle.set_jobs.specs.declared.done.Done.TheVariants.{Changed}
use Rattle.set_jobs.specs.declared.job.Job.{Job}
use Rattle.set_jobs.specs.declared.step.Step.{Step}
use Rattle.set_jobs.specs.declared.step.Step.TheVariants as step
use Rattle.mailbox_checks.specs.Create.{create_mailbox, creation_of, name_or_empty}
use Rattle.mailbox_checks.specs.Destroy.{destroy_mailbox}
use Rattle.mailbox_checks.specs.Properties.{name_in, parent_of, subscription_in}
use Rattle.mailbox_checks.specs.Steps.{renames, subscribes_anew}
use Rattle.mailbox_checks.specs.Update.{Place, is_renamed, is_subscribed, name_at, name_or, parent_or, parent_there, update_mailbox}
use Rattle.mailbox_laws.specs.Sent.{IsName, IsParent, AskedName, AskedParent, OwnName, OwnParent, ServedName, SendsCreation, SendsDestroy, SendsUpdate, octets_now}
use Rattle.mailbox_laws.proofs.Jobs.{IsCreation, IsUpdate, creations_are, destroys_are, job_by, now_of, updates_are}
use Rattle.mailbox_laws.proofs.SentSteps.{IsCreateStep, Creates, Lists, Selects, Subscribes, anew_are, anew_have, creates_are, creates_have, creates_select, creates_subscribe, left_are, left_have, left_then, subscribe, subscribes_are, subscribes_have}

never : {Y : Type 0} → true ≡ false → Y
never is = absurd (cc)

same_command : (c d : Command) → step.Change c ≡ step.Change d → c ≡ d
same_command c d is = cc

same_rename : (a b x y : List ℕ) → step.Change (command.Rename a b) ≡ step.Change (command.Rename x y) → (a ≡ x) × (b ≡ y)
same_rename a b x y is = (cc, cc)

same_subscribe : (a x : List ℕ) (on b : Bool) → step.Change (command.Subscribe a on) ≡ step.Change (command.Subscribe x b) → (a ≡ x) × (on ≡ b)
same_subscribe a x on b is = (cc, cc)

same_create : (a x : List ℕ) → step.Change (command.Create a) ≡ step.Change (command.Create x) → a ≡ x
same_create a x is = cc

same_select : (a x : List ℕ) → step.SelectMade a ≡ step.SelectMade x → a ≡ x
same_select a x is = cc

-- ---- where an update puts the folder

there_same : (a b : Option Folder) → parent_there a ≡ parent_there b → b ≡ a
there_same None None is = refl
there_same None (Some y) is = absurd (cc)
there_same (Some x) None is = absurd (cc)
there_same (Some x) (Some y) is = cc

parent_of_asked : (g : Given) (f : Folder) (ms : Members) (asked : Place) (d : Option Data) → get_member (codes "parentId") ms ≡ d
    → parent_or g (now_of g f).parent d ≡ parent_there asked.parent → IsParent g f ms asked.parent
parent_of_asked g f ms asked None there is = OwnParent there (there_same (now_of g f).parent asked.parent is)
parent_of_asked g f ms asked (Some value) there is = AskedParent value there is

name_of_asked : (g : Given) (f : Folder) (ms : Members) (asked : Place) (o : Option (List ℕ)) → name_in ms ≡ o → asked.name ≡ name_or (octets_now g f) o
    → IsName g f ms asked.name
name_of_asked g f ms asked None there is = OwnName there is
name_of_asked g f ms asked (Some text) there is =
    elim (is_served_as (octets_now g f) text) as (λ b. is_served_as (octets_now g f) text ≡ b → asked.name ≡ cond b (octets_now g f) text → IsName g f ms asked.name) [
      | true ↦ λ served same. ServedName text there served same
      | false ↦ λ other same. AskedName (there ∙ ap (λ (n : List ℕ). Some n) (sym same)) (ap (is_served_as (octets_now g f)) same ∙ other)
    ] refl is

-- one of two isn't so
either_not : (a b : Bool) → (not a || not b) ≡ true → (a ≡ false) ⊎ (b ≡ false)
either_not false b is = inl refl
either_not true false is = inr refl
either_not true true is = never (sym is)

not_either : (a b : Bool) → (a ≡ false) ⊎ (b ≡ false) → (not a || not b) ≡ true
not_either false b is = refl
not_either true false is = refl
not_either true true (inl is) = never is
not_either true true (inr is) = never is

unequal : (xs ys : List ℕ) → bytes_eq xs ys ≡ false → xs ≢ ys
unequal xs ys other is = never (sym ((bytes_eq-Decides xs ys).1 is) ∙ other)

unequal_test : (xs ys : List ℕ) → xs ≢ ys → bytes_eq xs ys ≡ false
unequal_test xs ys other = elim (bytes_eq xs ys) as (λ b. bytes_eq xs ys ≡ b → b ≡ false) [ true ↦ λ is. absurd (other ((bytes_eq-Decides xs ys).0 is)) | false ↦ λ is. refl ] refl

renamed_where : (now asked : Place) → (is_renamed now asked ≡ true) ↔ ((same_folder now.parent asked.parent ≡ false) ⊎ (now.name ≢ asked.name))
renamed_where now asked = (
  (λ is. elim (either_not (same_folder now.parent asked.parent) (bytes_eq now.name asked.name) is) [
    | inl moved ↦ inl moved
    | inr other ↦ inr (unequal now.name asked.name other)
  ]),
  (λ either. not_either (same_folder now.parent asked.parent) (bytes_eq now.name asked.name) (elim either [
    | inl moved ↦ inl moved
    | inr other ↦ inr (unequal_test now.name asked.name other)
  ])),
)

-- ---- what an update sends

module _ (g : Given) (f : Folder) (ms : Members) (asked : Place) where
  abbrev was : Bool
  was = is_subscribed f

  abbrev wanted : Bool
  wanted = subscription_in ms was

  abbrev name_then : Bool → List ℕ
  name_then b = if b then name_at asked else f.name

  -- the subscription is sent
  abbrev IsToSubscribe : Bool → Type 0
  IsToSubscribe b = (wanted ≢ was) ⊎ ((b ≡ true) × (was ≡ true))

  data IsStep (b : Bool) (s : Step) : Type 0 where
    Leaves : s ≡ step.Unselect → IsStep b s
    Renames : b ≡ true → s ≡ step.Change (command.Rename f.name (name_at asked)) → IsStep b s
    SubscribesTo : IsToSubscribe b → s ≡ subscribe (name_then b) wanted → IsStep b s

  abbrev the_rename : Step
  the_rename = step.Change (command.Rename f.name (name_at asked))

  steps_are : (b : Bool) (s : Step) → Contains (job_by g f ms asked b).steps s → IsStep b s
  steps_are true s h = elim (Contains-append_cases (left_then g.selected the_rename) (subscribes_anew (name_at asked) was wanted) s h) [
    | inl first ↦ elim (left_are g.selected the_rename s first) [ inl leaves ↦ Leaves leaves | inr is ↦ Renames refl is ]
    | inr last ↦ elim (anew_are (name_at asked) was wanted s last).1 [
      | inl other ↦ SubscribesTo (inl other) (anew_are (name_at asked) was wanted s last).0
      | inr had ↦ SubscribesTo (inr (refl, had)) (anew_are (name_at asked) was wanted s last).0
    ]
  ]
  steps_are false s h = let is = subscribes_are f.name was wanted s h in SubscribesTo (inl is.1) is.0

  rename_in : (b : Bool) → b ≡ true → Contains (job_by g f ms asked b).steps the_rename
  rename_in false is = never (sym is)
  rename_in true is = Contains-append_left (left_then g.selected the_rename) (subscribes_anew (name_at asked) was wanted) the_rename (left_have g.selected the_rename)

  subscribe_in : (b : Bool) → IsToSubscribe b → Contains (job_by g f ms asked b).steps (subscribe (name_then b) wanted)
  subscribe_in false (inl other) = subscribes_have f.name was wanted other
  subscribe_in false (inr both) = never (sym both.0)
  subscribe_in true (inl other) =
      Contains-append_right (left_then g.selected the_rename) (subscribes_anew (name_at asked) was wanted) (subscribe (name_at asked) wanted)
      (anew_have (name_at asked) was wanted (inl other))
  subscribe_in true (inr both) =
      Contains-append_right (left_then g.selected the_rename) (subscribes_anew (name_at asked) was wanted) (subscribe (name_at asked) wanted)
      (anew_have (name_at asked) was wanted (inr both.1))

  renamed_by : (b : Bool) (from to : List ℕ) → IsStep b (step.Change (command.Rename from to)) → (b ≡ true) × (from ≡ f.name) × (to ≡ name_at asked)
  renamed_by b from to (Leaves is) = absurd (let no_step = is in cc)
  renamed_by b from to (Renames so is) = let same = same_rename from to f.name (name_at asked) is in (so, same.0, same.1)
  renamed_by b from to (SubscribesTo so is) = absurd (let no_step = is in cc)

  renamed_in : (b : Bool) (from to : List ℕ) → (b ≡ true) × (from ≡ f.name) × (to ≡ name_at asked)
      → Contains (job_by g f ms asked b).steps (step.Change (command.Rename from to))
  renamed_in b from to (so, from_is, to_is) =
      subst (λ (x : List ℕ). Contains (job_by g f ms asked b).steps (step.Change (command.Rename x to))) (sym from_is)
      (subst (λ (x : List ℕ). Contains (job_by g f ms asked b).steps (step.Change (command.Rename f.name x))) (sym to_is) (rename_in b so))

  abbrev Subscribed : Bool → List ℕ → Bool → Type 0
  Subscribed b to on = (to ≡ name_then b) × (on ≡ wanted) × ((on ≢ was) ⊎ ((b ≡ true) × (was ≡ true)))

  subscribed_by : (b : Bool) (to : List ℕ) (on : Bool) → IsStep b (step.Change (command.Subscribe to on)) → Subscribed b to on
  subscribed_by b to on (Leaves is) = absurd (let no_step = is in cc)
  subscribed_by b to on (Renames so is) = absurd (let no_step = is in cc)
  subscribed_by b to on (SubscribesTo so is) =
      let same = same_subscribe to (name_then b) on wanted is in
      (same.0, same.1, subst (λ (x : Bool). (x ≢ was) ⊎ ((b ≡ true) × (was ≡ true))) (sym same.1) so)

  subscribed_in : (b : Bool) (to : List ℕ) (on : Bool) → Subscribed b to on → Contains (job_by g f ms asked b).steps (step.Change (command.Subscribe to on))
  subscribed_in b to on (to_is, on_is, so) =
      subst (λ (x : List ℕ). Contains (job_by g f ms asked b).steps (subscribe x on)) (sym to_is)
      (subst (λ (x : Bool). Contains (job_by g f ms asked b).steps (subscribe (name_then b) x)) (sym on_is)
      (subscribe_in b (subst (λ (x : Bool). (x ≢ was) ⊎ ((b ≡ true) × (was ≡ true))) on_is so)))

  other_by : (b : Bool) (s : Step) → IsStep b s → (s ≡ step.Unselect) ⊎ ((c : Command) × (s ≡ step.Change c))
  other_by b s (Leaves is) = inl is
  other_by b s (Renames so is) = inr (command.Rename f.name (name_at asked), is)
  other_by b s (SubscribesTo so is) = inr (command.Subscribe (name_then b) wanted, is)

  abbrev Commanded : Command → Type 0
  Commanded c =
      ((from : List ℕ) × (to : List ℕ) × (c ≡ command.Rename from to)) ⊎ ((to : List ℕ) × (on : Bool) × (c ≡ command.Subscribe to on))

  commanded_by : (b : Bool) (c : Command) → IsStep b (step.Change c) → Commanded c
  commanded_by b c (Leaves is) = absurd (let no_step = is in cc)
  commanded_by b c (Renames so is) = inl (f.name, name_at asked, same_command c (command.Rename f.name (name_at asked)) is)
  commanded_by b c (SubscribesTo so is) = inr (name_then b, wanted, same_command c (command.Subscribe (name_then b) wanted) is)

  update_done : (b : Bool) → (job_by g f ms asked b).done ≡ Changed f.number None
  update_done true = refl
  update_done false = refl

  update_sends : (b : Bool) → is_renamed (now_of g f) asked ≡ b → IsParent g f ms asked.parent → IsName g f ms asked.name → SendsUpdate g f ms (job_by g f ms asked b)
  update_sends b is parent name = record {
    parent = asked.parent;
    name = asked.name;
    renames = b;
    parent_is = parent;
    name_is = name;
    renames_is = (let P : Bool → Type 0 = λ x. (x ≡ true) ↔ ((same_folder (now_of g f).parent asked.parent ≡ false) ⊎ ((now_of g f).name ≢ asked.name)) in subst P is (renamed_where (now_of g f) asked));
    renamed = λ from to. ((λ h. renamed_by b from to (steps_are b (step.Change (command.Rename from to)) h)), (λ so. renamed_in b from to so));
    subscribed = λ to on. ((λ h. subscribed_by b to on (steps_are b (step.Change (command.Subscribe to on)) h)), (λ so. subscribed_in b to on so));
    others = λ s h. other_by b s (steps_are b s h);
    commands = λ c h. commanded_by b c (steps_are b (step.Change c) h);
    done_is = update_done b;
  }

pub updates_send : (g : Given) (text : List ℕ) (ms : Members) (job : Job) (f : Folder) → folder_named g text ≡ Some f → update_mailbox g text ms ≡ Ok job
    → SendsUpdate g f ms job
updates_send g text ms job f named is =
    let so : IsUpdate g f ms job = updates_are g text ms job f named is in
    subst (SendsUpdate g f ms) (sym so.job_is) (update_sends g f ms so.asked (is_renamed (now_of g f) so.asked) refl
    (parent_of_asked g f ms so.asked (get_member (codes "parentId") ms) refl so.parent_is) (name_of_asked g f ms so.asked (name_in ms) refl so.name_is))

-- ---- what a creation sends

module _ (g : Given) (ms : Members) (parent : Option Folder) where
  abbrev full : List ℕ
  full = full_name parent (name_or_empty ms)

  abbrev subscribed : Bool
  subscribed = subscription_in ms false

  abbrev IsOf : Step → Type 0
  IsOf s = IsCreateStep full subscribed g.special_use s

  are : (s : Step) → Contains (creation_of g ms parent).steps s → IsOf s
  are s h = creates_are full subscribed g.special_use s h

  created_by : (to : List ℕ) → IsOf (step.Change (command.Create to)) → to ≡ full
  created_by to (Creates is) = same_create to full is
  created_by to (Subscribes so is) = absurd (let no_step = is in cc)
  created_by to (Lists is) = absurd (let no_step = is in cc)
  created_by to (Selects is) = absurd (let no_step = is in cc)

  made_subscribed : (to : List ℕ) (on : Bool) → IsOf (step.Change (command.Subscribe to on)) → (to ≡ full) × (on ≡ true) × (subscribed ≡ true)
  made_subscribed to on (Creates is) = absurd (let no_step = is in cc)
  made_subscribed to on (Subscribes so is) = let same = same_subscribe to full on true is in (same.0, same.1, so)
  made_subscribed to on (Lists is) = absurd (let no_step = is in cc)
  made_subscribed to on (Selects is) = absurd (let no_step = is in cc)

  subscribed_there : (to : List ℕ) (on : Bool) → (to ≡ full) × (on ≡ true) × (subscribed ≡ true)
      → Contains (creation_of g ms parent).steps (step.Change (command.Subscribe to on))
  subscribed_there to on (to_is, on_is, so) =
      subst (λ (x : List ℕ). Contains (creation_of g ms parent).steps (subscribe x on)) (sym to_is)
      (subst (λ (x : Bool). Contains (creation_of g ms parent).steps (subscribe full x)) (sym on_is) (creates_subscribe full subscribed g.special_use so))

  selected_by : (to : List ℕ) → IsOf (step.SelectMade to) → to ≡ full
  selected_by to (Creates is) = absurd (let no_step = is in cc)
  selected_by to (Subscribes so is) = absurd (let no_step = is in cc)
  selected_by to (Lists is) = absurd (let no_step = is in cc)
  selected_by to (Selects is) = same_select to full is

  made_others : (s : Step) → IsOf s → (s ≡ step.List full g.special_use) ⊎ (s ≡ step.SelectMade full) ⊎ ((c : Command) × (s ≡ step.Change c))
  made_others s (Creates is) = inr (inr (command.Create full, is))
  made_others s (Subscribes so is) = inr (inr (command.Subscribe full true, is))
  made_others s (Lists is) = inl is
  made_others s (Selects is) = inr (inl is)

  made_commands : (c : Command) → IsOf (step.Change c) → ((to : List ℕ) × (c ≡ command.Create to)) ⊎ ((to : List ℕ) × (on : Bool) × (c ≡ command.Subscribe to on))
  made_commands c (Creates is) = inl (full, same_command c (command.Create full) is)
  made_commands c (Subscribes so is) = inr (full, true, same_command c (command.Subscribe full true) is)
  made_commands c (Lists is) = absurd (let no_step = is in cc)
  made_commands c (Selects is) = absurd (let no_step = is in cc)

  creation_sends : parent_of g ms ≡ parent_there parent → name_in ms ≡ Some (name_or_empty ms) → SendsCreation g ms (creation_of g ms parent)
  creation_sends parent_is name_is = record {
    parent = parent;
    name = name_or_empty ms;
    parent_is = parent_is;
    name_is = name_is;
    created = λ to. (
      (λ h. created_by to (are (step.Change (command.Create to)) h)),
      (λ is. subst (λ (x : List ℕ). Contains (creation_of g ms parent).steps (step.Change (command.Create x))) (sym is) (creates_have full subscribed g.special_use)),
    );
    subscribed = λ to on. ((λ h. made_subscribed to on (are (step.Change (command.Subscribe to on)) h)), (λ so. subscribed_there to on so));
    selected = λ to. (
      (λ h. selected_by to (are (step.SelectMade to) h)),
      (λ is. subst (λ (x : List ℕ). Contains (creation_of g ms parent).steps (step.SelectMade x)) (sym is) (creates_select full subscribed g.special_use)),
    );
    others = λ s h. made_others s (are s h);
    commands = λ c h. made_commands c (are (step.Change c) h);
    done_is = refl;
  }

pub creations_send : (g : Given) (ms : Members) (job : Job) → create_mailbox g ms ≡ Ok job → SendsCreation g ms job
creations_send g ms job is =
    let so : IsCreation g ms job = creations_are g ms job is in
    subst (SendsCreation g ms) (sym so.job_is) (creation_sends g ms so.parent so.parent_is so.name_is)

-- ---- what a destroy sends

pub destroys_send : (g : Given) (removes : Bool) (text : List ℕ) (job : Job) (f : Folder) → folder_to_destroy g text ≡ Some f
    → destroy_mailbox g removes text ≡ Ok job → SendsDestroy f job
destroys_send g removes text job f named is =
    subst (SendsDestroy f) (sym (destroys_are g removes text job f named is)) (record {
      deleted = left_have g.selected (step.Change (command.Delete f.name));
      others = λ s h. left_are g.selected (step.Change (command.Delete f.name)) s h;
      done_is = refl;
    })
