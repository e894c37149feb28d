-- The jobs of updates and destroys of Emails send what is asked.
use Rattle.std.proofs.Common.{arith, ◌≡◌, ◌≢◌, ◌⊎◌, ◌↔◌, ◌∙◌, ◌++◌, ◌==◌, ℕ, Bool, true, false, cond, List, [], ◌∷◌, Option, Some, None, Result, Ok, Err, refl, sym, ap, subst, inl, inr}
use Rattle.std.specs.List.{Contains}
use Rattle.std.proofs.lemmas.Bool.Decides.{nat_tests}
use Rattle.std.proofs.lemmas.List.Elements.{Contains-append_cases, Contains-append_left, Contains-append_right}
use Rattle.serde_json.specs.Data.{Members}
use Rattle.imap_types.specs.declared.command.Command.{Command}
use Rattle.imap_types.specs.declared.command.Command.TheVariants as command
use Rattle.told_folder.specs.declared.message.Folder.{Folder}
use Rattle.told_mail.specs.Mail.{folder_in}
use Rattle.mail_maps.specs.Rights.{rights_of}
use Rattle.set_jobs.specs.declared.done.SetError.{SetError}
use Rattle.set_jobs.specs.declared.done.SetError.TheVariants as why
use Rattle.set_jobs.specs.declared.job.Job.{Job}
use Rattle.set_jobs.specs.declared.step.Step.{Step}
use Rattle.set_jobs.specs.declared.step.Step.TheVariants as step
use Rattle.set_given.specs.Given.{Given, EmailFound, email_named}
use Rattle.set_patches.specs.Patches.{Patch, patch_in, wrong_properties}
use Rattle.email_checks.specs.Asked.{asked_folders, asked_keywords, is_invalid_email_patch, is_right}
use Rattle.email_checks.specs.Emails as emails
use Rattle.email_checks.specs.Emails.{flags_to_set, flags_to_take, held_keywords}
use Rattle.email_checks.specs.Keywords.{flag_of}
use Rattle.email_checks.specs.Steps.{EmailUpdate, is_forbidden, is_selected, selects, update_job, update_steps}
use Rattle.email_laws.specs.Sent.{AreFlagsToChange, IsToChange, SendsDestroy, SendsWhatIsAsked}
use Rattle.email_laws.proofs.SentFlags.{contains_cases, contains_here, contains_none, contains_there, flags_are, flags_have}
use Rattle.email_laws.proofs.SentSteps.{IsUpdateStep, MovesTo, Selects, Sets, Takes, move_in, select_has, selects_are, sets_have, takes_have, update_are}

-- ---- which job it is

-- it is the update by these parts, into the one folder that is asked
pub record IsUpdate (g : Given) (e : EmailFound) (f : Folder) (parts : Patch) (job : Job) : Type 0 where
  pub number : ℕ
  pub asked : asked_folders g parts (f.number ∷ []) ≡ number ∷ []
  pub job_is : job ≡ update_job g.selected (emails.update_of e f parts (folder_in g.mail.folders number))

abbrev IsSo : Given → EmailFound → Folder → Patch → Result Job SetError → Type 0
IsSo g e f parts (Ok job) = IsUpdate g e f parts job
IsSo g e f parts (Err error) = Unit {0}

unless_forbidden : (g : Given) (e : EmailFound) (f : Folder) (parts : Patch) (n : ℕ) → asked_folders g parts (f.number ∷ []) ≡ n ∷ []
    → IsSo g e f parts (emails.unless_forbidden g.selected (emails.update_of e f parts (folder_in g.mail.folders n)))
unless_forbidden g e f parts n is =
    let u : EmailUpdate = emails.update_of e f parts (folder_in g.mail.folders n) in
    elim (is_forbidden u) as (λ b. IsSo g e f parts (cond b (Err why.Forbidden) (Ok (update_job g.selected u)))) [
      | true ↦ tt
      | false ↦ record { number = n; asked = is; job_is = refl }
    ]

into : (g : Given) (e : EmailFound) (f : Folder) (parts : Patch) (ns : List ℕ) → asked_folders g parts (f.number ∷ []) ≡ ns
    → IsSo g e f parts (emails.update_into g e f parts (emails.one_folder ns))
into g e f parts [] is = tt
into g e f parts (n ∷ []) is = unless_forbidden g e f parts n is
into g e f parts (n ∷ k ∷ ns) is = tt

unless_wrong : (g : Given) (e : EmailFound) (f : Folder) (parts : Patch) (ps : List (List ℕ)) (r : Result Job SetError) → IsSo g e f parts r
    → IsSo g e f parts (emails.unless_wrong ps r)
unless_wrong g e f parts [] r so = so
unless_wrong g e f parts (p ∷ ps) r so = tt

updated_in : (g : Given) (ms : Members) (e : EmailFound) (f : Folder) → IsSo g e f (patch_in ms) (emails.update_in g ms e f)
updated_in g ms e f = elim (is_invalid_email_patch ms) as (λ b. IsSo g e f (patch_in ms) (cond b (Err why.InvalidPatch) (emails.update_valid g e f (patch_in ms)))) [
  | true ↦ tt
  | false ↦ unless_wrong g e f (patch_in ms) (wrong_properties (is_right g) (patch_in ms)) (emails.update_right g e f (patch_in ms))
      (into g e f (patch_in ms) (asked_folders g (patch_in ms) (f.number ∷ [])) refl)
]

-- ---- what it sends

other_number : (m n : ℕ) → (m == n) ≡ false → m ≢ n
other_number m n is = grind (arith, nat_tests)

unequal_test : (m n : ℕ) → m ≢ n → (m == n) ≡ false
unequal_test m n is = grind (arith, nat_tests)

-- the flags that are set are those of the keywords that are asked and not held
sets_of : (asked : Option (List (List ℕ))) (held : List (List ℕ)) → flags_to_set asked held ≢ []
    → (names : List (List ℕ)) × (asked ≡ Some names) × AreFlagsToChange true names held (flags_to_set asked held)
sets_of None held some = absurd (some refl)
sets_of (Some names) held some = (
  names,
  refl,
  λ x. ((λ there. flags_are names held x there), (λ (k, is, same). subst (λ (y : List ℕ). Contains (flags_to_set (Some names) held) y) (sym same) (flags_have names held k is.0 is.1))),
)

takes_of : (asked : Option (List (List ℕ))) (held : List (List ℕ)) → flags_to_take asked held ≢ []
    → (names : List (List ℕ)) × (asked ≡ Some names) × AreFlagsToChange false names held (flags_to_take asked held)
takes_of None held some = absurd (some refl)
takes_of (Some names) held some = (
  names,
  refl,
  λ x. ((λ there. flags_are held names x there), (λ (k, is, same). subst (λ (y : List ℕ). Contains (flags_to_take (Some names) held) y) (sym same) (flags_have held names k is.0 is.1))),
)

set_has : (asked : Option (List (List ℕ))) (held names : List (List ℕ)) (k : List ℕ) → asked ≡ Some names → IsToChange true names held k
    → Contains (flags_to_set asked held) (flag_of k)
set_has asked held names k is to = subst (λ (o : Option (List (List ℕ))). Contains (flags_to_set o held) (flag_of k)) (sym is) (flags_have names held k to.0 to.1)

take_has : (asked : Option (List (List ℕ))) (held names : List (List ℕ)) (k : List ℕ) → asked ≡ Some names → IsToChange false names held k
    → Contains (flags_to_take asked held) (flag_of k)
take_has asked held names k is to = subst (λ (o : Option (List (List ℕ))). Contains (flags_to_take o held) (flag_of k)) (sym is) (flags_have held names k to.0 to.1)

store_same : (u v : ℕ) (a b : Bool) (xs ys : List (List ℕ)) → step.Change (command.Store u a xs) ≡ step.Change (command.Store v b ys)
    → (u ≡ v) × (a ≡ b) × (xs ≡ ys)
store_same u v a b xs ys is = (cc, cc, cc)

move_same : (u v : ℕ) (a b : List ℕ) → step.Change (command.Move u a) ≡ step.Change (command.Move v b) → (u ≡ v) × (a ≡ b)
move_same u v a b is = (cc, cc)

module _ (g : Given) (e : EmailFound) (f : Folder) (parts : Patch) (n : ℕ) where
  -- the update, and the keywords that are asked
  abbrev the_update : EmailUpdate
  the_update = emails.update_of e f parts (folder_in g.mail.folders n)

  abbrev the_keywords : Option (List (List ℕ))
  the_keywords = asked_keywords parts None (held_keywords e)

  abbrev Stored : ℕ → Bool → List (List ℕ) → Type 0
  Stored uid add flags =
      (uid ≡ e.placed.message.uid) × (flags ≢ [])
      × ((names : List (List ℕ)) × (the_keywords ≡ Some names) × AreFlagsToChange add names (held_keywords e) flags)

  as_stored : (uid v : ℕ) (add b : Bool) (flags gs : List (List ℕ)) → (uid ≡ v) × (add ≡ b) × (flags ≡ gs) → Stored v b gs → Stored uid add flags
  as_stored uid v add b flags gs is h =
      subst (λ (x : ℕ). Stored x add flags) (sym is.0)
      (subst (λ (x : Bool). Stored v x flags) (sym is.1) (subst (λ (x : List (List ℕ)). Stored v b x) (sym is.2) h))

  stored_by : (uid : ℕ) (add : Bool) (flags : List (List ℕ)) → IsUpdateStep the_update (step.Change (command.Store uid add flags)) → Stored uid add flags
  stored_by uid add flags (Selects is) = absurd (let never = is in cc)
  stored_by uid add flags (Sets some is) =
      as_stored uid e.placed.message.uid add true flags the_update.sets (store_same uid the_update.uid add true flags the_update.sets is)
      (refl, some, sets_of the_keywords (held_keywords e) some)
  stored_by uid add flags (Takes some is) =
      as_stored uid e.placed.message.uid add false flags the_update.takes (store_same uid the_update.uid add false flags the_update.takes is)
      (refl, some, takes_of the_keywords (held_keywords e) some)
  stored_by uid add flags (MovesTo t target other is) = absurd (let never = is in cc)

  changed_in : (names : List (List ℕ)) (add : Bool) (k : List ℕ) → the_keywords ≡ Some names → IsToChange add names (held_keywords e) k
      → (flags : List (List ℕ)) × Contains (update_steps g.selected the_update) (step.Change (command.Store e.placed.message.uid add flags))
      × Contains flags (flag_of k)
  changed_in names true k is to =
      let there = set_has the_keywords (held_keywords e) names k is to in (the_update.sets, sets_have g.selected the_update (flag_of k) there, there)
  changed_in names false k is to =
      let there = take_has the_keywords (held_keywords e) names k is to in (the_update.takes, takes_have g.selected the_update (flag_of k) there, there)

  abbrev Moved : ℕ → List ℕ → Type 0
  Moved uid name =
      (target : Folder) × (folder_in g.mail.folders n ≡ Some target) × (target.number ≢ f.number) × (uid ≡ e.placed.message.uid) × (name ≡ target.name)

  moved_by : (uid : ℕ) (name : List ℕ) → IsUpdateStep the_update (step.Change (command.Move uid name)) → Moved uid name
  moved_by uid name (Selects is) = absurd (let never = is in cc)
  moved_by uid name (Sets some is) = absurd (let never = is in cc)
  moved_by uid name (Takes some is) = absurd (let never = is in cc)
  moved_by uid name (MovesTo t target other is) =
      let same = move_same uid the_update.uid name t.name is in (t, target, other_number t.number f.number other, same.0, same.1)

  moved_in : (uid : ℕ) (name : List ℕ) → Moved uid name → Contains (update_steps g.selected the_update) (step.Change (command.Move uid name))
  moved_in uid name (t, target, other, uid_is, name_is) =
      subst (λ (x : ℕ). Contains (update_steps g.selected the_update) (step.Change (command.Move x name))) (sym uid_is)
      (subst (λ (x : List ℕ). Contains (update_steps g.selected the_update) (step.Change (command.Move e.placed.message.uid x))) (sym name_is)
      (move_in g.selected the_update t target (unequal_test t.number f.number other)))

  other_by : (s : Step) → IsUpdateStep the_update s → (s ≡ step.Select f.number e.mark) ⊎ ((c : Command) × (s ≡ step.Change c))
  other_by s (Selects is) = inl is
  other_by s (Sets some is) = inr (command.Store the_update.uid true the_update.sets, is)
  other_by s (Takes some is) = inr (command.Store the_update.uid false the_update.takes, is)
  other_by s (MovesTo t target other is) = inr (command.Move the_update.uid t.name, is)

  abbrev Commanded : Command → Type 0
  Commanded c =
      ((uid : ℕ) × (add : Bool) × (flags : List (List ℕ)) × (c ≡ command.Store uid add flags)) ⊎ ((uid : ℕ) × (name : List ℕ) × (c ≡ command.Move uid name))

  same_command : (c d : Command) → step.Change c ≡ step.Change d → c ≡ d
  same_command c d is = cc

  commanded_by : (c : Command) → IsUpdateStep the_update (step.Change c) → Commanded c
  commanded_by c (Selects is) = absurd (let never = is in cc)
  commanded_by c (Sets some is) = inl (the_update.uid, true, the_update.sets, same_command c (command.Store the_update.uid true the_update.sets) is)
  commanded_by c (Takes some is) = inl (the_update.uid, false, the_update.takes, same_command c (command.Store the_update.uid false the_update.takes) is)
  commanded_by c (MovesTo t target other is) = inr (the_update.uid, t.name, same_command c (command.Move the_update.uid t.name) is)

  update_sends : folder_in g.mail.folders e.placed.folder ≡ Some f → asked_folders g parts (f.number ∷ []) ≡ n ∷ []
      → SendsWhatIsAsked g e parts (update_job g.selected the_update)
  update_sends there asked =
      record {
        folder = f;
        number = n;
        there = there;
        asked = asked;
        stored = λ uid add flags h. stored_by uid add flags (update_are g.selected the_update (step.Change (command.Store uid add flags)) h);
        changed = changed_in;
        moved = λ uid name.
            ((λ h. moved_by uid name (update_are g.selected the_update (step.Change (command.Move uid name)) h)), (λ is. moved_in uid name is));
        others = λ s h. other_by s (update_are g.selected the_update s h);
        commands = λ c h. commanded_by c (update_are g.selected the_update (step.Change c) h);
        done_is = refl;
      }

sends_so : (g : Given) (e : EmailFound) (f : Folder) (parts : Patch) (job : Job) → folder_in g.mail.folders e.placed.folder ≡ Some f → IsUpdate g e f parts job
    → SendsWhatIsAsked g e parts job
sends_so g e f parts job there so =
    subst (λ (j : Job). SendsWhatIsAsked g e parts j) (sym so.job_is) (update_sends g e f parts so.number there so.asked)

abbrev Sends : Given → EmailFound → Patch → Result Job SetError → Type 0
Sends g e parts (Ok job) = SendsWhatIsAsked g e parts job
Sends g e parts (Err error) = Unit {0}

sends_by : (g : Given) (e : EmailFound) (f : Folder) (parts : Patch) (r : Result Job SetError) → folder_in g.mail.folders e.placed.folder ≡ Some f
    → IsSo g e f parts r → Sends g e parts r
sends_by g e f parts (Ok job) there so = sends_so g e f parts job there so
sends_by g e f parts (Err error) there so = tt

found_sends : (g : Given) (ms : Members) (e : EmailFound) (f : Option Folder) → folder_in g.mail.folders e.placed.folder ≡ f
    → Sends g e (patch_in ms) (emails.update_found g ms e f)
found_sends g ms e None is = tt
found_sends g ms e (Some f) is = sends_by g e f (patch_in ms) (emails.update_in g ms e f) is (updated_in g ms e f)

pub updates_send : (g : Given) (text : List ℕ) (ms : Members) (job : Job) (e : EmailFound) → email_named g text ≡ Some e → emails.update_email g text ms ≡ Ok job
    → SendsWhatIsAsked g e (patch_in ms) job
updates_send g text ms job e named is =
    let found : emails.update_found g ms e (folder_in g.mail.folders e.placed.folder) ≡ Ok job =
    ap (λ (o : Option EmailFound). emails.update_email_as g ms o) (sym named) ∙ is in
    subst (λ (r : Result Job SetError). Sends g e (patch_in ms) r) found (found_sends g ms e (folder_in g.mail.folders e.placed.folder) refl)

-- ---- a destroy

module _ (g : Given) (e : EmailFound) (f : Folder) where
  abbrev the_uid : ℕ
  the_uid = e.placed.message.uid

  abbrev IsOf : Step → Type 0
  IsOf s =
      ((is_selected g.selected f.name ≡ false) × (s ≡ step.Select f.number e.mark)) ⊎ (s ≡ step.Delete the_uid) ⊎ (s ≡ step.Expunge the_uid)

  last_are : (s : Step) → Contains (step.Delete the_uid ∷ step.Expunge the_uid ∷ []) s → IsOf s
  last_are s h = elim (contains_cases (step.Delete the_uid) (step.Expunge the_uid ∷ []) s h) [
    | inl same ↦ inr (inl (sym same))
    | inr later ↦ elim (contains_cases (step.Expunge the_uid) [] s later) [ inl same ↦ inr (inr (sym same)) | inr none ↦ contains_none s none ]
  ]

  steps_are : (s : Step) → Contains (selects g.selected f e.mark ++ (step.Delete the_uid ∷ step.Expunge the_uid ∷ [])) s → IsOf s
  steps_are s h = elim (Contains-append_cases (selects g.selected f e.mark) (step.Delete the_uid ∷ step.Expunge the_uid ∷ []) s h) [
    | inl first ↦ inl (selects_are g.selected f e.mark s first)
    | inr later ↦ last_are s later
  ]

  abbrev Has : Step → Type 0
  Has s = Contains (selects g.selected f e.mark ++ (step.Delete the_uid ∷ step.Expunge the_uid ∷ [])) s

  has_last : (s : Step) → Contains (step.Delete the_uid ∷ step.Expunge the_uid ∷ []) s → Has s
  has_last s h = Contains-append_right (selects g.selected f e.mark) (step.Delete the_uid ∷ step.Expunge the_uid ∷ []) s h

  steps_have : (s : Step) → IsOf s → Has s
  steps_have s (inl (other, is)) =
      subst Has (sym is) (Contains-append_left (selects g.selected f e.mark) (step.Delete the_uid ∷ step.Expunge the_uid ∷ []) (step.Select f.number e.mark)
      (select_has (is_selected g.selected f.name) f e.mark other))
  steps_have s (inr (inl is)) = subst Has (sym is) (has_last (step.Delete the_uid) (contains_here (step.Delete the_uid) (step.Expunge the_uid ∷ [])))
  steps_have s (inr (inr is)) =
      subst Has (sym is) (has_last (step.Expunge the_uid)
      (contains_there (step.Delete the_uid) (step.Expunge the_uid ∷ []) (step.Expunge the_uid) (contains_here (step.Expunge the_uid) [])))

  destroy_sends : folder_in g.mail.folders e.placed.folder ≡ Some f → SendsDestroy g e (emails.destroy_job g.selected e f)
  destroy_sends there =
      record { folder = f; there = there; steps = λ s. ((λ h. steps_are s h), (λ is. steps_have s is)); done_is = refl }

abbrev Destroys : Given → EmailFound → Result Job SetError → Type 0
Destroys g e (Ok job) = SendsDestroy g e job
Destroys g e (Err error) = Unit {0}

destroyed_found : (g : Given) (e : EmailFound) (f : Option Folder) → folder_in g.mail.folders e.placed.folder ≡ f → Destroys g e (emails.destroy_found g e f)
destroyed_found g e None is = tt
destroyed_found g e (Some f) is =
    elim (rights_of f).may_remove_items as (λ b. Destroys g e (cond b (Ok (emails.destroy_job g.selected e f)) (Err why.Forbidden))) [
      | true ↦ destroy_sends g e f is
      | false ↦ tt
    ]

pub destroys_send : (g : Given) (text : List ℕ) (job : Job) (e : EmailFound) → email_named g text ≡ Some e → emails.destroy_email g text ≡ Ok job
    → SendsDestroy g e job
destroys_send g text job e named is =
    let found : emails.destroy_found g e (folder_in g.mail.folders e.placed.folder) ≡ Ok job =
    ap (λ (o : Option EmailFound). emails.destroy_email_as g o) (sym named) ∙ is in
    subst (λ (r : Result Job SetError). Destroys g e r) found (destroyed_found g e (folder_in g.mail.folders e.placed.folder) refl)
