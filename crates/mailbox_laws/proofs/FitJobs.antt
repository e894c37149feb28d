-- The steps of items of Mailbox/set have to be obeyed, and none is an APPEND.
use Rattle.std.proofs.Common.{arith, ◌≡◌, ◌++◌, ℕ, Bool, true, false, List, Option, Some, None, Ok, refl, sym, subst}
use Rattle.serde_json.specs.Data.{Members}
use Rattle.told_folder.specs.declared.message.Folder.{Folder}
use Rattle.told_mail.specs.Mail.{Mail}
use Rattle.mailbox_names.specs.FullNames.{full_name}
use Rattle.set_jobs.specs.declared.job.Job.{Job}
use Rattle.set_items.specs.Commands.{BeginsHeld, FirstSelectsHeld, FitsAfter, IsFit, SelectNone, appends_of}
use Rattle.set_given.specs.Given.{Given}
use Rattle.mailbox_checks.specs.Create.{create_mailbox, name_or_empty}
use Rattle.mailbox_checks.specs.Destroy.{destroy_mailbox}
use Rattle.mailbox_checks.specs.Properties.{subscription_in}
use Rattle.mailbox_checks.specs.Steps.{creates, deletes, renames, subscribes, subscribes_anew}
use Rattle.mailbox_checks.specs.Update.{Place, is_renamed, is_subscribed, name_at, update_mailbox}
use Rattle.mailbox_laws.proofs.Jobs.{IsCreation, IsUpdate, creations_are, destroy_job, job_by, now_of, some_destroy, some_update}

-- the steps of the job are fit, select no folder by its number, and append nothing
pub record AreGood (job : Job) : Type 0 where
  pub fit : IsFit job
  pub held : (m : Mail) → BeginsHeld m job
  pub no_append : appends_of job.steps ≡ 0

-- ---- steps

anew_fit : (name : List ℕ) (was asked : Bool) → FitsAfter None (subscribes_anew name was asked)
anew_fit name false false = tt
anew_fit name false true = (tt, tt)
anew_fit name true false = (tt, tt)
anew_fit name true true = (tt, tt)

anew_select : (name : List ℕ) (was asked : Bool) → SelectNone (subscribes_anew name was asked)
anew_select name false false = tt
anew_select name false true = (tt, tt)
anew_select name true false = (tt, tt)
anew_select name true true = (tt, tt)

anew_none : (name : List ℕ) (was asked : Bool) → appends_of (subscribes_anew name was asked) ≡ 0
anew_none name false false = refl
anew_none name false true = refl
anew_none name true false = refl
anew_none name true true = refl

subscribe_fit : (name : List ℕ) (was asked : Bool) → FitsAfter None (subscribes name was asked)
subscribe_fit name false false = tt
subscribe_fit name false true = (tt, tt)
subscribe_fit name true false = (tt, tt)
subscribe_fit name true true = tt

subscribe_held : (m : Mail) (name : List ℕ) (was asked : Bool) → FirstSelectsHeld m (subscribes name was asked)
subscribe_held m name false false = tt
subscribe_held m name false true = (tt, tt)
subscribe_held m name true false = (tt, tt)
subscribe_held m name true true = tt

subscribe_none : (name : List ℕ) (was asked : Bool) → appends_of (subscribes name was asked) ≡ 0
subscribe_none name false false = refl
subscribe_none name false true = refl
subscribe_none name true false = refl
subscribe_none name true true = refl

rename_fit : (selected : Option (List ℕ)) (from to : List ℕ) (was asked : Bool) → FitsAfter None (renames selected from to ++ subscribes_anew to was asked)
rename_fit None from to was asked = (tt, anew_fit to was asked)
rename_fit (Some name) from to was asked = (tt, (tt, anew_fit to was asked))

rename_held : (m : Mail) (selected : Option (List ℕ)) (from to : List ℕ) (was asked : Bool)
    → FirstSelectsHeld m (renames selected from to ++ subscribes_anew to was asked)
rename_held m None from to was asked = (tt, anew_select to was asked)
rename_held m (Some name) from to was asked = (tt, (tt, anew_select to was asked))

rename_none : (selected : Option (List ℕ)) (from to : List ℕ) (was asked : Bool) → appends_of (renames selected from to ++ subscribes_anew to was asked) ≡ 0
rename_none None from to was asked = let none : appends_of (subscribes_anew to was asked) ≡ 0 = anew_none to was asked in omega (arith, none)
rename_none (Some name) from to was asked = let none : appends_of (subscribes_anew to was asked) ≡ 0 = anew_none to was asked in omega (arith, none)

create_fit : (name : List ℕ) (subscribed special_use : Bool) → FitsAfter None (creates name subscribed special_use)
create_fit name false special_use = (refl, (refl, (refl, tt)))
create_fit name true special_use = (refl, (tt, (refl, (refl, tt))))

create_held : (m : Mail) (name : List ℕ) (subscribed special_use : Bool) → FirstSelectsHeld m (creates name subscribed special_use)
create_held m name false special_use = (tt, (tt, (tt, tt)))
create_held m name true special_use = (tt, (tt, (tt, (tt, tt))))

create_none : (name : List ℕ) (subscribed special_use : Bool) → appends_of (creates name subscribed special_use) ≡ 0
create_none name false special_use = refl
create_none name true special_use = refl

delete_fit : (selected : Option (List ℕ)) (name : List ℕ) → FitsAfter None (deletes selected name)
delete_fit None name = (tt, tt)
delete_fit (Some s) name = (tt, (tt, tt))

delete_held : (m : Mail) (selected : Option (List ℕ)) (name : List ℕ) → FirstSelectsHeld m (deletes selected name)
delete_held m None name = (tt, tt)
delete_held m (Some s) name = (tt, (tt, tt))

delete_none : (selected : Option (List ℕ)) (name : List ℕ) → appends_of (deletes selected name) ≡ 0
delete_none None name = refl
delete_none (Some s) name = refl

-- ---- jobs

update_good : (g : Given) (f : Folder) (ms : Members) (asked : Place) (renames : Bool) → AreGood (job_by g f ms asked renames)
update_good g f ms asked true = record {
  fit = rename_fit g.selected f.name (name_at asked) (is_subscribed f) (subscription_in ms (is_subscribed f));
  held = λ m. rename_held m g.selected f.name (name_at asked) (is_subscribed f) (subscription_in ms (is_subscribed f));
  no_append = rename_none g.selected f.name (name_at asked) (is_subscribed f) (subscription_in ms (is_subscribed f));
}
update_good g f ms asked false = record {
  fit = subscribe_fit f.name (is_subscribed f) (subscription_in ms (is_subscribed f));
  held = λ m. subscribe_held m f.name (is_subscribed f) (subscription_in ms (is_subscribed f));
  no_append = subscribe_none f.name (is_subscribed f) (subscription_in ms (is_subscribed f));
}

pub updates_good : (g : Given) (text : List ℕ) (ms : Members) (job : Job) → update_mailbox g text ms ≡ Ok job → AreGood job
updates_good g text ms job is = by (some_update g text ms job is)
  where
    by : (f : Folder) × IsUpdate g f ms job → AreGood job
    by (f, so) = subst AreGood (sym so.job_is) (update_good g f ms so.asked (is_renamed (now_of g f) so.asked))

pub creations_good : (g : Given) (ms : Members) (job : Job) → create_mailbox g ms ≡ Ok job → AreGood job
creations_good g ms job is =
    let so : IsCreation g ms job = creations_are g ms job is in
    subst AreGood (sym so.job_is) (record {
      fit = create_fit (full_name so.parent (name_or_empty ms)) (subscription_in ms false) g.special_use;
      held = λ m. create_held m (full_name so.parent (name_or_empty ms)) (subscription_in ms false) g.special_use;
      no_append = create_none (full_name so.parent (name_or_empty ms)) (subscription_in ms false) g.special_use;
    })

pub destroys_good : (g : Given) (removes : Bool) (text : List ℕ) (job : Job) → destroy_mailbox g removes text ≡ Ok job → AreGood job
destroys_good g removes text job is = by (some_destroy g removes text job is)
  where
    by : (f : Folder) × (job ≡ destroy_job g f) → AreGood job
    by (f, so) = subst AreGood (sym so) (record { fit = delete_fit g.selected f.name; held = λ m. delete_held m g.selected f.name; no_append = delete_none g.selected f.name })
