-- An item's plan over a mirror, exchange by exchange, and what it comes to.
use Rattle.std.proofs.Common.{◌≡◌, ◌≢◌, ◌⊎◌, ◌++◌, ◌||◌, ◌&&◌, ◌<◌, ◌≤◌, ◌-◌, ◌^◌, ℕ, Bool, true, false, List, [], ◌∷◌, Option, Some, None, Result, Ok, Err, fold, refl, sym, ◌∙◌, ap, subst, inl, inr, arith}
use Rattle.std.specs.Prelude.{IsErrOf, OnOk}
use Rattle.std.proofs.lemmas.List.Folds.{list_any-append}
use Rattle.gate_world.specs.Causes.{Rose, RoseBy}
use Rattle.gate_world.specs.declared.event.Event.{Event}
use Rattle.told_folder.specs.declared.exchange.Exchange.{Exchange}
use Rattle.told_folder.specs.declared.exchange.ToldError.{ToldError}
use Rattle.told_folder.specs.declared.exchange.ToldError.TheVariants.{Contradicts, Memory}
use Rattle.told_folder.specs.declared.message.Folder.{Folder}
use Rattle.told_mail.specs.Mail.{Mail, IsMail, IsNextMail}
use Rattle.told_mail.specs.Told.{Told, Counts}
use Rattle.told_mail.specs.Exchanges.{TellsKnown}
use Rattle.told_mail.proofs.NumberLemmas.{numbers_stay, next_by, next_mail_joins}
use Rattle.told_changes.specs.declared.landing.Landing.{Landing}
use Rattle.told_changes.specs.Landings.{contradiction}
use Rattle.told_changes.specs.Told.{told, is_changing}
use Rattle.told_changes.proofs.Reading.{contradicted_none}
use Rattle.imap_exchange.specs.Answering.{HangsUp}
use Rattle.imap_exchange.specs.declared.link_end.LinkEnd.{LinkEnd}
use Rattle.imap_exchange.specs.declared.link_end.LinkEnd.TheVariants as end
use Rattle.imap_client.specs.Bodies.{select_due}
use Rattle.imap_client.specs.LinkLife.{LinkLife, ClientState, hung_up}
use Rattle.imap_client.specs.Plans.{HearsAll, HeardNone, HeardMore, IsEnd, Finished, Failed, LifeHadEnded, Wanting, Follows, ends_torn}
use Rattle.imap_client.specs.Refusals.{refusal_end}
use Rattle.imap_client.specs.Rounds.{CountsOn}
use Rattle.imap_client.specs.declared.plan.Due.{Due}
use Rattle.imap_client.specs.declared.plan.Due.TheVariants as due
use Rattle.imap_client.specs.declared.plan.Refusal.{Refusal}
use Rattle.imap_client.specs.reading.Keeping.{KeepsMirror}
use Rattle.imap_types.specs.declared.command.Command.{Command}
use Rattle.set_jobs.specs.declared.job.Job.{Job}
use Rattle.set_items.specs.declared.item_plan.ItemPlan.{ItemPlan}
use Rattle.set_items.specs.Ends.{ItemEnd, OutOfMemory, any_change, is_change, is_cut_off, item_end}
use Rattle.set_items.specs.Items.{ItemStage, ItemState, going, item_at, item_due, item_plan, item_start, item_step, stage_after}
use Rattle.set_items.specs.Talks.{AllReadKnown, IsItemDone, fault_in, faults_by}
use Rattle.set_items.specs.reading.Running.{FollowsItem, HearsItem, state_of}
use Rattle.set_items.proofs.Endings.{item_mail}
use Rattle.set_items.proofs.Staging.{change_more, item_more}

-- ---- truth values

or_none : (b : Bool) → b ≡ (b || false)
or_none true = refl
or_none false = refl

or_more : (a b c : Bool) → ((a || b) || c) ≡ (a || (b || (c || false)))
or_more true b c = refl
or_more false true c = refl
or_more false false c = or_none c

or_thrice : (a b c : Bool) → ((a || b) || c) ≡ (a || (b || c))
or_thrice true b c = refl
or_thrice false b c = refl

-- ---- an exchange that contradicts the mail tells nothing

pub still_told : (old new : Told) (x : Exchange) (e : ToldError) (folder uid : ℕ) → e ≡ Contradicts folder uid
    → ((l : Landing) → contradiction old.mail x ≡ Some l → new ≡ old)
    → (contradiction old.mail x ≡ None → e ≡ Memory) → new.mail ≡ told old.mail x
still_told old new x e folder uid is contradicts memory = by (contradiction old.mail x) refl
  where
    by : (o : Option Landing) → contradiction old.mail x ≡ o → new.mail ≡ told old.mail x
    by None none = absurd (let f : Contradicts folder uid ≡ Memory = sym is ∙ memory none in cc)
    by (Some l) some = ap (λ (t : Told). t.mail) (contradicts l some) ∙ sym (contradicted_none old.mail x l some)

-- ---- the mirror

counts_none : (t : Told) → CountsOn t t
counts_none t = record { rises = omega arith; stands = λ _ _. refl }

-- where nothing is told, the count goes on and the mail can follow
pub keeps_none : (t : Told) → KeepsMirror t t
keeps_none t = (counts_none t, λ is. next_by t.mail t.mail is (numbers_stay t.mail))

-- what is told after other exchanges lets the count go on, and leads to mail that can follow
pub keeps_told : (first old new : Told) → Counts old new → IsNextMail old.mail new.mail → KeepsMirror first old → KeepsMirror first new
keeps_told first old new counts next kept =
    let was : first.changes ≤ old.changes = kept.0.rises in
    let now : old.changes ≤ new.changes = counts.rises in (
      record {
        rises = omega (arith, was, now);
        stands = λ e l.
            let second : new.changes ≡ old.changes = omega (arith, e, was, now) in
            let one : old.changes ≡ first.changes = omega (arith, e, was, now) in
            let less : old.changes < 2 ^ 64 - 1 = omega (arith, second, l) in
            counts.stands second l ∙ kept.0.stands one less;
      },
      λ is. next_mail_joins first.mail old.mail new.mail (kept.1 is) next,
    )

-- the count goes on since the mirror was this
pub kept_counts : (before first after : Told) → first ≡ before → KeepsMirror first after → CountsOn before after
kept_counts before first after is kept = (subst (λ (t : Told). KeepsMirror t after) is kept).0

-- the mail can follow what the mirror had
pub kept_next : (before first after : Told) → first ≡ before → IsMail before.mail → KeepsMirror first after → IsNextMail before.mail after.mail
kept_next before first after is mail kept = (subst (λ (t : Told). KeepsMirror t after) is kept).1 mail

-- ---- an exchange is heard

-- the stage and the mail after it are those of the item's next state
pub heard_step : (old : ItemState) (x : Exchange) (stage : ItemStage) (mail : Mail) → mail ≡ told old.mail x → stage ≡ stage_after old.stage old.mail x mail
    → ◌≡◌ {A = ItemState} (record { stage = stage; mail = mail }) (item_step old x)
heard_step old x stage mail told_is stage_is =
    let one : ◌≡◌ {A = ItemState} (record { stage = stage; mail = mail }) (record { stage = stage_after old.stage old.mail x mail; mail = mail }) =
    ap (λ (s : ItemStage). record { stage = s; mail = mail }) stage_is in
    one ∙ ap (λ (m : Mail). record { stage = stage_after old.stage old.mail x m; mail = m }) told_is

-- exchanges that were heard
heard_states : {first last : ItemPlan} {xs : List Exchange} → HearsAll HearsItem first xs last
    → (state_of last ≡ item_at (state_of first) xs) × (last.changed ≡ (first.changed || any_change xs))
heard_states {first} HeardNone = (refl, or_none first.changed)
heard_states {first} (HeardMore {xs} {mid} {after} x so heard) =
    let before = heard_states so in (
      heard.0 ∙ ap (λ (s : ItemState). item_step s x) before.0 ∙ sym (item_more (state_of first) xs x),
      heard.1 ∙ ap (λ (b : Bool). b || is_change x) before.1 ∙ or_more first.changed (any_change xs) (is_change x)
          ∙ ap (λ (b : Bool). first.changed || b) (sym (change_more xs x)),
    )

read_parts : (m : Mail) (xs : List Exchange) (x : Exchange) → AllReadKnown m (xs ++ x ∷ [])
    → AllReadKnown m xs × (is_changing x.command ≡ false) × TellsKnown (fold told m xs) x
read_parts m [] x all = (tt, all.0, all.1)
read_parts m (y ∷ xs) x all = let rest = read_parts (told m y) xs x all.2 in ((all.0, all.1, rest.0), rest.1, rest.2)

-- exchanges that tell nothing new leave the count
heard_count : {first last : ItemPlan} {xs : List Exchange} → HearsAll HearsItem first xs last → AllReadKnown first.mirror.mail xs
    → last.mirror.changes ≡ first.mirror.changes
heard_count HeardNone all = refl
heard_count {first} (HeardMore {xs} {mid} {after} x so heard) all =
    let parts = read_parts first.mirror.mail xs x all in
    let mail_is : mid.mirror.mail ≡ fold told first.mirror.mail xs = ap (λ (s : ItemState). s.mail) (heard_states so).0 ∙ item_mail (state_of first) xs in
    heard.2 parts.1 (subst (λ (m : Mail). TellsKnown m x) (sym mail_is) parts.2) ∙ heard_count so parts.0

-- ---- commands that select a folder aren't cut off

none_cut : (b : Bool) → (false && b) ≡ false
none_cut b = refl

pub select_whole : (o : Option Folder) (torn : Bool) → is_cut_off (select_due o) torn ≡ false
select_whole None torn = refl
select_whole (Some f) torn = refl

-- ---- a plan in a life that has ended

stays_ended : (life : LinkLife) → life.goes_on ≡ false → life ≡ hung_up life
stays_ended life over = λ i. record life { goes_on = over i }

hangs_none : (life : LinkLife) → life.goes_on ≡ false → HangsUp life.goes_on []
hangs_none life over = subst (λ (b : Bool). HangsUp b []) (sym over) refl

abbrev pub EndsIdle : Due → LinkLife → Result (Unit {0}) LinkEnd → Type 0
EndsIdle now life result = (ends : IsEnd now life life result []) × (ends_torn ends ≡ false)

pub idle_done : (now : Due) (life : LinkLife) → due.Done ≡ now → EndsIdle now life (Ok tt)
idle_done now life is = (Finished (sym is) refl refl refl, refl)

pub idle_due : (now : Due) (life : LinkLife) (command : Command) → life.goes_on ≡ false → due.Send command ≡ now → EndsIdle now life (Err end.Lost)
idle_due now life command over is = (LifeHadEnded command (sym is) over refl refl refl, refl)

pub idle_fails : (now : Due) (life : LinkLife) (why : Refusal) (e : LinkEnd) → life.goes_on ≡ false → due.Fails why ≡ now → e ≡ refusal_end why
    → EndsIdle now life (Err e)
idle_fails now life why e over is ends =
    (Failed why (sym is) (ap (λ (k : LinkEnd). Err k) ends) (hangs_none life over) (stays_ended life over), refl)

pub idle_wants : (now : Due) (life : LinkLife) → life.goes_on ≡ false → EndsIdle now life (Err end.Memory)
idle_wants now life over = (Wanting refl (hangs_none life over) (stays_ended life over), refl)

-- ---- faults of the link

rose_none : (n : ℕ) → RoseBy 0 n n
rose_none n = omega arith

rose_by : (result : Result (Unit {0}) LinkEnd) (up alive : Bool) (before now : ℕ) → alive ≡ up → before ≤ now → OnOk result (alive ≡ false → Rose before now)
    → (IsErrOf result end.Lost → Rose before now) → RoseBy (faults_by result up) before now
rose_by (Ok u) true alive before now same later down cause = omega arith
rose_by (Ok u) false alive before now same later down cause = down same
rose_by (Err end.Lost) up alive before now same later down cause = cause refl
rose_by (Err (end.Bad at)) up alive before now same later down cause = omega arith
rose_by (Err end.Stray) up alive before now same later down cause = omega arith
rose_by (Err end.Bye) up alive before now same later down cause = omega arith
rose_by (Err end.TooMuch) up alive before now same later down cause = omega arith
rose_by (Err end.Refused) up alive before now same later down cause = omega arith
rose_by (Err end.NoQresync) up alive before now same later down cause = omega arith
rose_by (Err end.Lacks) up alive before now same later down cause = omega arith
rose_by (Err end.Memory) up alive before now same later down cause = omega arith

-- in a life that went on
pub rose_on : (result : Result (Unit {0}) LinkEnd) (was up alive : Bool) (before now : ℕ) → was ≡ true → alive ≡ up → before ≤ now
    → OnOk result (alive ≡ false → Rose before now) → (IsErrOf result end.Lost → Rose before now) → RoseBy (fault_in was up result) before now
rose_on result was up alive before now on same later down cause =
    subst (λ (b : Bool). RoseBy (fault_in b up result) before now) (sym on) (rose_by result up alive before now same later down cause)

-- in a life that had ended
pub rose_off : (result : Result (Unit {0}) LinkEnd) (was up : Bool) (n : ℕ) → was ≡ false → RoseBy (fault_in was up result) n n
rose_off result was up n off = subst (λ (b : Bool). RoseBy (fault_in b up result) n n) (sym off) (rose_none n)

-- ---- what an item comes to

memory_or : (r : Result (Unit {0}) LinkEnd) → (r ≡ Err end.Memory) ⊎ (r ≢ Err end.Memory)
memory_or (Ok u) = inr (λ e. absurd (cc))
memory_or (Err end.Lost) = inr (λ e. absurd (cc))
memory_or (Err (end.Bad at)) = inr (λ e. absurd (cc))
memory_or (Err end.Stray) = inr (λ e. absurd (cc))
memory_or (Err end.Bye) = inr (λ e. absurd (cc))
memory_or (Err end.TooMuch) = inr (λ e. absurd (cc))
memory_or (Err end.Refused) = inr (λ e. absurd (cc))
memory_or (Err end.NoQresync) = inr (λ e. absurd (cc))
memory_or (Err end.Lacks) = inr (λ e. absurd (cc))
memory_or (Err end.Memory) = inl refl

memory_ends : (stage : ItemStage) (r : Result (Unit {0}) LinkEnd) (changed : Bool) → r ≡ Err end.Memory → item_end stage r changed ≡ OutOfMemory
memory_ends stage r changed is = ap (λ (k : Result (Unit {0}) LinkEnd). item_end stage k changed) is

end_same : (a b : ItemStage) (r : Result (Unit {0}) LinkEnd) (x y : Bool) → a ≡ b → x ≡ y → item_end a r x ≡ item_end b r y
end_same a b r x y e f = λ i. item_end (e i) r (f i)

-- An item whose plan was followed from the start of its job.
pub item_done : {life left : LinkLife} {client : ClientState} {es : List Event} (job : Job) (call : List Exchange) (before after : Told) (first last : ItemPlan)
    (result : Result (Unit {0}) LinkEnd) (torn was : Bool) (ends : ItemEnd) (faults now : ℕ)
    → first.stage ≡ going job.steps false job.done → first.mirror ≡ before → first.changed ≡ was → any_change call ≡ was → last.mirror ≡ after
    → (f : FollowsItem first last life left client result es) → torn ≡ ends_torn f.follows.ends
    → ((m : Mail) → ends ≡ item_end last.stage result (last.changed || is_cut_off (item_due last.stage m) torn))
    → RoseBy (fault_in life.goes_on left.goes_on result) faults now
    → IsItemDone job call before after life left client ends last.changed faults now es
item_done {life} {left} {client} {es} job call before after first last result torn was ends faults now stage_is before_is was_is call_is after_is f torn_is ends_is rose =
    let xs : List Exchange = f.exchanges in
    let s : ItemState = item_start job before.mail in
    let start : state_of first ≡ s = (λ i. record { stage = stage_is i; mail = (before_is i).mail }) in
    let p = subst (λ (t : ItemState). (follows : Follows (item_plan t) life left xs client result es) × (torn ≡ ends_torn follows.ends)) start (f.follows, torn_is) in
    let state : result ≢ Err end.Memory → state_of last ≡ item_at s xs =
    λ other. (heard_states (f.heard other)).0 ∙ ap (λ (t : ItemState). item_at t xs) start in
    let changed : result ≢ Err end.Memory → last.changed ≡ (any_change call || any_change xs) =
    λ other. (heard_states (f.heard other)).1 ∙ ap (λ (b : Bool). b || any_change xs) (was_is ∙ sym call_is) in
    let m : Mail = (item_at s xs).mail in
    let last_changed : Bool = last.changed || is_cut_off (item_due last.stage m) torn in
    let all_changed : Bool = any_change call || (any_change xs || is_cut_off (item_plan s xs) (ends_torn p.0.ends)) in
    let whole : result ≢ Err end.Memory → last_changed ≡ all_changed =
    λ other.
    (λ i. changed other i || is_cut_off (item_due (state other i).stage m) (p.1 i))
    ∙ or_thrice (any_change call) (any_change xs) (is_cut_off (item_plan s xs) (ends_torn p.0.ends)) in
    let completes : ends ≢ OutOfMemory → result ≢ Err end.Memory =
    λ more memory. more (ends_is m ∙ memory_ends last.stage result last_changed memory) in
    record {
      does = record {
        runs = record { exchanges = xs; result = result; follows = p.0 };
        told_is = λ other. ap (λ (t : Told). t.mail) (sym after_is) ∙ ap (λ (t : ItemState). t.mail) (state other) ∙ item_mail s xs;
        ends_is =
            elim (memory_or result) [
              | inl memory ↦
                  ends_is m ∙ memory_ends last.stage result last_changed memory ∙ sym (memory_ends (item_at s xs).stage result all_changed memory)
              | inr other ↦
                  ends_is m ∙ end_same last.stage (item_at s xs).stage result last_changed all_changed (ap (λ (t : ItemState). t.stage) (state other)) (whole other)
            ];
      };
      changed_is = λ more. changed (completes more) ∙ sym (list_any-append is_change call xs);
      known = λ more all.
          ap (λ (t : Told). t.changes) (sym after_is)
          ∙ heard_count (f.heard (completes more)) (subst (λ (t : Told). AllReadKnown t.mail xs) (sym before_is) all)
          ∙ ap (λ (t : Told). t.changes) before_is;
      rose = rose;
    }
