-- What the definition of an honest answer promises.
use Rattle.std.proofs.Common.{◌≡◌, ◌⊎◌, inl, inr, refl, ◌∙◌, ap, subst}
use Rattle.imap_types.specs.declared.command.Command.{Command}
use Rattle.imap_types.specs.declared.command.Command.TheVariants as command
use Rattle.imap_types.specs.declared.response.Status.{Status}
use Rattle.imap_types.specs.declared.response.Status.TheVariants as status
use Rattle.honest_store.specs.StoreMail.{StoreMail}
use Rattle.honest_store.specs.WellFormed.{IsStoreMail}
use Rattle.honest_store.specs.Others.{NoStep, OthersStep}
use Rattle.honest_store.specs.Sessions.{StoreSession, StoreAnswer, CutAnswer}
use Rattle.honest_store.specs.Honest.{Does, Acts, Honest, after_no, IsReading}
use Rattle.honest_store.specs.Uses.{StoreGoesOn, Started, Answered, OthersDid, Dialed, KeepsUses, KeepNamesApart}
use Rattle.honest_store.proofs.Used.{keeps_same, keeps_joined, keeps_happened, keeps_acted, keeps_apart}
use Rattle.honest_store.proofs.Told.{told_alone, told_wider, told_keeps, told_well_formed}

acts_by_ok_or_no : (c : Command) (s : StoreSession) (a : CutAnswer) (t : Status) (after : StoreSession) → Acts c s a t after → (t ≡ status.Ok) ⊎ (t ≡ status.No)
acts_by_ok_or_no c s a status.Ok after h = inl refl
acts_by_ok_or_no c s a status.No after h = inr refl
acts_by_ok_or_no c s a status.Bad after h = absurd h
acts_by_ok_or_no c s a status.Preauth after h = absurd h
acts_by_ok_or_no c s a status.Bye after h = absurd h

pub is_understood : (before after : StoreSession) (c : Command) (a : StoreAnswer) → Honest OthersStep before c a after → (a.status ≡ status.Ok) ⊎ (a.status ≡ status.No)
is_understood before after c a h = acts_by_ok_or_no c h.from (record { early = h.early; late = h.late; code = a.code }) a.status h.to h.acts

-- ---- where nobody else does anything

same_session : (s t : StoreSession) → s.mail ≡ t.mail → s.selected ≡ t.selected → s ≡ t
same_session s t mail selected = λ i. record { mail = mail i; selected = selected i }

pub refusal_changes_nothing : (before after : StoreSession) (c : Command) (a : StoreAnswer) → Honest NoStep before c a after → a.status ≡ status.No → after ≡ after_no c before
refusal_changes_nothing before after c a h is_no =
    let refuses : Acts c h.from (record { early = h.early; late = h.late; code = a.code }) status.No h.to =
    subst (λ (t : Status). Acts c h.from (record { early = h.early; late = h.late; code = a.code }) t h.to) is_no h.acts in
    same_session after h.to (told_alone h.told_late) h.stays_selected
    ∙ (refuses.nothing ∙ ap (after_no c) (same_session h.from before (told_alone h.told_early) h.still_selected))

reading_leaves : (c : Command) (s : StoreSession) (a : CutAnswer) (after : StoreSession) → IsReading c → Does c s a after → after.mail ≡ s.mail
reading_leaves command.Capability s a after is h = ap (λ (t : StoreSession). t.mail) h.0
reading_leaves (command.Login user password) s a after is h = h.0
reading_leaves command.Enable s a after is h = ap (λ (t : StoreSession). t.mail) h.0
reading_leaves (command.List special_use) s a after is h = ap (λ (t : StoreSession). t.mail) h.0
reading_leaves (command.Select name known) s a after is h = ap (λ (t : StoreSession). t.mail) h.3
reading_leaves command.Unselect s a after is h = h.1
reading_leaves command.FetchFlags s a after is h = ap (λ (t : StoreSession). t.mail) h.0
reading_leaves (command.FetchSlice from to modseq) s a after is h = ap (λ (t : StoreSession). t.mail) h.0
reading_leaves (command.FetchNew from modseq) s a after is h = ap (λ (t : StoreSession). t.mail) h.0
reading_leaves (command.FetchBody uid) s a after is h = ap (λ (t : StoreSession). t.mail) h.0
reading_leaves (command.Store uid add flags) s a after is h = absurd is
reading_leaves (command.Move uid name) s a after is h = absurd is
reading_leaves (command.Expunge uid) s a after is h = absurd is
reading_leaves (command.Append name flags date message) s a after is h = absurd is
reading_leaves (command.Create name) s a after is h = absurd is
reading_leaves (command.Delete name) s a after is h = absurd is
reading_leaves (command.Rename from to) s a after is h = absurd is
reading_leaves (command.Subscribe name on) s a after is h = absurd is

reading_acts : (c : Command) (s : StoreSession) (a : CutAnswer) (t : Status) (after : StoreSession) → IsReading c → Acts c s a t after → after.mail ≡ s.mail
reading_acts c s a status.Ok after is h = reading_leaves c s a after is h
reading_acts c s a status.No after is h = ap (λ (t : StoreSession). t.mail) h.nothing
reading_acts c s a status.Bad after is h = absurd h
reading_acts c s a status.Preauth after is h = absurd h
reading_acts c s a status.Bye after is h = absurd h

pub reading_leaves_mail : (before after : StoreSession) (c : Command) (a : StoreAnswer) → Honest NoStep before c a after → IsReading c → after.mail ≡ before.mail
reading_leaves_mail before after c a h is =
    told_alone h.told_late
    ∙ (reading_acts c h.from (record { early = h.early; late = h.late; code = a.code }) a.status h.to is h.acts ∙ told_alone h.told_early)

-- ---- whatever others do

pub answer_well_formed : (before after : StoreSession) (c : Command) (a : StoreAnswer) → Honest OthersStep before c a after → IsStoreMail after.mail
answer_well_formed before after c a h = told_well_formed h.told_late h.well_formed

pub answer_keeps : (before after : StoreSession) (c : Command) (a : StoreAnswer) → Honest OthersStep before c a after → KeepsUses before.mail after.mail
answer_keeps before after c a h =
    keeps_joined before.mail h.from.mail after.mail (told_keeps h.told_early)
    (keeps_joined h.from.mail h.to.mail after.mail (keeps_acted c h.from (record { early = h.early; late = h.late; code = a.code }) a.status h.to h.acts)
    (told_keeps h.told_late))

-- ---- a store over time

run_keeps : {start now : StoreSession} → StoreGoesOn start now → KeepsUses start.mail now.mail
run_keeps (Started) = keeps_same _ _ refl
run_keeps {start} (Answered {before} {after} c a so_far answer) = keeps_joined start.mail before.mail after.mail (run_keeps so_far) (answer_keeps before after c a answer)
run_keeps {start} (OthersDid {before} mail so_far step) = keeps_joined start.mail before.mail mail (run_keeps so_far) (keeps_happened before.mail mail step.happens)
run_keeps (Dialed so_far) = run_keeps so_far

run_leaves : {start now : StoreSession} → StoreGoesOn start now → IsStoreMail start.mail → IsStoreMail now.mail
run_leaves (Started) was = was
run_leaves (Answered {before} {after} c a so_far answer) was = answer_well_formed before after c a answer
run_leaves (OthersDid mail so_far step) was = step.well_formed
run_leaves (Dialed so_far) was = run_leaves so_far was

pub run_well_formed : (start now : StoreSession) → StoreGoesOn start now → IsStoreMail start.mail → IsStoreMail now.mail
run_well_formed start now run was = run_leaves run was

pub run_apart : (start now : StoreSession) → StoreGoesOn start now → IsStoreMail start.mail → KeepNamesApart start.mail now.mail
run_apart start now run was = keeps_apart start.mail now.mail (run_keeps run) was (run_leaves run was)

-- ---- more steps

-- what is honest while others do such steps is honest while they may do more
pub honest_wider : (O P : StoreMail → StoreMail → Type 0) → ((m n : StoreMail) → O m n → P m n) → (before after : StoreSession) (c : Command) (a : StoreAnswer)
    → Honest O before c a after → Honest P before c a after
honest_wider O P f before after c a h = record {
  early = h.early;
  late = h.late;
  from = h.from;
  to = h.to;
  whole = h.whole;
  may_answer = h.may_answer;
  told_early = told_wider f h.told_early;
  still_selected = h.still_selected;
  acts = h.acts;
  well_formed = h.well_formed;
  told_late = told_wider f h.told_late;
  stays_selected = h.stays_selected;
}
