-- What is kept of what is known, as it goes on.
use Rattle.std.proofs.Common.{arith, ◌≡◌, ◌∙◌, ℕ, Bool, true, false, Some, None, Result, Ok, Err, refl, sym, ap, subst, inr, []}
use Rattle.std.specs.Prelude.{IfOk}
use Rattle.told_folder.specs.declared.message.Folder.{Folder}
use Rattle.told_mail.specs.Mail.{Mail, IsMail, IsNextMail, no_mail}
use Rattle.told_mail.specs.Told.{Told}
use Rattle.mail_state.specs.History.{MailHistory, first_history}
use Rattle.mail_state.specs.State.{ServedState, IsStateOf, first_state}
use Rattle.mail_state.specs.Following.{FollowsMail, IfSpent, SpendsPlace}
use Rattle.mail_state.specs.declared.error.StateError.{StateError}
use Rattle.mail_state.specs.declared.error.StateError.TheVariants.{Spent}
use Rattle.mail_state.specs.declared.touches.Advance.{Advance}
use Rattle.gate_machine.specs.History.{KnownMail, known_mail, Advanced, Commits, IsNewMail, IsSpent, served_anew}
use Rattle.gate_machine.specs.Kept.{KeptMail, IsKeptOf}
use Rattle.gate_machine.specs.declared.mail_status.CommitEnd.{CommitEnd}

not_there : (f : Folder) → Some f ≡ None → ⊥
not_there f is = cc

-- the same mail can follow
pub next_same : (m : Mail) → IsMail m → IsNextMail m m
next_same m is = record { is_mail = is; counter = omega arith; new_folders = λ n f there none. absurd (not_there f (sym there ∙ none)) }

-- an epoch begins
pub begins : (epoch : ℕ) (a : KeptMail) → IsStateOf (first_history epoch) (first_state epoch) → a.state ≡ first_state epoch → a.served ≡ no_mail
    → a.told ≡ record { mail = no_mail; changes = 0 } → a.bodies ≡ [] → IsKeptOf (known_mail (first_history epoch)) a
begins epoch a stands is served told bodies =
    record {
      state = subst (λ (t : ServedState). IsStateOf (first_history epoch) t) (sym is) stands;
      served = served;
      told = told;
      bodies = bodies;
      next = next_same no_mail stands.sound.is_mail;
    }

mail_of : {k : KnownMail} {a : KeptMail} → IsKeptOf k a → a.told.mail ≡ k.told.mail
mail_of kept = ap (λ (t : Told). t.mail) kept.told

-- the told mail is one that the served can go on to
next_of : {k : KnownMail} {a : KeptMail} → IsKeptOf k a → IsNextMail k.history.mail a.told.mail
next_of {k} kept = subst (λ (m : Mail). IsNextMail k.history.mail m) (sym (mail_of kept)) kept.next

-- the state follows the told mail, which is new
pub goes_on : (k : KnownMail) (a b : KeptMail) (moved : Advance) → IsKeptOf k a → IsNewMail k
    → ((h : MailHistory) → IsStateOf h a.state → IsNextMail h.mail a.told.mail → FollowsMail h a.told.mail b.state moved)
    → b.served ≡ a.told.mail → b.told ≡ a.told → b.bodies ≡ a.bodies → (l : KnownMail) × Advanced k l × IsKeptOf l b
goes_on k a b moved kept new follows served told bodies =
    let f : FollowsMail k.history k.told.mail b.state moved =
    subst (λ (m : Mail). FollowsMail k.history m b.state moved) (mail_of kept) (follows k.history kept.state (next_of kept)) in
    let mail_is : f.after.mail ≡ k.told.mail = ap (λ (h : MailHistory). h.mail) f.advances.after_is in (
      served_anew k f.after,
      record { is_new = new; next = f.after; goes_on = record { next = kept.next; advances = f.advances }; room = f.room; after_is = refl },
      record {
        state = f.stands;
        served = served ∙ mail_of kept ∙ sym mail_is;
        told = told ∙ kept.told;
        bodies = bodies ∙ kept.bodies;
        next = subst (λ (m : Mail). IsNextMail m k.told.mail) (sym mail_is) (next_same k.told.mail kept.next.is_mail);
      },
    )

-- what holds where the answer is Spent holds
pub spent_so : (X : Type 0) {P : Type 0} {e : StateError} {place : ℕ} → e ≡ Spent place → IfSpent {X = X} (Err e) P → P
spent_so X {P = P} is so = subst (λ (x : StateError). IfSpent {X = X} (Err x) P) is so

-- a place passes the last one on the way to the told mail
pub spends_place : (k : KnownMail) (a : KeptMail) → IsKeptOf k a → ((h : MailHistory) → IsStateOf h a.state → IsNextMail h.mail a.told.mail → SpendsPlace h a.told.mail)
    → IsSpent k
spends_place k a kept spends =
    let s : SpendsPlace k.history k.told.mail = subst (λ (m : Mail). SpendsPlace k.history m) (mail_of kept) (spends k.history kept.state (next_of kept)) in
    record { after = s.after; goes_on = record { next = kept.next; advances = s.advances }; passes = s.passes }

-- mail that is the same as the served is kept as it is
pub is_same : (k : KnownMail) (a : KeptMail) → IsKeptOf k a → a.served.folders ≡ a.told.mail.folders → k.history.mail.folders ≡ k.told.mail.folders
is_same k a kept same = ap (λ (m : Mail). m.folders) (sym kept.served) ∙ same ∙ ap (λ (m : Mail). m.folders) (mail_of kept)

-- mail that is other than the served is new
pub is_other : (k : KnownMail) (a : KeptMail) → IsKeptOf k a → (a.served.folders ≡ a.told.mail.folders → ⊥) → k.history.mail.folders ≡ k.told.mail.folders → ⊥
is_other k a kept other same = other (ap (λ (m : Mail). m.folders) kept.served ∙ same ∙ ap (λ (m : Mail). m.folders) (sym (mail_of kept)))

-- what a test tells apart isn't the same
pub not_same : {S : Type 0} (same : Bool) → (S → same ≡ true) → same ≡ false → S → ⊥
not_same same shows other is = cc (shows is, other)

-- what was served where the told mail is new
pub commits_other : (a : KeptMail) (result : Result KeptMail CommitEnd) → (a.served.folders ≡ a.told.mail.folders → ⊥)
    → IfOk result (λ b. (k : KnownMail) → IsKeptOf k a → IsNewMail k → (l : KnownMail) × Advanced k l × IsKeptOf l b)
    → IfOk result (λ b. (k : KnownMail) → IsKeptOf k a → (l : KnownMail) × Commits k l × IsKeptOf l b)
commits_other a (Ok b) other goes = λ k kept. let to = goes k kept (is_other k a kept other) in (to.0, inr to.1, to.2)
commits_other a (Err e) other goes = tt
