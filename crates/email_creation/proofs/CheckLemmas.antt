-- The checks in order.
use Rattle.std.proofs.Common.{◌≡◌, ◌≢◌, ℕ, Bool, true, false, cond, List, [], ◌∷◌, codes, Result, Ok, Err, Ordering, Less, Equal, Greater, nat_cmp, refl, sym, ap, ◌∙◌, subst}
use Rattle.std.specs.Cmp.Lexicographic.{slice_cmp}
use Rattle.std.specs.Ordering.{ordering_reverse, is_lt}
use Rattle.std.proofs.lemmas.Cmp.{nat_list_cmp_total}
use Rattle.std.proofs.lemmas.Map.Lookups.{exact_bytes}
use Rattle.serde_json.specs.Data.{Members}
use Rattle.told_folder.specs.declared.message.Folder.{Folder}
use Rattle.mail_drafts.specs.declared.draft.Draft.{Draft}
use Rattle.draft_reading.specs.Properties.{IsRefused, IsFirstRefused, NoneRefused}
use Rattle.draft_reading.specs.Readings.{IsDraftOf, IsWithout}
use Rattle.set_jobs.specs.declared.done.SetError.{SetError}
use Rattle.set_jobs.specs.declared.done.SetError.TheVariants as why
use Rattle.set_given.specs.Given.{Given}
use Rattle.email_checks.specs.Emails.{no_folder}
use Rattle.email_checks.specs.Steps.{can_be_moved_into}
use Rattle.email_creation.specs.Asked.{mailbox_asked}
use Rattle.email_creation.specs.Creations.{IsWrong, OfTheDraft, OfMailboxes, IsFirstWrong, ChecksCreation, WrongProperty, SeveralMailboxes, NoUploads, MayNot, Passes, creation_of}
use Rattle.email_creation.specs.declared.mailboxes.MailboxAsked.{MailboxAsked}
use Rattle.email_creation.specs.declared.mailboxes.MailboxAsked.TheVariants.{One, Nowhere, Several}
use Rattle.email_creation.specs.declared.ready.ReadyCreation.{ReadyCreation}
use Rattle.email_creation.specs.reading.Checked.{is_wrong_before, first_wrong, without_uploads, into_folder, with_draft}
use Rattle.email_creation.specs.reading.Named.{asked_data}

abbrev mailbox_ids : List ℕ
mailbox_ids = codes "mailboxIds"

-- mailboxIds is the first that is wrong where no property of the draft is
pub nowhere : (g : Given) (uploads : List (List ℕ)) (ms : Members) → NoneRefused ms → mailbox_asked g ms ≡ Err no_folder → ChecksCreation g uploads ms (Err no_folder)
nowhere g uploads ms none is = WrongProperty mailbox_ids (record { wrong = OfMailboxes refl is; first = others })
  where
    others : (other : List ℕ) → IsWrong g ms other → slice_cmp nat_cmp mailbox_ids other ≡ Greater → ⊥
    others other (OfTheDraft r) over = r.not_allowed (none other r.value r.there)
    others other (OfMailboxes same h) over = let e : Equal ≡ Greater = ap (slice_cmp nat_cmp mailbox_ids) (sym same) ∙ over in cc

-- it is the first where it stands before the first of the draft that is refused
before : (g : Given) (uploads : List (List ℕ)) (ms : Members) (key : List ℕ) → IsFirstRefused ms key → mailbox_asked g ms ≡ Err no_folder → slice_cmp nat_cmp mailbox_ids key ≡ Less
    → ChecksCreation g uploads ms (Err no_folder)
before g uploads ms key f is less = WrongProperty mailbox_ids (record { wrong = OfMailboxes refl is; first = others })
  where
    over_key : (other : List ℕ) → IsRefused ms other → slice_cmp nat_cmp mailbox_ids other ≡ Greater → (o : Ordering) → slice_cmp nat_cmp key other ≡ o → ⊥
    over_key other r over Less at = let e : Less ≡ Greater = sym (nat_list_cmp_total.trans mailbox_ids key other less at) ∙ over in cc
    over_key other r over Equal at =
        let e : Less ≡ Greater = sym less ∙ ap (slice_cmp nat_cmp mailbox_ids) (exact_bytes key other at) ∙ over in cc
    over_key other r over Greater at = f.first other r at

    others : (other : List ℕ) → IsWrong g ms other → slice_cmp nat_cmp mailbox_ids other ≡ Greater → ⊥
    others other (OfTheDraft r) over = over_key other r over (slice_cmp nat_cmp key other) refl
    others other (OfMailboxes same h) over = let e : Equal ≡ Greater = ap (slice_cmp nat_cmp mailbox_ids) (sym same) ∙ over in cc

-- the first of the draft is the first where mailboxIds aren't wrong, or don't stand before it
after : (g : Given) (uploads : List (List ℕ)) (ms : Members) (key : List ℕ) → IsFirstRefused ms key
    → (mailbox_asked g ms ≡ Err no_folder → slice_cmp nat_cmp mailbox_ids key ≡ Less → ⊥) → ChecksCreation g uploads ms (Err (why.InvalidProperties (key ∷ [])))
after g uploads ms key f late = WrongProperty key (record { wrong = OfTheDraft f.refused; first = others })
  where
    others : (other : List ℕ) → IsWrong g ms other → slice_cmp nat_cmp key other ≡ Greater → ⊥
    others other (OfTheDraft r) over = f.first other r over
    others other (OfMailboxes same h) over =
        late h (nat_list_cmp_total.antisymm mailbox_ids key ∙ ap ordering_reverse (ap (slice_cmp nat_cmp key) (sym same) ∙ over))

not_below : (o : Ordering) → is_lt o ≡ false → o ≡ Less → ⊥
not_below o is less = let e : true ≡ false = sym (ap is_lt less) ∙ is in cc

below : (o : Ordering) → is_lt o ≡ true → o ≡ Less
below Less is = refl
below Equal is = let e : false ≡ true = is in absurd (cc)
below Greater is = let e : false ≡ true = is in absurd (cc)

-- ---- what is asked is one of three

pub one_and_none : (r : Result Folder SetError) (f : Folder) → r ≡ Ok f → r ≡ Err no_folder → ⊥
one_and_none r f a b = cc

pub several_and_none : (r : Result Folder SetError) → r ≡ Err why.TooManyMailboxes → r ≡ Err no_folder → ⊥
several_and_none r a b = cc

pub one_and_several : (r : Result Folder SetError) (f : Folder) → r ≡ Ok f → r ≡ Err why.TooManyMailboxes → ⊥
one_and_several r f a b = cc

-- ---- the first that is wrong

first_before : (g : Given) (uploads : List (List ℕ)) (ms : Members) (key : List ℕ) (asked : MailboxAsked) → IsFirstRefused ms key → asked_data asked ≡ mailbox_asked g ms
    → is_wrong_before asked key ≡ true → ChecksCreation g uploads ms (Err no_folder)
first_before g uploads ms key Nowhere f is holds = before g uploads ms key f (sym is) (below (slice_cmp nat_cmp mailbox_ids key) holds)
first_before g uploads ms key (One folder) f is holds = let e : false ≡ true = holds in absurd (cc)
first_before g uploads ms key Several f is holds = let e : false ≡ true = holds in absurd (cc)

first_after : (g : Given) (uploads : List (List ℕ)) (ms : Members) (key : List ℕ) (asked : MailboxAsked) → IsFirstRefused ms key → asked_data asked ≡ mailbox_asked g ms
    → is_wrong_before asked key ≡ false → ChecksCreation g uploads ms (Err (why.InvalidProperties (key ∷ [])))
first_after g uploads ms key Nowhere f is fails = after g uploads ms key f (λ h. not_below (slice_cmp nat_cmp mailbox_ids key) fails)
first_after g uploads ms key (One folder) f is fails = after g uploads ms key f (λ h. absurd (one_and_none (mailbox_asked g ms) folder.now (sym is) h))
first_after g uploads ms key Several f is fails = after g uploads ms key f (λ h. absurd (several_and_none (mailbox_asked g ms) (sym is) h))

pub first_is : (g : Given) (uploads : List (List ℕ)) (ms : Members) (key : List ℕ) (asked : MailboxAsked) (e : SetError) → IsFirstRefused ms key → asked_data asked ≡ mailbox_asked g ms
    → e ≡ first_wrong asked key → ChecksCreation g uploads ms (Err e)
first_is g uploads ms key asked e f is error = subst (λ (x : SetError). ChecksCreation g uploads ms (Err x)) (sym error) (by (is_wrong_before asked key) refl)
  where
    by : (b : Bool) → is_wrong_before asked key ≡ b → ChecksCreation g uploads ms (Err (cond b no_folder (why.InvalidProperties (key ∷ []))))
    by true holds = first_before g uploads ms key asked f is holds
    by false fails = first_after g uploads ms key asked f is fails

-- ---- uploads that aren't kept

without : (g : Given) (uploads : List (List ℕ)) (ms : Members) (ids : List (List ℕ)) (asked : MailboxAsked) → IsWithout uploads ms ids → asked_data asked ≡ mailbox_asked g ms
    → ChecksCreation g uploads ms (Err (without_uploads asked ids))
without g uploads ms ids (One folder) w is = NoUploads folder.now ids (sym is) w
without g uploads ms ids Nowhere w is = nowhere g uploads ms w.allowed (sym is)
without g uploads ms ids Several w is = SeveralMailboxes w.allowed (sym is)

pub without_is : (g : Given) (uploads : List (List ℕ)) (ms : Members) (ids : List (List ℕ)) (asked : MailboxAsked) (e : SetError) → IsWithout uploads ms ids
    → asked_data asked ≡ mailbox_asked g ms → e ≡ without_uploads asked ids → ChecksCreation g uploads ms (Err e)
without_is g uploads ms ids asked e w is error = subst (λ (x : SetError). ChecksCreation g uploads ms (Err x)) (sym error) (without g uploads ms ids asked w is)

-- ---- a draft

into : (g : Given) (uploads : List (List ℕ)) (ms : Members) (f : Folder) (d : Draft) → IsDraftOf uploads ms d → mailbox_asked g ms ≡ Ok f → ChecksCreation g uploads ms (into_folder ms f d)
into g uploads ms f d drafted is = by (can_be_moved_into f) refl
  where
    by : (b : Bool) → can_be_moved_into f ≡ b → ChecksCreation g uploads ms (cond b (Ok (creation_of ms f d)) (Err why.Forbidden))
    by true holds = Passes f d is drafted holds
    by false fails = MayNot f d is drafted fails

drafted_as : (g : Given) (uploads : List (List ℕ)) (ms : Members) (asked : MailboxAsked) (d : Draft) → IsDraftOf uploads ms d → asked_data asked ≡ mailbox_asked g ms
    → ChecksCreation g uploads ms (with_draft ms asked d)
drafted_as g uploads ms (One folder) d drafted is = into g uploads ms folder.now d drafted (sym is)
drafted_as g uploads ms Nowhere d drafted is = nowhere g uploads ms drafted.allowed (sym is)
drafted_as g uploads ms Several d drafted is = SeveralMailboxes drafted.allowed (sym is)

pub drafted_is : (g : Given) (uploads : List (List ℕ)) (ms : Members) (asked : MailboxAsked) (d : Draft) (r : Result ReadyCreation SetError) → IsDraftOf uploads ms d
    → asked_data asked ≡ mailbox_asked g ms → r ≡ with_draft ms asked d → ChecksCreation g uploads ms r
drafted_is g uploads ms asked d r drafted is came = subst (λ (x : Result ReadyCreation SetError). ChecksCreation g uploads ms x) (sym came) (drafted_as g uploads ms asked d drafted is)
