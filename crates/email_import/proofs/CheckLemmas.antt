-- The checks in order.
use Rattle.std.proofs.Common.{◌≡◌, ◌≢◌, ◌⊎◌, ◌∙◌, inl, inr, ℕ, List, [], ◌∷◌, codes, Bor, Option, Some, None, Result, Ok, Err, Less, Greater, nat_cmp, option_map, refl, sym, ap, subst}
use Rattle.std.specs.Cmp.Lexicographic.{slice_cmp}
use Rattle.std.specs.Option.{MatchOption}
use Rattle.serde_json.specs.Data.{Members}
use Rattle.told_folder.specs.declared.message.Folder.{Folder}
use Rattle.set_jobs.specs.declared.done.SetError.{SetError}
use Rattle.set_jobs.specs.declared.done.SetError.TheVariants as why
use Rattle.set_given.specs.Given.{Given}
use Rattle.email_checks.specs.Emails.{no_folder}
use Rattle.email_creation.specs.Asked.{mailbox_asked}
use Rattle.email_creation.specs.declared.mailboxes.MailboxAsked.{MailboxAsked}
use Rattle.email_creation.specs.declared.mailboxes.MailboxAsked.TheVariants.{One, Nowhere, Several}
use Rattle.email_creation.specs.reading.Named.{asked_data}
use Rattle.email_import.specs.Asked.{AreNone, IsFirst, IsWrong, OfMember, NoBlob, NoMailbox, IsWrongMember, blob_asked}
use Rattle.email_import.specs.Imports.{ChecksImport, WrongProperty, SeveralMailboxes, Asks}
use Rattle.email_import.specs.declared.ready.ReadyImport.{ReadyImport}
use Rattle.email_import.specs.reading.Checked.{first_of, first_wrong, into_mailbox}
use Rattle.email_import.proofs.OrderLemmas.{FirstIs, first_is, not_equal}

-- what the code finds of members
abbrev pub MemberIs : Given → Members → Option (Bor (List ℕ)) → Type 0
MemberIs g ms member = MatchOption member (AreNone (IsWrongMember g ms)) (λ key. IsFirst (IsWrongMember g ms) key.now)

abbrev pub texts : Option (Bor (List ℕ)) → Option (List ℕ)
texts member = option_map (λ (t : Bor (List ℕ)). t.now) member

first_found : (g : Given) (ms : Members) (member : Option (Bor (List ℕ))) → MemberIs g ms member → FirstIs (IsWrongMember g ms) (texts member)
first_found g ms None is = is
first_found g ms (Some key) is = is

some_or_none : (r : Option (List ℕ)) (x : List ℕ) → r ≡ Some x → r ≡ None → ⊥
some_or_none r x a b = let never : Some x ≡ None = sym a ∙ b in cc

one_or_none : (r : Result Folder SetError) (f : Folder) → r ≡ Ok f → r ≡ Err no_folder → ⊥
one_or_none r f a b = cc

several_or_none : (r : Result Folder SetError) → r ≡ Err why.TooManyMailboxes → r ≡ Err no_folder → ⊥
several_or_none r a b = cc

-- ---- no blob is named

-- and each other property that is wrong is a member, or comes later
after_blob : (g : Given) (ms : Members) (other : List ℕ) → IsWrong g ms other → IsWrongMember g ms other ⊎ (slice_cmp nat_cmp (codes "blobId") other ≢ Greater)
after_blob g ms other (OfMember w) = inl w
after_blob g ms other (NoBlob same none) = inr (λ over. not_equal (codes "blobId") other (sym same) over)
after_blob g ms other (NoMailbox same none) = inr (λ over.
    let e : Less ≡ Greater = ap (slice_cmp nat_cmp (codes "blobId")) (sym same) ∙ over in cc)

pub without_blob : (g : Given) (ms : Members) (member : Option (Bor (List ℕ))) (e : SetError) → MemberIs g ms member → blob_asked ms ≡ None
    → e ≡ why.InvalidProperties (first_of (texts member) (codes "blobId") ∷ []) → ChecksImport g ms (Err e)
without_blob g ms member e is none error =
    subst (λ (x : SetError). ChecksImport g ms (Err x)) (sym error)
    (WrongProperty (first_of (texts member) (codes "blobId"))
    (first_is (IsWrongMember g ms) (IsWrong g ms) (codes "blobId") (λ k w. OfMember w) (NoBlob refl none) (after_blob g ms) (texts member) (first_found g ms member is)))

-- ---- one is named

-- and no Mailbox is
of_members_or_mailboxes : (g : Given) (ms : Members) (blob : List ℕ) → blob_asked ms ≡ Some blob → (other : List ℕ) → IsWrong g ms other
    → IsWrongMember g ms other ⊎ (slice_cmp nat_cmp (codes "mailboxIds") other ≢ Greater)
of_members_or_mailboxes g ms blob there other (OfMember w) = inl w
of_members_or_mailboxes g ms blob there other (NoBlob same none) = absurd (some_or_none (blob_asked ms) blob there none)
of_members_or_mailboxes g ms blob there other (NoMailbox same none) = inr (λ over. not_equal (codes "mailboxIds") other (sym same) over)

nowhere : (g : Given) (ms : Members) (blob : List ℕ) (member : Option (List ℕ)) → blob_asked ms ≡ Some blob → mailbox_asked g ms ≡ Err no_folder
    → FirstIs (IsWrongMember g ms) member → ChecksImport g ms (Err (why.InvalidProperties (first_of member (codes "mailboxIds") ∷ [])))
nowhere g ms blob member there none is =
    WrongProperty (first_of member (codes "mailboxIds"))
    (first_is (IsWrongMember g ms) (IsWrong g ms) (codes "mailboxIds") (λ k w. OfMember w) (NoMailbox refl none) (of_members_or_mailboxes g ms blob there) member is)

-- only members are wrong
of_members : (g : Given) (ms : Members) (blob : List ℕ) → blob_asked ms ≡ Some blob → (mailbox_asked g ms ≡ Err no_folder → ⊥) → (key : List ℕ) → IsWrong g ms key
    → IsWrongMember g ms key
of_members g ms blob there some key (OfMember w) = w
of_members g ms blob there some key (NoBlob same none) = absurd (some_or_none (blob_asked ms) blob there none)
of_members g ms blob there some key (NoMailbox same none) = absurd (some none)

wrong : (g : Given) (ms : Members) (blob key : List ℕ) → blob_asked ms ≡ Some blob → (mailbox_asked g ms ≡ Err no_folder → ⊥) → IsFirst (IsWrongMember g ms) key
    → ChecksImport g ms (Err (why.InvalidProperties (key ∷ [])))
wrong g ms blob key there some f =
    WrongProperty key (record { is = OfMember f.is; first = λ other w. f.first other (of_members g ms blob there some other w) })

-- where this member is the first that is wrong
first_wrong_is : (g : Given) (ms : Members) (blob key : List ℕ) (asked : MailboxAsked) → blob_asked ms ≡ Some blob → asked_data asked ≡ mailbox_asked g ms
    → IsFirst (IsWrongMember g ms) key → ChecksImport g ms (Err (why.InvalidProperties (first_wrong key asked ∷ [])))
first_wrong_is g ms blob key (One folder) there is f = wrong g ms blob key there (one_or_none (mailbox_asked g ms) folder.now (sym is)) f
first_wrong_is g ms blob key Nowhere there is f = nowhere g ms blob (Some key) there (sym is) f
first_wrong_is g ms blob key Several there is f = wrong g ms blob key there (several_or_none (mailbox_asked g ms) (sym is)) f

pub wrong_member_is : (g : Given) (ms : Members) (blob : List ℕ) (member : Option (Bor (List ℕ))) (key : Bor (List ℕ)) (asked : MailboxAsked) (e : SetError)
    → MemberIs g ms member → member ≡ Some key → blob_asked ms ≡ Some blob → asked_data asked ≡ mailbox_asked g ms
    → e ≡ why.InvalidProperties (first_wrong key.now asked ∷ []) → ChecksImport g ms (Err e)
wrong_member_is g ms blob member key asked e is some there same error =
    subst (λ (x : SetError). ChecksImport g ms (Err x)) (sym error)
    (first_wrong_is g ms blob key.now asked there same (subst (λ (o : Option (Bor (List ℕ))). MemberIs g ms o) some is))

-- where none is
into : (g : Given) (ms : Members) (blob : List ℕ) (asked : MailboxAsked) → blob_asked ms ≡ Some blob → asked_data asked ≡ mailbox_asked g ms → AreNone (IsWrongMember g ms)
    → ChecksImport g ms (into_mailbox ms blob asked)
into g ms blob (One folder) there is none =
    Asks blob folder.now (λ key w. none key (of_members g ms blob there (one_or_none (mailbox_asked g ms) folder.now (sym is)) key w)) there (sym is)
into g ms blob Nowhere there is none = nowhere g ms blob None there (sym is) none
into g ms blob Several there is none =
    SeveralMailboxes (λ key w. none key (of_members g ms blob there (several_or_none (mailbox_asked g ms) (sym is)) key w)) (sym is)

pub right_members_are : (g : Given) (ms : Members) (blob : List ℕ) (member : Option (Bor (List ℕ))) (asked : MailboxAsked) (r : Result ReadyImport SetError)
    → MemberIs g ms member → member ≡ None → blob_asked ms ≡ Some blob → asked_data asked ≡ mailbox_asked g ms → r ≡ into_mailbox ms blob asked → ChecksImport g ms r
right_members_are g ms blob member asked r is none there same came =
    subst (λ (x : Result ReadyImport SetError). ChecksImport g ms x) (sym came)
    (into g ms blob asked there same (subst (λ (o : Option (Bor (List ℕ))). MemberIs g ms o) none is))
