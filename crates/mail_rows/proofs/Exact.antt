-- The tests of what is served tell values apart, and no more.
use Rattle.std.proofs.Common.{◌≡◌, ℕ, ℤ, List, Option, Some, None, Bool, refl, ap, sym, ◌∙◌, ◌==◌, if◌then◌else◌}
use Rattle.std.specs.Bool.{Decides}
use Rattle.std.specs.Cmp.{booleans_Decides}
use Rattle.std.specs.Option.{option_eq, option_map}
use Rattle.std.specs.Ordering.{int_eq}
use Rattle.std.specs.Str.{bytes_eq}
use Rattle.std.proofs.lemmas.Slice.Eq.{slice_eq-Decides, bytes_eq-Decides}
use Rattle.std.proofs.lemmas.Bool.Decides.{Decides-eqb, Decides-int_eq, Decides-and, Decides-like}
use Rattle.change_list.specs.Advance.{IsExact}
use Rattle.mail_maps.specs.declared.envelope.Envelope.{Envelope}
use Rattle.mail_maps.specs.declared.envelope.AddressField.{AddressField}
use Rattle.mail_maps.specs.declared.row.Role.{Role}
use Rattle.mail_maps.specs.declared.row.Role.TheVariants as role
use Rattle.mail_maps.specs.declared.row.Rights.{Rights}
use Rattle.mail_maps.specs.declared.tally.FolderCounts.{FolderCounts}
use Rattle.mail_maps.specs.Roles.{role_number, same_role}
use Rattle.mail_maps.specs.Serve.{Immutable, Email, ServedMailbox, same_names, same_text, same_address_field, same_envelope, same_immutable, same_email, same_rights, same_counts}
use Rattle.mail_maps.specs.Serve.{same_mailbox, mailbox_tests, email_tests, thread_tests}
use Rattle.mail_rows.proofs.OneTake.{envelope_same}

option_decides : {X : Type 0} (eq : X → X → Bool) → ((a b : X) → Decides (eq a b) (a ≡ b)) → (o p : Option X) → Decides (option_eq eq o p) (o ≡ p)
option_decides eq d None None = (λ h. refl, λ e. refl)
option_decides eq d None (Some y) = (λ h. absurd (cc), λ e. absurd (cc))
option_decides eq d (Some x) None = (λ h. absurd (cc), λ e. absurd (cc))
option_decides {X} eq d (Some x) (Some y) = Decides-like _ (λ e. ap (λ (z : X). Some z) e) (λ (e : Some x ≡ Some y). let f : x ≡ y = cc in f) (d x y)

names : (a b : List (List ℕ)) → Decides (same_names a b) (a ≡ b)
names a b = slice_eq-Decides bytes_eq-Decides a b _ refl

text : (a b : Option (List ℕ)) → Decides (same_text a b) (a ≡ b)
text a b = option_decides bytes_eq bytes_eq-Decides a b

address_field_same : (a b c d : Option (List ℕ)) → a ≡ b → c ≡ d → ◌≡◌ {A = AddressField} (record { text = a; first = c }) (record { text = b; first = d })
address_field_same a b c d g h = cc

address_field : (a b : AddressField) → Decides (same_address_field a b) (a ≡ b)
address_field a b = Decides-like _ (λ h. address_field_same _ _ _ _ h.0 h.1) (λ e. (ap (λ (x : AddressField). x.text) e, ap (λ (x : AddressField). x.first) e))
    (Decides-and _ _ (text a.text b.text) (text a.first b.first))

envelope : (a b : Envelope) → Decides (same_envelope a b) (a ≡ b)
envelope a b =
    Decides-like _ (λ h. envelope_same _ _ _ _ _ _ _ _ _ _ _ _ _ _ _ _ h.0 h.1.0 h.1.1.0 h.1.1.1.0 h.1.1.1.1.0 h.1.1.1.1.1.0 h.1.1.1.1.1.1.0 h.1.1.1.1.1.1.1)
    (λ e. (
      ap (λ (x : Envelope). x.subject) e,
      (
        ap (λ (x : Envelope). x.cc) e,
        (
          ap (λ (x : Envelope). x.bcc) e,
          (
            ap (λ (x : Envelope). x.from) e,
            (ap (λ (x : Envelope). x.to) e, (ap (λ (x : Envelope). x.base) e, (ap (λ (x : Envelope). x.sent_at) e, ap (λ (x : Envelope). x.ids) e))),
          ),
        ),
      ),
    ))
    (Decides-and _ _ (text a.subject b.subject) (Decides-and _ _ (text a.cc b.cc)
    (Decides-and _ _ (text a.bcc b.bcc) (Decides-and _ _ (address_field a.from b.from) (Decides-and _ _ (address_field a.to b.to)
    (Decides-and _ _ (bytes_eq-Decides a.base b.base) (Decides-and _ _ (option_decides int_eq Decides-int_eq a.sent_at b.sent_at) (names a.ids b.ids))))))))

immutable_same : (m n s t u v : ℕ) (r q : ℤ) (h k : List ℕ) (e f : Envelope) → m ≡ n → r ≡ q → s ≡ t → u ≡ v → h ≡ k → e ≡ f
    → ◌≡◌ {A = Immutable} (record { mark = m; received = r; size = s; thread = u; header = h; envelope = e })
    (record { mark = n; received = q; size = t; thread = v; header = k; envelope = f })
immutable_same m n s t u v r q h k e f g0 g1 g2 g3 g4 g5 = cc

-- the test of what an Email never changes tells it apart
pub immutable : (a b : Immutable) → Decides (same_immutable a b) (a ≡ b)
immutable a b =
    Decides-like _ (λ h. immutable_same _ _ _ _ _ _ _ _ _ _ _ _ h.0 h.1.0 h.1.1.0 h.1.1.1.0 h.1.1.1.1.0 h.1.1.1.1.1)
    (λ e. (
      ap (λ (x : Immutable). x.mark) e,
      (
        ap (λ (x : Immutable). x.received) e,
        (ap (λ (x : Immutable). x.size) e, (ap (λ (x : Immutable). x.thread) e, (ap (λ (x : Immutable). x.header) e, ap (λ (x : Immutable). x.envelope) e))),
      ),
    ))
    (Decides-and _ _ (Decides-eqb a.mark b.mark) (Decides-and _ _ (Decides-int_eq a.received b.received)
    (Decides-and _ _ (Decides-eqb a.size b.size) (Decides-and _ _ (Decides-eqb a.thread b.thread)
    (Decides-and _ _ (bytes_eq-Decides a.header b.header) (envelope a.envelope b.envelope))))))

email_same : (b c : Immutable) (f g : ℕ) (k l : List (List ℕ)) → b ≡ c → f ≡ g → k ≡ l → ◌≡◌ {A = Email} (record { immutable = b; folder = f; keywords = k })
    (record { immutable = c; folder = g; keywords = l })
email_same b c f g k l e0 e1 e2 = cc

-- the test of Emails tells them apart
pub exact_email : IsExact email_tests
exact_email a b =
    Decides-like (same_email a b) (λ h. email_same _ _ _ _ _ _ h.0 h.1.0 h.1.1)
    (λ e. (ap (λ (x : Email). x.immutable) e, (ap (λ (x : Email). x.folder) e, ap (λ (x : Email). x.keywords) e)))
    (Decides-and _ _ (immutable a.immutable b.immutable) (Decides-and _ _ (Decides-eqb a.folder b.folder) (names a.keywords b.keywords)))

-- the test of Threads tells them apart
pub exact_thread : IsExact thread_tests
exact_thread a b = bytes_eq-Decides a b

-- ---- Mailboxes

abbrev back_to : ℕ → Role
back_to n =
    if n == 0 then role.Inbox
    else if n == 1 then role.All
    else if n == 2 then role.Archive
    else if n == 3 then role.Drafts
    else if n == 4 then role.Flagged
    else if n == 5 then role.Junk
    else if n == 6 then role.Sent
    else role.Trash

there_and_back : (r : Option Role) → option_map back_to (option_map role_number r) ≡ r
there_and_back None = refl
there_and_back (Some role.Inbox) = refl
there_and_back (Some role.All) = refl
there_and_back (Some role.Archive) = refl
there_and_back (Some role.Drafts) = refl
there_and_back (Some role.Flagged) = refl
there_and_back (Some role.Junk) = refl
there_and_back (Some role.Sent) = refl
there_and_back (Some role.Trash) = refl

number : (a b : Option ℕ) → Decides (option_eq ◌==◌ a b) (a ≡ b)
number a b = option_decides ◌==◌ Decides-eqb a b

roles : (a b : Option Role) → Decides (same_role a b) (a ≡ b)
roles a b =
    Decides-like _ (λ e. sym (there_and_back a) ∙ ap (option_map back_to) e ∙ there_and_back b) (λ e. ap (option_map role_number) e)
    (number (option_map role_number a) (option_map role_number b))

rights_same : (a b c d e f g h i j k l m n o p q r : Bool) → a ≡ b → c ≡ d → e ≡ f → g ≡ h → i ≡ j → k ≡ l → m ≡ n → o ≡ p → q ≡ r
    → ◌≡◌ {A = Rights}
    (record {
      may_read_items = a;
      may_add_items = c;
      may_remove_items = e;
      may_set_seen = g;
      may_set_keywords = i;
      may_create_child = k;
      may_rename = m;
      may_delete = o;
      may_submit = q;
    })
    (record {
      may_read_items = b;
      may_add_items = d;
      may_remove_items = f;
      may_set_seen = h;
      may_set_keywords = j;
      may_create_child = l;
      may_rename = n;
      may_delete = p;
      may_submit = r;
    })
rights_same a b c d e f g h i j k l m n o p q r e0 e1 e2 e3 e4 e5 e6 e7 e8 = cc

rights : (a b : Rights) → Decides (same_rights a b) (a ≡ b)
rights a b =
    Decides-like _ (λ h. rights_same _ _ _ _ _ _ _ _ _ _ _ _ _ _ _ _ _ _ h.0 h.1.0 h.1.1.0 h.1.1.1.0 h.1.1.1.1.0 h.1.1.1.1.1.0 h.1.1.1.1.1.1.0 h.1.1.1.1.1.1.1.0 h.1.1.1.1.1.1.1.1)
    (λ e. (
      ap (λ (x : Rights). x.may_read_items) e,
      (
        ap (λ (x : Rights). x.may_add_items) e,
        (
          ap (λ (x : Rights). x.may_remove_items) e,
          (
            ap (λ (x : Rights). x.may_set_seen) e,
            (
              ap (λ (x : Rights). x.may_set_keywords) e,
              (ap (λ (x : Rights). x.may_create_child) e, (ap (λ (x : Rights). x.may_rename) e, (ap (λ (x : Rights). x.may_delete) e, ap (λ (x : Rights). x.may_submit) e))),
            ),
          ),
        ),
      ),
    ))
    (Decides-and _ _ (booleans_Decides _ _) (Decides-and _ _ (booleans_Decides _ _)
    (Decides-and _ _ (booleans_Decides _ _) (Decides-and _ _ (booleans_Decides _ _) (Decides-and _ _ (booleans_Decides _ _)
    (Decides-and _ _ (booleans_Decides _ _) (Decides-and _ _ (booleans_Decides _ _) (Decides-and _ _ (booleans_Decides _ _) (booleans_Decides _ _)))))))))

counts_same : (a b c d e f g h : ℕ) → a ≡ b → c ≡ d → e ≡ f → g ≡ h
    → ◌≡◌ {A = FolderCounts} (record { total_emails = a; unread_emails = c; total_threads = e; unread_threads = g })
    (record { total_emails = b; unread_emails = d; total_threads = f; unread_threads = h })
counts_same a b c d e f g h e0 e1 e2 e3 = cc

counts : (a b : FolderCounts) → Decides (same_counts a b) (a ≡ b)
counts a b =
    Decides-like _ (λ h. counts_same _ _ _ _ _ _ _ _ h.0 h.1.0 h.1.1.0 h.1.1.1)
    (λ e. (
      ap (λ (x : FolderCounts). x.total_emails) e,
      (ap (λ (x : FolderCounts). x.unread_emails) e, (ap (λ (x : FolderCounts). x.total_threads) e, ap (λ (x : FolderCounts). x.unread_threads) e)),
    ))
    (Decides-and _ _ (Decides-eqb _ _) (Decides-and _ _ (Decides-eqb _ _) (Decides-and _ _ (Decides-eqb _ _) (Decides-eqb _ _))))

mailbox_same : (a b : List ℕ) (c d : Option ℕ) (e f : Option Role) (g h : Bool) (i j : Rights) (k l : FolderCounts) → a ≡ b → c ≡ d → e ≡ f → g ≡ h → i ≡ j → k ≡ l
    → ◌≡◌ {A = ServedMailbox} (record { name = a; parent = c; role = e; subscribed = g; rights = i; counts = k })
    (record { name = b; parent = d; role = f; subscribed = h; rights = j; counts = l })
mailbox_same a b c d e f g h i j k l e0 e1 e2 e3 e4 e5 = cc

-- the test of Mailboxes tells them apart
pub exact_mailbox : IsExact mailbox_tests
exact_mailbox a b =
    Decides-like (same_mailbox a b) (λ h. mailbox_same _ _ _ _ _ _ _ _ _ _ _ _ h.0.0 h.0.1.0 h.0.1.1.0 h.0.1.1.1.0 h.0.1.1.1.1 h.1)
    (λ e. (
      (
        ap (λ (x : ServedMailbox). x.name) e,
        (
          ap (λ (x : ServedMailbox). x.parent) e,
          (ap (λ (x : ServedMailbox). x.role) e, (ap (λ (x : ServedMailbox). x.subscribed) e, ap (λ (x : ServedMailbox). x.rights) e)),
        ),
      ),
      ap (λ (x : ServedMailbox). x.counts) e,
    ))
    (Decides-and _ _
    (Decides-and _ _ (bytes_eq-Decides a.name b.name) (Decides-and _ _ (number a.parent b.parent)
    (Decides-and _ _ (roles a.role b.role) (Decides-and _ _ (booleans_Decides a.subscribed b.subscribed) (rights a.rights b.rights)))))
    (counts a.counts b.counts))
