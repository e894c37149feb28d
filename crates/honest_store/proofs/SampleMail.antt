-- A small mail, INBOX with two messages and an empty Archive, on which the definition of an honest answer is tried.
use Rattle.std.proofs.Common.{◌≡◌, ◌≢◌, ℕ, zero, suc, ◌<◌, true, List, [], ◌∷◌, Some, None, refl, sym, subst, arith, pos, slice_index_or, codes, All, Contains}
use Rattle.std.specs.List.{AllPairs}
use Rattle.std.proofs.lemmas.List.Elements.{All-nil, All-cons}
use Rattle.imap_types.specs.declared.uid_set.UidRange.{UidRange}
use Rattle.imap_types.specs.declared.uid_set.UidSet.{UidSet}
use Rattle.imap_types.specs.UidSets.{InRange, Holds, HoldsOnly}
use Rattle.honest_store.specs.StoreMail.{StoreMessage, StoreFolder, StoreMail}
use Rattle.honest_store.specs.WellFormed.{IsStoreMessage, IsExpungedUid, IsStoreFolder, IsUnselectableName, AgreeOnFolder, IsStoreMail, use_of}
use Rattle.honest_store.specs.MessageChanges.{folder_with, folder_without, folder_flagged}
use Rattle.honest_store.specs.Sessions.{StoreSession}

-- ---- the mail

abbrev pub seen : List ℕ
seen = codes "\\seen"

-- a header of one field, and a body of one octet
abbrev pub message : ℕ → ℕ → List (List ℕ) → StoreMessage
message uid modseq flags = record { uid = uid; flags = flags; modseq = modseq; date = pos uid; size = 6; octets = 97 ∷ 58 ∷ 98 ∷ 10 ∷ 10 ∷ 99 ∷ [] }

abbrev pub first : StoreMessage
first = message 1 6 (seen ∷ [])

abbrev pub third : StoreMessage
third = message 3 4 []

-- the second message went at the mod-sequence 5
abbrev pub inbox : StoreFolder
inbox = record {
  number = 1;
  name = codes "INBOX";
  delimiter = Some 47;
  attributes = [];
  validity = 1;
  has_modseqs = true;
  highest = 6;
  uid_next = 4;
  messages = first ∷ third ∷ [];
  expunged = record { uid = 2; modseq = 5 } ∷ [];
}

abbrev pub archive : StoreFolder
archive = record {
  number = 2;
  name = codes "Archive";
  delimiter = Some 47;
  attributes = [];
  validity = 2;
  has_modseqs = true;
  highest = 1;
  uid_next = 1;
  messages = [];
  expunged = [];
}

abbrev pub two_folders : StoreFolder → StoreFolder → StoreMail
two_folders f g = record { folders = f ∷ g ∷ []; unselectable = []; uses = use_of inbox ∷ use_of archive ∷ [] }

abbrev pub mail : StoreMail
mail = two_folders inbox archive

abbrev pub nothing_selected : StoreSession
nothing_selected = record { mail = mail; selected = None }

abbrev pub on_inbox : StoreSession
on_inbox = record { mail = mail; selected = Some 1 }

abbrev pub on_archive : StoreSession
on_archive = record { mail = mail; selected = Some 2 }

-- the third message has `\seen`, and what it was before
abbrev pub third_seen : StoreMessage
third_seen = message 3 7 (seen ∷ [])

abbrev pub inbox_seen : StoreFolder
inbox_seen = folder_flagged inbox 3 (seen ∷ []) 7

abbrev pub mail_seen : StoreMail
mail_seen = two_folders inbox_seen archive

-- the third message is in Archive
abbrev pub inbox_left : StoreFolder
inbox_left = folder_without inbox 3 7

abbrev pub archived : StoreMessage
archived = record third { uid = 1; modseq = 2 }

abbrev pub archive_filled : StoreFolder
archive_filled = folder_with archive archived 2

abbrev pub mail_moved : StoreMail
mail_moved = two_folders inbox_left archive_filled

-- ---- it is a store's mail

one_message : (f : StoreFolder) (m : StoreMessage) → IsStoreMessage f m → All (IsStoreMessage f) (m ∷ [])
one_message f m is = All-cons (IsStoreMessage f) m [] is (All-nil (IsStoreMessage f))

two_messages : (f : StoreFolder) (m n : StoreMessage) → IsStoreMessage f m → IsStoreMessage f n → All (IsStoreMessage f) (m ∷ n ∷ [])
two_messages f m n m_is n_is = All-cons (IsStoreMessage f) m (n ∷ []) m_is (one_message f n n_is)

inbox_is : IsStoreFolder inbox
inbox_is = record {
  name = record { as_told = refl; octets = (refl, (refl, (refl, (refl, (refl, tt))))) };
  delimiter = refl;
  attributes = refl;
  selectable = refl;
  validity = (omega arith, omega arith);
  highest = (omega arith, omega arith);
  highest_fits = omega arith;
  uid_next = (omega arith, omega arith);
  ascend = (omega arith, (omega arith, tt));
  messages = two_messages inbox first third (record { uid = omega arith; flags = refl; modseq = (omega arith, omega arith); date = refl; size = omega arith })
      (record { uid = omega arith; flags = refl; modseq = (omega arith, omega arith); date = refl; size = omega arith });
  expunged = All-cons (IsExpungedUid inbox) (record { uid = 2; modseq = 5 }) [] (record {
    uid = (omega arith, omega arith);
    modseq =
        (omega arith, omega arith);
    not_held = refl;
  }) (All-nil (IsExpungedUid inbox));
}

archive_is : IsStoreFolder archive
archive_is = record {
  name = record { as_told = refl; octets = (refl, (refl, (refl, (refl, (refl, (refl, (refl, tt))))))) };
  delimiter = refl;
  attributes = refl;
  selectable = refl;
  validity = (omega arith, omega arith);
  highest = (omega arith, omega arith);
  highest_fits = omega arith;
  uid_next = (omega arith, omega arith);
  ascend = tt;
  messages = All-nil (IsStoreMessage archive);
  expunged = All-nil (IsExpungedUid archive);
}

inbox_seen_is : IsStoreFolder inbox_seen
inbox_seen_is = record {
  name = record { as_told = refl; octets = (refl, (refl, (refl, (refl, (refl, tt))))) };
  delimiter = refl;
  attributes = refl;
  selectable = refl;
  validity = (omega arith, omega arith);
  highest = (omega arith, omega arith);
  highest_fits = omega arith;
  uid_next = (omega arith, omega arith);
  ascend = (omega arith, (omega arith, tt));
  messages = two_messages inbox_seen first third_seen (record { uid = omega arith; flags = refl; modseq = (omega arith, omega arith); date = refl; size = omega arith })
      (record { uid = omega arith; flags = refl; modseq = (omega arith, omega arith); date = refl; size = omega arith });
  expunged = All-cons (IsExpungedUid inbox_seen) (record { uid = 2; modseq = 5 }) [] (record {
    uid = (omega arith, omega arith);
    modseq =
        (omega arith, omega arith);
    not_held = refl;
  }) (All-nil (IsExpungedUid inbox_seen));
}

inbox_left_is : IsStoreFolder inbox_left
inbox_left_is = record {
  name = record { as_told = refl; octets = (refl, (refl, (refl, (refl, (refl, tt))))) };
  delimiter = refl;
  attributes = refl;
  selectable = refl;
  validity = (omega arith, omega arith);
  highest = (omega arith, omega arith);
  highest_fits = omega arith;
  uid_next = (omega arith, omega arith);
  ascend = (omega arith, tt);
  messages = one_message inbox_left first (record { uid = omega arith; flags = refl; modseq = (omega arith, omega arith); date = refl; size = omega arith });
  expunged = All-cons (IsExpungedUid inbox_left) (record { uid = 2; modseq = 5 }) (record { uid = 3; modseq = 7 } ∷ []) (record {
    uid = (omega arith, omega arith);
    modseq =
        (omega arith, omega arith);
    not_held = refl;
  })
      (All-cons (IsExpungedUid inbox_left) (record { uid = 3; modseq = 7 }) [] (record {
        uid = (omega arith, omega arith);
        modseq =
            (omega arith, omega arith);
        not_held = refl;
      }) (All-nil (IsExpungedUid inbox_left)));
}

archive_filled_is : IsStoreFolder archive_filled
archive_filled_is = record {
  name = record { as_told = refl; octets = (refl, (refl, (refl, (refl, (refl, (refl, (refl, tt))))))) };
  delimiter = refl;
  attributes = refl;
  selectable = refl;
  validity = (omega arith, omega arith);
  highest = (omega arith, omega arith);
  highest_fits = omega arith;
  uid_next = (omega arith, omega arith);
  ascend = (omega arith, tt);
  messages = one_message archive_filled archived (record { uid = omega arith; flags = refl; modseq = (omega arith, omega arith); date = refl; size = omega arith });
  expunged = All-nil (IsExpungedUid archive_filled);
}

-- of two elements there is one pair
one_pair : {X : Type 0} (R : X → X → Type 0) (a b : X) → R a b → AllPairs R (a ∷ b ∷ [])
one_pair R a b r zero zero d l m = absurd (omega (arith, l))
one_pair R a b r zero (suc zero) d l m = r
one_pair R a b r zero (suc (suc j)) d l m = absurd (omega (arith, m))
one_pair R a b r (suc i) zero d l m = absurd (omega (arith, l))
one_pair R a b r (suc i) (suc zero) d l m = absurd (omega (arith, l))
one_pair R a b r (suc i) (suc (suc j)) d l m = absurd (omega (arith, m))

no_pair : {X : Type 0} (R : X → X → Type 0) → AllPairs R []
no_pair R i j d l m = absurd (omega (arith, m))

two_are : (f g : StoreFolder) → IsStoreFolder f → IsStoreFolder g → f.number ≢ g.number → f.name ≢ g.name → use_of inbox ≡ use_of f → use_of archive ≡ use_of g
    → IsStoreMail (two_folders f g)
two_are f g f_is g_is numbers names f_use g_use =
    let IsUsed : StoreFolder → Type 0 = λ h. Contains (two_folders f g).uses (use_of h) in record {
      folders = All-cons IsStoreFolder f (g ∷ []) f_is (All-cons IsStoreFolder g [] g_is (All-nil IsStoreFolder));
      unselectable = All-nil (IsUnselectableName (two_folders f g));
      numbers = one_pair (λ a b. a.number ≢ b.number) f g numbers;
      names = one_pair (λ a b. a.name ≢ b.name) f g names;
      unselectable_names = no_pair (λ a b. a.name ≢ b.name);
      uses = All-cons IsUsed f (g ∷ []) (0, omega arith, f_use) (All-cons IsUsed g [] (1, omega arith, g_use) (All-nil IsUsed));
      agree = one_pair AgreeOnFolder (use_of inbox) (use_of archive) (λ e v. absurd (omega (arith, v)));
    }

apart : inbox.name ≢ archive.name
apart e = cc

pub mail_is : IsStoreMail mail
mail_is = two_are inbox archive inbox_is archive_is (λ e. omega (arith, e)) apart refl refl

pub mail_seen_is : IsStoreMail mail_seen
mail_seen_is = two_are inbox_seen archive inbox_seen_is archive_is (λ e. omega (arith, e)) apart refl refl

pub mail_moved_is : IsStoreMail mail_moved
mail_moved_is = two_are inbox_left archive_filled inbox_left_is archive_filled_is (λ e. omega (arith, e)) apart refl refl

-- ---- sets of one UID

abbrev pub just : ℕ → UidSet
just u = record { ranges = record { first = u; last = u } ∷ [] }

holds_at : (w u k : ℕ) (r : UidRange) → k < 1 → slice_index_or (record { first = w; last = w } ∷ []) k r ≡ r → InRange r u → u ≡ w
holds_at w u zero r l e h = let i : InRange (record { first = w; last = w }) u = subst (λ q. InRange q u) (sym e) h in omega (arith, i.0, i.1)
holds_at w u (suc k) r l e h = absurd (omega (arith, l))

pub just_one : (w u : ℕ) → Holds (just w).ranges u → u ≡ w
just_one w u h = holds_at w u h.0 h.1 h.2 h.3 h.4

pub holds_itself : (w : ℕ) → Holds (just w).ranges w
holds_itself w = (0, record { first = w; last = w }, omega arith, refl, (omega arith, omega arith))

pub holds_only : (w : ℕ) → HoldsOnly (just w).ranges w
unfolding HoldsOnly
holds_only w other = (just_one w other, λ e. subst (λ v. Holds (just w).ranges v) (sym e) (holds_itself w))
