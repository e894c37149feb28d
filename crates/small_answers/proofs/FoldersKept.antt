-- A folder in which a message came, went or changed is a store's folder again, and the mail with it a store's mail.
use Rattle.std.proofs.Common.{◌≡◌, ◌≢◌, ℕ, ◌+◌, ◌-◌, ◌^◌, ◌<◌, ◌≤◌, Bool, true, false, not, cond, List, [], ◌∷◌, ◌++◌, Option, Some, None, filter, option_map, refl, sym}
use Rattle.std.proofs.Common.{ap, subst, arith, ne_eqb, All, ◌==◌, if◌then◌else◌}
use Rattle.std.specs.List.{AllByRecursion}
use Rattle.std.proofs.lemmas.List.Elements.{All-append, All-filter, All-from_recursion, All-nil, All-cons, All-weaker, recursion_from_All}
use Rattle.std.proofs.lemmas.Option.{none-some}
use Rattle.imap_types.specs.Items.{kept}
use Rattle.honest_store.specs.StoreMail.{StoreMessage, ExpungedUid, StoreFolder, message_numbered}
use Rattle.honest_store.specs.WellFormed.{AscendByUid, IsUpTo, IsModseq, nearest_date, IsStoreMessage, IsExpungedUid, IsStoreFolder, IsToldName}
use Rattle.honest_store.specs.MessageChanges.{folder_with, folder_without, folder_flagged, flagged_messages, with_flags_at}
use Rattle.honest_store.specs.Attributes.{is_unselectable}
use Rattle.honest_store.specs.TrueResponses.{IsVanished}
use Rattle.small_answers.proofs.Elements.{any_head, any_right, each_weaker}

-- ---- mod-sequences

up_to_more : (b : Bool) (highest more modseq : ℕ) → highest ≤ more → IsUpTo b highest modseq → IsUpTo b more modseq
up_to_more true highest more modseq l h = (h.0, omega (arith, l, h.1))
up_to_more false highest more modseq l h = h

top_is : (b : Bool) (highest : ℕ) → b ≡ true → IsUpTo b (highest + 1) (highest + 1)
top_is b highest e = subst (λ (c : Bool). IsUpTo c (highest + 1) (highest + 1)) (sym e) (omega arith, omega arith)

-- ---- messages and UIDs that stay, as the folder's numbers rise

module _ (f g : StoreFolder) (same : g.has_modseqs ≡ f.has_modseqs) (higher : f.highest ≤ g.highest) (next : f.uid_next ≤ g.uid_next) where
  modseq_stays : (m : ℕ) → IsModseq f m → IsModseq g m
  modseq_stays m is = subst (λ (b : Bool). IsUpTo b g.highest m) (sym same) (up_to_more f.has_modseqs f.highest g.highest m higher is)

  pub message_stays : (m : StoreMessage) → IsStoreMessage f m → IsStoreMessage g m
  message_stays m is = record { uid = omega (arith, is.uid, next); flags = is.flags; modseq = modseq_stays m.modseq is.modseq; date = is.date; size = is.size }

  pub expunged_stays : (e : ExpungedUid) → message_numbered g.messages e.uid ≡ None → IsExpungedUid f e → IsExpungedUid g e
  expunged_stays e gone is = record { uid = (is.uid.0, omega (arith, is.uid.1, next)); modseq = modseq_stays e.modseq is.modseq; not_held = gone }

-- a folder with other numbers, messages and UIDs that went
pub changed_is : (f : StoreFolder) (highest next : ℕ) (ms : List StoreMessage) (es : List ExpungedUid) → IsStoreFolder f → f.has_modseqs ≡ true
    → 1 ≤ highest → highest < 2 ^ 63 → 1 ≤ next → next ≤ 2 ^ 32 → AscendByUid 0 ms
    → All (IsStoreMessage (record f { highest = highest; uid_next = next; messages = ms; expunged = es })) ms
    → All (IsExpungedUid (record f { highest = highest; uid_next = next; messages = ms; expunged = es })) es
    → IsStoreFolder (record f { highest = highest; uid_next = next; messages = ms; expunged = es })
changed_is f highest next ms es is has some fits first last ascend messages expunged = record {
  name = is.name;
  delimiter = is.delimiter;
  attributes = is.attributes;
  selectable = is.selectable;
  validity = is.validity;
  highest = subst (λ (b : Bool). IsUpTo b highest highest) (sym has) (some, omega arith);
  highest_fits = fits;
  uid_next = (first, last);
  ascend = ascend;
  messages = messages;
  expunged = expunged;
}

-- ---- searches by UID in other lists

abbrev HasNone : Option StoreMessage → Type 0
HasNone None = Unit {0}
HasNone (Some m) = ⊥

none_later : (b : Bool) (m : StoreMessage) (later : Option StoreMessage) → cond b (Some m) later ≡ None → later ≡ None
none_later true m later e = absurd (subst HasNone (sym e) tt)
none_later false m later e = e

none_if : (b : Bool) (m : StoreMessage) (later other : Option StoreMessage) → cond b (Some m) later ≡ None → (later ≡ None → other ≡ None) → cond b (Some m) other ≡ None
none_if true m later other e f = absurd (subst HasNone (sym e) tt)
none_if false m later other e f = f e

pub none_with : (ms : List StoreMessage) (m : StoreMessage) (u : ℕ) → message_numbered ms u ≡ None → m.uid ≢ u → message_numbered (ms ++ m ∷ []) u ≡ None
none_with [] m u e other = subst (λ (b : Bool). cond b (Some m) None ≡ None) (sym (ne_eqb m.uid u other)) refl
none_with (x ∷ ms) m u e other = none_if (x.uid == u) x (message_numbered ms u) (message_numbered (ms ++ m ∷ []) u) e (λ later. none_with ms m u later other)

none_kept : (b : Bool) (x : StoreMessage) (ms : List StoreMessage) (u : ℕ) → ((x.uid == u) ≡ false) → message_numbered ms u ≡ None
    → message_numbered (cond b (x ∷ ms) ms) u ≡ None
none_kept true x ms u other e = subst (λ (c : Bool). cond c (Some x) (message_numbered ms u) ≡ None) (sym other) e
none_kept false x ms u other e = e

not_this : (b : Bool) (x : StoreMessage) (later : Option StoreMessage) → cond b (Some x) later ≡ None → b ≡ false
not_this true x later e = absurd (subst HasNone (sym e) tt)
not_this false x later e = refl

none_filtered : (test : StoreMessage → Bool) (ms : List StoreMessage) (u : ℕ) → message_numbered ms u ≡ None → message_numbered (filter test ms) u ≡ None
none_filtered test [] u e = refl
none_filtered test (x ∷ ms) u e =
    none_kept (test x) x (filter test ms) u (not_this (x.uid == u) x (message_numbered ms u) e) (none_filtered test ms u (none_later (x.uid == u) x (message_numbered ms u) e))

none_of_it : (b : Bool) (x : StoreMessage) (ms : List StoreMessage) (u : ℕ) → (x.uid == u) ≡ b → message_numbered ms u ≡ None
    → message_numbered (cond (not b) (x ∷ ms) ms) u ≡ None
none_of_it true x ms u e none = none
none_of_it false x ms u e none = subst (λ (c : Bool). cond c (Some x) (message_numbered ms u) ≡ None) (sym e) none

pub none_without : (ms : List StoreMessage) (u : ℕ) → message_numbered (filter (λ m. not (m.uid == u)) ms) u ≡ None
none_without [] u = refl
none_without (x ∷ ms) u = none_of_it (x.uid == u) x (filter (λ m. not (m.uid == u)) ms) u refl (none_without ms u)

-- a message that ended was held, and is no more
pub vanished_without : (f : StoreFolder) (u modseq : ℕ) → IsVanished false (Some (folder_without f u modseq)) u
vanished_without f u modseq = record {
  not_held = none_without f.messages u;
  has_gone = λ _. any_right (λ e. e.uid ≡ u) f.expunged (record { uid = u; modseq = modseq } ∷ []) (any_head (λ e. e.uid ≡ u) (record { uid = u; modseq = modseq }) [] refl);
}

-- ---- order

lower_start : (u v : ℕ) (ms : List StoreMessage) → u ≤ v → AscendByUid v ms → AscendByUid u ms
lower_start u v [] l h = tt
lower_start u v (m ∷ ms) l h = (omega (arith, l, h.0), h.1)

ascend_with : (u : ℕ) (ms : List StoreMessage) (m : StoreMessage) → AscendByUid u ms → u < m.uid → AllByRecursion (λ x. x.uid < m.uid) ms → AscendByUid u (ms ++ m ∷ [])
ascend_with u [] m h l below = (l, tt)
ascend_with u (x ∷ ms) m h l below = (h.0, ascend_with x.uid ms m h.1 below.0 below.1)

ascend_if : (b : Bool) (u : ℕ) (x : StoreMessage) (ms : List StoreMessage) → u < x.uid → AscendByUid x.uid ms → AscendByUid u (cond b (x ∷ ms) ms)
ascend_if true u x ms l h = (l, h)
ascend_if false u x ms l h = lower_start u x.uid ms (omega (arith, l)) h

ascend_filtered : (test : StoreMessage → Bool) (u : ℕ) (ms : List StoreMessage) → AscendByUid u ms → AscendByUid u (filter test ms)
ascend_filtered test u [] h = tt
ascend_filtered test u (x ∷ ms) h = ascend_if (test x) u x (filter test ms) h.0 (ascend_filtered test x.uid ms h.1)

-- ---- a message comes

pub with_is : (f : StoreFolder) (m : StoreMessage) → IsStoreFolder f → f.has_modseqs ≡ true → f.highest < 2 ^ 63 - 1 → f.uid_next < 2 ^ 32 - 1
    → m.uid ≡ f.uid_next → m.modseq ≡ f.highest + 1 → kept m.flags ≡ m.flags → nearest_date m.date ≡ m.date → m.size < 2 ^ 63 → IsStoreFolder (folder_with f m (f.uid_next + 1))
with_is f m is has room uids uid modseq flags date size =
    let g : StoreFolder = folder_with f m (f.uid_next + 1) in
    changed_is f m.modseq (f.uid_next + 1) (f.messages ++ m ∷ []) f.expunged is has (omega (arith, modseq)) (omega (arith, modseq, room)) (omega arith) (omega (arith, uids))
    (ascend_with 0 f.messages m is.ascend (omega (arith, uid, is.uid_next.0))
    (each_weaker (IsStoreMessage f) (λ x. x.uid < m.uid) (λ x x_is. omega (arith, x_is.uid, uid)) f.messages (recursion_from_All (IsStoreMessage f) f.messages is.messages)))
    (All-append (IsStoreMessage g) f.messages (m ∷ [])
    (All-weaker (IsStoreMessage f) (IsStoreMessage g) (message_stays f g refl (omega (arith, modseq)) (omega arith)) f.messages is.messages)
    (All-cons (IsStoreMessage g) m [] (record {
      uid = omega (arith, uid);
      flags = flags;
      modseq = subst (λ (k : ℕ). IsUpTo f.has_modseqs m.modseq k) (sym modseq)
          (subst (λ (k : ℕ). IsUpTo f.has_modseqs k (f.highest + 1)) (sym modseq) (top_is f.has_modseqs f.highest has));
      date = date;
      size = size;
    }) (All-nil (IsStoreMessage g))))
    (All-weaker (IsExpungedUid f) (IsExpungedUid g)
    (λ e e_is. expunged_stays f g refl (omega (arith, modseq)) (omega arith) e (none_with f.messages m e.uid e_is.not_held (λ same. omega (arith, same, uid, e_is.uid.1))) e_is)
    f.expunged is.expunged)

-- ---- a message goes

pub without_is : (f : StoreFolder) (u : ℕ) → IsStoreFolder f → f.has_modseqs ≡ true → f.highest < 2 ^ 63 - 1 → 1 ≤ u → u < f.uid_next
    → IsStoreFolder (folder_without f u (f.highest + 1))
without_is f u is has room some within =
    let g : StoreFolder = folder_without f u (f.highest + 1) in let stays : StoreMessage → Bool = λ m. not (m.uid == u) in
    changed_is f (f.highest + 1) f.uid_next (filter stays f.messages) (f.expunged ++ record { uid = u; modseq = f.highest + 1 } ∷ []) is has (omega arith)
    (omega (arith, room)) is.uid_next.0 is.uid_next.1
    (ascend_filtered stays 0 f.messages is.ascend)
    (All-filter stays (IsStoreMessage g) f.messages
    (All-weaker (IsStoreMessage f) (IsStoreMessage g) (message_stays f g refl (omega arith) (omega arith)) f.messages is.messages))
    (All-append (IsExpungedUid g) f.expunged (record { uid = u; modseq = f.highest + 1 } ∷ [])
    (All-weaker (IsExpungedUid f) (IsExpungedUid g)
    (λ e e_is. expunged_stays f g refl (omega arith) (omega arith) e (none_filtered stays f.messages e.uid e_is.not_held) e_is) f.expunged is.expunged)
    (All-cons (IsExpungedUid g) (record { uid = u; modseq = f.highest + 1 }) []
    (record { uid = (some, within); modseq = top_is f.has_modseqs f.highest has; not_held = none_without f.messages u }) (All-nil (IsExpungedUid g))))

-- ---- a message takes other flags

flagged_as : (b : Bool) (x : StoreMessage) (flags : List (List ℕ)) (k : ℕ) → (if b then with_flags_at x flags k else x).uid ≡ x.uid
flagged_as true x flags k = refl
flagged_as false x flags k = refl

ascend_one : (b : Bool) (v : ℕ) (x : StoreMessage) (flags : List (List ℕ)) (k : ℕ) (ms : List StoreMessage) → v < x.uid → AscendByUid x.uid ms
    → AscendByUid v ((if b then with_flags_at x flags k else x) ∷ ms)
ascend_one true v x flags k ms l h = (l, h)
ascend_one false v x flags k ms l h = (l, h)

module _ (u : ℕ) (flags : List (List ℕ)) (k : ℕ) where
  pub ascend_flagged : (v : ℕ) (ms : List StoreMessage) → AscendByUid v ms → AscendByUid v (flagged_messages ms u flags k)
  ascend_flagged v [] h = tt
  ascend_flagged v (x ∷ ms) h = ascend_one (x.uid == u) v x flags k (flagged_messages ms u flags k) h.0 (ascend_flagged x.uid ms h.1)

  each_flagged_one : (P : StoreMessage → Type 0) (b : Bool) (x : StoreMessage) → P x → P (with_flags_at x flags k) → P (if b then with_flags_at x flags k else x)
  each_flagged_one P true x as_was changed = changed
  each_flagged_one P false x as_was changed = as_was

  pub each_flagged : (P Q : StoreMessage → Type 0) → ((x : StoreMessage) → P x → Q x) → ((x : StoreMessage) → P x → Q (with_flags_at x flags k)) → (ms : List StoreMessage)
      → AllByRecursion P ms
      → AllByRecursion Q (flagged_messages ms u flags k)
  each_flagged P Q stays changes [] all = tt
  each_flagged P Q stays changes (x ∷ ms) all = (each_flagged_one Q (x.uid == u) x (stays x all.0) (changes x all.0), each_flagged P Q stays changes ms all.1)

  none_one : (b c : Bool) (x : StoreMessage) (later other : Option StoreMessage) → cond c (Some x) later ≡ None → (later ≡ None → other ≡ None)
      → cond c (Some (if b then with_flags_at x flags k else x)) other ≡ None
  none_one b true x later other e f = absurd (subst HasNone (sym e) tt)
  none_one b false x later other e f = f e

  none_flagged : (ms : List StoreMessage) (v : ℕ) → message_numbered ms v ≡ None → message_numbered (flagged_messages ms u flags k) v ≡ None
  none_flagged [] v e = refl
  none_flagged (x ∷ ms) v e =
      subst (λ (n : ℕ). cond (n == v) (Some (if x.uid == u then with_flags_at x flags k else x)) (message_numbered (flagged_messages ms u flags k) v) ≡ None)
      (sym (flagged_as (x.uid == u) x flags k))
      (none_one (x.uid == u) (x.uid == v) x (message_numbered ms v) (message_numbered (flagged_messages ms u flags k) v) e (none_flagged ms v))

  found_one : (b : Bool) (x m : StoreMessage) (later other : Option StoreMessage) → (x.uid == u) ≡ b → cond b (Some x) later ≡ Some m
      → (later ≡ Some m → other ≡ Some (with_flags_at m flags k))
      → cond ((if b then with_flags_at x flags k else x).uid == u) (Some (if b then with_flags_at x flags k else x)) other ≡ Some (with_flags_at m flags k)
  found_one true x m later other at e there =
      subst (λ (c : Bool). cond c (Some (with_flags_at x flags k)) other ≡ Some (with_flags_at m flags k)) (sym at) (ap (option_map (λ y. with_flags_at y flags k)) e)
  found_one false x m later other at e there = subst (λ (c : Bool). cond c (Some x) other ≡ Some (with_flags_at m flags k)) (sym at) (there e)

  -- the message is found with its flags
  pub found_flagged : (ms : List StoreMessage) (m : StoreMessage) → message_numbered ms u ≡ Some m
      → message_numbered (flagged_messages ms u flags k) u ≡ Some (with_flags_at m flags k)
  found_flagged [] m e = absurd (none-some m e)
  found_flagged (x ∷ ms) m e = found_one (x.uid == u) x m (message_numbered ms u) (message_numbered (flagged_messages ms u flags k) u) refl e (found_flagged ms m)

pub flagged_is : (f : StoreFolder) (u : ℕ) (flags : List (List ℕ)) → IsStoreFolder f → f.has_modseqs ≡ true → f.highest < 2 ^ 63 - 1 → kept flags ≡ flags
    → IsStoreFolder (folder_flagged f u flags (f.highest + 1))
flagged_is f u flags is has room in_kept =
    let k : ℕ = f.highest + 1 in let g : StoreFolder = folder_flagged f u flags (f.highest + 1) in
    changed_is f (f.highest + 1) f.uid_next (flagged_messages f.messages u flags (f.highest + 1)) f.expunged is has (omega arith)
    (omega (arith, room)) is.uid_next.0 is.uid_next.1
    (ascend_flagged u flags (f.highest + 1) 0 f.messages is.ascend)
    (All-from_recursion (IsStoreMessage g) (flagged_messages f.messages u flags (f.highest + 1))
    (each_flagged u flags (f.highest + 1) (IsStoreMessage f) (IsStoreMessage g) (message_stays f g refl (omega arith) (omega arith))
    (λ x x_is. record { uid = x_is.uid; flags = in_kept; modseq = top_is f.has_modseqs f.highest has; date = x_is.date; size = x_is.size }) f.messages
    (recursion_from_All (IsStoreMessage f) f.messages is.messages)))
    (All-weaker (IsExpungedUid f) (IsExpungedUid g)
    (λ e e_is. expunged_stays f g refl (omega arith) (omega arith) e (none_flagged u flags (f.highest + 1) f.messages e.uid e_is.not_held) e_is) f.expunged is.expunged)

-- ---- another name, or other attributes

pub named_is : (f : StoreFolder) (name : List ℕ) (attributes : List (List ℕ)) → IsStoreFolder f → IsToldName name → kept attributes ≡ attributes
    → is_unselectable attributes ≡ false
    → IsStoreFolder (record f { name = name; attributes = attributes })
named_is f name attributes is told in_kept free =
    let g : StoreFolder = record f { name = name; attributes = attributes } in
    record {
      name = told;
      delimiter = is.delimiter;
      attributes = in_kept;
      selectable = free;
      validity = is.validity;
      highest = is.highest;
      highest_fits = is.highest_fits;
      uid_next = is.uid_next;
      ascend = is.ascend;
      messages = All-weaker (IsStoreMessage f) (IsStoreMessage g) (message_stays f g refl (omega arith) (omega arith)) f.messages is.messages;
      expunged = All-weaker (IsExpungedUid f) (IsExpungedUid g) (λ e e_is. expunged_stays f g refl (omega arith) (omega arith) e e_is.not_held e_is) f.expunged is.expunged;
    }
