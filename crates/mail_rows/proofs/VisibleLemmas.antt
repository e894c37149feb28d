-- A visible message stands at its place, and the message of a mark is found.
use Rattle.std.proofs.Common.{◌≡◌, ◌≢◌, ℕ, ◌<◌, List, [], ◌∷◌, ◌++◌, Bool, true, false, cond, nat_eq, map, filter, find, refl, sym, ap, ◌∙◌, subst, arith, Option, Some, None}
use Rattle.std.proofs.Common.{is_some, eqb-true, eq-eqb}
use Rattle.std.specs.Option.{option_map, option_or}
use Rattle.std.proofs.lemmas.List.Folds.{find-append}
use Rattle.told_folder.specs.Keyed.{Ascends, AllAbove, with_key}
use Rattle.told_folder.specs.Folders.{uid_of, folder_number, held_in, messages_of, message_in, mark_in}
use Rattle.told_folder.specs.Index.{AllAscend}
use Rattle.told_folder.specs.declared.message.Message.{Message}
use Rattle.told_folder.specs.declared.message.NumberedFolder.{NumberedFolder}
use Rattle.told_folder.proofs.KeyedLemmas.{none_above}
use Rattle.told_mail.specs.Mail.{Mail, IsMail}
use Rattle.mail_maps.specs.Visible.{Placed, is_served, is_visible_place, placed_in, visible, shown}
use Rattle.mail_rows.specs.reading.RowPass.{if_served, served_if, served_at}

not_equal : (a b : ℕ) → a < b → nat_eq a b ≡ false
not_equal a b l = grind arith

some_is : {A : Type 0} (a b : A) → Some a ≡ Some b → a ≡ b
some_is a b e = cc

-- ---- visible messages stand at their places

-- the message is at its place, and visible
pub record IsSeen (hs : List NumberedFolder) (p : Placed) : Type 0 where
  pub at : message_in hs p.folder p.message.uid ≡ Some p.message
  pub served : is_served p.message ≡ true

abbrev pub AllSeen : List NumberedFolder → List Placed → Type 0
AllSeen hs [] = Unit {0}
AllSeen hs (p ∷ ps) = IsSeen hs p × AllSeen hs ps

-- each of these messages is found by its UID
abbrev AllFound : List Message → List Message → Type 0
AllFound xs [] = Unit {0}
AllFound xs (y ∷ ys) = (with_key uid_of y.uid xs ≡ Some y) × AllFound xs ys

found_later : (x : Message) (xs ys : List Message) → AllAbove uid_of x.uid ys → AllFound xs ys → AllFound (x ∷ xs) ys
found_later x xs [] above found = tt
found_later x xs (y ∷ ys) above found = (
  ap (λ (b : Bool). cond b (Some x) (with_key uid_of y.uid xs)) (not_equal x.uid y.uid above.0) ∙ found.0,
  found_later x xs ys above.1 found.1,
)

all_found : (xs : List Message) → Ascends uid_of xs → AllFound xs xs
all_found [] a = tt
all_found (x ∷ xs) a = (ap (λ (b : Bool). cond b (Some x) (with_key uid_of x.uid xs)) (eq-eqb x.uid x.uid refl), found_later x xs xs a.0 (all_found xs a.1))

in_first : (h : NumberedFolder) (hs : List NumberedFolder) (u : ℕ) → message_in (h ∷ hs) h.folder.number u ≡ with_key uid_of u h.messages
in_first h hs u = ap (λ (b : Bool). with_key uid_of u (messages_of (cond b (Some h) (held_in hs h.folder.number)))) (eq-eqb h.folder.number h.folder.number refl)

in_later : (h : NumberedFolder) (hs : List NumberedFolder) (n u : ℕ) (x : Message) → AllAbove folder_number h.folder.number hs → message_in hs n u ≡ Some x → message_in (h ∷ hs) n u ≡ Some x
in_later h hs n u x above is =
    elim (nat_eq h.folder.number n) as (λ (b : Bool). nat_eq h.folder.number n ≡ b → with_key uid_of u (messages_of (cond b (Some h) (held_in hs n))) ≡ Some x) [
      | true ↦ λ same.
          let none : held_in hs n ≡ None = ap (held_in hs) (sym (eqb-true h.folder.number n same)) ∙ none_above folder_number h.folder.number hs above in
          absurd (let f : None ≡ Some x = sym (ap (λ (o : Option NumberedFolder). with_key uid_of u (messages_of o)) none) ∙ is in cc)
      | false ↦ λ other. is
    ] refl

seen_here : (h : NumberedFolder) (hs : List NumberedFolder) (xs : List Message) → AllFound h.messages xs
    → AllSeen (h ∷ hs) (filter is_visible_place (map (λ x. record { folder = h.folder.number; message = x }) xs))
seen_here h hs [] found = tt
seen_here h hs (x ∷ xs) found =
    let rest : List Placed = filter is_visible_place (map (λ y. record { folder = h.folder.number; message = y }) xs) in
    elim (is_served x) as (λ (b : Bool). is_served x ≡ b → AllSeen (h ∷ hs) (cond b ((record { folder = h.folder.number; message = x }) ∷ rest) rest)) [
      | true ↦ λ is. (record { at = in_first h hs x.uid ∙ found.0; served = is }, seen_here h hs xs found.1)
      | false ↦ λ is. seen_here h hs xs found.1
    ] refl

seen_later : (h : NumberedFolder) (hs : List NumberedFolder) (ps : List Placed) → AllAbove folder_number h.folder.number hs → AllSeen hs ps → AllSeen (h ∷ hs) ps
seen_later h hs [] above seen = tt
seen_later h hs (p ∷ ps) above seen =
    (record { at = in_later h hs p.folder p.message.uid p.message above seen.0.at; served = seen.0.served }, seen_later h hs ps above seen.1)

seen_joined : (hs : List NumberedFolder) (ps qs : List Placed) → AllSeen hs ps → AllSeen hs qs → AllSeen hs (ps ++ qs)
seen_joined hs [] qs f g = g
seen_joined hs (p ∷ ps) qs f g = (f.0, seen_joined hs ps qs f.1 g)

-- each visible message is found at its place
pub all_seen : (hs : List NumberedFolder) → Ascends folder_number hs → AllAscend hs → AllSeen hs (visible hs)
all_seen [] numbers uids = tt
all_seen (h ∷ hs) numbers uids =
    seen_joined (h ∷ hs) (filter is_visible_place (placed_in h)) (visible hs)
    (seen_here h hs h.messages (all_found h.messages uids.0))
    (seen_later h hs (visible hs) numbers.0 (all_seen hs numbers.1 uids.1))

-- ---- what is found

-- a visible message of the mark
pub record IsVisibleOf (hs : List NumberedFolder) (mark : ℕ) (p : Placed) : Type 0 where
  pub seen : IsSeen hs p
  pub marked : p.message.mark ≡ mark

among : (hs : List NumberedFolder) (mark : ℕ) (ps : List Placed) (p : Placed) → AllSeen hs ps → find (λ x. nat_eq x.message.mark mark) ps ≡ Some p → IsVisibleOf hs mark p
among hs mark [] p seen is = absurd (let f : None ≡ Some p = is in cc)
among hs mark (x ∷ ps) p seen is =
    elim (nat_eq x.message.mark mark) as (λ (b : Bool). nat_eq x.message.mark mark ≡ b → cond b (Some x) (find (λ y. nat_eq y.message.mark mark) ps) ≡ Some p
    → IsVisibleOf hs mark p) [
      | true ↦ λ same e. let P : Placed → Type 0 = λ q. IsVisibleOf hs mark q in subst P (some_is x p e) (record { seen = seen.0; marked = eqb-true x.message.mark mark same })
      | false ↦ λ other e. among hs mark ps p seen.1 e
    ] refl is

-- what is shown of a mark is a visible message of it
pub visible_of : (m : Mail) (mark : ℕ) (p : Placed) → IsMail m → shown m.folders mark ≡ Some p → IsVisibleOf m.folders mark p
visible_of m mark p is e = among m.folders mark (visible m.folders) p (all_seen m.folders is.numbers is.uids) e

-- its mark stands at its place
pub marked_at : (hs : List NumberedFolder) (n u : ℕ) (x : Message) → message_in hs n u ≡ Some x → mark_in hs (n, u) ≡ Some x.mark
marked_at hs n u x e = ap (option_map (λ (y : Message). y.mark)) e

-- ---- a message that is visible is found

or_first : {A : Type 0} (a b : Option A) → is_some a ≡ true → is_some (option_or a b) ≡ true
or_first None b e = absurd (let f : false ≡ true = e in cc)
or_first (Some x) b e = refl

or_second : {A : Type 0} (a b : Option A) → is_some b ≡ true → is_some (option_or a b) ≡ true
or_second None b e = e
or_second (Some x) b e = refl

some_either : {A : Type 0} (b : Bool) (x : A) (o : Option A) → is_some o ≡ true → is_some (cond b (Some x) o) ≡ true
some_either true x o e = refl
some_either false x o e = e

-- the visible ones of these messages in a folder
abbrev seen_of : ℕ → List Message → List Placed
seen_of n xs = filter is_visible_place (map {B = Placed} (λ y. record { folder = n; message = y }) xs)

abbrev with_mark : ℕ → List Placed → Option Placed
with_mark mark ps = find (λ p. nat_eq p.message.mark mark) ps

in_folder : (n u mark : ℕ) (xs : List Message) (x : Message) → with_key uid_of u xs ≡ Some x → is_served x ≡ true → x.mark ≡ mark → is_some (with_mark mark (seen_of n xs)) ≡ true
in_folder n u mark [] x is served marked = absurd (let f : None ≡ Some x = is in cc)
in_folder n u mark (y ∷ xs) x is served marked = by (nat_eq y.uid u) refl is (λ e. in_folder n u mark xs x e served marked)
  where
    by : (b : Bool) → nat_eq y.uid u ≡ b → cond b (Some y) (with_key uid_of u xs) ≡ Some x → (with_key uid_of u xs ≡ Some x → is_some (with_mark mark (seen_of n xs)) ≡ true)
        → is_some (with_mark mark (cond (is_served y) ((record { folder = n; message = y }) ∷ seen_of n xs) (seen_of n xs))) ≡ true
    by true same e later =
        let this : y ≡ x = some_is y x e in
        let s : is_served y ≡ true = ap is_served this ∙ served in
        let k : nat_eq y.mark mark ≡ true = eq-eqb y.mark mark (ap (λ (z : Message). z.mark) this ∙ marked) in
        ap (λ (b : Bool). is_some (with_mark mark (cond b ((record { folder = n; message = y }) ∷ seen_of n xs) (seen_of n xs)))) s
        ∙ ap (λ (b : Bool). is_some (cond b (Some (record { folder = n; message = y })) (with_mark mark (seen_of n xs)))) k
    by false other e later =
        elim (is_served y) as (λ (b : Bool). is_some (with_mark mark (cond b ((record { folder = n; message = y }) ∷ seen_of n xs) (seen_of n xs))) ≡ true) [
          | true ↦ some_either (nat_eq y.mark mark) (record { folder = n; message = y }) (with_mark mark (seen_of n xs)) (later e)
          | false ↦ later e
        ]

shows : (hs : List NumberedFolder) (n u mark : ℕ) (x : Message) → message_in hs n u ≡ Some x → is_served x ≡ true → x.mark ≡ mark → is_some (shown hs mark) ≡ true
shows [] n u mark x is served marked = absurd (let f : None ≡ Some x = is in cc)
shows (h ∷ hs) n u mark x is served marked =
    let joined : shown (h ∷ hs) mark ≡ option_or (find (λ p. nat_eq p.message.mark mark) (filter is_visible_place (placed_in h))) (shown hs mark) =
    find-append (λ (p : Placed). nat_eq p.message.mark mark) (filter is_visible_place (placed_in h)) (visible hs) in
    ap is_some joined
    ∙ elim (nat_eq h.folder.number n) as (λ (b : Bool). with_key uid_of u (messages_of (cond b (Some h) (held_in hs n))) ≡ Some x
    → is_some (option_or (find (λ p. nat_eq p.message.mark mark) (filter is_visible_place (placed_in h))) (shown hs mark)) ≡ true) [
      | true ↦ λ e. or_first _ (shown hs mark) (in_folder h.folder.number u mark h.messages x e served marked)
      | false ↦ λ e. or_second (find (λ p. nat_eq p.message.mark mark) (filter is_visible_place (placed_in h))) _ (shows hs n u mark x e served marked)
    ] is

-- ---- the message of a mark

placed_same : (a b : ℕ) (x y : Message) → a ≡ b → x ≡ y → ◌≡◌ {A = Placed} (record { folder = a; message = x }) (record { folder = b; message = y })
placed_same a b x y e f = cc

-- a visible message is the one that its place has
at_place : (m : Mail) (mark : ℕ) (p : ℕ × ℕ) (x : Message) (q : Placed) → IsMail m → mark_in m.folders p ≡ Some mark → message_in m.folders p.0 p.1 ≡ Some x
    → shown m.folders mark ≡ Some q
    → (q ≡ record { folder = p.0; message = x }) × (is_served x ≡ true)
at_place m mark p x q is at held e =
    let f : IsVisibleOf m.folders mark q = visible_of m mark q is e in
    let place : (q.folder, q.message.uid) ≡ p = is.marks (q.folder, q.message.uid) p mark
    (marked_at m.folders q.folder q.message.uid q.message f.seen.at ∙ ap (λ (n : ℕ). Some n) f.marked) at in
    let same : q.message ≡ x = some_is q.message x (sym f.seen.at ∙ ap (λ (r : ℕ × ℕ). message_in m.folders r.0 r.1) place ∙ held) in
    (placed_same q.folder p.0 q.message x (ap (λ (r : ℕ × ℕ). r.0) place) same, ap is_served (sym same) ∙ f.seen.served)

-- a mark at no place is not shown
pub hidden_mark : (m : Mail) (mark : ℕ) → IsMail m → ((p : ℕ × ℕ) → mark_in m.folders p ≢ Some mark) → shown m.folders mark ≡ None
hidden_mark m mark is none = by (shown m.folders mark) refl
  where
    by : (o : Option Placed) → shown m.folders mark ≡ o → shown m.folders mark ≡ None
    by None e = e
    by (Some q) e =
        let f : IsVisibleOf m.folders mark q = visible_of m mark q is e in
        absurd (none (q.folder, q.message.uid) (marked_at m.folders q.folder q.message.uid q.message f.seen.at ∙ ap (λ (n : ℕ). Some n) f.marked))

shown_if : (m : Mail) (mark : ℕ) (p : ℕ × ℕ) (x : Message) → IsMail m → mark_in m.folders p ≡ Some mark → message_in m.folders p.0 p.1 ≡ Some x
    → (b : Bool) → is_served x ≡ b → (o : Option Placed) → shown m.folders mark ≡ o → if_served p.0 x ≡ shown m.folders mark
shown_if m mark p x is at e b s (Some q) f =
    let k = at_place m mark p x q is at e f in
    ap (λ (t : Bool). cond t (Some (record { folder = p.0; message = x })) None) k.1 ∙ ap (λ (r : Placed). Some r) (sym k.0) ∙ sym f
shown_if m mark p x is at e false s None f = ap (λ (t : Bool). cond t (Some (record { folder = p.0; message = x })) None) s ∙ sym f
shown_if m mark p x is at e true s None f =
    let own : x.mark ≡ mark = some_is x.mark mark (sym (marked_at m.folders p.0 p.1 x e) ∙ at) in
    absurd (let g : false ≡ true = sym (ap is_some f) ∙ shows m.folders p.0 p.1 mark x e s own in cc)

-- what is visible at the place of a mark is what is shown of it
pub shown_at : (m : Mail) (mark : ℕ) (p : ℕ × ℕ) → IsMail m → mark_in m.folders p ≡ Some mark → served_at m.folders p.0 p.1 ≡ shown m.folders mark
shown_at m mark p is at = by (message_in m.folders p.0 p.1) refl
  where
    by : (o : Option Message) → message_in m.folders p.0 p.1 ≡ o → served_at m.folders p.0 p.1 ≡ shown m.folders mark
    by None e = absurd (let f : None ≡ Some mark = sym (ap (option_map (λ (y : Message). y.mark)) e) ∙ at in cc)
    by (Some x) e = ap (served_if p.0) e ∙ shown_if m mark p x is at e (is_served x) refl (shown m.folders mark) refl
