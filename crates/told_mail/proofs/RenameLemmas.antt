-- Folders after a RENAME: their numbers and messages stay, and their names differ.
use Rattle.std.proofs.Common.{◌≡◌, ℕ, ◌+◌, ◌<◌, ◌||◌, Bool, true, false, List, [], ◌∷◌, ◌++◌, Option, Some, None, refl, sym, ap, ◌∙◌, subst, arith, map}
use Rattle.std.proofs.Common.{eqb, if◌then◌else◌, length, take, drop, length-append, bytes_eq, ne_eqb, get_or, suc, nat_cmp, Vec, Global}
use Rattle.std.specs.BTreeMap.{BTreeMap, get}
use Rattle.std.specs.BTreeSet.{BTreeSet}
use Rattle.std.specs.List.{cons_option}
use Rattle.std.specs.Option.{option_map}
use Rattle.std.proofs.lemmas.List.{append_cancel_left, append_assoc, append-nil, take-append-drop, take_more}
use Rattle.std.proofs.lemmas.Slice.Eq.{bytes_eq-Decides}
use Rattle.told_folder.specs.Folders.{folder_number, held_in, mark_in}
use Rattle.told_folder.specs.Index.{AllAscend, Inverts, IsIndexed}
use Rattle.told_folder.specs.Keyed.{AllAbove, Ascends, put_keyed}
use Rattle.told_folder.specs.FolderTelling.{cleared}
use Rattle.told_folder.specs.declared.message.Folder.{Folder}
use Rattle.told_folder.specs.declared.message.NumberedFolder.{NumberedFolder}
use Rattle.told_folder.specs.declared.message.Message.{Message}
use Rattle.told_folder.proofs.IndexLemmas.{eqb_apart, eqb_same, mark_was}
use Rattle.told_folder.proofs.KeyedLemmas.{some_is_not_none, some_same}
use Rattle.told_mail.specs.Mail.{Mail, named, is_same, AllBelow, IsMail, IsNextMail}
use Rattle.told_mail.specs.Lists.{is_inbox}
use Rattle.told_mail.specs.Renames.{rest_after, from_delimiter, child_part, renamed_name, names_given, has_one_named, name_after, with_name, renamed_folders, with_renamed}
use Rattle.told_mail.specs.reading.Index.{name_in, AreNumbers, IsMirror}
use Rattle.told_mail.specs.reading.Names.{place_in}
use Rattle.told_mail.specs.reading.Renaming.{name_of, named_by, HasNames}
use Rattle.told_mail.proofs.NameLemmas.{found_above, is_self, same_name, named_held, named_name, names_differ, numbers_put}
use Rattle.told_mail.proofs.NumberLemmas.{same_least, numbers_stay, next_by}
use Rattle.told_mail.proofs.OnceLemmas.{NamesDiffer, mark_at, mark_held, once_less}
use Rattle.told_mail.proofs.ToldLemmas.{Alike, alike_self, indexed_alike, indexed_end, none_below, put_end}

-- ---- names

-- a name that is renamed is the old one, or goes on from it; the new name goes on in the same way
pub data IsRenamed (from to name new : List ℕ) : Type 0 where
  Itself : name ≡ from → new ≡ to → IsRenamed from to name new
  Below : (c : ℕ) (rest : List ℕ) → name ≡ from ++ c ∷ rest → new ≡ to ++ c ∷ rest → IsRenamed from to name new

rest_is : (front t rest : List ℕ) → rest_after front t ≡ Some rest → t ≡ front ++ rest
rest_is front t rest e =
    elim (bytes_eq (take (length front) t) front) as (λ b. bytes_eq (take (length front) t) front ≡ b
    → (if b then Some (drop (length front) t) else None) ≡ Some rest → t ≡ front ++ rest) [
      | true ↦ λ same f. sym (take-append-drop (length front) t)
          ∙ (ap (λ (s : List ℕ). s ++ drop (length front) t) ((bytes_eq-Decides (take (length front) t) front).0 same)
          ∙ ap (λ (s : List ℕ). front ++ s) (some_same _ _ f))
      | false ↦ λ same f. absurd (cc)
    ] refl e

from_is : (d : ℕ) (o : Option (List ℕ)) (rest : List ℕ) → from_delimiter d o ≡ Some rest → (c : ℕ) × (t : List ℕ) × (o ≡ Some (c ∷ t)) × (rest ≡ c ∷ t)
from_is d None rest e = absurd (cc)
from_is d (Some []) rest e = absurd (cc)
from_is d (Some (c ∷ t)) rest e =
    elim (eqb c d) as (λ b. (if b then Some (c ∷ t) else None) ≡ Some rest → (k : ℕ) × (s : List ℕ) × (Some (c ∷ t) ≡ Some (k ∷ s)) × (rest ≡ k ∷ s)) [
      | true ↦ λ f. (c, t, refl, sym (some_same _ _ f))
      | false ↦ λ f. absurd (cc)
    ] e

child_is : (from : List ℕ) (d : Option ℕ) (name rest : List ℕ) → child_part from d name ≡ Some rest → (c : ℕ) × (t : List ℕ) × (rest ≡ c ∷ t) × (name ≡ from ++ c ∷ t)
child_is from None name rest e = absurd (cc)
child_is from (Some d) name rest e =
    let f = from_is d (rest_after from name) rest e in
    (f.0, f.1, f.3, rest_is from name (f.0 ∷ f.1) f.2)

below_is : (from to : List ℕ) (o : Option (List ℕ)) (name new : List ℕ)
    → ((rest : List ℕ) → o ≡ Some rest → (c : ℕ) × (t : List ℕ) × (rest ≡ c ∷ t) × (name ≡ from ++ c ∷ t))
    → option_map (λ rest. to ++ rest) o ≡ Some new → IsRenamed from to name new
below_is from to None name new child e = absurd (cc)
below_is from to (Some rest) name new child e =
    let x = child rest refl in
    Below x.0 x.1 x.3 (sym (some_same _ _ e) ∙ ap (λ (t : List ℕ). to ++ t) x.2)

pub renamed_is : (from to : List ℕ) (f : Folder) (new : List ℕ) → renamed_name from to f ≡ Some new → IsRenamed from to f.name new
renamed_is from to f new e =
    elim (is_same f.name from) as (λ b. is_same f.name from ≡ b
    → (if b then Some to else option_map (λ rest. to ++ rest) (child_part from f.delimiter f.name)) ≡ Some new → IsRenamed from to f.name new) [
      | true ↦ λ t g. Itself (same_name f.name from t) (sym (some_same _ _ g))
      | false ↦ λ t g. below_is from to (child_part from f.delimiter f.name) f.name new (child_is from f.delimiter f.name) g
    ] refl e

longer : (to : List ℕ) (c : ℕ) (rest : List ℕ) → to ≡ to ++ c ∷ rest → ⊥
longer to c rest e =
    let lengths : length to ≡ length (to ++ c ∷ rest) = ap length e in
    let sum : length (to ++ c ∷ rest) ≡ length to + length (c ∷ rest) = length-append to (c ∷ rest) in
    absurd (omega (arith, lengths, sum))

-- of two names that come to one, both are the same
one_name : (from to a b new : List ℕ) → IsRenamed from to a new → IsRenamed from to b new → a ≡ b
one_name from to a b new (Itself p q) (Itself r s) = p ∙ sym r
one_name from to a b new (Itself p q) (Below c rest r s) = absurd (longer to c rest (sym q ∙ s))
one_name from to a b new (Below c rest p q) (Itself r s) = absurd (longer to c rest (sym s ∙ q))
one_name from to a b new (Below c rest p q) (Below e more r s) =
    p ∙ (ap (λ (t : List ℕ). from ++ t) (append_cancel_left to (c ∷ rest) (e ∷ more) (sym q ∙ s)) ∙ sym r)

-- ---- folders that take names

module _ (name : NumberedFolder → Option (List ℕ)) where
  above_named : (n : ℕ) (hs : List NumberedFolder) → AllAbove folder_number n hs → AllAbove folder_number n (named_by name hs)
  above_named n [] a = tt
  above_named n (h ∷ hs) a =
      elim (name h) as (λ o. AllAbove folder_number n (cons_option (option_map (λ q. with_name q h) o) (named_by name hs))) [
        | None ↦ above_named n hs a.1
        | Some q ↦ (a.0, above_named n hs a.1)
      ]

  pub numbers_named : (hs : List NumberedFolder) → Ascends folder_number hs → Ascends folder_number (named_by name hs)
  numbers_named [] a = tt
  numbers_named (h ∷ hs) a =
      elim (name h) as (λ o. Ascends folder_number (cons_option (option_map (λ q. with_name q h) o) (named_by name hs))) [
        | None ↦ numbers_named hs a.1
        | Some q ↦ (above_named (folder_number h) hs a.0, numbers_named hs a.1)
      ]

  pub uids_named : (hs : List NumberedFolder) → AllAscend hs → AllAscend (named_by name hs)
  uids_named [] a = tt
  uids_named (h ∷ hs) a =
      elim (name h) as (λ o. AllAscend (cons_option (option_map (λ q. with_name q h) o) (named_by name hs))) [
        | None ↦ uids_named hs a.1
        | Some q ↦ (a.0, uids_named hs a.1)
      ]

  pub below_named : (n : ℕ) (hs : List NumberedFolder) → AllBelow n hs → AllBelow n (named_by name hs)
  below_named n [] a = tt
  below_named n (h ∷ hs) a =
      elim (name h) as (λ o. AllBelow n (cons_option (option_map (λ q. with_name q h) o) (named_by name hs))) [
        | None ↦ below_named n hs a.1
        | Some q ↦ (a.0, below_named n hs a.1)
      ]

  -- a folder that is left was there, under another name or the same
  pub record WasNamed (hs : List NumberedFolder) (n : ℕ) (k : NumberedFolder) : Type 0 where
    pub was : NumberedFolder
    pub held : held_in hs n ≡ Some was
    pub named : name was ≡ Some k.folder.name
    pub same : k ≡ with_name k.folder.name was

  held_behind : (h : NumberedFolder) (hs : List NumberedFolder) (n : ℕ) (w : NumberedFolder) → AllAbove folder_number (folder_number h) hs → held_in hs n ≡ Some w → held_in (h ∷ hs) n ≡ Some w
  held_behind h hs n w above e =
      let less : folder_number h < n = found_above (folder_number h) n hs w above e in
      ap (λ b. if b then Some h else held_in hs n) (eqb_apart (folder_number h) n (λ same. absurd (omega (arith, less, same)))) ∙ e

  behind : (h : NumberedFolder) (hs : List NumberedFolder) (n : ℕ) (k : NumberedFolder) → AllAbove folder_number (folder_number h) hs → WasNamed hs n k → WasNamed (h ∷ hs) n k
  behind h hs n k above w = record { was = w.was; held = held_behind h hs n w.was above w.held; named = w.named; same = w.same }

  here_named : (h : NumberedFolder) (hs : List NumberedFolder) (n : ℕ) (k : NumberedFolder) (q : List ℕ) → eqb (folder_number h) n ≡ true → name h ≡ Some q → with_name q h ≡ k → WasNamed (h ∷ hs) n k
  here_named h hs n k q at takes is = record {
    was = h;
    held = ap (λ b. if b then Some h else held_in hs n) at;
    named = takes ∙ ap (λ (z : NumberedFolder). Some z.folder.name) is;
    same = sym is ∙ ap (λ (z : NumberedFolder). with_name z.folder.name h) is;
  }

  pub was_named : (hs : List NumberedFolder) (n : ℕ) (k : NumberedFolder) → Ascends folder_number hs → held_in (named_by name hs) n ≡ Some k → WasNamed hs n k
  was_named [] n k up e = absurd (some_is_not_none k (sym e))
  was_named (h ∷ hs) n k up e =
      elim (name h) as (λ o. name h ≡ o → held_in (cons_option (option_map (λ q. with_name q h) o) (named_by name hs)) n ≡ Some k → WasNamed (h ∷ hs) n k) [
        | None ↦ λ t f. behind h hs n k up.0 (was_named hs n k up.1 f)
        | Some q ↦ λ t f. elim (eqb (folder_number h) n) as (λ b. eqb (folder_number h) n ≡ b
            → (if b then Some (with_name q h) else held_in (named_by name hs) n) ≡ Some k → WasNamed (h ∷ hs) n k) [
              | true ↦ λ at g. here_named h hs n k q at t (some_same _ _ g)
              | false ↦ λ at g. behind h hs n k up.0 (was_named hs n k up.1 g)
            ] refl f
      ] refl e

  none_named : (hs : List NumberedFolder) (n : ℕ) → held_in hs n ≡ None → held_in (named_by name hs) n ≡ None
  none_named [] n e = refl
  none_named (h ∷ hs) n e =
      elim (eqb (folder_number h) n) as (λ b. eqb (folder_number h) n ≡ b → (if b then Some h else held_in hs n) ≡ None → held_in (named_by name (h ∷ hs)) n ≡ None) [
        | true ↦ λ t f. absurd (some_is_not_none h f)
        | false ↦ λ t f. elim (name h) as (λ o. held_in (cons_option (option_map (λ q. with_name q h) o) (named_by name hs)) n ≡ None) [
          | None ↦ none_named hs n f
          | Some q ↦ ap (λ b. if b then Some (with_name q h) else held_in (named_by name hs) n) t ∙ none_named hs n f
        ]
      ] refl e

  pub marks_named : (hs : List NumberedFolder) → Ascends folder_number hs → (p : ℕ × ℕ) (v : ℕ) → mark_in (named_by name hs) p ≡ Some v → mark_in hs p ≡ Some v
  marks_named hs up p v e =
      let x = mark_held (named_by name hs) p v e in
      let w : WasNamed hs p.0 x.0 = was_named hs p.0 x.0 up x.1 in
      mark_was hs p.0 p.1 w.was w.held ∙ (ap (λ (xs : List Message). mark_at xs p.1) (sym (ap (λ (z : NumberedFolder). z.messages) w.same)) ∙ x.2)

  -- mail whose folders take names that differ can follow
  pub named_mail : (m : Mail) → NamesDiffer (named_by name m.folders) → IsMail m → IsNextMail m (record m { folders = named_by name m.folders })
  named_mail m differ i =
      let hs : List NumberedFolder = m.folders in
      let marks : (p : ℕ × ℕ) (v : ℕ) → mark_in (named_by name hs) p ≡ Some v → mark_in hs p ≡ Some v = marks_named hs i.numbers in
      next_by m (record m { folders = named_by name hs }) (record {
        numbers = numbers_named hs i.numbers;
        uids = uids_named hs i.uids;
        marks = once_less (mark_in hs) (mark_in (named_by name hs)) i.marks marks;
        names = differ;
        marks_below = λ p v e. i.marks_below p v (marks p v e);
        numbers_below = below_named m.next_folder hs i.numbers_below;
      }) (record { counter = same_least m.next_folder; ended = λ n less e. none_named hs n e })

-- ---- names that are given

or_left : (a b : Bool) → a ≡ true → (a || b) ≡ true
or_left true b e = refl
or_left false b e = absurd (cc)

or_right : (a b : Bool) → b ≡ true → (a || b) ≡ true
or_right true b e = refl
or_right false b e = e

any_more : (name : List ℕ) (o : Option (List ℕ)) (rest : List (List ℕ)) → has_one_named name rest ≡ true → has_one_named name (cons_option o rest) ≡ true
any_more name None rest e = e
any_more name (Some n) rest e = or_right (is_same name n) (has_one_named name rest) e

given_has : (from to : List ℕ) (hs : List NumberedFolder) (n : ℕ) (was : NumberedFolder) (new : List ℕ) → held_in hs n ≡ Some was → renamed_name from to was.folder ≡ Some new
    → has_one_named new (names_given from to hs) ≡ true
given_has from to [] n was new held is = absurd (some_is_not_none was (sym held))
given_has from to (h ∷ hs) n was new held is =
    elim (eqb (folder_number h) n) as (λ b. (if b then Some h else held_in hs n) ≡ Some was → has_one_named new (names_given from to (h ∷ hs)) ≡ true) [
      | true ↦ λ f. (let here : renamed_name from to h.folder ≡ Some new = ap (λ (z : NumberedFolder). renamed_name from to z.folder) (some_same _ _ f) ∙ is in
          subst (λ o. has_one_named new (cons_option o (names_given from to hs)) ≡ true) (sym here)
          (or_left (is_same new new) (has_one_named new (names_given from to hs)) (is_self new)))
      | false ↦ λ f. any_more new (renamed_name from to h.folder) (names_given from to hs) (given_has from to hs n was new f is)
    ] held

true_not_false : (b : Bool) → b ≡ true → b ≡ false → ⊥
true_not_false true e f = absurd (cc)
true_not_false false e f = absurd (cc)

-- the name is a new one; or it stays, and is given to no other
data NameCame (from to : List ℕ) (given : List (List ℕ)) (f : Folder) (q : List ℕ) : Type 0 where
  New : renamed_name from to f ≡ Some q → NameCame from to given f q
  Old : q ≡ f.name → has_one_named f.name given ≡ false → NameCame from to given f q

came : (from to : List ℕ) (given : List (List ℕ)) (f : Folder) (o : Option (List ℕ)) (q : List ℕ) → renamed_name from to f ≡ o → name_after given o f ≡ Some q
    → NameCame from to given f q
came from to given f (Some r) q e g = New (e ∙ g)
came from to given f None q e g =
    elim (has_one_named f.name given) as (λ b. has_one_named f.name given ≡ b → (if b then None else Some f.name) ≡ Some q → NameCame from to given f q) [
      | true ↦ λ t h. absurd (cc)
      | false ↦ λ t h. Old (sym (some_same _ _ h)) t
    ] refl g

module _ (from to : List ℕ) (hs : List NumberedFolder) where
  abbrev given : List (List ℕ)
  given = names_given from to hs

  apart : (i j : ℕ) (w u : NumberedFolder) (p q : List ℕ) → NamesDiffer hs → held_in hs i ≡ Some w → held_in hs j ≡ Some u → p ≡ q
      → NameCame from to given w.folder p → NameCame from to given u.folder q → i ≡ j
  apart i j w u p q differ was too same (New a) (New b) =
      differ i j w u was too (one_name from to w.folder.name u.folder.name q
      (renamed_is from to w.folder q (a ∙ ap (λ (n : List ℕ). Some n) same)) (renamed_is from to u.folder q b))
  apart i j w u p q differ was too same (New a) (Old b free) =
      absurd (true_not_false (has_one_named u.folder.name given)
      (given_has from to hs i w u.folder.name was (a ∙ ap (λ (n : List ℕ). Some n) (same ∙ b))) free)
  apart i j w u p q differ was too same (Old a free) (New b) =
      absurd (true_not_false (has_one_named w.folder.name given)
      (given_has from to hs j u w.folder.name too (b ∙ ap (λ (n : List ℕ). Some n) (sym same ∙ a))) free)
  apart i j w u p q differ was too same (Old a free) (Old b other) = differ i j w u was too (sym a ∙ (same ∙ b))

  -- names that differ still do
  pub names_renamed : Ascends folder_number hs → NamesDiffer hs → NamesDiffer (renamed_folders from to hs)
  names_renamed up differ = λ i j h k e f same.
      let w : WasNamed (name_of from to hs) hs i h = was_named (name_of from to hs) hs i h up e in
      let u : WasNamed (name_of from to hs) hs j k = was_named (name_of from to hs) hs j k up f in
      apart i j w.was u.was h.folder.name k.folder.name differ w.held u.held same
      (came from to given w.was.folder (renamed_name from to w.was.folder) h.folder.name refl w.named)
      (came from to given u.was.folder (renamed_name from to u.was.folder) k.folder.name refl u.named)

-- the mail after a RENAME can follow
pub renamed_next : (m : Mail) (from to : List ℕ) → IsMail m → IsNextMail m (with_renamed m from to)
renamed_next m from to i =
    elim (is_inbox from) as (λ b. IsNextMail m (if b then m else record m { folders = renamed_folders from to m.folders })) [
      | true ↦ next_by m m i (numbers_stay m)
      | false ↦ named_mail (name_of from to m.folders) m (names_renamed from to m.folders i.numbers i.names) i
    ]

-- ---- the index of names

append_named : (name : NumberedFolder → Option (List ℕ)) (fs rest : List NumberedFolder) → named_by name (fs ++ rest) ≡ named_by name fs ++ named_by name rest
append_named name [] rest = refl
append_named name (h ∷ fs) rest =
    elim (name h) as (λ o. cons_option (option_map (λ q. with_name q h) o) (named_by name (fs ++ rest))
    ≡ cons_option (option_map (λ q. with_name q h) o) (named_by name fs) ++ named_by name rest) [
      | None ↦ append_named name fs rest
      | Some q ↦ ap (λ zs. with_name q h ∷ zs) (append_named name fs rest)
    ]

below_front : (fs rest : List NumberedFolder) (h : NumberedFolder) → Ascends folder_number (fs ++ h ∷ rest) → AllBelow (folder_number h) fs
below_front [] rest h up = tt
below_front (x ∷ fs) rest h up = (above_at fs up.0, below_front fs rest h up.1)
  where
    above_at : (zs : List NumberedFolder) → AllAbove folder_number (folder_number x) (zs ++ h ∷ rest) → folder_number x < folder_number h
    above_at [] a = a.0
    above_at (z ∷ zs) a = above_at zs a.1

front_up : (fs rest : List NumberedFolder) → Ascends folder_number (fs ++ rest) → Ascends folder_number fs
front_up [] rest up = tt
front_up (x ∷ fs) rest up = (above_front fs up.0, front_up fs rest up.1)
  where
    above_front : (zs : List NumberedFolder) → AllAbove folder_number (folder_number x) (zs ++ rest) → AllAbove folder_number (folder_number x) zs
    above_front [] a = tt
    above_front (z ∷ zs) a = (a.0, above_front zs a.1)

held_front : (fs rest : List NumberedFolder) (n : ℕ) (h : NumberedFolder) → held_in fs n ≡ Some h → held_in (fs ++ rest) n ≡ Some h
held_front [] rest n h e = absurd (some_is_not_none h (sym e))
held_front (x ∷ fs) rest n h e =
    elim (eqb (folder_number x) n) as (λ b. (if b then Some x else held_in fs n) ≡ Some h → (if b then Some x else held_in (fs ++ rest) n) ≡ Some h) [
      | true ↦ λ f. f
      | false ↦ λ f. held_front fs rest n h f
    ] e

held_last : (fs rest : List NumberedFolder) (h : NumberedFolder) → AllBelow (folder_number h) fs → held_in (fs ++ h ∷ rest) (folder_number h) ≡ Some h
held_last [] rest h b = ap (λ v. if v then Some h else held_in rest (folder_number h)) (eqb_same (folder_number h))
held_last (x ∷ fs) rest h b =
    let less : folder_number x < folder_number h = b.0 in
    ap (λ v. if v then Some x else held_in (fs ++ h ∷ rest) (folder_number h)) (ne_eqb _ _ (λ e. omega (arith, e, less))) ∙ held_last fs rest h b.1

below_found : (hs : List NumberedFolder) (n j : ℕ) (h : NumberedFolder) → AllBelow n hs → held_in hs j ≡ Some h → folder_number h < n
below_found [] n j h b e = absurd (some_is_not_none h (sym e))
below_found (x ∷ hs) n j h b e =
    elim (eqb (folder_number x) j) as (λ v. (if v then Some x else held_in hs j) ≡ Some h → folder_number h < n) [
      | true ↦ λ f. subst (λ (z : NumberedFolder). folder_number z < n) (some_same x h f) b.0
      | false ↦ λ f. below_found hs n j h b.1 f
    ] e

module _ (name : NumberedFolder → Option (List ℕ)) (fs rest : List NumberedFolder) (h : NumberedFolder) (up : Ascends folder_number (fs ++ h ∷ rest)) (differ : NamesDiffer (named_by name (fs ++ h ∷ rest))) where
  -- no folder before it takes the name that it takes
  unused : (q : List ℕ) → name h ≡ Some q → named (named_by name fs) q ≡ None
  unused q takes =
      let done : List NumberedFolder = named_by name fs in
      let k : NumberedFolder = with_name q h in
      let below : AllBelow (folder_number h) done = below_named name (folder_number h) fs (below_front fs rest h up) in
      let whole : named_by name (fs ++ h ∷ rest) ≡ done ++ k ∷ named_by name rest =
      append_named name fs (h ∷ rest) ∙ ap (λ o. done ++ cons_option (option_map (λ p. with_name p h) o) (named_by name rest)) takes in
      elim (named done q) as (λ o. named done q ≡ o → o ≡ None) [
        | None ↦ λ e. refl
        | Some j ↦ λ e.
            let there : held_in done (folder_number j) ≡ Some j = named_held done q j (numbers_named name fs (front_up fs (h ∷ rest) up)) e in
            let one : held_in (named_by name (fs ++ h ∷ rest)) (folder_number j) ≡ Some j =
            ap (λ zs. held_in zs (folder_number j)) whole ∙ held_front done (k ∷ named_by name rest) (folder_number j) j there in
            let two : held_in (named_by name (fs ++ h ∷ rest)) (folder_number h) ≡ Some k =
            ap (λ zs. held_in zs (folder_number h)) whole ∙ held_last done (named_by name rest) k below in
            let same : folder_number j ≡ folder_number h = differ (folder_number j) (folder_number h) j k one two (named_name done q j e) in
            let less : folder_number j < folder_number h = below_found done (folder_number h) (folder_number j) j below there in
            absurd (omega (arith, same, less))
      ] refl

  -- the index with one folder more that took its name
  pub numbers_more : (look look' : List ℕ → Option ℕ) → Inverts look (name_in (named_by name fs))
      → ((q : List ℕ) → name h ≡ Some q → (p : List ℕ) → look' p ≡ (if is_same q p then Some (folder_number h) else look p))
      → (name h ≡ None → (p : List ℕ) → look' p ≡ look p) → Inverts look' (name_in (named_by name (fs ++ h ∷ [])))
  numbers_more look look' i some none = by (name h) refl
    where
      by : (o : Option (List ℕ)) → name h ≡ o → Inverts look' (name_in (named_by name (fs ++ h ∷ [])))
      by None e =
          let same : named_by name (fs ++ h ∷ []) ≡ named_by name fs =
          append_named name fs (h ∷ []) ∙ (ap (λ o. named_by name fs ++ cons_option (option_map (λ p. with_name p h) o) []) e ∙ append-nil (named_by name fs)) in
          subst (λ zs. Inverts look' (name_in zs)) (sym same) (record {
            to = λ k p f. i.to k p (sym (none e k) ∙ f);
            from = λ k p f. none e k ∙ i.from k p f;
          })
      by (Some q) e =
          let done : List NumberedFolder = named_by name fs in
          let k : NumberedFolder = with_name q h in
          let below : AllBelow (folder_number h) done = below_named name (folder_number h) fs (below_front fs rest h up) in
          let more : named_by name (fs ++ h ∷ []) ≡ put_keyed folder_number k done =
          append_named name fs (h ∷ []) ∙ (ap (λ o. done ++ cons_option (option_map (λ p. with_name p h) o) []) e ∙ sym (put_end k done below)) in
          subst (λ zs. Inverts look' (name_in zs)) (sym more)
          (numbers_put look look' done k (numbers_named name fs (front_up fs (h ∷ rest) up)) i (none_below (folder_number h) done below) (unused q e) (some q e))

-- ---- names that are looked up

turned : (a b c : Bool) → (a || (b || c)) ≡ (b || (a || c))
turned true true c = refl
turned true false c = refl
turned false b c = refl

any_end : (q : List ℕ) (xs : List (List ℕ)) (n : List ℕ) → has_one_named q (xs ++ n ∷ []) ≡ (is_same q n || has_one_named q xs)
any_end q [] n = refl
any_end q (x ∷ xs) n = ap (λ (b : Bool). is_same q x || b) (any_end q xs n) ∙ turned (is_same q x) (is_same q n) (has_one_named q xs)

any_last : (q : List ℕ) (xs : List (List ℕ)) (o : Option (List ℕ)) → has_one_named q (xs ++ cons_option o []) ≡ has_one_named q (cons_option o xs)
any_last q xs None = ap (has_one_named q) (append-nil xs)
any_last q xs (Some n) = any_end q xs n

any_same : (q : List ℕ) (xs ys : List (List ℕ)) (o : Option (List ℕ)) → has_one_named q xs ≡ has_one_named q ys → has_one_named q (cons_option o xs) ≡ has_one_named q (cons_option o ys)
any_same q xs ys None e = e
any_same q xs ys (Some n) e = ap (λ (b : Bool). is_same q n || b) e

given_append : (from to : List ℕ) (fs : List NumberedFolder) (h : NumberedFolder) → names_given from to (fs ++ h ∷ []) ≡ names_given from to fs ++ cons_option (renamed_name from to h.folder) []
given_append from to [] h = refl
given_append from to (f ∷ fs) h =
    elim (renamed_name from to f.folder) as (λ o. cons_option o (names_given from to (fs ++ h ∷ []))
    ≡ cons_option o (names_given from to fs) ++ cons_option (renamed_name from to h.folder) []) [
      | None ↦ given_append from to fs h
      | Some n ↦ ap (λ (ns : List (List ℕ)). n ∷ ns) (given_append from to fs h)
    ]

-- the set of the names that folders get, with those of one folder more
pub given_more : (from to : List ℕ) (hs : List NumberedFolder) (i : ℕ) (h : NumberedFolder) (old new : BTreeSet (Vec ℕ Global)) (o : Option (List ℕ)) → i < length hs → h ≡ get_or hs i h
    → HasNames old (names_given from to (take i hs)) → o ≡ renamed_name from to h.folder → HasNames new (cons_option o (map (λ (v : Vec ℕ Global). v.items) old.keys))
    → HasNames new (names_given from to (take (i + 1) hs))
given_more from to hs i h old new o within is so_far name added = λ q.
    let names : List (List ℕ) = names_given from to (take i hs) in
    let more : take (i + 1) hs ≡ take i hs ++ h ∷ [] = take_more hs i h within ∙ ap (λ (m : NumberedFolder). take i hs ++ m ∷ []) (sym is) in
    let whole : names_given from to (take (i + 1) hs) ≡ names ++ cons_option o [] =
    ap (names_given from to) more ∙ (given_append from to (take i hs) h ∙ ap (λ p. names ++ cons_option p []) (sym name)) in
    added q ∙ (any_same q (map (λ (v : Vec ℕ Global). v.items) old.keys) names o (so_far q) ∙ (sym (any_last q names o) ∙ ap (has_one_named q) (sym whole)))

-- what a folder's name is after the RENAME
pub after_some : (names : List (List ℕ)) (o : Option (List ℕ)) (f : Folder) (n : List ℕ) → Some n ≡ o → Some n ≡ name_after names o f
after_some names o f n e = ap (λ p. name_after names p f) e

pub after_given : (names : List (List ℕ)) (o : Option (List ℕ)) (f : Folder) → None ≡ o → has_one_named f.name names ≡ true → None ≡ name_after names o f
after_given names o f e is = sym (ap (λ b. if b then None else Some f.name) is) ∙ ap (λ p. name_after names p f) e

pub after_kept : (names : List (List ℕ)) (o : Option (List ℕ)) (f : Folder) → None ≡ o → has_one_named f.name names ≡ false → Some f.name ≡ name_after names o f
after_kept names o f e is = sym (ap (λ b. if b then None else Some f.name) is) ∙ ap (λ p. name_after names p f) e

-- ---- folders that take their names, one after another

alike_name : (done rest : List NumberedFolder) (h : NumberedFolder) (n : List ℕ) → Alike (done ++ h ∷ rest) ((done ++ with_name n h ∷ []) ++ rest)
alike_name [] rest h n = (refl, refl, alike_self rest)
alike_name (x ∷ done) rest h n = (refl, refl, alike_name done rest h n)

short : (done rest : List NumberedFolder) (h : NumberedFolder) → length done < length (done ++ h ∷ rest)
short [] rest h = omega arith
short (z ∷ done) rest h = omega (arith, short done rest h)

found_there : (done rest : List NumberedFolder) (h : NumberedFolder) → h ≡ get_or (done ++ h ∷ rest) (length done) h
found_there [] rest h = refl
found_there (z ∷ done) rest h = found_there done rest h

without_it : (done rest : List NumberedFolder) (h : NumberedFolder) → take (length done) (done ++ h ∷ rest) ++ drop (suc (length done)) (done ++ h ∷ rest) ≡ done ++ rest
without_it [] rest h = refl
without_it (z ∷ done) rest h = ap (λ ys. z ∷ ys) (without_it done rest h)

module _ (name : NumberedFolder → Option (List ℕ)) (done rest : List NumberedFolder) (h : NumberedFolder) where
  -- the folder takes its name
  pub name_taken : (n : List ℕ) → name h ≡ Some n → (done ++ with_name n h ∷ []) ++ named_by name rest ≡ done ++ named_by name (h ∷ rest)
  name_taken n takes =
      append_assoc done (with_name n h ∷ []) (named_by name rest)
      ∙ ap (λ o. done ++ cons_option (option_map (λ q. with_name q h) o) (named_by name rest)) (sym takes)

  -- the folder ends
  pub none_taken : name h ≡ None → done ++ named_by name rest ≡ done ++ named_by name (h ∷ rest)
  none_taken ends = ap (λ o. done ++ cons_option (option_map (λ q. with_name q h) o) (named_by name rest)) (sym ends)

  pub indexed_taken : (n : List ℕ) (marks : BTreeMap ℕ (ℕ × ℕ)) (nm : ℕ) → IsIndexed (done ++ h ∷ rest) marks nm → IsIndexed ((done ++ with_name n h ∷ []) ++ rest) marks nm
  indexed_taken n marks nm i = indexed_alike (done ++ h ∷ rest) ((done ++ with_name n h ∷ []) ++ rest) marks nm (alike_name done rest h n) i

  pub indexed_gone : (marks marks' : BTreeMap ℕ (ℕ × ℕ)) (nm : ℕ) → ((q : ℕ) → get nat_cmp marks' q ≡ cleared (λ u. true) h.messages q (get nat_cmp marks q))
      → IsIndexed (done ++ h ∷ rest) marks nm → IsIndexed (done ++ rest) marks' nm
  indexed_gone marks marks' nm clear i =
      subst (λ (zs : List NumberedFolder). IsIndexed zs marks' nm) (without_it done rest h)
      (indexed_end (done ++ h ∷ rest) (length done) h marks marks' nm (short done rest h) (found_there done rest h) clear i)

-- the first folder and its name are taken off
pub popped : (name : NumberedFolder → Option (List ℕ)) (fs rest : List NumberedFolder) (h : NumberedFolder) (names later : List (Option (List ℕ))) (n : Option (List ℕ)) → fs ≡ h ∷ rest → names ≡ n ∷ later
    → names ≡ map name fs → (n ≡ name h) × (later ≡ map name rest)
popped name fs rest h names later n fs_are names_are all =
    let e : n ∷ later ≡ name h ∷ map name rest = sym names_are ∙ (all ∙ ap (map name) fs_are) in
    (head_same n (name h) later (map name rest) e, tail_same n (name h) later (map name rest) e)
  where
    head_same : (a b : Option (List ℕ)) (xs ys : List (Option (List ℕ))) → a ∷ xs ≡ b ∷ ys → a ≡ b
    head_same a b xs ys e = cc

    tail_same : (a b : Option (List ℕ)) (xs ys : List (Option (List ℕ))) → a ∷ xs ≡ b ∷ ys → xs ≡ ys
    tail_same a b xs ys e = cc

-- what stands and what is left together are the folders with their names
pub left_step : (name : NumberedFolder → Option (List ℕ)) (fs rest : List NumberedFolder) (h : NumberedFolder) (n : Option (List ℕ)) (done done' whole : List NumberedFolder) → fs ≡ h ∷ rest → n ≡ name h
    → done ++ named_by name fs ≡ whole → ((q : List ℕ) → n ≡ Some q → done' ≡ done ++ with_name q h ∷ []) → (n ≡ None → done' ≡ done)
    → done' ++ named_by name rest ≡ whole
left_step name fs rest h n done done' whole fs_are is so_far some none = by n refl
  where
    all : done ++ named_by name (h ∷ rest) ≡ whole
    all = ap (λ (zs : List NumberedFolder). done ++ named_by name zs) (sym fs_are) ∙ so_far

    by : (o : Option (List ℕ)) → n ≡ o → done' ++ named_by name rest ≡ whole
    by None e = ap (λ (zs : List NumberedFolder). zs ++ named_by name rest) (none e) ∙ (none_taken name done rest h (sym is ∙ e) ∙ all)
    by (Some q) e = ap (λ (zs : List NumberedFolder). zs ++ named_by name rest) (some q e) ∙ (name_taken name done rest h q (sym is ∙ e) ∙ all)

-- and the index is theirs
pub marks_step : (fs rest : List NumberedFolder) (h : NumberedFolder) (n : Option (List ℕ)) (done done' : List NumberedFolder) (marks marks' : BTreeMap ℕ (ℕ × ℕ)) (nm : ℕ) → fs ≡ h ∷ rest
    → ((q : List ℕ) → n ≡ Some q → (done' ≡ done ++ with_name q h ∷ []) × (marks' ≡ marks))
    → (n ≡ None → (done' ≡ done) × ((q : ℕ) → get nat_cmp marks' q ≡ cleared (λ u. true) h.messages q (get nat_cmp marks q)))
    → IsIndexed (done ++ fs) marks nm → IsIndexed (done' ++ rest) marks' nm
marks_step fs rest h n done done' marks marks' nm fs_are some none i = by n refl
  where
    here : IsIndexed (done ++ h ∷ rest) marks nm
    here = subst (λ (zs : List NumberedFolder). IsIndexed (done ++ zs) marks nm) fs_are i

    by : (o : Option (List ℕ)) → n ≡ o → IsIndexed (done' ++ rest) marks' nm
    by None e =
        let s = none e in
        subst (λ (zs : List NumberedFolder). IsIndexed (zs ++ rest) marks' nm) (sym s.0) (indexed_gone (λ z. None) done rest h marks marks' nm s.1 here)
    by (Some q) e =
        let s = some q e in
        subst (λ (zs : List NumberedFolder). IsIndexed (zs ++ rest) marks' nm) (sym s.0)
        (subst (λ (m : BTreeMap ℕ (ℕ × ℕ)). IsIndexed ((done ++ with_name q h ∷ []) ++ rest) m nm) (sym s.1) (indexed_taken (λ z. None) done rest h q marks nm here))

none_left : (hs : List NumberedFolder) → length hs ≡ 0 → hs ≡ []
none_left [] e = refl
none_left (h ∷ hs) e = absurd (omega (arith, e))

-- once none is left, all have their names
pub all_taken : (name : NumberedFolder → Option (List ℕ)) (done rest whole : List NumberedFolder) → length rest ≡ 0 → done ++ named_by name rest ≡ named_by name whole → done ≡ named_by name whole
all_taken name done rest whole none e =
    sym (append-nil done) ∙ (ap (λ (zs : List NumberedFolder). done ++ named_by name zs) (sym (none_left rest none)) ∙ e)

-- and the index is that of them
pub all_indexed : (name : NumberedFolder → Option (List ℕ)) (done rest whole : List NumberedFolder) (marks : BTreeMap ℕ (ℕ × ℕ)) (nm : ℕ) → length rest ≡ 0 → done ≡ named_by name whole
    → IsIndexed (done ++ rest) marks nm → IsIndexed (named_by name whole) marks nm
all_indexed name done rest whole marks nm none e i =
    subst (λ (zs : List NumberedFolder). IsIndexed zs marks nm) (ap (λ (zs : List NumberedFolder). done ++ zs) (none_left rest none) ∙ (append-nil done ∙ e)) i

map_end : (name : NumberedFolder → Option (List ℕ)) (fs : List NumberedFolder) (h : NumberedFolder) → map name (fs ++ h ∷ []) ≡ map name fs ++ name h ∷ []
map_end name [] h = refl
map_end name (f ∷ fs) h = ap (λ (ns : List (Option (List ℕ))). name f ∷ ns) (map_end name fs h)

-- the names of the folders with one more
pub names_more : (name : NumberedFolder → Option (List ℕ)) (hs : List NumberedFolder) (i : ℕ) (h : NumberedFolder) → i < length hs → h ≡ get_or hs i h
    → map name (take (i + 1) hs) ≡ map name (take i hs) ++ name h ∷ []
names_more name hs i h within is =
    ap (map name) (take_more hs i h within ∙ ap (λ (m : NumberedFolder). take i hs ++ m ∷ []) (sym is)) ∙ map_end name (take i hs) h

-- ---- a mirror

-- what a mirror's mail is
pub mirror_mail : (hs : List NumberedFolder) (marks : BTreeMap ℕ (ℕ × ℕ)) (numbers : BTreeMap (Vec ℕ Global) ℕ) (nm nf : ℕ) → IsMirror hs marks numbers nm nf
    → IsMail (record { folders = hs; next_mark = nm; next_folder = nf })
mirror_mail hs marks numbers nm nf m = record {
  numbers = m.index.numbers;
  uids = m.index.uids;
  marks = λ p q k e f. some_same _ _ (sym (m.index.inverse.from k p e) ∙ m.index.inverse.from k q f);
  names = names_differ (place_in numbers) hs m.names m.index.numbers;
  marks_below = m.index.below;
  numbers_below = m.folders;
}

-- a mirror whose folders took their names is one
pub mirror_renamed : (hs ks : List NumberedFolder) (from to : List ℕ) (marks marks' : BTreeMap ℕ (ℕ × ℕ)) (numbers numbers' : BTreeMap (Vec ℕ Global) ℕ) (nm nf : ℕ)
    → ks ≡ named_by (name_of from to hs) hs → (IsIndexed hs marks nm → IsIndexed (named_by (name_of from to hs) hs) marks' nm)
    → (IsMail (record { folders = hs; next_mark = nm; next_folder = nf }) → AreNumbers (renamed_folders from to hs) numbers')
    → IsMirror hs marks numbers nm nf → IsMirror ks marks' numbers' nm nf
mirror_renamed hs ks from to marks marks' numbers numbers' nm nf same indexed named m =
    subst (λ (zs : List NumberedFolder). IsMirror zs marks' numbers' nm nf) (sym same) (record {
      index = indexed m.index;
      folders = below_named (name_of from to hs) nf hs m.folders;
      names = named (mirror_mail hs marks numbers nm nf m);
    })
