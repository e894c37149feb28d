-- What holds of marks and names, each of which stands at one place, as folders and messages change.
use Rattle.std.proofs.Common.{◌≡◌, ◌⊎◌, ℕ, ◌<◌, Bool, true, false, List, [], ◌∷◌, Option, Some, None, refl, sym, ap, ◌∙◌, arith, inl, inr, eqb, eqb-true, ne_eqb, if◌then◌else◌}
use Rattle.std.specs.Option.{option_map}
use Rattle.imap_types.specs.declared.response.Response.{Response}
use Rattle.told_folder.specs.Folders.{folder_number, uid_of, held_in, messages_of, mark_in, with_messages}
use Rattle.told_folder.specs.Keyed.{AllAbove, Ascends, with_key, put_keyed, cut_keyed}
use Rattle.told_folder.specs.Tell.{without_those}
use Rattle.told_folder.specs.declared.message.NumberedFolder.{NumberedFolder}
use Rattle.told_folder.specs.declared.message.Message.{Message}
use Rattle.told_folder.proofs.KeyedLemmas.{some_is_not_none, some_same, found_put, found_cut}
use Rattle.told_folder.proofs.FolderLemmas.{messages_other}
use Rattle.told_folder.proofs.IndexLemmas.{mark_of, mark_same, mark_was, same_or_not}
use Rattle.told_folder.proofs.VanishLemmas.{found_without}
use Rattle.told_mail.specs.Exchanges.{with_held}
use Rattle.told_mail.specs.Lists.{line_for, put_listed, listed, with_line}
use Rattle.told_mail.specs.reading.Index.{name_in}
use Rattle.told_mail.proofs.NameLemmas.{found_above}

-- no value stands at two places
abbrev pub IsOnce : {P V : Type 0} → (P → Option V) → Type 0
IsOnce {P} {V} look = (p q : P) (v : V) → look p ≡ Some v → look q ≡ Some v → p ≡ q

-- a value still stands once where each value stood at its place before
pub once_less : {P V : Type 0} (look now : P → Option V) → IsOnce look → ((p : P) (v : V) → now p ≡ Some v → look p ≡ Some v) → IsOnce now
once_less look now once less = λ p q v e f. once p q v (less p v e) (less q v f)

-- a value still stands once where a new one comes to one place
pub once_more : {P V : Type 0} (look now : P → Option V) (r : P) (w : V) → IsOnce look → ((p : P) → look p ≡ Some w → ⊥)
    → ((p : P) (v : V) → now p ≡ Some v → (look p ≡ Some v) ⊎ ((p ≡ r) × (v ≡ w))) → IsOnce now
once_more look now r w once new more = λ p q v e f.
    elim (more p v e) [
      | inl a ↦ elim (more q v f) [
        | inl b ↦ once p q v a b
        | inr b ↦ absurd (new p (a ∙ ap (λ x. Some x) b.1))
      ]
      | inr a ↦ elim (more q v f) [
        | inl b ↦ absurd (new q (b ∙ ap (λ x. Some x) a.1))
        | inr b ↦ a.0 ∙ sym b.0
      ]
    ]

-- ---- the mark at a UID

-- the mark of the message of a UID
abbrev pub mark_at : List Message → ℕ → Option ℕ
mark_at xs u = option_map mark_of (with_key uid_of u xs)

-- a mark after a message is put was there, or is the message's at its UID
pub mark_put : (x : Message) (xs : List Message) (u k : ℕ) → Ascends uid_of xs → mark_at (put_keyed uid_of x xs) u ≡ Some k
    → (mark_at xs u ≡ Some k) ⊎ ((u ≡ x.uid) × (k ≡ x.mark))
mark_put x xs u k up e =
    elim (eqb x.uid u) as (λ b. eqb x.uid u ≡ b → option_map mark_of (if b then Some x else with_key uid_of u xs) ≡ Some k
    → (mark_at xs u ≡ Some k) ⊎ ((u ≡ x.uid) × (k ≡ x.mark))) [
      | true ↦ λ t f. inr (sym (eqb-true _ _ t), sym (some_same x.mark k f))
      | false ↦ λ t f. inl f
    ] refl (sym (ap (option_map mark_of) (found_put uid_of u x xs up)) ∙ e)

-- a mark after a UID is cut was there
pub mark_cut : (v : ℕ) (xs : List Message) (u k : ℕ) → mark_at (cut_keyed uid_of v xs) u ≡ Some k → mark_at xs u ≡ Some k
mark_cut v xs u k e =
    elim (eqb v u) as (λ b. option_map mark_of (if b then None else with_key uid_of u xs) ≡ Some k → mark_at xs u ≡ Some k) [
      | true ↦ λ f. absurd (some_is_not_none k (sym f))
      | false ↦ λ f. f
    ] (sym (ap (option_map mark_of) (found_cut uid_of u v xs)) ∙ e)

-- a mark that is left once messages vanish was there
pub mark_left : (gone : ℕ → Bool) (xs : List Message) (u k : ℕ) → mark_at (without_those gone xs) u ≡ Some k → mark_at xs u ≡ Some k
mark_left gone xs u k e =
    elim (gone u) as (λ b. option_map mark_of (if b then None else with_key uid_of u xs) ≡ Some k → mark_at xs u ≡ Some k) [
      | true ↦ λ f. absurd (some_is_not_none k (sym f))
      | false ↦ λ f. f
    ] (sym (ap (option_map mark_of) (found_without gone u xs)) ∙ e)

-- ---- the mark at a place

-- a mark is of a folder that is held
pub mark_held : (hs : List NumberedFolder) (p : ℕ × ℕ) (k : ℕ) → mark_in hs p ≡ Some k → (h : NumberedFolder) × (held_in hs p.0 ≡ Some h) × (mark_at h.messages p.1 ≡ Some k)
mark_held hs p k e = by (held_in hs p.0) refl e
  where
    by : (o : Option NumberedFolder) → held_in hs p.0 ≡ o → option_map mark_of (with_key uid_of p.1 (messages_of o)) ≡ Some k → (h : NumberedFolder)
        × (held_in hs p.0 ≡ Some h) × (mark_at h.messages p.1 ≡ Some k)
    by None is f = absurd (some_is_not_none k (sym f))
    by (Some h) is f = (h, is, f)

-- a folder that has other messages now was there with its fields
pub messages_from : (hs : List NumberedFolder) (n : ℕ) (xs : List Message) (j : ℕ) (x : NumberedFolder) → held_in (with_messages hs n xs) j ≡ Some x → (h : NumberedFolder)
    × (held_in hs j ≡ Some h) × (x.folder ≡ h.folder)
messages_from [] n xs j x e = absurd (some_is_not_none x (sym e))
messages_from (h ∷ hs) n xs j x e =
    elim (eqb (folder_number h) n) as (λ b. held_in (if b then record h { messages = xs } ∷ hs else h ∷ with_messages hs n xs) j ≡ Some x → (w : NumberedFolder)
    × (held_in (h ∷ hs) j ≡ Some w) × (x.folder ≡ w.folder)) [
      | true ↦ λ f. elim (eqb (folder_number h) j) as (λ b. (if b then Some (record h { messages = xs }) else held_in hs j) ≡ Some x → (w : NumberedFolder)
          × ((if b then Some h else held_in hs j) ≡ Some w) × (x.folder ≡ w.folder)) [
            | true ↦ λ g. (h, refl, ap (λ (z : NumberedFolder). z.folder) (sym (some_same _ _ g)))
            | false ↦ λ g. (x, g, refl)
          ] f
      | false ↦ λ f. elim (eqb (folder_number h) j) as (λ b. (if b then Some h else held_in (with_messages hs n xs) j) ≡ Some x → (w : NumberedFolder)
          × ((if b then Some h else held_in hs j) ≡ Some w) × (x.folder ≡ w.folder)) [
            | true ↦ λ g. (h, refl, ap (λ (z : NumberedFolder). z.folder) (sym (some_same _ _ g)))
            | false ↦ λ g. messages_from hs n xs j x g
          ] f
    ] e

-- a mark where one folder has these messages is one of theirs, or of another folder
pub marks_from : (hs : List NumberedFolder) (n : ℕ) (xs : List Message) (p : ℕ × ℕ) (k : ℕ) → mark_in (with_messages hs n xs) p ≡ Some k
    → ((p.0 ≡ n) × (mark_at xs p.1 ≡ Some k)) ⊎ ((p.0 ≡ n → ⊥) × (mark_in hs p ≡ Some k))
marks_from hs n xs p k e =
    elim (same_or_not p.0 n) [
      | inl same ↦
          let x = mark_held (with_messages hs n xs) p k e in
          let h = messages_from hs n xs p.0 x.0 x.1 in
          let found : held_in hs n ≡ Some h.0 = ap (held_in hs) (sym same) ∙ h.1 in
          inl (same, sym (mark_same hs n p.1 xs h.0 found) ∙ ap (λ m. mark_in (with_messages hs n xs) (m, p.1)) (sym same) ∙ e)
      | inr apart ↦ inr (apart, sym (ap (λ (ys : List Message). option_map mark_of (with_key uid_of p.1 ys)) (messages_other hs n xs p.0 apart)) ∙ e)
    ]

-- a mark of a folder that is held stands at its place
pub marks_to : (hs : List NumberedFolder) (n : ℕ) (xs : List Message) (h : NumberedFolder) (p : ℕ × ℕ) (k : ℕ) → held_in hs n ≡ Some h → p.0 ≡ n → mark_at xs p.1 ≡ Some k
    → mark_in (with_messages hs n xs) p ≡ Some k
marks_to hs n xs h p k found same e = ap (λ m. mark_in (with_messages hs n xs) (m, p.1)) same ∙ mark_same hs n p.1 xs h found ∙ e

-- a mark of another folder stands at its place
pub marks_off : (hs : List NumberedFolder) (n : ℕ) (xs : List Message) (p : ℕ × ℕ) (k : ℕ) → (p.0 ≡ n → ⊥) → mark_in hs p ≡ Some k → mark_in (with_messages hs n xs) p ≡ Some k
marks_off hs n xs p k apart e = ap (λ (ys : List Message). option_map mark_of (with_key uid_of p.1 ys)) (messages_other hs n xs p.0 apart) ∙ e

-- ---- folders that were there

-- the folder was there, with its name and messages
pub record StoodAs (hs : List NumberedFolder) (n : ℕ) (k : NumberedFolder) : Type 0 where
  pub was : NumberedFolder
  pub held : held_in hs n ≡ Some was
  pub name : k.folder.name ≡ was.folder.name
  pub messages : k.messages ≡ was.messages

-- a mark of a folder that was there stood at its place
pub mark_stood : (hs : List NumberedFolder) (p : ℕ × ℕ) (k : ℕ) (x : NumberedFolder) → StoodAs hs p.0 x → mark_at x.messages p.1 ≡ Some k → mark_in hs p ≡ Some k
mark_stood hs p k x s e = mark_was hs p.0 p.1 s.was s.held ∙ ap (λ (xs : List Message). mark_at xs p.1) (sym s.messages) ∙ e

-- where each folder was there, each mark stood at its place
pub marks_stood : (hs ks : List NumberedFolder) → ((n : ℕ) (x : NumberedFolder) → held_in ks n ≡ Some x → StoodAs hs n x) → (p : ℕ × ℕ) (k : ℕ) → mark_in ks p ≡ Some k → mark_in hs p ≡ Some k
marks_stood hs ks stood p k e = let x = mark_held ks p k e in mark_stood hs p k x.0 (stood p.0 x.0 x.1) x.2

stood_behind : (h : NumberedFolder) (hs : List NumberedFolder) (n : ℕ) (k : NumberedFolder) → AllAbove folder_number (folder_number h) hs → StoodAs hs n k → StoodAs (h ∷ hs) n k
stood_behind h hs n k above s =
    let less : folder_number h < n = found_above (folder_number h) n hs s.was above s.held in
    record {
      was = s.was;
      held = ap (λ b. if b then Some h else held_in hs n) (ne_eqb _ _ (λ e. omega (arith, e, less))) ∙ s.held;
      name = s.name;
      messages = s.messages;
    }

-- a folder that a LIST leaves was there
pub stood_listed : (rs : List Response) (hs : List NumberedFolder) → Ascends folder_number hs → (n : ℕ) (k : NumberedFolder) → held_in (listed rs hs) n ≡ Some k → StoodAs hs n k
stood_listed rs [] up n k e = absurd (some_is_not_none k (sym e))
stood_listed rs (h ∷ hs) up n k e =
    elim (line_for h.folder.name rs) as (λ o. held_in (put_listed o h (listed rs hs)) n ≡ Some k → StoodAs (h ∷ hs) n k) [
      | None ↦ λ f. stood_behind h hs n k up.0 (stood_listed rs hs up.1 n k f)
      | Some l ↦ λ f. elim (eqb (folder_number h) n) as (λ b. eqb (folder_number h) n ≡ b → (if b then Some (with_line l h) else held_in (listed rs hs) n) ≡ Some k
          → StoodAs (h ∷ hs) n k) [
            | true ↦ λ t g.
                let here : with_line l h ≡ k = some_same _ _ g in
                record {
                  was = h;
                  held = ap (λ b. if b then Some h else held_in hs n) t;
                  name = ap (λ (z : NumberedFolder). z.folder.name) (sym here);
                  messages = ap (λ (z : NumberedFolder). z.messages) (sym here);
                }
            | false ↦ λ t g. stood_behind h hs n k up.0 (stood_listed rs hs up.1 n k g)
          ] refl f
    ] e

-- a folder that is left once a number is cut was there
pub stood_cut : (q : ℕ) (hs : List NumberedFolder) (n : ℕ) (k : NumberedFolder) → held_in (cut_keyed folder_number q hs) n ≡ Some k → StoodAs hs n k
stood_cut q hs n k e =
    elim (eqb q n) as (λ b. (if b then None else held_in hs n) ≡ Some k → StoodAs hs n k) [
      | true ↦ λ f. absurd (some_is_not_none k (sym f))
      | false ↦ λ f. record { was = k; held = f; name = refl; messages = refl }
    ] (sym (found_cut folder_number n q hs) ∙ e)

-- a folder after one is put was there, or is that one
pub stood_put : (hs : List NumberedFolder) (k : NumberedFolder) (n : ℕ) (x : NumberedFolder) → Ascends folder_number hs → held_in (put_keyed folder_number k hs) n ≡ Some x
    → (held_in hs n ≡ Some x) ⊎ ((n ≡ folder_number k) × (x ≡ k))
stood_put hs k n x up e =
    elim (eqb (folder_number k) n) as (λ b. eqb (folder_number k) n ≡ b → (if b then Some k else held_in hs n) ≡ Some x
    → (held_in hs n ≡ Some x) ⊎ ((n ≡ folder_number k) × (x ≡ k))) [
      | true ↦ λ t f. inr (sym (eqb-true _ _ t), sym (some_same k x f))
      | false ↦ λ t f. inl f
    ] refl (sym (found_put folder_number n k hs up) ∙ e)

-- ---- names

-- each folder's name is another's of no number
abbrev pub NamesDiffer : List NumberedFolder → Type 0
NamesDiffer hs = (i j : ℕ) (h k : NumberedFolder) → held_in hs i ≡ Some h → held_in hs j ≡ Some k → h.folder.name ≡ k.folder.name → i ≡ j

-- names still differ where each folder had its name before
pub names_less : (hs ks : List NumberedFolder) → NamesDiffer hs → ((n : ℕ) (x : NumberedFolder) → held_in ks n ≡ Some x → (h : NumberedFolder) × (held_in hs n ≡ Some h) × (x.folder.name ≡ h.folder.name))
    → NamesDiffer ks
names_less hs ks differ had = λ i j h k e f same.
    let a = had i h e in
    let b = had j k f in
    differ i j a.0 b.0 a.1 b.1 (sym a.2 ∙ same ∙ b.2)

named_by : (o : Option NumberedFolder) (q : List ℕ) → option_map (λ (h : NumberedFolder). h.folder.name) o ≡ Some q → (h : NumberedFolder) × (o ≡ Some h) × (q ≡ h.folder.name)
named_by None q e = absurd (some_is_not_none q (sym e))
named_by (Some h) q e = (h, refl, sym (some_same _ _ e))

name_with : (hs : List NumberedFolder) (h k : NumberedFolder) (j : ℕ) → held_in hs (folder_number k) ≡ Some h → k.folder.name ≡ h.folder.name → name_in (with_held hs k) j ≡ name_in hs j
name_with [] h k j found name = refl
name_with (x ∷ hs) h k j found name =
    elim (eqb (folder_number x) (folder_number k)) as (λ b. eqb (folder_number x) (folder_number k) ≡ b → (if b then Some x else held_in hs (folder_number k)) ≡ Some h
    → name_in (if b then k ∷ hs else x ∷ with_held hs k) j ≡ name_in (x ∷ hs) j) [
      | true ↦ λ t f.
          let here : x ≡ h = some_same _ _ f in
          ap (λ m. option_map (λ (z : NumberedFolder). z.folder.name) (if eqb m j then Some k else held_in hs j)) (sym (eqb-true _ _ t))
          ∙ elim (eqb (folder_number x) j) as (λ b. option_map (λ (z : NumberedFolder). z.folder.name) (if b then Some k else held_in hs j)
          ≡ option_map (λ (z : NumberedFolder). z.folder.name) (if b then Some x else held_in hs j)) [
            | true ↦ ap (λ (q : List ℕ). Some q) (name ∙ ap (λ (z : NumberedFolder). z.folder.name) (sym here))
            | false ↦ refl
          ]
      | false ↦ λ t f. elim (eqb (folder_number x) j) as (λ b. option_map (λ (z : NumberedFolder). z.folder.name) (if b then Some x else held_in (with_held hs k) j)
          ≡ option_map (λ (z : NumberedFolder). z.folder.name) (if b then Some x else held_in hs j)) [
            | true ↦ refl
            | false ↦ name_with hs h k j f name
          ]
    ] refl found

-- a folder had its name before another of the same number and name took its place
pub had_with : (hs : List NumberedFolder) (h k : NumberedFolder) (j : ℕ) (x : NumberedFolder) → held_in hs (folder_number k) ≡ Some h → k.folder.name ≡ h.folder.name → held_in (with_held hs k) j ≡ Some x
    → (w : NumberedFolder) × (held_in hs j ≡ Some w) × (x.folder.name ≡ w.folder.name)
had_with hs h k j x found name e =
    named_by (held_in hs j) x.folder.name (sym (name_with hs h k j found name) ∙ ap (option_map (λ (z : NumberedFolder). z.folder.name)) e)
