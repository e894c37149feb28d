-- What holds of folders by number and of their messages by UID.
use Rattle.std.proofs.Common.{◌≡◌, ◌≢◌, ℕ, ◌<◌, zero, suc, true, false, List, [], ◌∷◌, Some, length, get_or, set, refl, sym, ap, ◌∙◌, subst, arith, eqb, if◌then◌else◌, is_some}
use Rattle.told_folder.specs.Keyed.{AllAbove, Ascends}
use Rattle.told_folder.specs.Folders.{folder_number, uid_of, held_in, messages_of, messages_in, with_messages}
use Rattle.told_folder.specs.Index.{AllAscend}
use Rattle.told_folder.specs.declared.message.Message.{Message}
use Rattle.told_folder.specs.declared.message.Folder.{Folder}
use Rattle.told_folder.specs.declared.message.NumberedFolder.{NumberedFolder}

-- two folders with their messages are equal where the folders are and the messages are
pub held_same : (f g : Folder) (xs ys : List Message) → f ≡ g → xs ≡ ys → ◌≡◌ {A = NumberedFolder} (record { folder = f; messages = xs }) (record { folder = g; messages = ys })
held_same f g xs ys e h = cc

-- where the UIDs in each folder ascend, those of a folder that is found do
pub ascend_in : (hs : List NumberedFolder) (n : ℕ) (h : NumberedFolder) → AllAscend hs → Some h ≡ held_in hs n → Ascends uid_of h.messages
ascend_in [] n h a is = absurd (cc)
ascend_in (x ∷ hs) n h a is =
    elim (eqb (folder_number x) n) as (λ b. Some h ≡ (if b then Some x else held_in hs n) → Ascends uid_of h.messages) [
      | true ↦ λ e. let here : h ≡ x = cc in subst (λ (y : NumberedFolder). Ascends uid_of y.messages) (sym here) a.0
      | false ↦ λ e. ascend_in hs n h a.1 e
    ] is

-- where the UIDs in each folder ascend, those of the messages at a folder's number do
pub ascends_in : (hs : List NumberedFolder) (n : ℕ) → AllAscend hs → Ascends uid_of (messages_in hs n)
ascends_in [] n a = tt
ascends_in (x ∷ hs) n a =
    elim (eqb (folder_number x) n) as (λ b. Ascends uid_of (messages_of (if b then Some x else held_in hs n))) [
      | true ↦ a.0
      | false ↦ ascends_in hs n a.1
    ]

-- ---- other messages in a folder

-- a number below those of all folders is below them when one has other messages
pub above_with : (k : ℕ) (hs : List NumberedFolder) (n : ℕ) (xs : List Message) → AllAbove folder_number k hs → AllAbove folder_number k (with_messages hs n xs)
above_with k [] n xs a = tt
above_with k (h ∷ hs) n xs a =
    elim (eqb (folder_number h) n) as (λ b. AllAbove folder_number k (if b then record h { messages = xs } ∷ hs else h ∷ with_messages hs n xs)) [
      | true ↦ a
      | false ↦ (a.0, above_with k hs n xs a.1)
    ]

-- the numbers of folders still ascend when one has other messages
pub numbers_with : (hs : List NumberedFolder) (n : ℕ) (xs : List Message) → Ascends folder_number hs → Ascends folder_number (with_messages hs n xs)
numbers_with [] n xs a = tt
numbers_with (h ∷ hs) n xs a =
    elim (eqb (folder_number h) n) as (λ b. Ascends folder_number (if b then record h { messages = xs } ∷ hs else h ∷ with_messages hs n xs)) [
      | true ↦ a
      | false ↦ (above_with (folder_number h) hs n xs a.0, numbers_with hs n xs a.1)
    ]

-- the UIDs in each folder still ascend when one has other messages whose UIDs ascend
pub uids_with : (hs : List NumberedFolder) (n : ℕ) (xs : List Message) → Ascends uid_of xs → AllAscend hs → AllAscend (with_messages hs n xs)
uids_with [] n xs up a = tt
uids_with (h ∷ hs) n xs up a =
    elim (eqb (folder_number h) n) as (λ b. AllAscend (if b then record h { messages = xs } ∷ hs else h ∷ with_messages hs n xs)) [
      | true ↦ (up, a.1)
      | false ↦ (a.0, uids_with hs n xs up a.1)
    ]

-- the messages of the folder are these, where it is there
pub messages_same : (hs : List NumberedFolder) (n : ℕ) (xs : List Message) (h : NumberedFolder) → held_in hs n ≡ Some h → messages_in (with_messages hs n xs) n ≡ xs
messages_same [] n xs h is = absurd (cc)
messages_same (x ∷ hs) n xs h is =
    elim (eqb (folder_number x) n) as (λ b. eqb (folder_number x) n ≡ b → (if b then Some x else held_in hs n) ≡ Some h
    → messages_in (if b then record x { messages = xs } ∷ hs else x ∷ with_messages hs n xs) n ≡ xs) [
      | true ↦ λ e i. grind arith
      | false ↦ λ e i. let rest : messages_in (with_messages hs n xs) n ≡ xs = messages_same hs n xs h i in grind arith
    ] refl is

-- and those of every other folder stay
pub messages_other : (hs : List NumberedFolder) (n : ℕ) (xs : List Message) (q : ℕ) → q ≢ n → messages_in (with_messages hs n xs) q ≡ messages_in hs q
messages_other [] n xs q apart = refl
messages_other (x ∷ hs) n xs q apart =
    elim (eqb (folder_number x) n) as (λ b. eqb (folder_number x) n ≡ b
    → messages_in (if b then record x { messages = xs } ∷ hs else x ∷ with_messages hs n xs) q ≡ messages_in (x ∷ hs) q) [
      | true ↦ λ e. grind arith
      | false ↦ λ e. let rest : messages_in (with_messages hs n xs) q ≡ messages_in hs q = messages_other hs n xs q apart in grind arith
    ] refl

-- the list with other messages at the folder's place
pub with_at : (hs : List NumberedFolder) (n : ℕ) (xs : List Message) (at : ℕ) → ((i : ℕ) (d : NumberedFolder) → i < at → folder_number (get_or hs i d) < n) → at < length hs → (h : NumberedFolder)
    → h ≡ get_or hs at h → folder_number h ≡ n → with_messages hs n xs ≡ set hs at (record h { messages = xs })
with_at [] n xs at before w h is same = absurd (omega arith)
with_at (x ∷ hs) n xs zero before w h is same = let here : h ≡ x = is in grind arith
with_at (x ∷ hs) n xs (suc at) before w h is same =
    let below : folder_number x < n = before 0 x (omega arith) in
    let rest : with_messages hs n xs ≡ set hs at (record h { messages = xs }) = with_at hs n xs at (λ i d l. before (suc i) d (omega arith)) (omega arith) h is same in
    grind arith

-- setting a place to what stands there changes nothing
pub set_here : {X : Type 0} (xs : List X) (i : ℕ) (x : X) → i < length xs → x ≡ get_or xs i x → set xs i x ≡ xs
set_here [] i x h is = absurd (omega arith)
set_here (y ∷ ys) zero x h is = ap (λ z. z ∷ ys) is
set_here (y ∷ ys) (suc i) x h is = ap (λ zs. y ∷ zs) (set_here ys i x (omega arith) is)

-- giving a folder messages, and then others, is giving it the others
pub with_twice : (hs : List NumberedFolder) (n : ℕ) (xs ys : List Message) → with_messages (with_messages hs n xs) n ys ≡ with_messages hs n ys
with_twice [] n xs ys = refl
with_twice (h ∷ hs) n xs ys =
    elim (eqb (folder_number h) n) as (λ b. eqb (folder_number h) n ≡ b
    → with_messages (if b then record h { messages = xs } ∷ hs else h ∷ with_messages hs n xs) n ys
    ≡ (if b then record h { messages = ys } ∷ hs else h ∷ with_messages hs n ys)) [
      | true ↦ λ e. ap (λ b. if b then record h { messages = ys } ∷ hs else record h { messages = xs } ∷ with_messages hs n ys) e
      | false ↦ λ e. ap (λ b. if b then record h { messages = ys } ∷ with_messages hs n xs else h ∷ with_messages (with_messages hs n xs) n ys) e
          ∙ ap (λ zs. h ∷ zs) (with_twice hs n xs ys)
    ] refl

pub record IsWith (hs : List NumberedFolder) (n : ℕ) (xs : List Message) (h : NumberedFolder) : Type 0 where
  pub found : held_in hs n ≡ Some h
  pub messages : h.messages ≡ xs

-- a folder that is there is found with the messages that it is given
pub held_with : (hs : List NumberedFolder) (n : ℕ) (xs : List Message) → is_some (held_in hs n) ≡ true → (h : NumberedFolder) × IsWith (with_messages hs n xs) n xs h
held_with [] n xs there = absurd (cc)
held_with (x ∷ hs) n xs there =
    elim (eqb (folder_number x) n) as (λ b. eqb (folder_number x) n ≡ b → is_some (if b then Some x else held_in hs n) ≡ true → (h : NumberedFolder)
    × IsWith (if b then record x { messages = xs } ∷ hs else x ∷ with_messages hs n xs) n xs h) [
      | true ↦ λ e t. (record x { messages = xs }, record { found = ap (λ b. if b then Some (record x { messages = xs }) else held_in hs n) e; messages = refl })
      | false ↦ λ e t. let r = held_with hs n xs t in (
        r.0,
        record {
          found = ap (λ b. if b then Some x else held_in (with_messages hs n xs) n) e ∙ r.1.found;
          messages = r.1.messages;
        },
      )
    ] refl there
