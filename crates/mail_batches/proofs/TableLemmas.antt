-- What steps of the tables make, by look-ups.
use Rattle.std.proofs.Common.{◌≡◌, ◌⊎◌, ◌<◌, ◌≤◌, ◌+◌, ℕ, Bool, cond, List, max, nat_cmp, Option, Some, None, refl, sym, ap, ◌∙◌, inl, inr, arith, ◌||◌, ◌↔◌, true, false}
use Rattle.std.proofs.lemmas.Bool.{leb-true, leb-false}
use Rattle.std.proofs.lemmas.Grind.{common_steps}
use Rattle.std.specs.BTreeMap.{is_at}
use Rattle.std.specs.Map.{update}
use Rattle.std.specs.Prelude.{IsSome, is_some, nat_eq, nat_le}
use Rattle.told_folder.specs.declared.message.Folder.{Folder}
use Rattle.told_folder.specs.declared.message.Message.{Message}
use Rattle.mail_batches.specs.Rules.{AreFlags, IsRightFolder, IsRightMessage}
use Rattle.mail_batches.specs.Steps.{Makes, moved}
use Rattle.mail_batches.specs.Tables.{Tables}
use Rattle.mail_batches.specs.reading.Stepping.{Steps}
use Rattle.mail_batches.specs.declared.item.Item.TheVariants.{MessageGone, FolderGone, FolderPut, MessagePut, MessageSet}
use Rattle.mail_batches.specs.declared.placed.Placed.{Placed}
use Rattle.mail_batches.proofs.Found.{one_some}

pub number_test : (k q : ℕ) → is_at (nat_cmp k) q ≡ nat_eq k q
number_test k q = grind (arith, common_steps)

-- a map that has w at the key, and elsewhere what it had
pub is_update : {X : Type 0} (f g : ℕ → Option X) (k : ℕ) (w : Option X) → ((q : ℕ) → g q ≡ cond (is_at (nat_cmp k) q) w (f q)) → g ≡ update nat_eq f k w
is_update f g k w h = λ i. λ q. (h q ∙ ap (λ (b : Bool). cond b w (f q)) (number_test k q)) i

-- the same, where look-ups are updates
pub are_updates : {X : Type 0} (f g : ℕ → Option X) (k : ℕ) (w : Option X) → ((q : ℕ) → g q ≡ update nat_eq f k w q) → g ≡ update nat_eq f k w
are_updates f g k w h = λ i. λ q. h q i

abbrev pub with_messages : Tables → (ℕ → Option Placed) → Tables
with_messages t f = record t { messages = f }

abbrev pub with_folders : Tables → (ℕ → Option Folder) → Tables
with_folders t f = record t { folders = f }

pub message_cut : (t : Tables) (f : ℕ → Option Placed) (mark : ℕ) (p : Placed) → Some p ≡ t.messages mark → ((q : ℕ) → f q ≡ cond (is_at (nat_cmp mark) q) None (t.messages q))
    → Makes t (MessageGone mark) (with_messages t f)
message_cut t f mark p there cut = (ap is_some (sym there), ap (with_messages t) (is_update t.messages f mark None cut))

pub folder_cut : (t : Tables) (f : ℕ → Option Folder) (number : ℕ) (p : Folder) → Some p ≡ t.folders number → ((q : ℕ) → f q ≡ cond (is_at (nat_cmp number) q) None (t.folders q))
    → Makes t (FolderGone number) (with_folders t f)
folder_cut t f number p there cut = (ap is_some (sym there), ap (with_folders t) (is_update t.folders f number None cut))

pub folder_put : (t : Tables) (f : ℕ → Option Folder) (x : Folder) (next : ℕ) → IsRightFolder x → IsSome (t.folders x.number) ⊎ (t.next_folder ≤ x.number)
    → ((q : ℕ) → f q ≡ update nat_eq t.folders x.number (Some x) q) → next ≡ max t.next_folder (x.number + 1)
    → Makes t (FolderPut x) (record t { folders = f; next_folder = next })
folder_put t f x next right place put counted =
    let folders : f ≡ update nat_eq t.folders x.number (Some x) = are_updates t.folders f x.number (Some x) put in
    (right, place, λ i. record t { folders = folders i; next_folder = counted i })

pub message_put : (t : Tables) (f : ℕ → Option Placed) (folder : ℕ) (x : Message) → IsRightMessage x → t.next_mark ≤ x.mark
    → ((q : ℕ) → f q ≡ update nat_eq t.messages x.mark (Some (record { folder = folder; message = x })) q)
    → Makes t (MessagePut folder x) (record t { messages = f; next_mark = x.mark + 1 })
message_put t f folder x right new put =
    let here : Placed = record { folder = folder; message = x } in
    let messages : f ≡ update nat_eq t.messages x.mark (Some here) = are_updates t.messages f x.mark (Some here) put in
    (right, new, λ i. record t { messages = messages i; next_mark = x.mark + 1 })

pub message_set : (t : Tables) (f : ℕ → Option Placed) (mark folder uid : ℕ) (flags : List (List ℕ)) (was : Placed) → AreFlags flags → 0 < uid → t.messages mark ≡ Some was
    → ((q : ℕ) → f q ≡ update nat_eq t.messages mark (Some (moved was folder uid flags)) q) → Makes t (MessageSet mark folder uid flags) (with_messages t f)
message_set t f mark folder uid flags was right some there set =
    (right, some, record { was = was; there = there; set = ap (with_messages t) (are_updates t.messages f mark (Some (moved was folder uid flags)) set) })

-- what is written at a key
pub set_is : (f : ℕ → Option Placed) (mark folder uid : ℕ) (flags : List (List ℕ)) (row was : Placed) (q : ℕ) (new : Option Placed) → Some row ≡ f mark → f mark ≡ Some was
    → new ≡ cond (is_at (nat_cmp mark) q) (Some (moved row folder uid flags)) (f q) → new ≡ update nat_eq f mark (Some (moved was folder uid flags)) q
set_is f mark folder uid flags row was q new there at put =
    let same : row ≡ was = one_some row was (there ∙ at) in
    put ∙ ap (λ (b : Bool). cond b (Some (moved row folder uid flags)) (f q)) (number_test mark q)
    ∙ ap (λ (p : Placed). update nat_eq f mark (Some (moved p folder uid flags)) q) same

-- ---- refusals

both_ways : (b : Bool) → b ≡ false → b ≡ true → ⊥
both_ways b p q = cc

pub not_right : (P Q : Type 0) (b : Bool) → b ≡ false → (b ≡ true) ↔ P → (Q → P) → Q → ⊥
not_right P Q b e both to q = let is = both.1 (to q) in cc

or_true : (a b : Bool) → (a || b) ≡ true → (a ≡ true) ⊎ (b ≡ true)
or_true true b e = inl refl
or_true false b e = inr e

or_false : (a b : Bool) → (a || b) ≡ false → (a ≡ false) × (b ≡ false)
or_false true b e = absurd (cc)
or_false false b e = (refl, e)

pub there_or_new : (t : Tables) (number : ℕ) → (nat_le t.next_folder number || is_some (t.folders number)) ≡ true → IsSome (t.folders number) ⊎ (t.next_folder ≤ number)
there_or_new t number e = elim (or_true (nat_le t.next_folder number) (is_some (t.folders number)) e) [
  | inl new ↦ inr (leb-true t.next_folder number new)
  | inr there ↦ inl there
]

pub not_put : (t : Tables) (x : Folder) → (nat_le t.next_folder x.number || is_some (t.folders x.number)) ≡ false → (any : Tables) → Makes t (FolderPut x) any → ⊥
not_put t x e any makes =
    let both = or_false (nat_le t.next_folder x.number) (is_some (t.folders x.number)) e in
    elim makes.1 [
      | inl there ↦ (let no = both.1 in cc)
      | inr new ↦ (let lt = leb-false t.next_folder x.number both.0 in omega (arith, lt, new))
    ]

pub not_set : (t : Tables) (mark folder uid : ℕ) (flags : List (List ℕ)) → is_some (t.messages mark) ≡ false → (any : Tables) → Makes t (MessageSet mark folder uid flags) any → ⊥
not_set t mark folder uid flags e any makes = let there = ap is_some makes.2.there in cc

pub some_there : {X : Type 0} (o : Option X) → is_some o ≡ true → (x : X) × (o ≡ Some x)
some_there None e = absurd (cc)
some_there (Some x) e = (x, refl)

-- whether the message is there decides
pub set_told : (t : Tables) (f : ℕ → Option Placed) (mark folder uid : ℕ) (flags : List (List ℕ)) (b : Bool) → AreFlags flags → 0 < uid → b ≡ is_some (t.messages mark)
    → ((was : Placed) → t.messages mark ≡ Some was → (q : ℕ) → f q ≡ update nat_eq t.messages mark (Some (moved was folder uid flags)) q)
    → Steps t (MessageSet mark folder uid flags) (with_messages t f) b
set_told t f mark folder uid flags true right some there set =
    let was = some_there (t.messages mark) (sym there) in
    message_set t f mark folder uid flags was.0 right some was.1 (set was.0 was.1)
set_told t f mark folder uid flags false right some there set = not_set t mark folder uid flags (sym there)

-- whether it was there decides
pub message_cut_told : (t : Tables) (f : ℕ → Option Placed) (mark : ℕ) (b : Bool) → b ≡ is_some (t.messages mark) → ((q : ℕ) → f q ≡ cond (is_at (nat_cmp mark) q) None (t.messages q))
    → Steps t (MessageGone mark) (with_messages t f) b
message_cut_told t f mark true there cut = let was = some_there (t.messages mark) (sym there) in message_cut t f mark was.0 (sym was.1) cut
message_cut_told t f mark false there cut = λ any makes. let is = makes.0 in absurd (both_ways (is_some (t.messages mark)) (sym there) is)

pub folder_cut_told : (t : Tables) (f : ℕ → Option Folder) (number : ℕ) (b : Bool) → b ≡ is_some (t.folders number) → ((q : ℕ) → f q ≡ cond (is_at (nat_cmp number) q) None (t.folders q))
    → Steps t (FolderGone number) (with_folders t f) b
folder_cut_told t f number true there cut = let was = some_there (t.folders number) (sym there) in folder_cut t f number was.0 (sym was.1) cut
folder_cut_told t f number false there cut = λ any makes. let is = makes.0 in absurd (both_ways (is_some (t.folders number)) (sym there) is)
