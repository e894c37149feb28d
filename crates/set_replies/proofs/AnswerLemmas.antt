-- What stands in the lists of a reply stands there after further items too, and what an item comes to stands there.
use Rattle.std.proofs.Common.{◌≡◌, ℕ, ◌⊎◌, inl, inr, List, [], ◌∷◌, ◌++◌, true, false, cond, Option, Some, None, is_some, Contains, refl, sym, ap, ◌∙◌, arith}
use Rattle.std.specs.Str.{bytes_eq}
use Rattle.std.proofs.lemmas.List.Elements.{All-nil, All-cons, Contains-append_left, Contains-append_right}
use Rattle.std.proofs.lemmas.Slice.Eq.{bytes_eq-Decides}
use Rattle.serde_json.specs.Data.{Data, null, string, Members, put}
use Rattle.serde_json.specs.Find.{get_member}
use Rattle.serde_json.proofs.Views.{get_member-put, get_member-put_other}
use Rattle.change_list.specs.Advance.{row_at}
use Rattle.set_arguments.specs.declared.set_method.SetMethod.{SetMethod}
use Rattle.set_jobs.specs.declared.done.Done.{Done}
use Rattle.set_jobs.specs.declared.done.Done.TheVariants.{Made, MadeMailbox, Changed, Gone, Not}
use Rattle.set_jobs.specs.declared.done.SetError.TheVariants.{NotFound}
use Rattle.set_order.specs.Ordered.{Item, Create, Circle, Update, Destroy, item_key}
use Rattle.set_replies.specs.Emails.{row_of_mark}
use Rattle.set_replies.specs.Lists.{Lists, Served, id_of, keywords_told, listed, lists_with, made_in, mailbox_made, message_made, put_updated, refused_in}
use Rattle.set_replies.specs.Promises.{AreAnswered, HasName, IsAnswered, IsCreated, IsRefused}
use Rattle.set_replies.specs.Refusals.{refusal_data}

-- ---- names

-- what was put at a name is there
named : (name : List ℕ) (d : Data) (ms : Members) → HasName name (put name d ms)
named name d ms = ap (λ (o : Option Data). is_some o) (get_member-put name d ms)

-- and what was there is
still_named : (name key : List ℕ) (d : Data) (ms : Members) → HasName name ms → HasName name (put key d ms)
still_named name key d ms there = elim (bytes_eq name key) as (λ b. bytes_eq name key ≡ b → HasName name (put key d ms)) [
  | true ↦ λ is. ap (λ (n : List ℕ). is_some (get_member n (put key d ms))) ((bytes_eq-Decides name key).0 is) ∙ named key d ms
  | false ↦ λ other.
      ap (λ (o : Option Data). is_some o)
      (get_member-put_other name key d ms (λ same. absurd (let both : true ≡ false = sym ((bytes_eq-Decides name key).1 same) ∙ other in cc))) ∙ there
] refl

-- ---- lists

-- what stands in the first lists stands in the second
record Keeps (before after : Lists) : Type 0 where
  created : (name : List ℕ) → HasName name before.created → HasName name after.created
  not_created : (name : List ℕ) → HasName name before.not_created → HasName name after.not_created
  updated : (name : List ℕ) → HasName name before.updated → HasName name after.updated
  not_updated : (name : List ℕ) → HasName name before.not_updated → HasName name after.not_updated
  destroyed : (d : Data) → Contains before.destroyed d → Contains after.destroyed d
  not_destroyed : (name : List ℕ) → HasName name before.not_destroyed → HasName name after.not_destroyed

all_kept : (l : Lists) → Keeps l l
all_kept l = record {
  created = λ name there. there;
  not_created = λ name there. there;
  updated = λ name there. there;
  not_updated = λ name there. there;
  destroyed = λ d there. there;
  not_destroyed = λ name there. there;
}

kept_on : (a b c : Lists) → Keeps a b → Keeps b c → Keeps a c
kept_on a b c first later = record {
  created = λ name there. later.created name (first.created name there);
  not_created = λ name there. later.not_created name (first.not_created name there);
  updated = λ name there. later.updated name (first.updated name there);
  not_updated = λ name there. later.not_updated name (first.not_updated name there);
  destroyed = λ d there. later.destroyed d (first.destroyed d there);
  not_destroyed = λ name there. later.not_destroyed name (first.not_destroyed name there);
}

more_created : (l : Lists) (ms : Members) → ((name : List ℕ) → HasName name l.created → HasName name ms) → Keeps l (record l { created = ms })
more_created l ms more = record {
  created = more;
  not_created = λ name there. there;
  updated = λ name there. there;
  not_updated = λ name there. there;
  destroyed = λ d there. there;
  not_destroyed = λ name there. there;
}

more_not_created : (l : Lists) (ms : Members) → ((name : List ℕ) → HasName name l.not_created → HasName name ms) → Keeps l (record l { not_created = ms })
more_not_created l ms more = record {
  created = λ name there. there;
  not_created = more;
  updated = λ name there. there;
  not_updated = λ name there. there;
  destroyed = λ d there. there;
  not_destroyed = λ name there. there;
}

more_updated : (l : Lists) (ms : Members) → ((name : List ℕ) → HasName name l.updated → HasName name ms) → Keeps l (record l { updated = ms })
more_updated l ms more = record {
  created = λ name there. there;
  not_created = λ name there. there;
  updated = more;
  not_updated = λ name there. there;
  destroyed = λ d there. there;
  not_destroyed = λ name there. there;
}

more_not_updated : (l : Lists) (ms : Members) → ((name : List ℕ) → HasName name l.not_updated → HasName name ms) → Keeps l (record l { not_updated = ms })
more_not_updated l ms more = record {
  created = λ name there. there;
  not_created = λ name there. there;
  updated = λ name there. there;
  not_updated = more;
  destroyed = λ d there. there;
  not_destroyed = λ name there. there;
}

more_destroyed : (l : Lists) (ds : List Data) → ((d : Data) → Contains l.destroyed d → Contains ds d) → Keeps l (record l { destroyed = ds })
more_destroyed l ds more = record {
  created = λ name there. there;
  not_created = λ name there. there;
  updated = λ name there. there;
  not_updated = λ name there. there;
  destroyed = more;
  not_destroyed = λ name there. there;
}

more_not_destroyed : (l : Lists) (ms : Members) → ((name : List ℕ) → HasName name l.not_destroyed → HasName name ms) → Keeps l (record l { not_destroyed = ms })
more_not_destroyed l ms more = record {
  created = λ name there. there;
  not_created = λ name there. there;
  updated = λ name there. there;
  not_updated = λ name there. there;
  destroyed = λ d there. there;
  not_destroyed = more;
}

refused_keeps : (item : Item) (d : Data) (l : Lists) → Keeps l (refused_in item d l)
refused_keeps (Create key ms) d l = more_not_created l (put key d l.not_created) (λ name there. still_named name key d l.not_created there)
refused_keeps (Circle key) d l = more_not_created l (put key d l.not_created) (λ name there. still_named name key d l.not_created there)
refused_keeps (Update key ms) d l = more_not_updated l (put key d l.not_updated) (λ name there. still_named name key d l.not_updated there)
refused_keeps (Destroy text) d l = more_not_destroyed l (put text d l.not_destroyed) (λ name there. still_named name text d l.not_destroyed there)

made_keeps : (item : Item) (made : Option Data) (l : Lists) → Keeps l (made_in item made l)
made_keeps item None l = refused_keeps item (refusal_data NotFound) l
made_keeps item (Some d) l = more_created l (put (item_key item) d l.created) (λ name there. still_named name (item_key item) d l.created there)

still_updated : (name id : List ℕ) (told : Option Data) (ms : Members) → HasName name ms → HasName name (put_updated id told ms)
still_updated name id None ms there = elim (is_some (get_member id ms)) as (λ b. HasName name (cond b ms (put id null ms))) [
  | true ↦ there
  | false ↦ still_named name id null ms there
]
still_updated name id (Some d) ms there = still_named name id d ms there

listed_keeps : (m : SetMethod) (s : Served) (item : Item) (done : Done) (l : Lists) → Keeps l (listed m s item done l)
listed_keeps m s item (Made mark size) l = made_keeps item (message_made size (row_of_mark s.emails mark)) l
listed_keeps m s item (MadeMailbox n) l = made_keeps item (mailbox_made n (row_at s.mailboxes n)) l
listed_keeps m s item (Changed n asked) l =
    let told : Option Data = keywords_told asked (row_at s.emails n) in
    more_updated l (put_updated (id_of m n) told l.updated) (λ name there. still_updated name (id_of m n) told l.updated there)
listed_keeps m s item (Gone n) l =
    let id : Data = string (id_of m n) in
    more_destroyed l (l.destroyed ++ id ∷ []) (λ d there. Contains-append_left l.destroyed (id ∷ []) d there)
listed_keeps m s item (Not e) l = refused_keeps item (refusal_data e) l

all_keep : (m : SetMethod) (s : Served) (l : Lists) (done : List (Item × Done)) → Keeps l (lists_with m s l done)
all_keep m s l [] = all_kept l
all_keep m s l (e ∷ es) =
    kept_on l (listed m s e.0 e.1 l) (lists_with m s (listed m s e.0 e.1 l) es) (listed_keeps m s e.0 e.1 l) (all_keep m s (listed m s e.0 e.1 l) es)

-- ---- items

refused_still : (item : Item) (l n : Lists) → Keeps l n → IsRefused item l → IsRefused item n
refused_still (Create key ms) l n keeps there = keeps.not_created key there
refused_still (Circle key) l n keeps there = keeps.not_created key there
refused_still (Update key ms) l n keeps there = keeps.not_updated key there
refused_still (Destroy text) l n keeps there = keeps.not_destroyed text there

made_still : (item : Item) (l n : Lists) → Keeps l n → IsCreated item l ⊎ IsRefused item l → IsCreated item n ⊎ IsRefused item n
made_still item l n keeps (inl there) = inl (keeps.created (item_key item) there)
made_still item l n keeps (inr there) = inr (refused_still item l n keeps there)

answered_still : (m : SetMethod) (item : Item) (done : Done) (l n : Lists) → Keeps l n → IsAnswered m l item done → IsAnswered m n item done
answered_still m item (Made mark size) l n keeps there = made_still item l n keeps there
answered_still m item (MadeMailbox k) l n keeps there = made_still item l n keeps there
answered_still m item (Changed k asked) l n keeps there = keeps.updated (id_of m k) there
answered_still m item (Gone k) l n keeps there = keeps.destroyed (string (id_of m k)) there
answered_still m item (Not e) l n keeps there = refused_still item l n keeps there

refused_here : (item : Item) (d : Data) (l : Lists) → IsRefused item (refused_in item d l)
refused_here (Create key ms) d l = named key d l.not_created
refused_here (Circle key) d l = named key d l.not_created
refused_here (Update key ms) d l = named key d l.not_updated
refused_here (Destroy text) d l = named text d l.not_destroyed

made_here : (item : Item) (made : Option Data) (l : Lists) → IsCreated item (made_in item made l) ⊎ IsRefused item (made_in item made l)
made_here item None l = inr (refused_here item (refusal_data NotFound) l)
made_here item (Some d) l = inl (named (item_key item) d l.created)

updated_here : (id : List ℕ) (told : Option Data) (ms : Members) → HasName id (put_updated id told ms)
updated_here id None ms = elim (is_some (get_member id ms)) as (λ b. is_some (get_member id ms) ≡ b → HasName id (cond b ms (put id null ms))) [
  | true ↦ λ there. there
  | false ↦ λ apart. named id null ms
] refl
updated_here id (Some d) ms = named id d ms

answered_here : (m : SetMethod) (s : Served) (item : Item) (done : Done) (l : Lists) → IsAnswered m (listed m s item done l) item done
answered_here m s item (Made mark size) l = made_here item (message_made size (row_of_mark s.emails mark)) l
answered_here m s item (MadeMailbox n) l = made_here item (mailbox_made n (row_at s.mailboxes n)) l
answered_here m s item (Changed n asked) l = updated_here (id_of m n) (keywords_told asked (row_at s.emails n)) l.updated
answered_here m s item (Gone n) l =
    let id : Data = string (id_of m n) in
    Contains-append_right l.destroyed (id ∷ []) id (0, omega arith, refl)
answered_here m s item (Not e) l = refused_here item (refusal_data e) l

-- each item is answered, whatever is listed before
pub all_answered : (m : SetMethod) (s : Served) (l : Lists) (done : List (Item × Done)) → AreAnswered m (lists_with m s l done) done
all_answered m s l [] = All-nil (λ (e : Item × Done). IsAnswered m l e.0 e.1)
all_answered m s l (e ∷ es) =
    let here : Lists = listed m s e.0 e.1 l in
    let last : Lists = lists_with m s here es in
    All-cons (λ (f : Item × Done). IsAnswered m last f.0 f.1) e es
    (answered_still m e.0 e.1 here last (all_keep m s here es) (answered_here m s e.0 e.1 l)) (all_answered m s here es)
