-- All that a reply says was created was made by an item.
use Rattle.std.proofs.Common.{arith, ◌≡◌, ℕ, List, [], ◌∷◌, true, false, Option, Some, None, Result, Contains, refl, sym, ap, subst, ◌∙◌}
use Rattle.std.specs.Str.{bytes_eq}
use Rattle.std.proofs.lemmas.List.Elements.{Contains-append_right}
use Rattle.std.proofs.lemmas.Slice.Eq.{bytes_eq-Decides}
use Rattle.serde_json.specs.Data.{Data, Members, put}
use Rattle.serde_json.specs.Find.{get_member}
use Rattle.serde_json.proofs.Views.{get_member-put, get_member-put_other}
use Rattle.change_list.specs.Advance.{row_at}
use Rattle.jmap_arguments.specs.declared.method_error.MethodError.{MethodError}
use Rattle.mail_maps.specs.Serve.{ServedMailbox}
use Rattle.mail_maps.specs.declared.row.EmailRow.{EmailRow}
use Rattle.mail_state.specs.History.{MailHistory}
use Rattle.read_methods.specs.Mailboxes.{mailbox_data, mailbox_properties}
use Rattle.set_arguments.specs.declared.set_method.SetMethod.{SetMethod}
use Rattle.set_jobs.specs.declared.done.Done.{Done}
use Rattle.set_jobs.specs.declared.done.Done.TheVariants.{Made, MadeMailbox, Changed, Gone, Not}
use Rattle.set_jobs.specs.declared.done.SetError.TheVariants.{NotFound}
use Rattle.set_order.specs.Ordered.{Item, Create, Circle, Update, Destroy, item_key}
use Rattle.set_replies.specs.Emails.{made_data, row_of_mark}
use Rattle.set_replies.specs.Lists.{Lists, Served, listed, lists_of, lists_with, made_in, mailbox_made, message_made, no_lists, refused_in}
use Rattle.set_replies.specs.Refusals.{refusal_data}
use Rattle.set_replies.specs.Replies.{served_after}
use Rattle.gate_changes.specs.Answering.{AnswersChange, ChangeState, Fails, Replies}
use Rattle.append_laws.specs.Created.{CreatedWereMade, WasMade}

-- what stands there was made by one of these items
abbrev AreMade : Served → List (Item × Done) → Members → Type 0
AreMade s done ms = (key : List ℕ) (d : Data) → get_member key ms ≡ Some d → WasMade s done key d

same_value : (a b : Data) → Some a ≡ Some b → b ≡ a
same_value a b is = cc

-- one more, which was made
one_made : (s : Served) (done : List (Item × Done)) (name : List ℕ) (v : Data) (ms : Members) → WasMade s done name v → AreMade s done ms → AreMade s done (put name v ms)
one_made s done name v ms made are key d is = elim (bytes_eq key name) as (λ b. bytes_eq key name ≡ b → WasMade s done key d) [
  | true ↦ λ same.
      let keys : key ≡ name = (bytes_eq-Decides key name).0 same in
      let value : d ≡ v = same_value v d (sym (get_member-put name v ms) ∙ (ap (λ (n : List ℕ). get_member n (put name v ms)) (sym keys) ∙ is)) in
      subst (λ (x : Data). WasMade s done key x) (sym value) (subst (λ (n : List ℕ). WasMade s done n v) (sym keys) made)
  | false ↦ λ other.
      are key d (sym (get_member-put_other key name v ms (λ same. absurd (let both : true ≡ false = sym ((bytes_eq-Decides key name).1 same) ∙ other in cc))) ∙ is)
] refl

-- a refusal says of nothing that it was created
none_created : (item : Item) (d : Data) (l : Lists) → (refused_in item d l).created ≡ l.created
none_created (Create key ms) d l = refl
none_created (Circle key) d l = refl
none_created (Update key ms) d l = refl
none_created (Destroy key) d l = refl

module _ (m : SetMethod) (s : Served) (all : List (Item × Done)) where
  refused_made : (item : Item) (d : Data) (l : Lists) → AreMade s all l.created → AreMade s all (refused_in item d l).created
  refused_made item d l are = subst (λ (ms : Members). AreMade s all ms) (sym (none_created item d l)) are

  message_added : (item : Item) (mark size : ℕ) (l : Lists) → Contains all (item, Made mark size) → AreMade s all l.created → (row : Option (ℕ × EmailRow))
      → row_of_mark s.emails mark ≡ row → AreMade s all (made_in item (message_made size row) l).created
  message_added item mark size l among are None is = refused_made item (refusal_data NotFound) l are
  message_added item mark size l among are (Some e) is = one_made s all (item_key item) (made_data size e) l.created
      (record { item = item; came = Made mark size; among = among; named = refl; is_object = (e, is, refl) }) are

  mailbox_added : (item : Item) (n : ℕ) (l : Lists) → Contains all (item, MadeMailbox n) → AreMade s all l.created → (row : Option ServedMailbox)
      → row_at s.mailboxes n ≡ row → AreMade s all (made_in item (mailbox_made n row) l).created
  mailbox_added item n l among are None is = refused_made item (refusal_data NotFound) l are
  mailbox_added item n l among are (Some b) is = one_made s all (item_key item) (mailbox_data mailbox_properties (n, b)) l.created
      (record { item = item; came = MadeMailbox n; among = among; named = refl; is_object = (b, is, refl) }) are

  listed_made : (item : Item) (came : Done) (l : Lists) → Contains all (item, came) → AreMade s all l.created → AreMade s all (listed m s item came l).created
  listed_made item (Made mark size) l among are = message_added item mark size l among are (row_of_mark s.emails mark) refl
  listed_made item (MadeMailbox n) l among are = mailbox_added item n l among are (row_at s.mailboxes n) refl
  listed_made item (Changed n asked) l among are = are
  listed_made item (Gone n) l among are = are
  listed_made item (Not why) l among are = refused_made item (refusal_data why) l are

  -- those that are left are among them
  lists_made : (es : List (Item × Done)) (l : Lists) → ((e : Item × Done) → Contains es e → Contains all e) → AreMade s all l.created
      → AreMade s all (lists_with m s l es).created
  lists_made [] l among are = are
  lists_made (e ∷ es) l among are =
      lists_made es (listed m s e.0 e.1 l) (λ f there. among f (Contains-append_right (e ∷ []) es f there))
      (listed_made e.0 e.1 l (among e (0, omega arith, refl)) are)

no_value : (d : Data) → None ≡ Some d → ⊥
no_value d is = cc

all_made : (m : SetMethod) (s : Served) (done : List (Item × Done)) (key : List ℕ) (d : Data) → get_member key (lists_of m s done).created ≡ Some d → WasMade s done key d
all_made m s done = lists_made m s done done no_lists (λ e there. there) (λ key d is. absurd (no_value d is))

pub created_made : {m : SetMethod} {h : MailHistory} {before : ChangeState} {came : Result (List (Item × Done)) MethodError} {result : Result Data MethodError}
    {after : ChangeState} (answers : AnswersChange m h before came result after) → CreatedWereMade answers
created_made {m = m} (Replies done known came_is known_is result_is created_is) = all_made m (served_after known.history) done
created_made (Fails e came_is result_is created_is) = tt
