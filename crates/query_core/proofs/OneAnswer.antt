-- A query has one list, and so one answer.
use Rattle.std.proofs.Common.{◌≡◌, ◌↔◌, ℕ, List, Bool, Option, Some, None, Result, Ok, Err, Contains, refl, sym, ap, subst, ◌∙◌, Ordering}
use Rattle.std.specs.Cmp.{IsTotalOrder}
use Rattle.serde_json.specs.Data.{Data}
use Rattle.jmap_arguments.specs.declared.method_error.MethodError.{MethodError}
use Rattle.mail_maps.specs.Serve.{Email, ServedMailbox}
use Rattle.query_orders.specs.Emails.{email_cmp}
use Rattle.query_orders.specs.Mailboxes.{mailbox_cmp}
use Rattle.query_orders.proofs.OrderLaws.{email_total, mailbox_total}
use Rattle.query_arguments.specs.Asked.{QueryMeant}
use Rattle.query_lists.specs.Ordered.{IsQueryList, numbers_of}
use Rattle.query_lists.specs.Windows.{WindowPart}
use Rattle.query_lists.proofs.MemberLemmas.{one_list}
use Rattle.query_core.specs.Answers.{AnswersQuery, Answered, NoAnchor, Refused, part_of, query_data}
use Rattle.query_core.specs.Lists.{EmailListAsked, IsEmailList, IsMailboxList, MailboxListAsked, collapsed_if}

one_rows : {V : Type 0} (rows : List (ℕ × V)) (Takes : ℕ × V → Type 0) (cmp : V → V → Ordering) (a b : List (ℕ × V)) → IsTotalOrder cmp
    → IsQueryList rows Takes cmp a → IsQueryList rows Takes cmp b → a ≡ b
one_rows rows Takes cmp a b total x y =
    one_list cmp a b total x.ascends y.ascends (λ e. (λ h. (y.members e).1 ((x.members e).0 h), λ h. (x.members e).1 ((y.members e).0 h)))

pub one_email_list : (emails : List (ℕ × Email)) (asked : EmailListAsked) (a b : List ℕ) → IsEmailList emails asked a → IsEmailList emails asked b → a ≡ b
one_email_list emails asked a b x y =
    let same : x.rows ≡ y.rows = one_rows emails _ (email_cmp emails asked.sort) x.rows y.rows (email_total emails asked.sort) x.are y.are in
    x.numbers_are ∙ ap (λ (rows : List (ℕ × Email)). collapsed_if asked.collapses rows) same ∙ sym y.numbers_are

pub one_mailbox_list : (mailboxes : List (ℕ × ServedMailbox)) (asked : MailboxListAsked) (a b : List ℕ) → IsMailboxList mailboxes asked a → IsMailboxList mailboxes asked b → a ≡ b
one_mailbox_list mailboxes asked a b x y =
    let same : x.rows ≡ y.rows = one_rows mailboxes _ (mailbox_cmp asked.sort) x.rows y.rows (mailbox_total asked.sort) x.are y.are in
    x.numbers_are ∙ ap (λ (rows : List (ℕ × ServedMailbox)). numbers_of rows) same ∙ sym y.numbers_are

-- ---- answers

module _ {A E : Type 0} (r : Result A E) where
  ok_is : (x y : A) → r ≡ Ok x → r ≡ Ok y → x ≡ y
  ok_is x y is js = cc

  err_is : (x y : E) → r ≡ Err x → r ≡ Err y → x ≡ y
  err_is x y is js = cc

  not_both : (x : A) (y : E) → r ≡ Ok x → r ≡ Err y → ⊥
  not_both x y is js = cc

some_is : {A : Type 0} (x y : A) → Some x ≡ Some y → x ≡ y
some_is x y e = cc

none_some : {A : Type 0} (x : A) → None ≡ Some x → ⊥
none_some x e = cc

module _ {C S : Type 0} (letter : ℕ) (state : List ℕ) (calculable : QueryMeant C S → Bool) (IsList : QueryMeant C S → List ℕ → Type 0)
    (asked : Result (QueryMeant C S) MethodError) (one : (q : QueryMeant C S) (a b : List ℕ) → IsList q a → IsList q b → a ≡ b) where
  same_query : (q p : QueryMeant C S) → asked ≡ Ok q → asked ≡ Ok p → q ≡ p
  same_query q p is js = ok_is asked q p is js

  same_list : (q p : QueryMeant C S) (a b : List ℕ) → q ≡ p → IsList q a → IsList p b → a ≡ b
  same_list q p a b same x y = one p a b (subst (λ (r : QueryMeant C S). IsList r a) same x) y

  same_part : (q p : QueryMeant C S) (a b : List ℕ) → q ≡ p → a ≡ b → part_of letter a q.part ≡ part_of letter b p.part
  same_part q p a b same lists = λ i. part_of letter (lists i) (same i).part

  pub one_answer : (r s : Result Data MethodError) → AnswersQuery letter state calculable IsList asked r → AnswersQuery letter state calculable IsList asked s → r ≡ s
  one_answer _ _ (Refused e is) (Refused f js) = ap Err (err_is asked e f is js)
  one_answer _ _ (Refused e is) (NoAnchor p b js y none) = absurd (not_both asked p e js is)
  one_answer _ _ (Refused e is) (Answered p b part js y some) = absurd (not_both asked p e js is)
  one_answer _ _ (NoAnchor q a is x none) (Refused f js) = absurd (not_both asked q f is js)
  one_answer _ _ (NoAnchor q a is x none) (NoAnchor p b js y gone) = refl
  one_answer _ _ (NoAnchor q a is x none) (Answered p b part js y some) =
      let same : q ≡ p = same_query q p is js in
      absurd (none_some part (sym none ∙ same_part q p a b same (same_list q p a b same x y) ∙ some))
  one_answer _ _ (Answered q a part is x some) (Refused f js) = absurd (not_both asked q f is js)
  one_answer _ _ (Answered q a part is x some) (NoAnchor p b js y none) =
      let same : q ≡ p = same_query q p is js in
      absurd (none_some part (sym none ∙ sym (same_part q p a b same (same_list q p a b same x y)) ∙ some))
  one_answer _ _ (Answered q a part is x some) (Answered p b other js y more) =
      let same : q ≡ p = same_query q p is js in
      let lists : a ≡ b = same_list q p a b same x y in
      let parts : part ≡ other = some_is part other (sym some ∙ same_part q p a b same lists ∙ more) in
      λ i. Ok (query_data letter state (calculable (same i)) (lists i) (same i).counts (parts i))
