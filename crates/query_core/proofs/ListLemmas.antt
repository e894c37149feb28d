-- Rows that are kept and put in order are the list that is asked.
use Rattle.std.proofs.Common.{◌≡◌, ◌↔◌, ◌⊎◌, inl, inr, ℕ, List, [], ◌∷◌, Bool, true, false, cond, Some, None, Contains, nat_cmp, refl, sym, subst, Ordering}
use Rattle.std.specs.BTreeMap.{is_at}
use Rattle.std.specs.List.Sorted.{IsStrictlySortedBy}
use Rattle.change_list.specs.Advance.{row_at}
use Rattle.served_maps.proofs.AmongLemmas.{AllIn, all_in, found_is}
use Rattle.mail_maps.specs.Serve.{Email, ServedMailbox}
use Rattle.query_conditions.specs.Mailboxes.{MailboxMatches}
use Rattle.query_orders.specs.Emails.{email_cmp}
use Rattle.query_orders.specs.Mailboxes.{mailbox_cmp}
use Rattle.query_lists.specs.Filters.{PassesFilter}
use Rattle.query_lists.specs.Ordered.{AscendByNumber, IsQueryList, numbers_of, row_cmp}
use Rattle.query_lists.proofs.MemberLemmas.{IsMember, has_from, contains_from}
use Rattle.query_core.specs.Lists.{EmailListAsked, EmailMatches, IsEmailList, IsMailboxList, MailboxListAsked, collapsed_if}
use Rattle.query_core.specs.reading.Kept.{Keeps}
use Rattle.query_core.proofs.KeptLemmas.{keeps_members}

module _ {V : Type 0} where
  found_at : (rows all : List (ℕ × V)) (e : ℕ × V) → AllIn all rows → IsMember e rows → row_at all e.0 ≡ Some e.1
  found_at [] all e found h = absurd h
  found_at (r ∷ rows) all e found (inl is) = subst (λ (x : ℕ × V). row_at all x.0 ≡ Some x.1) is found.0
  found_at (r ∷ rows) all e found (inr h) = found_at rows all e found.1 h

  same_value : (u v : V) → Some u ≡ Some v → u ≡ v
  same_value u v e = cc

  member_at : (rows : List (ℕ × V)) (q : ℕ) (v : V) → row_at rows q ≡ Some v → IsMember (q, v) rows
  member_at [] q v found = absurd (let e : None ≡ Some v = found in cc)
  member_at (r ∷ rows) q v found = by (is_at (nat_cmp q) r.0) refl found (member_at rows q v)
    where
      by : (b : Bool) → is_at (nat_cmp q) r.0 ≡ b → cond b (Some r.1) (row_at rows q) ≡ Some v → (row_at rows q ≡ Some v → IsMember (q, v) rows)
          → (r ≡ (q, v)) ⊎ IsMember (q, v) rows
      by true here is more = inl (λ i. (sym (found_is q r.0 here) i, same_value r.1 v is i))
      by false other is more = inr (more is)

  -- what is kept of rows that stand by number, in strict order, is the query's list
  pub is_query_list : (rows kept list : List (ℕ × V)) (Takes : ℕ × V → Type 0) (cmp : V → V → Ordering) → AscendByNumber rows → Keeps Takes rows kept
      → ((e : ℕ × V) → Contains list e ↔ Contains kept e) → IsStrictlySortedBy (row_cmp cmp) list → IsQueryList rows Takes cmp list
  is_query_list rows kept list Takes cmp up keeps same ascends = record {
    ascends = ascends;
    members = λ e. (
      λ h. let there = (keeps_members Takes rows kept e keeps).0 ((same e).0 h) in (found_at rows rows e (all_in rows up) (has_from rows e there.0), there.1),
      λ h. (same e).1 ((keeps_members Takes rows kept e keeps).1 (contains_from rows e (member_at rows e.0 e.1 h.0), h.1)),
    );
  }

pub email_list_is : (rows kept list now : List (ℕ × Email)) (asked : EmailListAsked) (numbers : List ℕ) → rows ≡ now → AscendByNumber rows
    → Keeps (λ (e : ℕ × Email). PassesFilter (EmailMatches rows e.1) asked.filter) rows kept → ((e : ℕ × Email) → Contains list e ↔ Contains kept e)
    → IsStrictlySortedBy (row_cmp (email_cmp rows asked.sort)) list → numbers ≡ collapsed_if asked.collapses list → IsEmailList now asked numbers
email_list_is rows kept list now asked numbers same up keeps moved ascends is =
    subst (λ (es : List (ℕ × Email)). IsEmailList es asked numbers) same (record {
      rows = list;
      are = is_query_list rows kept list (λ (e : ℕ × Email). PassesFilter (EmailMatches rows e.1) asked.filter) (email_cmp rows asked.sort) up keeps moved ascends;
      numbers_are = is;
    })

pub mailbox_list_is : (rows kept list now : List (ℕ × ServedMailbox)) (asked : MailboxListAsked) (numbers : List ℕ) → rows ≡ now → AscendByNumber rows
    → Keeps (λ (b : ℕ × ServedMailbox). PassesFilter (MailboxMatches b.1) asked.filter) rows kept → ((b : ℕ × ServedMailbox) → Contains list b ↔ Contains kept b)
    → IsStrictlySortedBy (row_cmp (mailbox_cmp asked.sort)) list → numbers ≡ numbers_of list → IsMailboxList now asked numbers
mailbox_list_is rows kept list now asked numbers same up keeps moved ascends is =
    subst (λ (bs : List (ℕ × ServedMailbox)). IsMailboxList bs asked numbers) same (record {
      rows = list;
      are = is_query_list rows kept list (λ (b : ℕ × ServedMailbox). PassesFilter (MailboxMatches b.1) asked.filter) (mailbox_cmp asked.sort) up keeps moved ascends;
      numbers_are = is;
    })
