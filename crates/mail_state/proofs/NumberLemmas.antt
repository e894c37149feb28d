-- New Emails have the next numbers by folder number, and then UID.
use Rattle.std.proofs.Common.{◌≡◌, inl, inr, ℕ, ◌+◌, ◌<◌, ◌≤◌, List, [], ◌∷◌, Bool, true, false, cond, refl, sym, ap, ◌∙◌, subst}
use Rattle.std.proofs.Common.{arith, nat_cmp, Option, Some, None}
use Rattle.std.specs.BTreeMap.{is_at}
use Rattle.std.specs.Option.{option_or}
use Rattle.change_list.specs.Advance.{row_at}
use Rattle.told_mail.specs.Mail.{Mail, IsNextMail}
use Rattle.mail_maps.specs.declared.row.EmailRow.{EmailRow}
use Rattle.mail_maps.specs.declared.envelope.Envelope.{Envelope}
use Rattle.mail_maps.specs.Rows.{Rows}
use Rattle.mail_maps.specs.Visible.{Placed}
use Rattle.mail_rows.specs.NumberedRows.{NumberedRows}
use Rattle.mail_rows.specs.Remaining.{remaining}
use Rattle.mail_rows.specs.Taking.{left, arrivals, with_row, new_row}
use Rattle.mail_rows.proofs.RowLemmas.{none_before, none_over, row_at-append, found_is}
use Rattle.mail_rows.proofs.IndexLemmas.{under_remaining}
use Rattle.mail_rows.proofs.TakingLemmas.{added, rows_added, from_added}
use Rattle.mail_state.specs.History.{MailHistory, Advances}
use Rattle.mail_state.specs.Sound.{IsSound}
use Rattle.mail_state.specs.Laws.{ComesBefore}
use Rattle.mail_state.proofs.EmailLemmas.{in_order}
use Rattle.mail_state.proofs.MarkLemmas.{AllBehind, IsOrdered, arrivals_ordered}

same_row : (a b : EmailRow) → Some a ≡ Some b → a ≡ b
same_row a b e = cc

found_behind : (p : Placed) (row : EmailRow) (n : NumberedRows) (ps : List Placed) (es : List Envelope) (r : ℕ) (v : EmailRow) → row.folder ≡ p.folder → row.uid ≡ p.message.uid
    → AllBehind p ps → row_at (added n ps es) r ≡ Some v → ComesBefore row v
found_behind p row n [] es r v folder uid behind is = absurd (let f : None ≡ Some v = is in cc)
found_behind p row n (x ∷ ps) [] r v folder uid behind is = absurd (let f : None ≡ Some v = is in cc)
found_behind p row n (x ∷ ps) (e ∷ es) r v folder uid behind is =
    elim (is_at (nat_cmp r) n.next) as (λ (b : Bool). cond b (Some (new_row n x e)) (row_at (added (with_row n x e) ps es) r) ≡ Some v → ComesBefore row v) [
      | true ↦ λ f.
          let P : EmailRow → Type 0 = λ w. ComesBefore row w in
          subst P (same_row (new_row n x e) v f) (elim behind.0 [ inl l ↦ inl (omega (arith, l, folder)) | inr k ↦ inr (folder ∙ k.0, (let l = k.1 in omega (arith, l, uid))) ])
      | false ↦ λ f. found_behind p row (with_row n x e) ps es r v folder uid behind.1 f
    ] is

added_ordered : (n : NumberedRows) (ps : List Placed) (es : List Envelope) (q r : ℕ) (u v : EmailRow) → IsOrdered ps → q < r → row_at (added n ps es) q ≡ Some u
    → row_at (added n ps es) r ≡ Some v → ComesBefore u v
added_ordered n [] es q r u v order less is_u is_v = absurd (let f : None ≡ Some u = is_u in cc)
added_ordered n (p ∷ ps) [] q r u v order less is_u is_v = absurd (let f : None ≡ Some u = is_u in cc)
added_ordered n (p ∷ ps) (e ∷ es) q r u v order less is_u is_v = by (is_at (nat_cmp q) n.next) (is_at (nat_cmp r) n.next) refl refl is_u is_v
    (added_ordered (with_row n p e) ps es q r u v order.1 less)
  where
    rest : Rows
    rest = added (with_row n p e) ps es

    by : (a b : Bool) → is_at (nat_cmp q) n.next ≡ a → is_at (nat_cmp r) n.next ≡ b → cond a (Some (new_row n p e)) (row_at rest q) ≡ Some u
        → cond b (Some (new_row n p e)) (row_at rest r) ≡ Some v → (row_at rest q ≡ Some u → row_at rest r ≡ Some v → ComesBefore u v) → ComesBefore u v
    by true true q_is r_is f g later = absurd (let k : q ≡ n.next = found_is q n.next q_is in let l : r ≡ n.next = found_is r n.next r_is in omega (arith, k, l, less))
    by true false q_is r_not f g later =
        let P : EmailRow → Type 0 = λ w. ComesBefore w v in
        subst P (same_row (new_row n p e) u f) (found_behind p (new_row n p e) (with_row n p e) ps es r v refl refl order.0 g)
    by false true q_not r_is f g later =
        let l : r ≡ n.next = found_is r n.next r_is in
        let none : row_at rest q ≡ None = none_before (n.next + 1) q rest (from_added (with_row n p e) ps es) (omega (arith, l, less)) in
        absurd (let k : None ≡ Some u = sym none ∙ f in cc)
    by false false q_not r_not f g later = later f g

-- of two new Emails the one of the lower number comes first in the mail
pub new_in_order : (h after : MailHistory) (m : Mail) (q r : ℕ) (u v : EmailRow) → IsSound h → IsNextMail h.mail m → Advances h m after → h.numbered.next ≤ q → q < r
    → row_at after.numbered.rows q ≡ Some u → row_at after.numbered.rows r ≡ Some v → ComesBefore u v
new_in_order h after m q r u v sound next a from less is_u is_v =
    added_ordered (left h.numbered m.folders) ps a.takes.envelopes q r u v (arrivals_ordered m h.numbered next.is_mail) less
    (sym (found q from) ∙ is_u) (sym (found r (omega (arith, from, less))) ∙ is_v)
  where
    ps : List Placed
    ps = arrivals h.numbered m.folders

    rows : Rows
    rows = remaining m.folders h.numbered.rows

    found : (k : ℕ) → h.numbered.next ≤ k → row_at after.numbered.rows k ≡ row_at (added (left h.numbered m.folders) ps a.takes.envelopes) k
    found k over =
        ap (λ (x : NumberedRows). row_at x.rows k) a.takes.after_is
        ∙ ap (λ (x : Rows). row_at x k) (rows_added (left h.numbered m.folders) ps a.takes.envelopes)
        ∙ row_at-append rows (added (left h.numbered m.folders) ps a.takes.envelopes) k
        ∙ ap (λ (o : Option EmailRow). option_or o (row_at (added (left h.numbered m.folders) ps a.takes.envelopes) k))
        (none_over h.numbered.next k rows (under_remaining m.folders h.numbered.next h.numbered.rows (in_order h sound).under) over)
