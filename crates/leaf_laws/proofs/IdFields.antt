-- A written Content-ID reads as the id (RFC 2045 section 7).
use Rattle.std.proofs.Common.{◌≡◌, ◌≢◌, ℕ, Bool, true, false, not, ◌&&◌, ◌||◌, List, [], ◌∷◌, ◌++◌, length, refl, sym, ap, subst, arith, Option, Some}
use Rattle.std.specs.Prelude.{nat_le}
use Rattle.std.specs.List.{list_any}
use Rattle.std.proofs.lemmas.Bool.{and_parts, leb-true}
use Rattle.text_words.specs.Cuts.{Each, IsRun}
use Rattle.text_words.specs.Octets.{is_white}
use Rattle.mail_header.specs.WhiteEnd.{some_text}
use Rattle.mail_header.specs.RawForms.{raw_form}
use Rattle.mail_drafts.specs.Identifiers.{ends_identifier, is_identifier}
use Rattle.mail_drafts.specs.Lines.{is_line}
use Rattle.message_lines.specs.Folding.{gap}
use Rattle.message_lines.specs.Ids.{bracketed}
use Rattle.message_laws.specs.SafeTexts.{is_line_octet}
use Rattle.message_laws.proofs.Lines.{line_printed}
use Rattle.message_laws.proofs.RawLines.{clean_append, clean_gap, raw_is}
use Rattle.header_tokens.specs.Closings.{is_no_greater_octet}
use Rattle.mime_fields.specs.ContentIds.{is_visible_octet, IsEnclosed, IsContentId, Enclosed}
use Rattle.address_laws.proofs.EmailAlone.{line_clean}
use Rattle.address_laws.proofs.MailboxTokens.{one_line}
use Rattle.address_laws.proofs.Untorn.{sign_clean}
use Rattle.leaf_laws.proofs.WholeIds.{falsehood, whole_kept, enclosed_behind}

visible_octet : (c : ℕ) → is_line_octet c ≡ true → ends_identifier c ≡ false → is_visible_octet c ≡ true
visible_octet c e f = grind arith

no_greater : (c : ℕ) → ends_identifier c ≡ false → is_no_greater_octet c ≡ true
no_greater c e = grind arith

-- the octets of an identifier are no white space, and none closes an angle bracket
octets_are : (t : List ℕ) → Each is_line_octet t → list_any ends_identifier t ≡ false → Each is_visible_octet t × Each is_no_greater_octet t
octets_are [] e f = (tt, tt)
octets_are (c ∷ t) e f = by (ends_identifier c) refl f (octets_are t e.1)
  where
    by : (p : Bool) → ends_identifier c ≡ p → (p || list_any ends_identifier t) ≡ false
        → (list_any ends_identifier t ≡ false → Each is_visible_octet t × Each is_no_greater_octet t) → Each is_visible_octet (c ∷ t) × Each is_no_greater_octet (c ∷ t)
    by true a h more = absurd cc
    by false a h more = let m = more h in ((visible_octet c e.0 a, m.0), (no_greater c a, m.1))

gap_run : (short : Bool) → IsRun is_white (gap short)
gap_run true = ((refl, tt), λ e. absurd cc)
gap_run false = ((refl, (refl, (refl, tt))), λ e. absurd cc)

some_is : (cid : List ℕ) → cid ≢ [] → some_text cid ≡ Some cid
some_is [] n = absurd (n refl)
some_is (c ∷ cid) n = refl

pub id_is_read : (short : Bool) (cid : List ℕ) → is_identifier cid ≡ true → IsContentId (gap short ++ bracketed cid) (Some cid)
id_is_read short cid e =
    let p = and_parts (is_line cid && nat_le 1 (length cid)) (not (list_any ends_identifier cid)) e in
    let q = and_parts (is_line cid) (nat_le 1 (length cid)) p.0 in
    let printed = line_printed cid q.0 in
    let some = leb-true 1 (length cid) q.1 in
    let octets = octets_are cid printed (falsehood (list_any ends_identifier cid) p.1) in
    let x = bracketed cid in
    let raw : raw_form (gap short ++ x) ≡ gap short ++ x =
    raw_is (gap short ++ x) (clean_append (gap short) x (clean_gap short) (clean_append (60 ∷ []) (cid ++ 62 ∷ []) (sign_clean 60 refl) (clean_append cid (62 ∷ []) (line_clean cid q.0) (sign_clean 62 refl)))) in
    let P : List ℕ → Type 0 = λ u. IsEnclosed cid u in
    let Q : Option (List ℕ) → Type 0 = λ u. IsContentId (gap short ++ x) u in
    subst Q (some_is cid (λ n. absurd (omega (arith, some, ap length n))))
    (Enclosed cid cid (subst P (sym raw) (enclosed_behind (gap short) cid (gap_run short) octets.1)) (whole_kept cid octets.0 (one_line cid printed)))
