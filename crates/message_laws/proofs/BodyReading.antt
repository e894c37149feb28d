-- Bodies in base64 are read as their octets.
use Rattle.std.proofs.Common.{◌≡◌, ◌≢◌, ℕ, zero, suc, Bool, true, false, not, ◌||◌, List, [], ◌∷◌, ◌++◌, refl, sym, ap, ◌∙◌, subst, arith, cond}
use Rattle.std.specs.List.{filter, list_any}
use Rattle.std.proofs.lemmas.Bool.{cond-true}
use Rattle.std.proofs.lemmas.List.{append_cancel_right}
use Rattle.base64.specs.Engines.{standard}
use Rattle.base64.specs.GeneralPurpose.{encode_of}
use Rattle.text_words.specs.Cuts.{Each, front}
use Rattle.text_words.specs.Octets.{is_white}
use Rattle.header_words.specs.Base64.{is_symbol, is_equals_sign, spelled_octets}
use Rattle.header_words.specs.Transfer.{is_no_padding, is_stranger, base64_octets, base64_problem, IsBody}
use Rattle.header_words.specs.declared.transfer.Encoding.TheVariants as encoding
use Rattle.header_words.proofs.WrittenBase64.{reads_back}
use Rattle.message_lines.specs.Bodies.{in_lines, lines_of_76, base64_lines}
use Rattle.message_lines.specs.Folding.{crlf}
use Rattle.message_laws.specs.SafeTexts.{is_octet}

-- the same without the end of the last line
unfoldable open_lines : ℕ → List ℕ → List ℕ
open_lines room [] = []
open_lines zero (c ∷ t) = 13 ∷ 10 ∷ c ∷ open_lines 75 t
open_lines (suc room) (c ∷ t) = c ∷ open_lines room t

lines_closed : (room : ℕ) (t : List ℕ) → in_lines room t ≡ open_lines room t ++ crlf
unfolding in_lines open_lines
lines_closed room [] = refl
lines_closed zero (c ∷ t) = ap (λ (u : List ℕ). 13 ∷ 10 ∷ c ∷ u) (lines_closed 75 t)
lines_closed (suc room) (c ∷ t) = ap (λ (u : List ℕ). c ∷ u) (lines_closed room t)

-- what a reader takes of a body
abbrev taken : List ℕ → List ℕ
taken b = filter is_symbol (front is_no_padding b)

abbrev strange : List ℕ → Bool
strange b = list_any is_stranger (front is_no_padding b)

symbol_facts : (c : ℕ) → is_symbol c ≡ true → (is_no_padding c ≡ true) × (is_stranger c ≡ false)
symbol_facts c e = (grind arith, ap (λ (q : Bool). not (q || is_white c)) e)

symbol_taken : (c : ℕ) (t : List ℕ) → is_symbol c ≡ true → taken (c ∷ t) ≡ c ∷ taken t
unfolding front
symbol_taken c t e =
    let f = symbol_facts c e in
    ap (filter is_symbol) (cond-true (is_no_padding c) (c ∷ front is_no_padding t) [] f.0) ∙ cond-true (is_symbol c) (c ∷ taken t) (taken t) e

symbol_no_stranger : (c : ℕ) (t : List ℕ) → is_symbol c ≡ true → strange (c ∷ t) ≡ strange t
unfolding front
symbol_no_stranger c t e =
    let f = symbol_facts c e in
    ap (list_any is_stranger) (cond-true (is_no_padding c) (c ∷ front is_no_padding t) [] f.0) ∙ ap (λ (q : Bool). q || strange t) f.1

padding_taken : (room : ℕ) (pad : List ℕ) → Each is_equals_sign pad → (taken (open_lines room pad) ≡ []) × (strange (open_lines room pad) ≡ false)
unfolding open_lines front
padding_taken room [] e = (refl, refl)
padding_taken zero (c ∷ t) e =
    let p : is_no_padding c ≡ false = ap not e.0 in (
      ap (λ (q : Bool). filter is_symbol (13 ∷ 10 ∷ cond q (c ∷ front is_no_padding (open_lines 75 t)) [])) p,
      ap (λ (q : Bool). list_any is_stranger (13 ∷ 10 ∷ cond q (c ∷ front is_no_padding (open_lines 75 t)) [])) p,
    )
padding_taken (suc room) (c ∷ t) e =
    let p : is_no_padding c ≡ false = ap not e.0 in (
      ap (λ (q : Bool). filter is_symbol (cond q (c ∷ front is_no_padding (open_lines room t)) [])) p,
      ap (λ (q : Bool). list_any is_stranger (cond q (c ∷ front is_no_padding (open_lines room t)) [])) p,
    )

break_taken : (t : List ℕ) → (taken (13 ∷ 10 ∷ t) ≡ taken t) × (strange (13 ∷ 10 ∷ t) ≡ strange t)
unfolding front
break_taken t = (refl, refl)

open_taken : (room : ℕ) (s pad : List ℕ) → Each is_symbol s → Each is_equals_sign pad
    → (taken (open_lines room (s ++ pad)) ≡ s) × (strange (open_lines room (s ++ pad)) ≡ false)
unfolding open_lines
open_taken room [] pad e f = padding_taken room pad f
open_taken zero (c ∷ s) pad e f =
    let h = open_taken 75 s pad e.1 f in
    let more = open_lines 75 (s ++ pad) in
    ((break_taken (c ∷ more)).0 ∙ symbol_taken c more e.0 ∙ ap (λ (u : List ℕ). c ∷ u) h.0, (break_taken (c ∷ more)).1 ∙ symbol_no_stranger c more e.0 ∙ h.1)
open_taken (suc room) (c ∷ s) pad e f =
    let h = open_taken room s pad e.1 f in
    let more = open_lines room (s ++ pad) in
    (symbol_taken c more e.0 ∙ ap (λ (u : List ℕ). c ∷ u) h.0, symbol_no_stranger c more e.0 ∙ h.1)

-- with the end of the last line too
front_crlf : (b : List ℕ) → (taken (b ++ crlf) ≡ taken b) × (strange (b ++ crlf) ≡ strange b)
unfolding front
front_crlf [] = (refl, refl)
front_crlf (c ∷ t) = by (is_no_padding c) (front_crlf t)
  where
    by : (q : Bool) → (taken (t ++ crlf) ≡ taken t) × (strange (t ++ crlf) ≡ strange t)
        → (filter is_symbol (cond q (c ∷ front is_no_padding (t ++ crlf)) []) ≡ filter is_symbol (cond q (c ∷ front is_no_padding t) []))
        × (list_any is_stranger (cond q (c ∷ front is_no_padding (t ++ crlf)) []) ≡ list_any is_stranger (cond q (c ∷ front is_no_padding t) []))
    by true h = (ap (λ (u : List ℕ). cond (is_symbol c) (c ∷ u) u) h.0, ap (λ (q : Bool). is_stranger c || q) h.1)
    by false h = (refl, refl)

-- the lines of a leaf's body without the end of the last one
abbrev open_body : List ℕ → List ℕ
open_body [] = []
open_body (c ∷ t) = c ∷ open_lines 75 t

record Spelled (octets b : List ℕ) : Type 0 where
  octets_are : octets ≡ base64_octets b
  no_problem : false ≡ base64_problem b

open_body_taken : (s pad : List ℕ) → Each is_symbol s → Each is_equals_sign pad
    → (taken (open_body (s ++ pad)) ≡ s) × (strange (open_body (s ++ pad)) ≡ false)
unfolding front
open_body_taken [] [] e f = (refl, refl)
open_body_taken [] (c ∷ pad) e f =
    let p : is_no_padding c ≡ false = ap not f.0 in (
      ap (λ (q : Bool). filter is_symbol (cond q (c ∷ front is_no_padding (open_lines 75 pad)) [])) p,
      ap (λ (q : Bool). list_any is_stranger (cond q (c ∷ front is_no_padding (open_lines 75 pad)) [])) p,
    )
open_body_taken (c ∷ s) pad e f =
    let h = open_taken 75 s pad e.1 f in
    let more = open_lines 75 (s ++ pad) in
    (symbol_taken c more e.0 ∙ ap (λ (u : List ℕ). c ∷ u) h.0, symbol_no_stranger c more e.0 ∙ h.1)

-- a body without the end of its last line spells the octets
open_spelled : (octets : List ℕ) → Each is_octet octets → Spelled octets (open_body (encode_of standard octets))
open_spelled octets o =
    let b = reads_back octets o in
    let h = open_body_taken b.symbols b.padding b.alphabet b.equals in
    subst (λ (u : List ℕ). Spelled octets (open_body u)) (sym b.whole) (record { octets_are = b.are ∙ ap spelled_octets (sym h.0); no_problem = sym h.1 })

-- the body is empty, or is that with the end of its last line
body_closed : (t : List ℕ) → t ≢ [] → lines_of_76 t ≡ open_body t ++ crlf
unfolding lines_of_76
body_closed [] n = absurd (n refl)
body_closed (c ∷ t) n = ap (λ (u : List ℕ). c ∷ u) (lines_closed 75 t)

body_spelled : (octets : List ℕ) → Each is_octet octets → Spelled octets (base64_lines octets)
unfolding base64_lines lines_of_76
body_spelled octets o = by (encode_of standard octets) (open_spelled octets o)
  where
    by : (t : List ℕ) → Spelled octets (open_body t) → Spelled octets (lines_of_76 t)
    by [] s = s
    by (c ∷ t) s =
        let h = front_crlf (open_body (c ∷ t)) in
        let e = body_closed (c ∷ t) (λ n. absurd cc) in
        subst (λ (u : List ℕ). Spelled octets u) (sym e) (record { octets_are = s.octets_are ∙ ap spelled_octets (sym h.0); no_problem = s.no_problem ∙ sym h.1 })

pub body_is_read : (octets : List ℕ) → Each is_octet octets → IsBody encoding.Base64 octets false (base64_lines octets)
body_is_read octets o =
    let s = body_spelled octets o in
    (s.octets_are, s.no_problem)

-- the lines of a body that isn't empty
lines_open : (octets : List ℕ) → encode_of standard octets ≢ [] → base64_lines octets ≡ open_body (encode_of standard octets) ++ crlf
unfolding base64_lines
lines_open octets n = body_closed (encode_of standard octets) n

lines_none : (octets : List ℕ) → encode_of standard octets ≡ [] → base64_lines octets ≡ []
unfolding base64_lines lines_of_76
lines_none octets e = ap lines_of_76 e

no_end : (body : List ℕ) → [] ≡ body ++ crlf → ⊥
no_end [] e = absurd cc
no_end (c ∷ body) e = absurd cc

pub part_is_read : (octets body : List ℕ) → Each is_octet octets → base64_lines octets ≡ body ++ crlf → IsBody encoding.Base64 octets false body
part_is_read octets body o e = by (encode_of standard octets) refl
  where
    by : (t : List ℕ) → encode_of standard octets ≡ t → IsBody encoding.Base64 octets false body
    by [] f = absurd (no_end body (sym (lines_none octets f) ∙ e))
    by (c ∷ t) f =
        let some : encode_of standard octets ≢ [] = λ n. (let g : c ∷ t ≡ [] = sym f ∙ n in cc) in
        let same : body ≡ open_body (encode_of standard octets) = append_cancel_right body (open_body (encode_of standard octets)) crlf (sym e ∙ lines_open octets some) in
        let s = open_spelled octets o in
        subst (λ (u : List ℕ). IsBody encoding.Base64 octets false u) (sym same) (s.octets_are, s.no_problem)
