-- The tokens of a mailbox that is written are one element of a list, which names the mailbox.
use Rattle.std.proofs.Common.{◌≡◌, ℕ, Bool, true, false, not, ◌&&◌, ◌||◌, ◌==◌, List, [], ◌∷◌, ◌++◌, refl, sym, ap, ◌∙◌, subst, arith, append_assoc, cond, Option, Some, None}
use Rattle.std.specs.List.{list_all}
use Rattle.std.proofs.lemmas.Bool.{cond-false}
use Rattle.std.proofs.lemmas.List.{append-nil}
use Rattle.text_words.specs.Cuts.{Each, IsRun, front, back}
use Rattle.text_words.specs.LineEnds.{begins_with_lf}
use Rattle.text_words.specs.Octets.{is_white}
use Rattle.text_words.proofs.CutLemmas.{all_before, front_back}
use Rattle.header_words.specs.EncodedWords.{IsText}
use Rattle.header_tokens.specs.declared.token.Alphabet.TheVariants as alphabet
use Rattle.header_tokens.specs.declared.token.Kind.{Kind}
use Rattle.header_tokens.specs.declared.token.Kind.TheVariants as kind
use Rattle.header_tokens.specs.Tokens.{is_letter, Spelled, AreTokens}
use Rattle.header_tokens.specs.Kinds.{is_gap}
use Rattle.header_tokens.specs.Lexemes.{is_lexeme_kind, is_lexeme}
use Rattle.header_addresses.specs.Mailboxes.{is_phrase_part, is_phrase, is_addr_spec, spec_of, is_no_at, is_no_colon, inner_of, is_inner_token, behind_route, behind_colon, Mailbox}
use Rattle.header_addresses.specs.AddressLists.{Member, IsElement, Bare, InAngle, EndsElement}
use Rattle.header_addresses.specs.Names.{phrase_from, phrase_text, comment_after, comment_behind, IsCommentName, NoComment, OfPhrase, NoPhrase, spelling, email_text, IsAddress}
use Rattle.header_addresses.proofs.MailboxLemmas.{spec_each}
use Rattle.mail_header.specs.Lines.{unfolded}
use Rattle.mail_header.specs.WhiteEnd.{without_white_end}
use Rattle.message_lines.specs.declared.folding.Line.{Line}
use Rattle.message_lines.specs.Folding.{FieldPiece, is_short, line_with, next_line}
use Rattle.message_laws.specs.SafeTexts.{is_line_octet}
use Rattle.message_laws.proofs.Tokens.{gap_token, mark_token, atom_token}
use Rattle.message_laws.proofs.WordReading.{spaced}
use Rattle.address_laws.proofs.EmailAlone.{IsPlainEmail}

-- ---- the address

spelled_so : (ts : List Spelled) (t : List ℕ) → AreTokens alphabet.Mail ts t → Each is_lexeme ts → spelling ts ≡ t
spelled_so [] t h g = sym h
spelled_so (v ∷ vs) t h g =
    ap (λ (q : Bool). cond (not q) [] v.text ++ spelling vs) g.0
    ∙ ap (λ (u : List ℕ). u ++ spelling vs) h.is.text_is
    ∙ ap (λ (u : List ℕ). h.unit ++ u) (spelled_so vs h.rest h.more g.1)
    ∙ sym h.whole

no_end : (c : ℕ) → is_line_octet c ≡ true → ((c == 10) ≡ false) × ((c == 13) ≡ false)
no_end c e = (grind arith, grind arith)

pub one_line : (t : List ℕ) → Each is_line_octet t → unfolded t ≡ t
one_line [] e = refl
one_line (c ∷ t) e = let n = no_end c e.0 in by (c == 10) (c == 13) n.0 n.1 ∙ ap (λ (u : List ℕ). c ∷ u) (one_line t e.1)
  where
    by : (p q : Bool) → p ≡ false → q ≡ false → cond (p || (q && begins_with_lf t)) (unfolded t) (c ∷ unfolded t) ≡ c ∷ unfolded t
    by true q f g = absurd cc
    by false true f g = absurd cc
    by false false f g = refl

email_is : (email : List ℕ) (e : IsPlainEmail email) → email ≡ email_text e.spec
email_is email e = sym (ap unfolded (spelled_so e.spec email e.tokens e.no_gaps) ∙ one_line email e.printed)

no_comments : (found : Option (List ℕ)) (ts : List Spelled) → found ≡ None → Each is_lexeme ts → comment_behind found ts ≡ None
no_comments found [] e g = e
no_comments found (v ∷ vs) e g = no_comments (comment_after found v.kind v.text) vs (by v.kind g.0) g.1
  where
    by : (k : Kind) → is_lexeme_kind k ≡ true → comment_after found k v.text ≡ None
    by kind.Space n = e
    by kind.Comment n = absurd cc
    by kind.Atom n = refl
    by kind.Quoted n = refl
    by kind.Literal n = refl
    by kind.Mark n = refl

-- a gap before it
gap_spec : (short : Bool) (ts : List Spelled) → is_addr_spec (gap_token short ∷ ts) ≡ is_addr_spec ts
unfolding front back
gap_spec short ts = by (front is_no_at ts) (back is_no_at ts)
  where
    by : (l r : List Spelled) → spec_of (gap_token short ∷ l) r ≡ spec_of l r
    by l [] = refl
    by l (x ∷ r) = refl

-- no colon stands in it, so it has no route
no_colons : (email : List ℕ) (e : IsPlainEmail email) → Each is_no_colon e.spec
no_colons email e = spec_each (λ (m : ℕ). not (m == 58)) e.spec refl refl refl e.is_spec

nothing_behind : (email : List ℕ) (e : IsPlainEmail email) → back is_no_colon e.spec ≡ []
nothing_behind email e = all_before is_no_colon e.spec (no_colons email e)

all_front : (email : List ℕ) (e : IsPlainEmail email) → front is_no_colon e.spec ≡ e.spec
all_front email e =
    let f = front is_no_colon e.spec in
    sym (front_back is_no_colon e.spec ∙ ap (λ (u : List Spelled). f ++ u) (nothing_behind email e) ∙ append-nil f)

inner_is : (email : List ℕ) (e : IsPlainEmail email) → is_inner_token e.spec ≡ true
inner_is email e =
    ap (λ (u : List Spelled). inner_of (front is_no_colon e.spec) u) (nothing_behind email e) ∙ ap is_addr_spec (all_front email e) ∙ e.is_spec

route_is : (email : List ℕ) (e : IsPlainEmail email) → behind_route e.spec ≡ e.spec
route_is email e = ap (λ (u : List Spelled). behind_colon (front is_no_colon e.spec) u) (nothing_behind email e) ∙ all_front email e

-- ---- phrases

-- pieces that are atoms
abbrev pub AreAtoms : List FieldPiece → Type 0
AreAtoms [] = Unit {0}
AreAtoms (p ∷ ps) = IsRun (is_letter alphabet.Mail) p.text × AreAtoms ps

-- the tokens of atoms behind a line, with a gap before each, and of the gap behind them
abbrev pub phrase_tokens : Line → List FieldPiece → Bool → List Spelled
phrase_tokens line [] last = gap_token last ∷ []
phrase_tokens line (p ∷ ps) last = gap_token (is_short (line_with line p)) ∷ atom_token p.text ∷ phrase_tokens (next_line line p) ps last

phrase_parts : (line : Line) (ps : List FieldPiece) (last : Bool) → list_all is_phrase_part (phrase_tokens line ps last) ≡ true
phrase_parts line [] last = refl
phrase_parts line (p ∷ ps) last = phrase_parts (next_line line p) ps last

phrase_is : (line : Line) (p : FieldPiece) (ps : List FieldPiece) (last : Bool) → is_phrase (phrase_tokens line (p ∷ ps) last) ≡ true
unfolding back
phrase_is line p ps last = phrase_parts (next_line line p) ps last

-- the atoms with a space before each
phrase_more : (line : Line) (ps : List FieldPiece) (last : Bool) → phrase_from false (phrase_tokens line ps last) ≡ spaced ps
phrase_more line [] last = refl
phrase_more line (p ∷ ps) last = ap (λ (u : List ℕ). 32 ∷ (p.text ++ u)) (phrase_more (next_line line p) ps last)

letter_no_white : (c : ℕ) → is_letter alphabet.Mail c ≡ true → is_white c ≡ false
letter_no_white c e = grind arith

-- a text whose end isn't white
record KeepsEnd (t : List ℕ) : Type 0 where
  kept : without_white_end t ≡ t
  some : list_all is_white t ≡ false

ends_in_letters : (w : List ℕ) → IsRun (is_letter alphabet.Mail) w → KeepsEnd w
ends_in_letters [] r = absurd (r.1 refl)
ends_in_letters (c ∷ []) r =
    let f = letter_no_white c r.0.0 in
    record { kept = ap (λ (q : Bool). cond (q && true) [] (c ∷ [])) f; some = ap (λ (q : Bool). q && true) f }
ends_in_letters (c ∷ d ∷ w) r =
    let f = letter_no_white c r.0.0 in
    let h = ends_in_letters (d ∷ w) (r.0.1, λ n. absurd cc) in
    record {
      kept = ap (λ (q : Bool). cond (q && list_all is_white (d ∷ w)) [] (c ∷ without_white_end (d ∷ w))) f ∙ ap (λ (u : List ℕ). c ∷ u) h.kept;
      some = ap (λ (q : Bool). q && list_all is_white (d ∷ w)) f;
    }

last_false : (b : Bool) → (b && false) ≡ false
last_false true = refl
last_false false = refl

kept_before : (x y : List ℕ) → KeepsEnd y → KeepsEnd (x ++ y)
kept_before [] y k = k
kept_before (c ∷ x) y k =
    let h = kept_before x y k in
    let g : list_all is_white (c ∷ (x ++ y)) ≡ false = ap (λ (q : Bool). is_white c && q) h.some ∙ last_false (is_white c) in
    record { kept = cond-false (list_all is_white (c ∷ (x ++ y))) [] (c ∷ without_white_end (x ++ y)) g ∙ ap (λ (u : List ℕ). c ∷ u) h.kept; some = g }

atoms_kept : (w : List ℕ) (ps : List FieldPiece) → IsRun (is_letter alphabet.Mail) w → AreAtoms ps → KeepsEnd (w ++ spaced ps)
atoms_kept w [] r rs = subst (λ (u : List ℕ). KeepsEnd u) (sym (append-nil w)) (ends_in_letters w r)
atoms_kept w (p ∷ ps) r rs =
    subst (λ (u : List ℕ). KeepsEnd u) (append_assoc w (32 ∷ []) (p.text ++ spaced ps)) (kept_before (w ++ 32 ∷ []) (p.text ++ spaced ps) (atoms_kept p.text ps rs.0 rs.1))

begins : (x t : List ℕ) → IsRun (is_letter alphabet.Mail) x → back is_white (x ++ t) ≡ x ++ t
unfolding back
begins [] t r = absurd (r.1 refl)
begins (c ∷ x) t r = cond-false (is_white c) _ _ (letter_no_white c r.0.0)

-- the text of a phrase is its atoms with one space between two
phrase_said : (line : Line) (p : FieldPiece) (ps : List FieldPiece) (last : Bool) → IsRun (is_letter alphabet.Mail) p.text → AreAtoms ps
    → phrase_text (phrase_tokens line (p ∷ ps) last) ≡ p.text ++ spaced ps
unfolding back
phrase_said line p ps last r rs =
    ap (λ (u : List ℕ). without_white_end (back is_white (p.text ++ u))) (phrase_more (next_line line p) ps last)
    ∙ ap without_white_end (begins p.text (spaced ps) r)
    ∙ (atoms_kept p.text ps r rs).kept

-- ---- mailboxes

-- a bare address, behind a gap
abbrev pub bare_mailbox : Bool → List Spelled → Mailbox
bare_mailbox short spec = record { phrase = []; spec = gap_token short ∷ spec; behind = gap_token short ∷ spec }

pub bare_element : (short : Bool) (email : List ℕ) (e : IsPlainEmail email) (rest : List Spelled) → EndsElement rest
    → IsElement (Member (bare_mailbox short e.spec)) (gap_token short ∷ e.spec) rest
bare_element short email e rest f = Bare (gap_token short ∷ e.spec) rest (gap_spec short e.spec ∙ e.is_spec) f

pub bare_address : (short : Bool) (email : List ℕ) (e : IsPlainEmail email) → IsAddress (bare_mailbox short e.spec) (record { name = None; email = email })
unfolding back
bare_address short email e = record {
  name = NoPhrase None refl (subst (λ (c : Option (List ℕ)). IsCommentName c None) (sym (no_comments None e.spec refl e.no_gaps)) NoComment);
  email = email_is email e;
}

-- an address in angle brackets, behind a phrase, or behind a gap alone
abbrev pub angle_mailbox : List Spelled → List Spelled → Mailbox
angle_mailbox phrase spec = record { phrase = phrase; spec = behind_route spec; behind = [] }

or_true : (b : Bool) → (b || true) ≡ true
or_true true = refl
or_true false = refl

display_name : (line : Line) (ps : List FieldPiece) (last : Bool) → (list_all is_gap (phrase_tokens line ps last) || is_phrase (phrase_tokens line ps last)) ≡ true
display_name line [] last = refl
display_name line (p ∷ ps) last =
    let ts = phrase_tokens line (p ∷ ps) last in
    ap (λ (q : Bool). list_all is_gap ts || q) (phrase_is line p ps last) ∙ or_true (list_all is_gap ts)

pub angle_element : (line : Line) (ps : List FieldPiece) (last : Bool) (email : List ℕ) (e : IsPlainEmail email) (rest : List Spelled) → EndsElement rest
    → IsElement (Member (angle_mailbox (phrase_tokens line ps last) e.spec)) (phrase_tokens line ps last ++ mark_token 60 ∷ (e.spec ++ mark_token 62 ∷ [])) rest
angle_element line ps last email e rest f = InAngle (record {
  phrase = phrase_tokens line ps last;
  less = mark_token 60;
  inner = e.spec;
  greater = mark_token 62;
  gaps = [];
  is_name = display_name line ps last;
  opens = refl;
  is_inner = inner_is email e;
  closes = refl;
  are_gaps = tt;
}) rest f

angle_email : (phrase : List Spelled) (email : List ℕ) (e : IsPlainEmail email) → email ≡ email_text (behind_route e.spec)
angle_email phrase email e = email_is email e ∙ ap email_text (sym (route_is email e))

pub angle_address : (line : Line) (p : FieldPiece) (ps : List FieldPiece) (last : Bool) (email name : List ℕ) (e : IsPlainEmail email) → IsRun (is_letter alphabet.Mail) p.text → AreAtoms ps
    → IsText false (p.text ++ spaced ps) name → IsAddress (angle_mailbox (phrase_tokens line (p ∷ ps) last) e.spec) (record { name = Some name; email = email })
angle_address line p ps last email name e r rs t = record {
  name = OfPhrase name (phrase_is line p ps last) (subst (λ (u : List ℕ). IsText false u name) (sym (phrase_said line p ps last r rs)) t);
  email = angle_email (phrase_tokens line (p ∷ ps) last) email e;
}

-- without a phrase it has no name
pub angle_unnamed : (last : Bool) (email : List ℕ) (e : IsPlainEmail email) → IsAddress (angle_mailbox (gap_token last ∷ []) e.spec) (record { name = None; email = email })
unfolding back
angle_unnamed last email e = record { name = NoPhrase None refl NoComment; email = angle_email (gap_token last ∷ []) email e }
