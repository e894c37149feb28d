-- Lists of mailboxes that are written are read as the mailboxes.
use Rattle.std.proofs.Common.{◌≡◌, ◌≢◌, ℕ, Bool, true, false, List, [], ◌∷◌, ◌++◌, map, refl, sym, ap, ◌∙◌, subst, arith, append_assoc, Option, Some, None}
use Rattle.std.specs.List.{AllZip}
use Rattle.std.proofs.lemmas.List.{append-nil}
use Rattle.text_words.specs.Cuts.{IsRun, Stops}
use Rattle.text_words.specs.Octets.{is_white}
use Rattle.text_words.specs.Sequence.{Sequence}
use Rattle.header_tokens.specs.declared.token.Alphabet.TheVariants as alphabet
use Rattle.header_tokens.specs.Tokens.{is_letter, Spelled, AreTokens}
use Rattle.header_addresses.specs.declared.address.Address.{Address}
use Rattle.header_addresses.specs.declared.address.Group.{Group}
use Rattle.header_addresses.specs.Mailboxes.{Mailbox}
use Rattle.header_addresses.specs.AddressLists.{Element, Empty, Member, IsElement, Comma, AreMailboxes, NoMailboxes, EmptyPlace, NextMailbox, EndsElement, One, AreAddressees, NoAddressees, Passed, NextOne}
use Rattle.header_addresses.specs.AddressLists.{IsAddressList, Grouped, run_of, groups_from}
use Rattle.header_addresses.specs.Names.{IsAddress, IsGroup, NoName, Groups, IsAddressesForm}
use Rattle.loose_addresses.specs.LooseForms.{ByGrammar}
use Rattle.mail_header.specs.RawForms.{raw_form}
use Rattle.mail_drafts.specs.Lines.{is_line}
use Rattle.mail_drafts.specs.Mailboxes.{is_line_or_none}
use Rattle.mail_drafts.specs.declared.mailbox.Mailbox.{Mailbox as Given}
use Rattle.message_lines.specs.declared.folding.Line.{Line}
use Rattle.message_lines.specs.Folding.{FieldPiece, plain_piece, is_short, line_with, next_line, gap, laid, line_after}
use Rattle.message_lines.proofs.LineLemmas.{laid-append}
use Rattle.message_texts.specs.AddressTexts.{angle_piece, IsAddressText, Unnamed, Named, AreAddressTexts, NoAddress, NextAddress}
use Rattle.message_laws.proofs.Tokens.{gap_token, gap_before, mark_token, mark_before, atom_token, atom_before}
use Rattle.address_laws.specs.MailboxReading.{shown_name, shown_mailbox, AreMailboxesOf}
use Rattle.address_laws.proofs.TokenRows.{tokens_before}
use Rattle.address_laws.proofs.EmailAlone.{IsPlainEmail, plain_email}
use Rattle.address_laws.proofs.MailboxTokens.{AreAtoms, phrase_tokens, bare_mailbox, bare_element, bare_address, angle_mailbox, angle_element, angle_address, angle_unnamed}
use Rattle.address_laws.proofs.NameReading.{NameRead, Nameless, AsAtoms, name_read}
use Rattle.address_laws.proofs.Untorn.{raw_same, untorn_list}

-- ---- tokens of pieces

gap_no_letter : (short : Bool) (t : List ℕ) → Stops (is_letter alphabet.Mail) (gap short ++ t)
gap_no_letter true t = refl
gap_no_letter false t = refl

letter_no_white : (c : ℕ) → is_letter alphabet.Mail c ≡ true → is_white c ≡ false
letter_no_white c e = grind arith

run_no_white : (w t : List ℕ) → IsRun (is_letter alphabet.Mail) w → Stops is_white (w ++ t)
run_no_white [] t r = absurd (r.1 refl)
run_no_white (c ∷ w) t r = letter_no_white c r.0.0

gap_stops : (line : Line) (ps : List FieldPiece) (last : Bool) (t : List ℕ) → Stops (is_letter alphabet.Mail) (laid line ps ++ (gap last ++ t))
unfolding laid
gap_stops line [] last t = gap_no_letter last t
gap_stops line (p ∷ ps) last t =
    let short = is_short (line_with line p) in
    subst (λ (u : List ℕ). Stops (is_letter alphabet.Mail) u) (sym (append_assoc (gap short) (p.text ++ laid (next_line line p) ps) (gap last ++ t))) (gap_no_letter short _)

-- the tokens of a name's pieces, and of a gap, before a "<"
name_before : (line : Line) (ps : List FieldPiece) (last : Bool) (us : List Spelled) (t : List ℕ) → AreAtoms ps → AreTokens alphabet.Mail us (60 ∷ t)
    → AreTokens alphabet.Mail (phrase_tokens line ps last ++ us) (laid line ps ++ (gap last ++ 60 ∷ t))
unfolding laid
name_before line [] last us t n h = gap_before alphabet.Mail last us (60 ∷ t) refl h
name_before line (p ∷ ps) last us t n h =
    let short = is_short (line_with line p) in
    let behind = gap last ++ 60 ∷ t in
    let more = laid (next_line line p) ps in
    let ts = phrase_tokens (next_line line p) ps last ++ us in
    subst (λ (u : List ℕ). AreTokens alphabet.Mail (gap_token short ∷ atom_token p.text ∷ ts) u)
    (sym (append_assoc (gap short) (p.text ++ more) behind ∙ ap (λ (u : List ℕ). gap short ++ u) (append_assoc p.text more behind)))
    (gap_before alphabet.Mail short (atom_token p.text ∷ ts) (p.text ++ (more ++ behind)) (run_no_white p.text (more ++ behind) n.0)
    (atom_before alphabet.Mail p.text ts (more ++ behind) n.0 (gap_stops (next_line line p) ps last (60 ∷ t)) (name_before (next_line line p) ps last us t n.1 h)))

-- ---- one mailbox

-- the pieces are tokens before any text that goes on with no letter, and these are one element of a list, which names the address
record MailboxRead (line : Line) (end : List ℕ) (a : Address) (ps : List FieldPiece) : Type 0 where
  text : List ℕ
  whole : laid line ps ≡ text ++ end
  tokens : List Spelled
  before : (es : List Spelled) (t : List ℕ) → Stops (is_letter alphabet.Mail) t → AreTokens alphabet.Mail es t → AreTokens alphabet.Mail (tokens ++ es) (text ++ t)
  mailbox : Mailbox
  element : (rest : List Spelled) → EndsElement rest → IsElement (Member mailbox) tokens rest
  is : IsAddress mailbox a

bare_read : (line : Line) (end email : List ℕ) → IsPlainEmail email → MailboxRead line end (record { name = None; email = email }) (plain_piece (email ++ end) ∷ [])
unfolding laid
bare_read line end email e =
    let short = is_short (line_with line (plain_piece (email ++ end))) in
    record {
      text = gap short ++ email;
      whole = ap (λ (u : List ℕ). gap short ++ u) (append-nil (email ++ end)) ∙ sym (append_assoc (gap short) email end);
      tokens = gap_token short ∷ e.spec;
      before = λ es t s h. subst (λ (u : List ℕ). AreTokens alphabet.Mail (gap_token short ∷ (e.spec ++ es)) u) (sym (append_assoc (gap short) email t))
          (gap_before alphabet.Mail short (e.spec ++ es) (email ++ t) (first email t e.no_white e.some) (tokens_before alphabet.Mail e.spec es email t e.tokens e.no_gaps s h));
      mailbox = bare_mailbox short e.spec;
      element = λ rest f. bare_element short email e rest f;
      is = bare_address short email e;
    }
  where
    first : (email t : List ℕ) → Stops is_white email → email ≢ [] → Stops is_white (email ++ t)
    first [] t s n = absurd (n refl)
    first (c ∷ email) t s n = s

angle_read : (line : Line) (end email : List ℕ) (ps : List FieldPiece) (name : Option (List ℕ)) (e : IsPlainEmail email) → AreAtoms ps
    → ((last : Bool) → IsAddress (angle_mailbox (phrase_tokens line ps last) e.spec) (record { name = name; email = email }))
    → MailboxRead line end (record { name = name; email = email }) (ps ++ angle_piece email end ∷ [])
unfolding laid
angle_read line end email ps name e f named =
    let q = angle_piece email end in
    let last = is_short (line_with (line_after line ps) q) in
    let phrase = phrase_tokens line ps last in
    let x = laid line ps ++ (gap last ++ 60 ∷ (email ++ 62 ∷ [])) in
    record {
      text = x;
      whole = laid-append line ps (q ∷ [])
          ∙ ap (λ (u : List ℕ). laid line ps ++ (gap last ++ u)) (append-nil (60 ∷ (email ++ 62 ∷ end)) ∙ ap (λ (u : List ℕ). 60 ∷ u) (sym (append_assoc email (62 ∷ []) end)))
          ∙ ap (λ (u : List ℕ). laid line ps ++ u) (sym (append_assoc (gap last) (60 ∷ (email ++ 62 ∷ [])) end))
          ∙ sym (append_assoc (laid line ps) (gap last ++ 60 ∷ (email ++ 62 ∷ [])) end);
      tokens = phrase ++ mark_token 60 ∷ (e.spec ++ mark_token 62 ∷ []);
      before = λ es t z h.
          let inner : AreTokens alphabet.Mail (mark_token 60 ∷ (e.spec ++ mark_token 62 ∷ es)) (60 ∷ (email ++ 62 ∷ t)) =
          mark_before alphabet.Mail 60 (e.spec ++ mark_token 62 ∷ es) (email ++ 62 ∷ t) refl
          (tokens_before alphabet.Mail e.spec (mark_token 62 ∷ es) email (62 ∷ t) e.tokens e.no_gaps refl (mark_before alphabet.Mail 62 es t refl h)) in
          let b = name_before line ps last (mark_token 60 ∷ (e.spec ++ mark_token 62 ∷ es)) (email ++ 62 ∷ t) f inner in
          let tokens_are : phrase ++ mark_token 60 ∷ (e.spec ++ mark_token 62 ∷ es) ≡ (phrase ++ mark_token 60 ∷ (e.spec ++ mark_token 62 ∷ [])) ++ es =
          sym (append_assoc phrase (mark_token 60 ∷ (e.spec ++ mark_token 62 ∷ [])) es
          ∙ ap (λ (u : List Spelled). phrase ++ mark_token 60 ∷ u) (append_assoc e.spec (mark_token 62 ∷ []) es)) in
          let text_is : laid line ps ++ (gap last ++ 60 ∷ (email ++ 62 ∷ t)) ≡ x ++ t =
          sym (append_assoc (laid line ps) (gap last ++ 60 ∷ (email ++ 62 ∷ [])) t
          ∙ ap (λ (u : List ℕ). laid line ps ++ u) (append_assoc (gap last) (60 ∷ (email ++ 62 ∷ [])) t
          ∙ ap (λ (u : List ℕ). gap last ++ 60 ∷ u) (append_assoc email (62 ∷ []) t))) in
          subst (λ (u : List ℕ). AreTokens alphabet.Mail ((phrase ++ mark_token 60 ∷ (e.spec ++ mark_token 62 ∷ [])) ++ es) u) text_is
          (subst (λ (u : List Spelled). AreTokens alphabet.Mail u (laid line ps ++ (gap last ++ 60 ∷ (email ++ 62 ∷ t)))) tokens_are b);
      mailbox = angle_mailbox phrase e.spec;
      element = λ rest z. angle_element line ps last email e rest z;
      is = named last;
    }

some_shown : (name : List ℕ) → name ≢ [] → shown_name (Some name) ≡ Some name
some_shown [] n = absurd (n refl)
some_shown (c ∷ name) n = refl

named_read : (line : Line) (end email name : List ℕ) (ps : List FieldPiece) → IsPlainEmail email → NameRead name ps
    → MailboxRead line end (record { name = shown_name (Some name); email = email }) (ps ++ angle_piece email end ∷ [])
named_read line end email name _ e (Nameless n) =
    subst (λ (u : List ℕ). MailboxRead line end (record { name = shown_name (Some u); email = email }) (angle_piece email end ∷ [])) (sym n)
    (angle_read line end email [] None e tt (λ last. angle_unnamed last email e))
named_read line end email name _ e (AsAtoms p ps f n said) =
    subst (λ (o : Option (List ℕ)). MailboxRead line end (record { name = o; email = email }) ((p ∷ ps) ++ angle_piece email end ∷ [])) (sym (some_shown name n))
    (angle_read line end email (p ∷ ps) (Some name) e f (λ last. angle_address line p ps last email name e f.0 f.1 said))

mailbox_read : (line : Line) (end : List ℕ) (m : Given) (ps : List FieldPiece) → IsAddressText line end m ps → MailboxRead line end (shown_mailbox m) ps
mailbox_read line end m _ (Unnamed n) =
    subst (λ (o : Option (List ℕ)). MailboxRead line end (record { name = shown_name o; email = m.email }) (plain_piece (m.email ++ end) ∷ [])) (sym n)
    (bare_read line end m.email (plain_email m))
mailbox_read line end m _ (Named name ps n t) =
    let i : is_line name ≡ true = subst (λ (o : Option (List ℕ)). is_line_or_none o ≡ true) n m.name_is in
    subst (λ (o : Option (List ℕ)). MailboxRead line end (record { name = shown_name o; email = m.email }) (ps ++ angle_piece m.email end ∷ [])) (sym n)
    (named_read line end m.email name ps (plain_email m) (name_read line name ps i t))

-- ---- lists

record ListRead (list : List Address) (t : List ℕ) : Type 0 where
  tokens : List Spelled
  are : AreTokens alphabet.Mail tokens t
  elements : List Element
  sequence : Sequence IsElement elements tokens
  mailboxes : List Mailbox
  members : AreMailboxes mailboxes elements
  zip : AllZip IsAddress mailboxes list

none_more : (line : Line) (ps : List FieldPiece) → AreAddressTexts line [] ps → ps ≡ []
none_more _ _ (NoAddress line) = refl

list_read : (line : Line) (list : List Given) (ps : List FieldPiece) → AreAddressTexts line list ps → ListRead (map shown_mailbox list) (laid line ps)
unfolding laid
list_read _ _ _ (NoAddress line) = record { tokens = []; are = refl; elements = []; sequence = refl; mailboxes = []; members = NoMailboxes; zip = tt }
list_read _ _ _ (NextAddress line m [] ps qs is more) =
    let h = mailbox_read line [] m ps is in
    let whole : laid line (ps ++ qs) ≡ h.text ++ [] = ap (λ (u : List FieldPiece). laid line (ps ++ u)) (none_more (line_after line ps) qs more) ∙ ap (laid line) (append-nil ps) ∙ h.whole in
    record {
      tokens = h.tokens;
      are = subst (λ (u : List ℕ). AreTokens alphabet.Mail h.tokens u) (sym whole) (subst (λ (u : List Spelled). AreTokens alphabet.Mail u (h.text ++ [])) (append-nil h.tokens) (h.before [] [] tt refl));
      elements = Member h.mailbox ∷ [];
      sequence = record { unit = h.tokens; rest = []; whole = sym (append-nil h.tokens); is = h.element [] tt; more = refl };
      mailboxes = h.mailbox ∷ [];
      members = NextMailbox h.mailbox [] [] NoMailboxes;
      zip = (h.is, tt);
    }
list_read _ _ _ (NextAddress line m (n ∷ list) ps qs is more) =
    let h = mailbox_read line (44 ∷ []) m ps is in
    let r = list_read (line_after line ps) (n ∷ list) qs more in
    let behind = laid (line_after line ps) qs in
    let whole : laid line (ps ++ qs) ≡ h.text ++ 44 ∷ behind =
    laid-append line ps qs ∙ ap (λ (u : List ℕ). u ++ behind) h.whole ∙ append_assoc h.text (44 ∷ []) behind in
    record {
      tokens = h.tokens ++ mark_token 44 ∷ r.tokens;
      are = subst (λ (u : List ℕ). AreTokens alphabet.Mail (h.tokens ++ mark_token 44 ∷ r.tokens) u) (sym whole)
          (h.before (mark_token 44 ∷ r.tokens) (44 ∷ behind) refl (mark_before alphabet.Mail 44 r.tokens behind refl r.are));
      elements = Member h.mailbox ∷ Empty ∷ r.elements;
      sequence = record {
        unit = h.tokens;
        rest = mark_token 44 ∷ r.tokens;
        whole = refl;
        is = h.element (mark_token 44 ∷ r.tokens) refl;
        more = record { unit = mark_token 44 ∷ []; rest = r.tokens; whole = refl; is = Comma (mark_token 44) r.tokens refl; more = r.sequence };
      };
      mailboxes = h.mailbox ∷ r.mailboxes;
      members = NextMailbox h.mailbox r.mailboxes (Empty ∷ r.elements) (EmptyPlace r.mailboxes r.elements r.members);
      zip = (h.is, r.zip);
    }

-- ---- the form

addressees : (ms : List Mailbox) (es : List Element) → AreMailboxes ms es → AreAddressees (map One ms) es
addressees _ _ NoMailboxes = NoAddressees
addressees _ _ (EmptyPlace ms es a) = Passed (map One ms) es (addressees ms es a)
addressees _ _ (NextMailbox m ms es a) = NextOne m (map One ms) es (addressees ms es a)

one_run : (run ms : List Mailbox) → groups_from run (map One ms) ≡ run_of (run ++ ms)
one_run run [] = ap run_of (sym (append-nil run))
one_run run (m ∷ ms) = one_run (run ++ m ∷ []) ms ∙ ap run_of (append_assoc run (m ∷ []) ms)

form_read : (raw : List ℕ) (a : Address) (list : List Address) → raw_form raw ≡ raw → ListRead (a ∷ list) raw → IsAddressesForm raw (Some (a ∷ list))
form_read raw a list same l = by l.mailboxes l.members l.zip
  where
    group : Group
    group = record { name = None; members = a ∷ list }

    by : (ms : List Mailbox) → AreMailboxes ms l.elements → AllZip IsAddress ms (a ∷ list) → IsAddressesForm raw (Some (a ∷ list))
    by [] m z = absurd z
    by (b ∷ ms) m z =
        let reading : IsAddressList (map One (b ∷ ms)) (raw_form raw) = record {
          tokens = l.tokens;
          are_tokens = subst (λ (u : List ℕ). AreTokens alphabet.Mail l.tokens u) (sym same) l.are;
          elements = l.elements;
          are_elements = l.sequence;
          are_addressees = addressees (b ∷ ms) l.elements m;
          some = λ n. absurd cc;
        } in
        let groups = Groups (map One (b ∷ ms)) (group ∷ []) reading
        (subst (λ (u : List Grouped). AllZip IsGroup u (group ∷ [])) (sym (one_run [] (b ∷ ms))) (record { name = NoName; members = z }, tt)) in
        (group ∷ [], groups, sym (append-nil (a ∷ list)))

pub addresses_are_read : (line : Line) (list : List Given) (ps : List FieldPiece) → list ≢ [] → AreAddressTexts line list ps → AreMailboxesOf list (laid line ps)
addresses_are_read line [] ps n t = absurd (n refl)
addresses_are_read line (m ∷ list) ps n t =
    let raw = laid line ps in
    let form = form_read raw (shown_mailbox m) (map shown_mailbox list) (raw_same line (m ∷ list) ps t) (list_read line (m ∷ list) ps t) in
    record { by_grammar = form; loosely = ByGrammar (map shown_mailbox (m ∷ list)) form (untorn_list line (m ∷ list) ps t) }
