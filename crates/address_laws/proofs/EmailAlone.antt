-- An address that reads, alone, as itself and without a name is an addr-spec without gaps.
use Rattle.std.proofs.Common.{◌≡◌, ◌≢◌, ℕ, ◌+◌, ◌<◌, ◌≤◌, Bool, true, false, not, ◌&&◌, ◌||◌, ◌==◌, List, [], ◌∷◌, ◌++◌, length, refl, sym, ap, ◌∙◌, subst, arith, append_assoc, cond, Option, Some, None}
use Rattle.std.specs.Prelude.{nat_le}
use Rattle.std.specs.List.{flat_map, list_all, list_any, AllZip}
use Rattle.std.specs.Str.{is_utf8}
use Rattle.std.specs.Coded.{Coded-set, coded_bool}
use Rattle.std.proofs.Math.Logic.{∥∥₁_elim}
use mathlib.Core.HLevel.{⊥_prop}
use Rattle.std.proofs.lemmas.Bool.{and_parts, leb-true}
use Rattle.std.proofs.lemmas.List.{append-nil, length-append}
use Rattle.std.proofs.lemmas.Str.{IsUtf8-from_is_utf8}
use Rattle.text_words.specs.Cuts.{Each, Stops, front, back}
use Rattle.text_words.specs.LineEnds.{begins_with_lf}
use Rattle.text_words.specs.Octets.{is_white}
use Rattle.text_words.specs.Sequence.{Sequence}
use Rattle.text_words.proofs.CutLemmas.{front_back, each_list_all, list_all_each}
use Rattle.header_words.specs.EncodedWords.{is_control}
use Rattle.header_tokens.specs.declared.token.Alphabet.TheVariants as alphabet
use Rattle.header_tokens.specs.reading.LexemeReading.{tokens_in, rest_in}
use Rattle.header_tokens.specs.Tokens.{Spelled, AreTokens}
use Rattle.header_tokens.specs.Kinds.{is_gap}
use Rattle.header_tokens.specs.Lexemes.{is_lexeme}
use Rattle.header_tokens.proofs.LeadingLemmas.{all_read, one_tokens}
use Rattle.header_tokens.proofs.LexemeLemmas.{leads, no_row}
use Rattle.header_tokens.proofs.OneToken.{token_reader}
use Rattle.header_addresses.specs.declared.address.Address.{Address}
use Rattle.header_addresses.specs.declared.address.Group.{Group}
use Rattle.header_addresses.specs.Mailboxes.{is_addr_spec, is_no_colon, behind_colon, behind_route, Mailbox}
use Rattle.header_addresses.specs.AddressLists.{Element, Empty, Head, End, Member, IsElement, Comma, Blank, Phrase, Closed, Bare, InAngle, AreMailboxes, NoMailboxes, EmptyPlace, NextMailbox}
use Rattle.header_addresses.specs.AddressLists.{Addressee, One, Group as GroupOf, AreAddressees, NoAddressees, Passed, NextOne, NextGroup, Grouped, run_of, groups_from, groups_of}
use Rattle.header_addresses.specs.Names.{spelling, IsAddress, IsGroup, IsGroupsForm, NoGroups, Groups, members_in}
use Rattle.header_addresses.proofs.GroupLemmas.{zip_append}
use Rattle.mail_header.specs.Lines.{unfolded}
use Rattle.mail_header.specs.RawForms.{is_no_zero}
use Rattle.mail_drafts.specs.Identifiers.{ends_identifier, is_identifier}
use Rattle.mail_drafts.specs.Lines.{is_line}
use Rattle.mail_drafts.specs.Mailboxes.{is_comma, ReadsAlone}
use Rattle.mail_drafts.specs.declared.mailbox.Mailbox.{Mailbox as Given}
use Rattle.message_lines.specs.Subjects.{has_word_mark}
use Rattle.message_laws.specs.SafeTexts.{is_line_octet}
use Rattle.message_laws.proofs.Lines.{line_printed}
use Rattle.message_laws.proofs.RawLines.{IsClean, raw_is}

-- ---- the mailboxes of elements

abbrev boxes_in : List Element → List Mailbox
boxes_in [] = []
boxes_in (Member m ∷ es) = m ∷ boxes_in es
boxes_in (Empty ∷ es) = boxes_in es
boxes_in (Head ph ∷ es) = boxes_in es
boxes_in (End ∷ es) = boxes_in es

abbrev boxes_of : List Addressee → List Mailbox
boxes_of [] = []
boxes_of (One m ∷ who) = m ∷ boxes_of who
boxes_of (GroupOf ph ms ∷ who) = ms ++ boxes_of who

inner_boxes : (ms : List Mailbox) (es fs : List Element) → AreMailboxes ms es → boxes_in (es ++ fs) ≡ ms ++ boxes_in fs
inner_boxes _ _ fs NoMailboxes = refl
inner_boxes _ _ fs (EmptyPlace ms es a) = inner_boxes ms es fs a
inner_boxes _ _ fs (NextMailbox m ms es a) = ap (λ (u : List Mailbox). m ∷ u) (inner_boxes ms es fs a)

same_boxes : (who : List Addressee) (es : List Element) → AreAddressees who es → boxes_of who ≡ boxes_in es
same_boxes _ _ NoAddressees = refl
same_boxes _ _ (Passed who es a) = same_boxes who es a
same_boxes _ _ (NextOne m who es a) = ap (λ (u : List Mailbox). m ∷ u) (same_boxes who es a)
same_boxes _ _ (NextGroup g who es a) = ap (λ (u : List Mailbox). g.mailboxes ++ u) (same_boxes who es a) ∙ sym (inner_boxes g.mailboxes g.inner (End ∷ es) g.are_mailboxes)

abbrev boxes_of_group : Grouped → List Mailbox
boxes_of_group p = p.1

run_boxes : (run : List Mailbox) (more : List Grouped) → flat_map boxes_of_group (run_of run ++ more) ≡ run ++ flat_map boxes_of_group more
run_boxes [] more = refl
run_boxes (m ∷ ms) more = refl

group_boxes : (run : List Mailbox) (who : List Addressee) → flat_map boxes_of_group (groups_from run who) ≡ run ++ boxes_of who
group_boxes run [] = ap (flat_map boxes_of_group) (sym (append-nil (run_of run))) ∙ run_boxes run []
group_boxes run (One m ∷ who) = group_boxes (run ++ m ∷ []) who ∙ append_assoc run (m ∷ []) (boxes_of who)
group_boxes run (GroupOf ph ms ∷ who) = run_boxes run ((Some ph, ms) ∷ groups_from [] who) ∙ ap (λ (u : List Mailbox). run ++ (ms ++ u)) (group_boxes [] who)

zip_members : (gs : List Grouped) (groups : List Group) → AllZip IsGroup gs groups → AllZip IsAddress (flat_map boxes_of_group gs) (flat_map members_in groups)
zip_members [] [] z = tt
zip_members [] (g ∷ groups) z = absurd z
zip_members (p ∷ gs) [] z = absurd z
zip_members (p ∷ gs) (g ∷ groups) z = zip_append IsAddress p.1 (flat_map boxes_of_group gs) g.members (flat_map members_in groups) z.0.members (zip_members gs groups z.1)

-- ---- how many octets tokens have

abbrev weight : List Spelled → ℕ
weight [] = 0
weight (s ∷ ts) = length s.text + weight ts

weight-append : (ts us : List Spelled) → weight (ts ++ us) ≡ weight ts + weight us
weight-append [] us = omega arith
weight-append (s ∷ ts) us = omega (arith, weight-append ts us)

-- each has an octet
abbrev AreSome : List Spelled → Type 0
AreSome [] = Unit {0}
AreSome (s ∷ ts) = (s.text ≢ []) × AreSome ts

some_append : (ts us : List Spelled) → AreSome (ts ++ us) → AreSome ts × AreSome us
some_append [] us h = (tt, h)
some_append (s ∷ ts) us h = let k = some_append ts us h.1 in ((h.0, k.0), k.1)

tokens_weight : (ts : List Spelled) (t : List ℕ) → AreTokens alphabet.Mail ts t → (weight ts ≡ length t) × AreSome ts
tokens_weight [] t h = (sym (ap length h), tt)
tokens_weight (v ∷ vs) t h =
    let k = tokens_weight vs h.rest h.more in
    let n = (token_reader alphabet.Mail).some v h.unit h.rest h.is in
    (omega (arith, ap length h.is.text_is, k.0, ap length h.whole, length-append h.unit h.rest), (λ e. n (sym h.is.text_is ∙ e), k.1))

some_len : (t : List ℕ) → t ≢ [] → 1 ≤ length t
some_len [] n = absurd (n refl)
some_len (c ∷ t) n = omega arith

spelled_len : (ts : List Spelled) → length (spelling ts) ≤ weight ts
spelled_len [] = omega arith
spelled_len (s ∷ ts) = by (is_gap s) (spelled_len ts)
  where
    by : (q : Bool) → length (spelling ts) ≤ weight ts → length (cond q [] s.text ++ spelling ts) ≤ length s.text + weight ts
    by true h = omega arith
    by false h = omega (arith, length-append s.text (spelling ts))

truth : (b : Bool) → not b ≡ false → b ≡ true
truth true e = refl
truth false e = absurd cc

-- where all octets are spelled there are no gaps
no_gaps : (ts : List Spelled) → AreSome ts → weight ts ≤ length (spelling ts) → Each is_lexeme ts
no_gaps [] h le = tt
no_gaps (s ∷ ts) h le = by (is_gap s) refl le (λ k. no_gaps ts h.1 k)
  where
    by : (q : Bool) → is_gap s ≡ q → length s.text + weight ts ≤ length (cond q [] s.text ++ spelling ts) → (weight ts ≤ length (spelling ts) → Each is_lexeme ts)
        → Each is_lexeme (s ∷ ts)
    by true e f more = absurd (omega (arith, f, spelled_len ts, some_len s.text h.0))
    by false e f more = (truth (is_lexeme s) e, more (omega (arith, f, length-append s.text (spelling ts))))

behind_len : (f b : List Spelled) → weight (behind_colon f b) ≤ weight (f ++ b)
behind_len f [] = omega (arith, weight-append f [])
behind_len f (c ∷ b) = omega (arith, weight-append f (c ∷ b))

route_len : (ts : List Spelled) → weight (behind_route ts) ≤ weight ts
route_len ts = omega (arith, behind_len (front is_no_colon ts) (back is_no_colon ts), ap weight (front_back is_no_colon ts))

-- what the tokens of an element have
data Weighs (ts : List Spelled) : Element → Type 0 where
  Alone : (m : Mailbox) → ts ≡ m.spec → is_addr_spec m.spec ≡ true → Weighs ts (Member m)
  Angled : (m : Mailbox) → length (spelling m.spec) < weight ts → Weighs ts (Member m)
  Filler : (v : Element) → boxes_in (v ∷ []) ≡ [] → 1 ≤ weight ts → Weighs ts v

some_weight : (ts : List Spelled) → AreSome ts → ts ≢ [] → 1 ≤ weight ts
some_weight [] h n = absurd (n refl)
some_weight (s ∷ ts) h n = omega (arith, some_len s.text h.0)

some_phrase : (ph : List Spelled) (c : Spelled) → ph ++ c ∷ [] ≢ []
some_phrase [] c = λ e. absurd cc
some_phrase (p ∷ ph) c = λ e. absurd cc

some_cons : (c : Spelled) (t : List Spelled) → c ∷ t ≢ []
some_cons c t = λ e. absurd cc

weighs : (v : Element) (ts rest : List Spelled) → AreSome ts → IsElement v ts rest → Weighs ts v
weighs _ _ rest h (Comma c _ e) = Filler Empty refl (some_weight (c ∷ []) h (some_cons c []))
weighs _ _ rest h (Blank gaps _ r e) = Filler Empty refl (some_weight gaps h r.1)
weighs _ _ rest h (Phrase ph _ colon e f) = Filler (Head ph) refl (some_weight (ph ++ colon ∷ []) h (some_phrase ph colon))
weighs _ _ rest h (Closed semicolon gaps _ e g f) = Filler End refl (some_weight (semicolon ∷ gaps) h (some_cons semicolon gaps))
weighs _ _ rest h (Bare spec _ e f) = Alone (record { phrase = []; spec = spec; behind = spec }) refl e
weighs _ _ rest h (InAngle a _ f) =
    let s = some_append a.phrase (a.less ∷ (a.inner ++ a.greater ∷ a.gaps)) h in
    let less = some_len a.less.text s.1.0 in
    Angled (record { phrase = a.phrase; spec = behind_route a.inner; behind = a.gaps })
    (omega (arith, spelled_len (behind_route a.inner), route_len a.inner, less, weight-append a.phrase (a.less ∷ (a.inner ++ a.greater ∷ a.gaps)), weight-append a.inner (a.greater ∷ a.gaps)))

-- the mailboxes are spelled by the tokens
boxes_weight : (es : List Element) (ts : List Spelled) (m : Mailbox) (ms : List Mailbox) → AreSome ts → Sequence IsElement es ts → boxes_in es ≡ m ∷ ms → length (spelling m.spec) ≤ weight ts
boxes_weight [] ts m ms h s e = absurd cc
boxes_weight (v ∷ es) ts m ms h s e =
    let k = some_append s.unit s.rest (subst (λ (u : List Spelled). AreSome u) s.whole h) in
    let w : weight ts ≡ weight s.unit + weight s.rest = ap weight s.whole ∙ weight-append s.unit s.rest in
    by v (weighs v s.unit s.rest k.0 s.is) e w (λ f. boxes_weight es s.rest m ms k.1 s.more f)
  where
    by : (v : Element) → Weighs s.unit v → boxes_in (v ∷ es) ≡ m ∷ ms → weight ts ≡ weight s.unit + weight s.rest → (boxes_in es ≡ m ∷ ms → length (spelling m.spec) ≤ weight s.rest)
        → length (spelling m.spec) ≤ weight ts
    by _ (Alone n u i) e w more = let q : n ≡ m = cc in omega (arith, spelled_len m.spec, w, ap weight u, ap (λ (x : Mailbox). weight x.spec) q)
    by _ (Angled n lt) e w more = let q : n ≡ m = cc in omega (arith, lt, w, ap (λ (x : Mailbox). length (spelling x.spec)) q)
    by Empty (Filler _ n le) e w more = omega (arith, more e, w)
    by (Head ph) (Filler _ n le) e w more = omega (arith, more e, w)
    by End (Filler _ n le) e w more = omega (arith, more e, w)
    by (Member x) (Filler _ n le) e w more = absurd cc

record IsAlone (m : Mailbox) (ts : List Spelled) : Type 0 where
  tokens : ts ≡ m.spec
  is_spec : is_addr_spec m.spec ≡ true
  no_gaps : Each is_lexeme m.spec

-- where one mailbox is spelled by all octets, it stands alone
alone : (es : List Element) (ts : List Spelled) (m : Mailbox) → AreSome ts → Sequence IsElement es ts → boxes_in es ≡ m ∷ [] → weight ts ≤ length (spelling m.spec) → IsAlone m ts
alone [] ts m h s e le = absurd cc
alone (v ∷ es) ts m h s e le =
    let k = some_append s.unit s.rest (subst (λ (u : List Spelled). AreSome u) s.whole h) in
    let w : weight ts ≡ weight s.unit + weight s.rest = ap weight s.whole ∙ weight-append s.unit s.rest in
    by v (weighs v s.unit s.rest k.0 s.is) e w k
  where
    none : (fs : List Element) (rest : List Spelled) → Sequence IsElement fs rest → AreSome rest → weight rest ≡ 0 → rest ≡ []
    none fs [] q h z = refl
    none fs (r ∷ rest) q h z = absurd (omega (arith, z, some_len r.text h.0))

    by : (v : Element) → Weighs s.unit v → boxes_in (v ∷ es) ≡ m ∷ [] → weight ts ≡ weight s.unit + weight s.rest → AreSome s.unit × AreSome s.rest → IsAlone m ts
    by _ (Alone n u i) e w k =
        let q : n ≡ m = cc in
        let z : s.rest ≡ [] = none es s.rest s.more k.1 (omega (arith, w, le, spelled_len m.spec, ap weight u, ap (λ (x : Mailbox). weight x.spec) q)) in
        let t : ts ≡ m.spec = s.whole ∙ ap (λ (r : List Spelled). s.unit ++ r) z ∙ append-nil s.unit ∙ u ∙ ap (λ (x : Mailbox). x.spec) q in
        record {
          tokens = t;
          is_spec = ap (λ (x : Mailbox). is_addr_spec x.spec) (sym q) ∙ i;
          no_gaps = no_gaps m.spec (subst (λ (u : List Spelled). AreSome u) t h) (omega (arith, ap weight t, le));
        }
    by _ (Angled n lt) e w k = let q : n ≡ m = cc in absurd (omega (arith, lt, w, le, ap (λ (x : Mailbox). length (spelling x.spec)) q))
    by Empty (Filler _ n ge) e w k = absurd (omega (arith, boxes_weight es s.rest m [] k.1 s.more e, w, ge, le))
    by (Head ph) (Filler _ n ge) e w k = absurd (omega (arith, boxes_weight es s.rest m [] k.1 s.more e, w, ge, le))
    by End (Filler _ n ge) e w k = absurd (omega (arith, boxes_weight es s.rest m [] k.1 s.more e, w, ge, le))
    by (Member x) (Filler _ n ge) e w k = absurd cc

unfolded_len : (t : List ℕ) → length (unfolded t) ≤ length t
unfolded_len [] = omega arith
unfolded_len (c ∷ t) = by (c == 10 || (c == 13 && begins_with_lf t)) (unfolded_len t)
  where
    by : (q : Bool) → length (unfolded t) ≤ length t → length (cond q (unfolded t) (c ∷ unfolded t)) ≤ length (c ∷ t)
    by true h = omega arith
    by false h = omega arith

-- the tokens of an addr-spec without gaps
record IsSpec (email : List ℕ) (spec : List Spelled) : Type 0 where
  tokens : AreTokens alphabet.Mail spec email
  is_spec : is_addr_spec spec ≡ true
  no_gaps : Each is_lexeme spec

spec_of_alone : (email : List ℕ) → IsClean email → ReadsAlone email → (ts : List Spelled) × IsSpec email ts
spec_of_alone email k h = by (Some h.0) refl h.1
  where
    a : Address
    a = record { name = None; email = email }

    found : (es : List Element) (ts : List Spelled) (ms : List Mailbox) → AreTokens alphabet.Mail ts email → Sequence IsElement es ts → boxes_in es ≡ ms → AllZip IsAddress ms (a ∷ [])
        → (us : List Spelled) × IsSpec email us
    found es ts [] t s e z = absurd z
    found es ts (m ∷ n ∷ ms) t s e z = absurd z.1
    found es ts (m ∷ []) t s e z =
        let w = tokens_weight ts email t in
        let l : length email ≤ length (spelling m.spec) = omega (arith, ap length z.0.email, unfolded_len (spelling m.spec)) in
        let r = alone es ts m w.1 s e (omega (arith, w.0, l)) in
        (m.spec, record { tokens = subst (λ (u : List Spelled). AreTokens alphabet.Mail u email) r.tokens t; is_spec = r.is_spec; no_gaps = r.no_gaps })

    by : (o : Option (List Group)) → o ≡ Some h.0 → IsGroupsForm email o → (us : List Spelled) × IsSpec email us
    by _ e (NoGroups n) = absurd cc
    by _ e (Groups who list l z) =
        let q : list ≡ h.0 = cc in
        let m = zip_members (groups_of who) list z in
        found l.elements l.tokens (boxes_in l.elements) (subst (λ (u : List ℕ). AreTokens alphabet.Mail l.tokens u) (raw_is email k) l.are_tokens) l.are_elements refl
        (subst (λ (u : List Address). AllZip IsAddress (boxes_in l.elements) u) (ap (flat_map members_in) q ∙ sym h.2)
        (subst (λ (u : List Mailbox). AllZip IsAddress u (flat_map members_in list)) (group_boxes [] who ∙ same_boxes who l.elements l.are_addressees) m))

-- ---- the address of a mailbox of a draft

pub record IsPlainEmail (email : List ℕ) : Type 0 where
  pub spec : List Spelled
  pub tokens : AreTokens alphabet.Mail spec email
  pub is_spec : is_addr_spec spec ≡ true
  pub no_gaps : Each is_lexeme spec
  pub printed : Each is_line_octet email
  pub clean : IsClean email
  pub no_white : Stops is_white email
  pub some : email ≢ []
  pub no_mark : has_word_mark email ≡ false

no_zero : (c : ℕ) → is_line_octet c ≡ true → is_no_zero c ≡ true
no_zero c e = grind arith

no_zeros : (t : List ℕ) → Each is_line_octet t → Each is_no_zero t
no_zeros [] e = tt
no_zeros (c ∷ t) e = (no_zero c e.0, no_zeros t e.1)

-- a line in UTF-8 is its own raw form
pub line_clean : (t : List ℕ) → is_line t ≡ true → IsClean t
line_clean t e = record { utf8 = IsUtf8-from_is_utf8 t (and_parts (is_utf8 t) (not (list_any is_control t)) e).0; no_zero = no_zeros t (line_printed t e) }

no_white_octet : (c : ℕ) → is_line_octet c ≡ true → ends_identifier c ≡ false → is_white c ≡ false
no_white_octet c e f = grind arith

falsehood : (b : Bool) → not b ≡ true → b ≡ false
falsehood true e = absurd cc
falsehood false e = refl

first_is : (t : List ℕ) → Each is_line_octet t → list_any ends_identifier t ≡ false → Stops is_white t
first_is [] e f = tt
first_is (c ∷ t) e f = by (ends_identifier c) refl f
  where
    by : (b : Bool) → ends_identifier c ≡ b → (b || list_any ends_identifier t) ≡ false → is_white c ≡ false
    by true g h = absurd cc
    by false g h = no_white_octet c e.0 g

-- what reads merely alone is one row of tokens
nothing_left : (m : Given) → IsClean m.email → rest_in alphabet.Mail m.email ≡ []
nothing_left m k = by (rest_in alphabet.Mail m.email) refl
  where
    by : (r : List ℕ) → rest_in alphabet.Mail m.email ≡ r → r ≡ []
    by [] e = refl
    by (c ∷ t) e =
        let left : rest_in alphabet.Mail m.email ≢ [] = λ n. (let f : c ∷ t ≡ [] = sym e ∙ n in cc) in
        absurd (∥∥₁_elim m.alone_is ⊥_prop (λ h. (let s = spec_of_alone m.email k h in no_row alphabet.Mail m.email left s.0 s.1.tokens)))

pub plain_email : (m : Given) → IsPlainEmail m.email
plain_email m =
    let q = and_parts (is_identifier m.email && not (list_any is_comma m.email)) (not (has_word_mark m.email)) m.email_is in
    let r = and_parts (is_line m.email && nat_le 1 (length m.email)) (not (list_any ends_identifier m.email)) (and_parts (is_identifier m.email) (not (list_any is_comma m.email)) q.0).0 in
    let s = and_parts (is_line m.email) (nat_le 1 (length m.email)) r.0 in
    let k = line_clean m.email s.0 in
    let printed = line_printed m.email s.0 in
    let some : 1 ≤ length m.email = leb-true 1 (length m.email) s.1 in
    let ts = tokens_in alphabet.Mail m.email in
    let are : AreTokens alphabet.Mail ts m.email = all_read alphabet.Mail ts (rest_in alphabet.Mail m.email) m.email (leads alphabet.Mail m.email) (nothing_left m k) in
    record {
      spec = ts;
      tokens = are;
      is_spec = ∥∥₁_elim m.alone_is (Coded-set coded_bool (is_addr_spec ts) true)
          (λ h. (let p = spec_of_alone m.email k h in ap is_addr_spec (one_tokens alphabet.Mail ts p.0 m.email are p.1.tokens) ∙ p.1.is_spec));
      no_gaps = list_all_each is_lexeme ts (∥∥₁_elim m.alone_is (Coded-set coded_bool (list_all is_lexeme ts) true)
          (λ h. (let p = spec_of_alone m.email k h in ap (list_all is_lexeme) (one_tokens alphabet.Mail ts p.0 m.email are p.1.tokens) ∙ each_list_all is_lexeme p.0 p.1.no_gaps)));
      printed = printed;
      clean = k;
      no_white = first_is m.email printed (falsehood (list_any ends_identifier m.email) r.1);
      some = λ n. absurd (omega (arith, some, ap length n));
      no_mark = falsehood (has_word_mark m.email) q.1;
    }
