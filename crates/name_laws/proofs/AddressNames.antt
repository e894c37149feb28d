-- No name of an address or a group has a control character.
use Rattle.std.proofs.Common.{◌≡◌, ℕ, Bool, true, false, ◌||◌, cond, List, [], ◌∷◌, ◌++◌, refl, sym, ap, subst, arith, Option, Some, None}
use Rattle.std.specs.List.{AllZip, flat_map, list_all}
use Rattle.text_words.specs.Cuts.{Each, front, back}
use Rattle.text_words.specs.Octets.{is_white}
use Rattle.text_words.specs.Sequence.{Sequence}
use Rattle.text_words.proofs.CutLemmas.{front_back, each_append, each_right, list_all_each}
use Rattle.header_words.specs.EncodedWords.{is_printed, IsText}
use Rattle.header_words.specs.declared.encoded_word.Edges.TheVariants as edges
use Rattle.mail_header.specs.RawForms.{raw_form}
use Rattle.mail_header.specs.WhiteEnd.{without_white_end, some_text}
use Rattle.header_tokens.specs.declared.token.Alphabet.TheVariants as alphabet
use Rattle.header_tokens.specs.declared.token.Kind.{Kind}
use Rattle.header_tokens.specs.declared.token.Kind.TheVariants as kind
use Rattle.header_tokens.specs.Kinds.{has_mark, is_gap, is_word}
use Rattle.header_tokens.specs.Tokens.{Spelled, IsKind, AreTokens, is_letter, is_mark}
use Rattle.header_tokens.specs.Words.{bracketed_text}
use Rattle.header_addresses.specs.declared.address.Address.{Address}
use Rattle.header_addresses.specs.declared.address.Group.{Group}
use Rattle.header_addresses.specs.AddressLists.{Element, IsElement, Comma, Blank, Phrase, Closed, Bare, InAngle, Empty, Head, End, Member, Addressee, One, Group as InGroup, AreMailboxes, NoMailboxes, EmptyPlace, NextMailbox}
use Rattle.header_addresses.specs.AddressLists.{AreAddressees, NoAddressees, Passed, NextOne, NextGroup, IsAddressList, Grouped, run_of, groups_from, groups_of}
use Rattle.header_addresses.specs.Mailboxes.{is_phrase, is_phrase_part, begins_phrase, Mailbox}
use Rattle.header_addresses.specs.Names.{shown_word, shown_inside, space, phrase_from, phrase_text, comment_text, comment_behind, IsCommentName, NoComment, OfComment, IsName, OfPhrase, NoPhrase, IsAddress, IsGroupName, NoName, Named, IsGroup}
use Rattle.header_addresses.specs.Names.{IsGroupsForm, Groups, IsAddressesForm, members_in}
use Rattle.header_addresses.specs.Parts.{IsOneAddress, IsPhraseName}
use Rattle.header_addresses.proofs.MailboxLemmas.{and_parts}
use Rattle.name_laws.specs.CleanNames.{IsClean, IsCleanName, HaveCleanNames, AreCleanGroups}
use Rattle.name_laws.proofs.CleanTexts.{clean_line, clean_text}

-- ---- tokens

letter_printed : (c : ℕ) → is_letter alphabet.Mail c ≡ true → is_printed c ≡ true
letter_printed c e = grind arith

mark_printed : (c : ℕ) → is_mark alphabet.Mail c ≡ true → is_printed c ≡ true
mark_printed c e = grind arith

letters_clean : (t : List ℕ) → Each (is_letter alphabet.Mail) t → IsClean t
letters_clean [] h = tt
letters_clean (c ∷ t) h = (letter_printed c h.0, letters_clean t h.1)

-- a token of a phrase shows no control character
IsShown : Spelled → Type 0
IsShown s = is_phrase_part s ≡ true → is_gap s ≡ false → IsClean (shown_word s.kind s.text)

AreShown : List Spelled → Type 0
AreShown [] = Unit {0}
AreShown (s ∷ ts) = IsShown s × AreShown ts

kind_shown : (k : Kind) (t : List ℕ) → IsKind alphabet.Mail k t → IsShown (record { kind = k; text = t })
unfolding IsShown
kind_shown kind.Atom t h = λ p g. letters_clean t h.0
kind_shown kind.Quoted t h = λ p g. clean_line (bracketed_text t)
kind_shown kind.Mark t h = λ p g. subst (λ (u : List ℕ). IsClean u) (sym h.1) (mark_printed h.0 h.2, tt)
kind_shown kind.Literal t h = λ p g. absurd cc
kind_shown kind.Space t h = λ p g. absurd cc
kind_shown kind.Comment t h = λ p g. absurd cc

tokens_shown : (ts : List Spelled) (t : List ℕ) → AreTokens alphabet.Mail ts t → AreShown ts
unfolding AreShown
tokens_shown [] t h = tt
tokens_shown (s ∷ ts) t h =
    (kind_shown s.kind s.text (subst (λ (u : List ℕ). IsKind alphabet.Mail s.kind u) (sym h.is.text_is) h.is.spelled), tokens_shown ts h.rest h.more)

shown_left : (xs ys : List Spelled) → AreShown (xs ++ ys) → AreShown xs
unfolding AreShown
shown_left [] ys h = tt
shown_left (x ∷ xs) ys h = (h.0, shown_left xs ys h.1)

shown_right : (xs ys : List Spelled) → AreShown (xs ++ ys) → AreShown ys
unfolding AreShown
shown_right [] ys h = h
shown_right (x ∷ xs) ys h = shown_right xs ys h.1

-- ---- phrases and comments

-- white space at the ends taken away leaves none
pub clean_trimmed : (t : List ℕ) → IsClean t → IsClean (without_white_end (back is_white t))
clean_trimmed t h = ends (back is_white t) (each_right is_printed (front is_white t) (back is_white t) (subst (λ (u : List ℕ). IsClean u) (front_back is_white t) h))
  where
    ends : (s : List ℕ) → IsClean s → IsClean (without_white_end s)
    ends [] g = tt
    ends (c ∷ s) g = by (list_all is_white (c ∷ s)) (ends s g.1)
      where
        by : (q : Bool) → IsClean (without_white_end s) → IsClean (cond q [] (c ∷ without_white_end s))
        by true k = tt
        by false k = (g.0, k)

clean_from : (gap : Bool) (ts : List Spelled) → AreShown ts → Each is_phrase_part ts → IsClean (phrase_from gap ts)
unfolding AreShown IsShown
clean_from gap [] h p = tt
clean_from gap (s ∷ ts) h p = by (is_gap s) refl (clean_from true ts h.1 p.1) (clean_from false ts h.1 p.1)
  where
    clean_space : (b : Bool) → IsClean (space b)
    clean_space true = (refl, tt)
    clean_space false = tt

    by : (q : Bool) → is_gap s ≡ q → IsClean (phrase_from true ts) → IsClean (phrase_from false ts)
        → IsClean (cond q (phrase_from true ts) (space gap ++ (shown_word s.kind s.text ++ phrase_from false ts)))
    by true e k l = k
    by false e k l =
        each_append is_printed (space gap) (shown_word s.kind s.text ++ phrase_from false ts) (clean_space gap)
        (each_append is_printed (shown_word s.kind s.text) (phrase_from false ts) (h.0 p.0 e) l)

phrase_parts : (ts : List Spelled) → begins_phrase ts ≡ true → Each is_phrase_part ts
phrase_parts [] e = tt
phrase_parts (s ∷ ts) e =
    let p = and_parts _ (list_all is_phrase_part ts) e in
    (word_part s p.0, list_all_each is_phrase_part ts p.1)
  where
    word_part : (s : Spelled) → is_word s ≡ true → is_phrase_part s ≡ true
    word_part s e = ap (λ (b : Bool). b || has_mark 46 s || is_gap s) e

clean_phrase : (ts : List Spelled) (name : List ℕ) → AreShown ts → is_phrase ts ≡ true → IsText false (phrase_text ts) name → IsClean name
clean_phrase ts name h p i =
    let s = shown_right (front is_gap ts) (back is_gap ts) (subst (λ (us : List Spelled). AreShown us) (front_back is_gap ts) h) in
    clean_text edges.White false (phrase_text ts) name i (clean_trimmed (phrase_from false (back is_gap ts)) (clean_from false (back is_gap ts) s (phrase_parts (back is_gap ts) p)))

pub clean_some : (t : List ℕ) → IsClean t → IsCleanName (some_text t)
clean_some [] h = tt
clean_some (c ∷ t) h = h

clean_comment : (c name : Option (List ℕ)) → IsCommentName c name → IsCleanName name
clean_comment _ _ NoComment = tt
clean_comment _ _ (OfComment c name i) = clean_some name (clean_text edges.White false (comment_text c) name i (clean_trimmed (shown_inside c) (clean_line (bracketed_text c))))

clean_name : (m : Mailbox) (name : Option (List ℕ)) → AreShown m.phrase → IsName m name → IsCleanName name
clean_name m _ h (OfPhrase name p i) = clean_phrase m.phrase name h p i
clean_name m _ h (NoPhrase name p i) = clean_comment (comment_behind None m.behind) name i

-- ---- elements

AreBoxes : List Mailbox → Type 0
AreBoxes [] = Unit {0}
AreBoxes (m ∷ ms) = AreShown m.phrase × AreBoxes ms

IsShownElement : Element → Type 0
IsShownElement Empty = Unit {0}
IsShownElement (Head phrase) = AreShown phrase × (is_phrase phrase ≡ true)
IsShownElement End = Unit {0}
IsShownElement (Member m) = AreShown m.phrase

AreElements : List Element → Type 0
AreElements [] = Unit {0}
AreElements (e ∷ es) = IsShownElement e × AreElements es

element_shown : (e : Element) (unit rest : List Spelled) → IsElement e unit rest → AreShown unit → IsShownElement e
unfolding IsShownElement AreShown
element_shown _ _ _ (Comma c rest m) h = tt
element_shown _ _ _ (Blank gaps rest r n) h = tt
element_shown _ _ _ (Phrase phrase rest colon p m) h = (shown_left phrase (colon ∷ []) h, p)
element_shown _ _ _ (Closed c gaps rest m g n) h = tt
element_shown _ _ _ (Bare spec rest s n) h = tt
element_shown _ _ _ (InAngle a rest n) h = shown_left a.phrase (a.less ∷ (a.inner ++ a.greater ∷ a.gaps)) h

elements_shown : (es : List Element) (ts : List Spelled) → Sequence IsElement es ts → AreShown ts → AreElements es
unfolding AreElements
elements_shown [] ts h s = tt
elements_shown (e ∷ es) ts h s =
    let w = subst (λ (us : List Spelled). AreShown us) h.whole s in
    (element_shown e h.unit h.rest h.is (shown_left h.unit h.rest w), elements_shown es h.rest h.more (shown_right h.unit h.rest w))

elements_left : (es fs : List Element) → AreElements (es ++ fs) → AreElements es
unfolding AreElements
elements_left [] fs h = tt
elements_left (e ∷ es) fs h = (h.0, elements_left es fs h.1)

elements_right : (es fs : List Element) → AreElements (es ++ fs) → AreElements fs
unfolding AreElements
elements_right [] fs h = h
elements_right (e ∷ es) fs h = elements_right es fs h.1

-- ---- addressees and groups

boxes_shown : (ms : List Mailbox) (es : List Element) → AreMailboxes ms es → AreElements es → AreBoxes ms
unfolding AreElements IsShownElement AreBoxes
boxes_shown _ _ NoMailboxes h = tt
boxes_shown _ _ (EmptyPlace ms es k) h = boxes_shown ms es k h.1
boxes_shown _ _ (NextMailbox m ms es k) h = (h.0, boxes_shown ms es k h.1)

AreWho : List Addressee → Type 0
AreWho [] = Unit {0}
AreWho (One m ∷ who) = AreShown m.phrase × AreWho who
AreWho (InGroup phrase ms ∷ who) = (AreShown phrase × (is_phrase phrase ≡ true) × AreBoxes ms) × AreWho who

who_shown : (who : List Addressee) (es : List Element) → AreAddressees who es → AreElements es → AreWho who
unfolding AreWho AreElements IsShownElement
who_shown _ _ NoAddressees h = tt
who_shown _ _ (Passed who es k) h = who_shown who es k h.1
who_shown _ _ (NextOne m who es k) h = (h.0, who_shown who es k h.1)
who_shown _ _ (NextGroup g who es k) h =
    ((h.0.0, h.0.1, boxes_shown g.mailboxes g.inner g.are_mailboxes (elements_left g.inner (End ∷ es) h.1)), who_shown who es k (elements_right g.inner (End ∷ es) h.1).1)

IsShownName : Option (List Spelled) → Type 0
IsShownName None = Unit {0}
IsShownName (Some phrase) = AreShown phrase × (is_phrase phrase ≡ true)

AreGroups : List Grouped → Type 0
AreGroups [] = Unit {0}
AreGroups (g ∷ gs) = (IsShownName g.0 × AreBoxes g.1) × AreGroups gs

boxes_more : (ms : List Mailbox) (m : Mailbox) → AreBoxes ms → AreShown m.phrase → AreBoxes (ms ++ m ∷ [])
unfolding AreBoxes
boxes_more [] m h s = (s, tt)
boxes_more (n ∷ ms) m h s = (h.0, boxes_more ms m h.1 s)

groups_both : (gs hs : List Grouped) → AreGroups gs → AreGroups hs → AreGroups (gs ++ hs)
unfolding AreGroups
groups_both [] hs g h = h
groups_both (k ∷ gs) hs g h = (g.0, groups_both gs hs g.1 h)

run_shown : (ms : List Mailbox) → AreBoxes ms → AreGroups (run_of ms)
unfolding AreGroups IsShownName
run_shown [] h = tt
run_shown (m ∷ ms) h = ((tt, h), tt)

groups_shown : (run : List Mailbox) (who : List Addressee) → AreBoxes run → AreWho who → AreGroups (groups_from run who)
unfolding AreBoxes AreWho AreGroups IsShownName
groups_shown run [] r h = run_shown run r
groups_shown run (One m ∷ who) r h = groups_shown (run ++ m ∷ []) who (boxes_more run m r h.0) h.1
groups_shown run (InGroup phrase ms ∷ who) r h =
    groups_both (run_of run) ((Some phrase, ms) ∷ groups_from [] who) (run_shown run r) (((h.0.0, h.0.1), h.0.2), groups_shown [] who tt h.1)

-- ---- readings

members_clean : (ms : List Mailbox) (list : List Address) → AllZip IsAddress ms list → AreBoxes ms → HaveCleanNames list
unfolding AreBoxes
members_clean [] [] z h = tt
members_clean [] (a ∷ list) z h = absurd z
members_clean (m ∷ ms) [] z h = absurd z
members_clean (m ∷ ms) (a ∷ list) z h = (clean_name m a.name h.0 z.0.name, members_clean ms list z.1 h.1)

clean_group_name : (p : Option (List Spelled)) (name : Option (List ℕ)) → IsGroupName p name → IsShownName p → IsCleanName name
unfolding IsShownName
clean_group_name _ _ NoName h = tt
clean_group_name _ _ (Named phrase name i) h = clean_phrase phrase name h.0 h.1 i

groups_clean : (gs : List Grouped) (list : List Group) → AllZip IsGroup gs list → AreGroups gs → AreCleanGroups list
unfolding AreGroups
groups_clean [] [] z h = tt
groups_clean [] (g ∷ list) z h = absurd z
groups_clean (k ∷ gs) [] z h = absurd z
groups_clean (k ∷ gs) (g ∷ list) z h =
    ((clean_group_name k.0 g.name z.0.name h.0.0, members_clean k.1 g.members z.0.members h.0.1), groups_clean gs list z.1 h.1)

list_shown : (who : List Addressee) (t : List ℕ) → IsAddressList who t → AreWho who
list_shown who t i = who_shown who i.elements i.are_addressees (elements_shown i.elements i.tokens i.are_elements (tokens_shown i.tokens t i.are_tokens))

-- the names of groups and of their members
pub clean_groups : (raw : List ℕ) (list : List Group) → IsGroupsForm raw (Some list) → AreCleanGroups list
unfolding AreBoxes
clean_groups raw _ (Groups who list i z) = groups_clean (groups_of who) list z (groups_shown [] who tt (list_shown who (raw_form raw) i))

pub names_both : (xs ys : List Address) → HaveCleanNames xs → HaveCleanNames ys → HaveCleanNames (xs ++ ys)
names_both [] ys g h = h
names_both (x ∷ xs) ys g h = (g.0, names_both xs ys g.1 h)

members_of : (gs : List Group) → AreCleanGroups gs → HaveCleanNames (flat_map members_in gs)
members_of [] h = tt
members_of (g ∷ gs) h = names_both g.members (flat_map members_in gs) h.0.1 (members_of gs h.1)

-- the names of addresses
pub clean_addresses : (raw : List ℕ) (list : List Address) → IsAddressesForm raw (Some list) → HaveCleanNames list
clean_addresses raw list h = subst (λ (u : List Address). HaveCleanNames u) (sym h.2) (members_of h.0 (clean_groups raw h.0 h.1))

-- the name of an address by itself
pub clean_one : (a : Address) (t : List ℕ) → IsOneAddress a t → IsCleanName a.name
unfolding AreWho
clean_one a t o = clean_name o.mailbox a.name (list_shown (One o.mailbox ∷ []) t o.is).0 o.address.name

-- that of a phrase
pub clean_phrase_name : (name t : List ℕ) → IsPhraseName name t → IsClean name
clean_phrase_name name t p = clean_phrase p.tokens name (tokens_shown p.tokens t p.are_tokens) p.phrase p.text
