-- The lists of addresses that elements make.
use Rattle.std.proofs.Common.{◌≡◌, ◌≢◌, ℕ, Bool, true, false, List, [], ◌∷◌, ◌++◌, refl, sym, ap, ◌∙◌, subst, append_assoc, Option, Some, None}
use Rattle.std.specs.List.{list_any}
use Rattle.std.proofs.lemmas.List.{append-nil}
use Rattle.text_words.specs.Sequence.{Sequence}
use Rattle.text_words.proofs.SequenceLemmas.{one_reading, determined}
use Rattle.header_tokens.specs.declared.token.Alphabet.TheVariants as alphabet
use Rattle.header_tokens.specs.Tokens.{Spelled, AreTokens}
use Rattle.header_addresses.specs.Mailboxes.{Mailbox}
use Rattle.header_addresses.specs.AddressLists.{Element, Empty, Head, End, Member, IsElement, Addressee, One, Group, AreMailboxes, NoMailboxes, EmptyPlace, NextMailbox}
use Rattle.header_addresses.specs.AddressLists.{AreAddressees}
use Rattle.header_addresses.specs.AddressLists.{NoAddressees, Passed, NextOne, NextGroup, IsAddressList, Grouped, run_of, groups_from}
use Rattle.header_addresses.specs.reading.ElementReading.{element_in, are_nested, is_addressee, grouped_from}
use Rattle.header_addresses.specs.reading.GroupBuilding.{are_list}
use Rattle.header_tokens.proofs.LeadingLemmas.{one_tokens}
use Rattle.header_addresses.proofs.MailboxLemmas.{and_parts, both}
use Rattle.header_addresses.proofs.ElementLemmas.{element_reader}

-- ---- what a list of addresses comes to

inner_nested : (ms : List Mailbox) (inner es : List Element) → AreMailboxes ms inner → are_nested true (inner ++ End ∷ es) ≡ are_nested false es
inner_nested _ _ es NoMailboxes = refl
inner_nested _ _ es (EmptyPlace ms inner h) = inner_nested ms inner es h
inner_nested _ _ es (NextMailbox m ms inner h) = inner_nested ms inner es h

nested : (who : List Addressee) (es : List Element) → AreAddressees who es → are_nested false es ≡ true
nested _ _ NoAddressees = refl
nested _ _ (Passed who es h) = nested who es h
nested _ _ (NextOne m who es h) = nested who es h
nested _ _ (NextGroup g who es h) = inner_nested g.mailboxes g.inner es g.are_mailboxes ∙ nested who es h

has_one : (who : List Addressee) (es : List Element) → AreAddressees who es → who ≢ [] → list_any is_addressee es ≡ true
has_one _ _ NoAddressees n = absurd (n refl)
has_one _ _ (Passed who es h) n = has_one who es h n
has_one _ _ (NextOne m who es h) n = refl
has_one _ _ (NextGroup g who es h) n = refl

-- the elements of a list of addresses with at least one mailbox or group pass the test for such lists
pub is_listed : (who : List Addressee) (es : List Element) → AreAddressees who es → who ≢ [] → are_list es ≡ true
is_listed who es h n = both (are_nested false es) (list_any is_addressee es) (nested who es h) (has_one who es h n)

inner_grouped : (phrase : List Spelled) (ms : List Mailbox) (inner es : List Element) → AreMailboxes ms inner → (so_far : List Mailbox)
    → (Some phrase, so_far ++ ms) ∷ grouped_from None [] es ≡ grouped_from (Some phrase) so_far (inner ++ End ∷ es)
inner_grouped phrase _ _ es NoMailboxes so_far = ap (λ (u : List Mailbox). (Some phrase, u) ∷ grouped_from None [] es) (append-nil so_far)
inner_grouped phrase _ _ es (EmptyPlace ms inner h) so_far = inner_grouped phrase ms inner es h so_far
inner_grouped phrase _ _ es (NextMailbox m ms inner h) so_far = ap (λ (u : List Mailbox). (Some phrase, u) ∷ grouped_from None [] es) (sym (append_assoc so_far (m ∷ []) ms))
    ∙ inner_grouped phrase ms inner es h (so_far ++ m ∷ [])

-- the groups of a list of addresses, after a run of mailboxes, are what its elements come to after the same run
pub groups_are : (who : List Addressee) (es : List Element) → AreAddressees who es → (run : List Mailbox) → groups_from run who ≡ grouped_from None run es
groups_are _ _ NoAddressees run = refl
groups_are _ _ (Passed who es h) run = groups_are who es h run
groups_are _ _ (NextOne m who es h) run = groups_are who es h (run ++ m ∷ [])
groups_are _ _ (NextGroup g who es h) run =
    ap (λ (u : List Grouped). run_of run ++ (Some g.phrase, g.mailboxes) ∷ u) (groups_are who es h [])
    ∙ ap (λ (u : List Grouped). run_of run ++ u) (inner_grouped g.phrase g.mailboxes g.inner es g.are_mailboxes [])

-- ---- elements that pass are a list of addresses

record Inside (es : List Element) : Type 0 where
  ms : List Mailbox
  inner : List Element
  rest : List Element
  who : List Addressee
  whole : es ≡ inner ++ End ∷ rest
  mailboxes : AreMailboxes ms inner
  addressees : AreAddressees who rest

record Outside (es : List Element) : Type 0 where
  who : List Addressee
  addressees : AreAddressees who es

Reads : Bool → List Element → Type 0
Reads false es = Outside es
Reads true es = Inside es

reads : (inside : Bool) (es : List Element) → are_nested inside es ≡ true → Reads inside es
unfolding Reads
reads false [] e = record { who = []; addressees = NoAddressees }
reads true [] e = absurd cc
reads false (Empty ∷ es) e = let r = reads false es e in record { who = r.who; addressees = Passed r.who es r.addressees }
reads true (Empty ∷ es) e =
    let r = reads true es e in
    record {
      ms = r.ms;
      inner = Empty ∷ r.inner;
      rest = r.rest;
      who = r.who;
      whole = ap
          (λ (u : List Element). Empty ∷ u) r.whole;
      mailboxes = EmptyPlace r.ms r.inner r.mailboxes;
      addressees = r.addressees;
    }
reads false (Head phrase ∷ es) e =
    let r = reads true es e in
    record {
      who = Group phrase r.ms ∷ r.who;
      addressees = subst (λ (u : List Element). AreAddressees (Group phrase r.ms ∷ r.who) (Head phrase ∷ u)) (sym r.whole)
          (NextGroup (record { phrase = phrase; mailboxes = r.ms; inner = r.inner; are_mailboxes = r.mailboxes }) r.who r.rest r.addressees);
    }
reads true (Head phrase ∷ es) e = absurd cc
reads false (End ∷ es) e = absurd cc
reads true (End ∷ es) e =
    let r = reads false es e in
    record { ms = []; inner = []; rest = es; who = r.who; whole = refl; mailboxes = NoMailboxes; addressees = r.addressees }
reads false (Member m ∷ es) e = let r = reads false es e in record { who = One m ∷ r.who; addressees = NextOne m r.who es r.addressees }
reads true (Member m ∷ es) e =
    let r = reads true es e in
    record {
      ms = m ∷ r.ms;
      inner = Member m ∷ r.inner;
      rest = r.rest;
      who = r.who;
      whole = ap
          (λ (u : List Element). Member m ∷ u) r.whole;
      mailboxes = NextMailbox m r.ms r.inner r.mailboxes;
      addressees = r.addressees;
    }

some_one : (who : List Addressee) (es : List Element) → AreAddressees who es → list_any is_addressee es ≡ true → who ≢ []
some_one _ _ NoAddressees e = absurd cc
some_one _ _ (Passed who es h) e = some_one who es h e
some_one _ _ (NextOne m who es h) e = λ n. absurd cc
some_one _ _ (NextGroup g who es h) e = λ n. absurd cc

pub record Listed (es : List Element) : Type 0 where
  pub who : List Addressee
  pub addressees : AreAddressees who es
  pub some : who ≢ []

-- elements that pass the test are a list of addresses with at least one mailbox or group
pub listed : (es : List Element) → are_list es ≡ true → Listed es
unfolding Reads
listed es e =
    let p = and_parts (are_nested false es) (list_any is_addressee es) e in
    let r = reads false es p.0 in
    record { who = r.who; addressees = r.addressees; some = some_one r.who es r.addressees p.1 }

-- ---- one list

ended : Option (List Spelled) → List Mailbox → List Addressee
ended None ms = []
ended (Some phrase) ms = Group phrase ms ∷ []

read_from : Option (List Spelled) → List Mailbox → List Element → List Addressee
read_from phrase ms [] = []
read_from phrase ms (Empty ∷ es) = read_from phrase ms es
read_from phrase ms (Head next ∷ es) = read_from (Some next) [] es
read_from phrase ms (End ∷ es) = ended phrase ms ++ read_from None [] es
read_from None ms (Member m ∷ es) = One m ∷ read_from None [] es
read_from (Some phrase) ms (Member m ∷ es) = read_from (Some phrase) (ms ++ m ∷ []) es

inner_read : (phrase : List Spelled) (ms : List Mailbox) (inner es : List Element) → AreMailboxes ms inner → (so_far : List Mailbox)
    → Group phrase (so_far ++ ms) ∷ read_from None [] es ≡ read_from (Some phrase) so_far (inner ++ End ∷ es)
unfolding read_from ended
inner_read phrase _ _ es NoMailboxes so_far = ap (λ (u : List Mailbox). Group phrase u ∷ read_from None [] es) (append-nil so_far)
inner_read phrase _ _ es (EmptyPlace ms inner h) so_far = inner_read phrase ms inner es h so_far
inner_read phrase _ _ es (NextMailbox m ms inner h) so_far = ap (λ (u : List Mailbox). Group phrase u ∷ read_from None [] es) (sym (append_assoc so_far (m ∷ []) ms))
    ∙ inner_read phrase ms inner es h (so_far ++ m ∷ [])

read_is : (who : List Addressee) (es : List Element) → AreAddressees who es → who ≡ read_from None [] es
unfolding read_from ended
read_is _ _ NoAddressees = refl
read_is _ _ (Passed who es h) = read_is who es h
read_is _ _ (NextOne m who es h) = ap (λ (u : List Addressee). One m ∷ u) (read_is who es h)
read_is _ _ (NextGroup g who es h) =
    ap (λ (u : List Addressee). Group g.phrase g.mailboxes ∷ u) (read_is who es h) ∙ inner_read g.phrase g.mailboxes g.inner es g.are_mailboxes []

-- two rows of elements that are read of the same tokens are the same
pub one_elements : (x y : List Element) (ts : List Spelled) → Sequence IsElement x ts → Sequence IsElement y ts → x ≡ y
one_elements x y ts g h = one_reading (determined element_in element_reader) x y ts g h

-- the elements of a list of addresses, with the tokens of the text
pub elements_here : (who : List Addressee) (t : List ℕ) (ts : List Spelled) (l : IsAddressList who t) → AreTokens alphabet.Mail ts t → Sequence IsElement l.elements ts
elements_here who t ts l a = subst (λ (u : List Spelled). Sequence IsElement l.elements u) (one_tokens alphabet.Mail l.tokens ts t l.are_tokens a) l.are_elements

-- two lists of addresses that are read of the same text are the same
pub one_list : (who other : List Addressee) (t : List ℕ) → IsAddressList who t → IsAddressList other t → who ≡ other
one_list who other t g h =
    let e = one_elements g.elements h.elements h.tokens (elements_here who t h.tokens g h.are_tokens) h.are_elements in
    read_is who g.elements g.are_addressees ∙ ap (λ (u : List Element). read_from None [] u) e ∙ sym (read_is other h.elements h.are_addressees)
